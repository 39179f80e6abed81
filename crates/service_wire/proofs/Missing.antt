-- How many bytes a header has more, at least.
use Rattle.std.proofs.Common.{◌≡◌, ℕ, ◌+◌, ◌-◌, ◌*◌, ◌<◌, ◌≤◌, Bool, true, false, List, [], ◌∷◌, ◌++◌, length, drop, codes, slice_index, Option, Some, None, option_map, refl, sym, ap, ◌∙◌, subst, arith, inl, inr, append-nil, length-append}
use Rattle.std.specs.declared.net.socket_addr.SocketAddr.{SocketAddr}
use Rattle.std.specs.declared.net.socket_addr.SocketAddr.TheVariants.{V4, V6}
use Rattle.std.proofs.lemmas.Bool.{cases_lt}
use Rattle.std.proofs.lemmas.List.Splits.{join_with_byte-slice_split}
use Rattle.std.specs.List.{join_with_byte}
use Rattle.service_wire.specs.Fronts.{Lacks}
use Rattle.service_wire.specs.HeaderLine.{IsLine, IsWholeLine, begins_with_crlf, crlf, line_in, line_mark, words}
use Rattle.service_wire.specs.HeaderBlock.{IsOpenBlock, IsWholeBlock, IsMissingInBlock, number_at, signature}
use Rattle.service_wire.specs.Header.{HasHeader, IsAwaited, IsHeader, IsWholly}
use Rattle.service_wire.specs.HeaderReader.{IsMissing}
use Rattle.service_wire.specs.declared.header.Header.{Header}
use Rattle.service_wire.proofs.Headers.{crlf_front, some_line}
use Rattle.service_wire.proofs.HeaderLines.{here, line_in-nil, not_here}
use Rattle.service_wire.proofs.Parts.{shorter}

-- ---- the shortest header

five_words : (line family a b c d : List ℕ) → words line ≡ family ∷ a ∷ b ∷ c ∷ d ∷ [] → length family + 4 ≤ length line
unfolding words
five_words line family a b c d all =
    let joined : family ++ (0x20 ∷ (a ++ (0x20 ∷ (b ++ (0x20 ∷ (c ++ (0x20 ∷ d))))))) ≡ line =
    sym (ap (join_with_byte 0x20) all) ∙ join_with_byte-slice_split 0x20 line in
    omega (
      arith,
      ap length joined,
      length-append family (0x20 ∷ (a ++ (0x20 ∷ (b ++ (0x20 ∷ (c ++ (0x20 ∷ d))))))),
      length-append a (0x20 ∷ (b ++ (0x20 ∷ (c ++ (0x20 ∷ d))))),
      length-append b (0x20 ∷ (c ++ (0x20 ∷ d))),
      length-append c (0x20 ∷ d),
    )

line_least : (line : List ℕ) (client : Option SocketAddr) → IsLine line client → 7 ≤ length line
line_least line None is = omega (arith, ap length is.1, length-append (codes "UNKNOWN") is.0)
line_least line (Some (V4 client)) is =
    let all = five_words line (codes "TCP4") is.source is.target is.source_port is.target_port is.all in omega (arith, all)
line_least line (Some (V6 client)) is =
    let all = five_words line (codes "TCP6") is.0.source is.0.target is.0.source_port is.0.target_port is.0.all in omega (arith, all)

header_least : (front : List ℕ) (client : Option SocketAddr) → IsHeader front client → 15 ≤ length front
header_least front client (inl follows) =
    let rest : List ℕ = follows.0 in
    let whole = follows.2 in
    let least = line_least whole.line client whole.says in
    omega (arith, least, ap length follows.1, length-append line_mark rest, ap length whole.spelled, length-append whole.line crlf)
header_least front client (inr follows) =
    let rest : List ℕ = follows.0 in
    omega (arith, ap length follows.1, length-append signature rest, ap length follows.2.spelled)

short_lacks : (bytes : List ℕ) → length bytes < 15 → Lacks IsHeader bytes (15 - length bytes)
short_lacks bytes short more header has =
    let least = header_least has.front header.client has.is_whole in
    omega (arith, least, has.counted)

-- ---- a line

stays_case : (byte : ℕ) (rest more line : List ℕ) → line_in (byte ∷ rest) ≡ Some line
    → ((inner : List ℕ) → line_in rest ≡ Some inner → line_in (rest ++ more) ≡ Some inner)
    → (b : Bool) → begins_with_crlf (byte ∷ rest) ≡ b → line_in (byte ∷ (rest ++ more)) ≡ Some line
stays_case byte rest more line found later true is =
    let (first, (after, next)) = crlf_front byte rest is in
    let begins : begins_with_crlf (byte ∷ (rest ++ more)) ≡ true = rw (first, next) refl in
    here (byte ∷ (rest ++ more)) begins ∙ sym (here (byte ∷ rest) is) ∙ found
stays_case byte [] more line found later false is = absurd (let none = not_here byte [] is in let nil = line_in-nil in cc)
stays_case byte (next ∷ rest) more line found later false is =
    let (inner, e, are) = some_line byte (line_in (next ∷ rest)) line (sym (not_here byte (next ∷ rest) is) ∙ found) in
    not_here byte (next ∷ (rest ++ more)) is ∙ ap (option_map (λ line. byte ∷ line)) (later inner e) ∙ ap Some (sym are)

-- the first CRLF is the first one whatever follows
stays : (bytes more line : List ℕ) → line_in bytes ≡ Some line → line_in (bytes ++ more) ≡ Some line
stays [] more line found = absurd (let none = line_in-nil in cc)
stays (byte ∷ rest) more line found =
    stays_case byte rest more line found (λ inner e. stays rest more inner e) (begins_with_crlf (byte ∷ rest)) refl

-- the shorter of two fronts is a front of the other
front_of_front : (front rest bytes more : List ℕ) → bytes ++ more ≡ front ++ rest → length front ≤ length bytes → (others : List ℕ) × (bytes ≡ front ++ others)
front_of_front [] rest bytes more same short = (bytes, refl)
front_of_front (byte ∷ front) rest [] more same short = absurd (omega arith)
front_of_front (byte ∷ front) rest (one ∷ bytes) more same short =
    let tail : bytes ++ more ≡ front ++ rest = ap (drop 1) same in
    let head : one ≡ byte = ap (λ l. slice_index l 0) same in
    let (others, e) = front_of_front front rest bytes more tail (omega arith) in
    (others, ap (λ b. b ∷ bytes) head ∙ ap (λ l. byte ∷ l) e)

one_more : (front bytes rest more : List ℕ) (line : List ℕ) → line_in front ≡ Some line → line_in bytes ≡ None → bytes ++ more ≡ front ++ rest → length bytes + 1 ≤ length front
one_more front bytes rest more line found none same =
    elim (cases_lt (length bytes) (length front)) [
      | inl long ↦ omega (arith, long)
      | inr short ↦
          let (others, e) = front_of_front front rest bytes more same short in
          absurd (let again = stays front others line found in cc)
    ]

line_lacks : (bytes : List ℕ) → line_in bytes ≡ None → Lacks IsWholeLine bytes 1
line_lacks bytes none more header has =
    rw (← has.counted) (one_more has.front bytes has.rest more has.is_whole.line has.is_whole.first none has.split)

-- ---- a block

few_lack : (bytes : List ℕ) → length bytes < 4 → Lacks IsWholeBlock bytes 1
few_lack bytes few more header has =
    omega (arith, ap length has.is_whole.spelled, has.counted)

block_lacks : (version family high low : ℕ) (block : List ℕ) → length block < high * 256 + low
    → Lacks IsWholeBlock (version ∷ family ∷ high ∷ low ∷ block) (high * 256 + low - length block)
block_lacks version family high low block few more header has =
    let whole = has.is_whole in
    let same : version ∷ family ∷ high ∷ low ∷ (block ++ more) ≡ whole.version ∷ whole.family ∷ whole.high ∷ whole.low ∷ (whole.block ++ has.rest) =
    has.split ∙ ap (λ front. front ++ has.rest) whole.spelled in
    let high_is : high ≡ whole.high = ap (λ l. slice_index l 2) same in
    let low_is : low ≡ whole.low = ap (λ l. slice_index l 3) same in
    let counted : length whole.block ≡ high * 256 + low = rw (high_is, low_is) whole.counted in
    omega (arith, ap length whole.spelled, has.counted, counted)

pub missing_in_block : (bytes : List ℕ) (count : ℕ) → IsOpenBlock bytes → length bytes < 4 → count ≡ 1 → IsMissingInBlock bytes count
missing_in_block bytes count is few one = rw one (record { some = omega arith; within = omega arith; lacks = few_lack bytes few })

pub missing_of_block : (bytes : List ℕ) (count : ℕ) → IsOpenBlock bytes → 4 ≤ length bytes → count ≡ 4 + number_at bytes 2 - length bytes → IsMissingInBlock bytes count
missing_of_block [] count is many counted = absurd (omega arith)
missing_of_block (a ∷ []) count is many counted = absurd (omega arith)
missing_of_block (a ∷ b ∷ []) count is many counted = absurd (omega arith)
missing_of_block (a ∷ b ∷ c ∷ []) count is many counted = absurd (omega arith)
missing_of_block (version ∷ family ∷ high ∷ low ∷ block) count is many counted =
    let short = is.2.short in
    let few : length block < high * 256 + low = is.3 in
    let same : count ≡ high * 256 + low - length block = omega (arith, counted) in
    rw same (record { some = omega arith; within = omega (arith, short); lacks = block_lacks version family high low block few })

-- ---- a header

line_case : (rest : List ℕ) (count : ℕ) → Lacks IsWholeLine rest count → (more : List ℕ) (header : Header) (has : HasHeader ((line_mark ++ rest) ++ more) header) → IsHeader has.front header.client → length (line_mark ++ rest) + count ≤ header.size
line_case rest count lacks more header has (inl follows) =
    let front : List ℕ = follows.0 in
    let split : line_mark ++ (rest ++ more) ≡ line_mark ++ (front ++ has.rest) = has.split ∙ ap (λ f. f ++ has.rest) follows.1 in
    let all : length has.front ≡ 6 + length front = ap length follows.1 ∙ length-append line_mark front in
    let least : length rest + count ≤ length front = lacks more (record { size = length front; client = header.client })
    (record { front = front; rest = has.rest; split = ap (drop 6) split; counted = refl; is_whole = follows.2 }) in
    omega (arith, least, all, has.counted)
line_case rest count lacks more header has (inr follows) =
    let split : line_mark ++ (rest ++ more) ≡ signature ++ (follows.0 ++ has.rest) = has.split ∙ ap (λ f. f ++ has.rest) follows.1 in
    absurd (let other : 80 ≡ 13 = ap (λ l. slice_index l 0) split in omega (arith, other))

behind_line : (rest : List ℕ) (count : ℕ) → Lacks IsWholeLine rest count → Lacks IsHeader (line_mark ++ rest) count
behind_line rest count lacks more header has = line_case rest count lacks more header has has.is_whole

signature_case : (rest : List ℕ) (count : ℕ) → Lacks IsWholeBlock rest count → (more : List ℕ) (header : Header) (has : HasHeader ((signature ++ rest) ++ more) header) → IsHeader has.front header.client → length (signature ++ rest) + count ≤ header.size
signature_case rest count lacks more header has (inr follows) =
    let front : List ℕ = follows.0 in
    let split : signature ++ (rest ++ more) ≡ signature ++ (front ++ has.rest) = has.split ∙ ap (λ f. f ++ has.rest) follows.1 in
    let all : length has.front ≡ 12 + length front = ap length follows.1 ∙ length-append signature front in
    let least : length rest + count ≤ length front = lacks more (record { size = length front; client = header.client })
    (record { front = front; rest = has.rest; split = ap (drop 12) split; counted = refl; is_whole = follows.2 }) in
    omega (arith, least, all, has.counted)
signature_case rest count lacks more header has (inl follows) =
    let split : signature ++ (rest ++ more) ≡ line_mark ++ (follows.0 ++ has.rest) = has.split ∙ ap (λ f. f ++ has.rest) follows.1 in
    absurd (let other : 13 ≡ 80 = ap (λ l. slice_index l 0) split in omega (arith, other))

behind_signature : (rest : List ℕ) (count : ℕ) → Lacks IsWholeBlock rest count → Lacks IsHeader (signature ++ rest) count
behind_signature rest count lacks more header has = signature_case rest count lacks more header has has.is_whole

pub missing_short : (bytes : List ℕ) (count : ℕ) → length bytes < 15 → count ≡ 15 - length bytes → IsMissing bytes count
missing_short bytes count short counted = rw counted (record { some = omega arith; within = omega arith; lacks = short_lacks bytes short })

pub missing_behind : (bytes rest : List ℕ) (count : ℕ) → bytes ≡ signature ++ rest → IsMissingInBlock rest count → IsMissing bytes count
missing_behind bytes rest count split is = rw split (record {
  some = is.some;
  within = let within = is.within in omega (arith, within, length-append signature rest);
  lacks = behind_signature rest count is.lacks;
})

pub open_behind : (bytes rest : List ℕ) → bytes ≡ signature ++ rest → 15 ≤ length bytes → IsAwaited bytes → IsOpenBlock rest
open_behind bytes rest split many (inl (inl part)) = absurd (let few = shorter bytes line_mark part in omega (arith, few))
open_behind bytes rest split many (inl (inr part)) = absurd (let few = shorter bytes signature part in omega (arith, few))
open_behind bytes rest split many (inr (inl follows)) =
    absurd (let other : 13 ≡ 80 = ap (λ l. slice_index l 0) (sym split ∙ follows.1) in omega (arith, other))
open_behind bytes rest split many (inr (inr follows)) =
    subst IsOpenBlock (sym (ap (drop 12) (sym split ∙ follows.1))) follows.2

pub missing_in_line : (bytes : List ℕ) → ((rest : List ℕ) → ¬ (bytes ≡ signature ++ rest)) → 15 ≤ length bytes → IsAwaited bytes → IsMissing bytes 1
missing_in_line bytes other many (inl (inl part)) = absurd (let few = shorter bytes line_mark part in omega (arith, few))
missing_in_line bytes other many (inl (inr part)) = absurd (let few = shorter bytes signature part in omega (arith, few))
missing_in_line bytes other many (inr (inl follows)) =
    let rest : List ℕ = follows.0 in
    let short = follows.2.short in
    rw follows.1 (record {
      some = omega arith;
      within = omega (arith, short, length-append line_mark rest);
      lacks = behind_line rest 1 (line_lacks rest follows.2.open_line);
    })
missing_in_line bytes other many (inr (inr follows)) = absurd (other follows.0 follows.1)

-- ---- a complete header

nothing_left : (rest : List ℕ) → length rest ≡ 0 → rest ≡ []
nothing_left [] none = refl
nothing_left (byte ∷ rest) none = absurd (omega (arith, none))

pub wholly : (old bytes : List ℕ) (header : Header) → Lacks IsHeader old (length bytes) → HasHeader (old ++ bytes) header → IsWholly (old ++ bytes) header
wholly old bytes header lacks has =
    let least = lacks bytes header has in
    let none : has.rest ≡ [] = nothing_left has.rest (omega (arith, least, has.counted, ap length has.split, length-append has.front has.rest, length-append old bytes)) in
    let all : old ++ bytes ≡ has.front = has.split ∙ ap (λ r. has.front ++ r) none ∙ append-nil has.front in
    record { is_header = rw all has.is_whole; counted = ap length all ∙ has.counted }
