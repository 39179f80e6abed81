-- Data with its escapes replaced, byte by byte; what inbound data keeps; the lengths.
use Rattle.std.proofs.Common.{◌≡◌, ℕ, ◌+◌, ◌-◌, ◌<◌, ◌≤◌, ◌==◌, ◌∙◌, suc, zero, List, [], ◌∷◌, ◌++◌, length, slice_index_or, take, drop, nat_lt, Bool, true, false, not, refl, ap, sym, arith, length-drop, append_assoc, inl, inr}
use Rattle.std.specs.Prelude.{if◌then◌else◌, ◌&&◌}
use Rattle.std.proofs.lemmas.List.{append-nil, take_all}
use Rattle.std.proofs.lemmas.Bool.{and_from, and_parts, lt-ltb, ne_eqb, eqb-true, ltb-true, true≢false, cases_Bool}
use Rattle.codes3270.specs.Storable.{is_storable}
use Rattle.datastream.specs.declared.inbound_part.Form.{Form}
use Rattle.datastream.specs.declared.inbound_part.Form.TheVariants.{Modified, All as AllModified, Buffer}
use Rattle.datastream.specs.declared.inbound_part.Part.{Part}
use Rattle.datastream.specs.declared.inbound_part.Part.TheVariants.{At, Char, Attr}
use Rattle.datastream.specs.Grammar.{set_buffer_address, start_field}
use Rattle.datastream.specs.InboundText.{AreParts, IsPart, InboundParts, IsInbound}
use Rattle.datastream.specs.InboundText.IsInbound.{alone, long}
use Rattle.datastream.specs.Escapes.{graphic_escape, substitute, operand_count, replaced_behind, without_escapes, escapes_in, has_escapes}
use Rattle.datastream.proofs.Decisions.{cond_unless}

-- ---- byte by byte

pub replaced_nil : (n : ℕ) → replaced_behind n [] ≡ []
unfolding replaced_behind
replaced_nil n = refl

pub replaced_copied : (n byte : ℕ) (rest : List ℕ) → replaced_behind (suc n) (byte ∷ rest) ≡ byte ∷ replaced_behind n rest
unfolding replaced_behind
replaced_copied n byte rest = refl

pub replaced_escape : (code : ℕ) (rest : List ℕ) → replaced_behind 0 (graphic_escape ∷ code ∷ rest) ≡ substitute ∷ replaced_behind 0 rest
unfolding replaced_behind
replaced_escape code rest = refl

pub replaced_last : (n byte : ℕ) → replaced_behind n (byte ∷ []) ≡ byte ∷ []
unfolding replaced_behind
replaced_last zero byte = refl
replaced_last (suc n) byte = refl

-- a byte that isn't GE
pub replaced_other : (byte : ℕ) (rest : List ℕ) → (byte == graphic_escape) ≡ false
    → replaced_behind 0 (byte ∷ rest) ≡ byte ∷ replaced_behind (operand_count byte) rest
unfolding replaced_behind
replaced_other byte [] other = refl
replaced_other byte (next ∷ rest) other =
    cond_unless (byte == graphic_escape) (substitute ∷ replaced_behind 0 rest) (byte ∷ replaced_behind (operand_count byte) (next ∷ rest)) other

-- ---- parts of inbound data are kept

-- a character is no byte that isn't storable
other_byte : (char code : ℕ) → is_storable char ≡ true → is_storable code ≡ false → (char == code) ≡ false
other_byte char code storable isnt = ne_eqb char code (λ same. true≢false (sym storable ∙ ap is_storable same ∙ isnt))

-- a character is neither GE nor a byte with operands
storable_alone : (char : ℕ) (rest : List ℕ) → is_storable char ≡ true → replaced_behind 0 (char ∷ rest) ≡ char ∷ replaced_behind 0 rest
storable_alone char rest storable =
    let none : operand_count char ≡ 0 =
    cond_unless (char == set_buffer_address) 2 (if char == start_field then 1 else 0) (other_byte char set_buffer_address storable refl)
    ∙ cond_unless (char == start_field) 1 0 (other_byte char start_field storable refl) in
    replaced_other char rest (other_byte char graphic_escape storable refl) ∙ ap (λ n. char ∷ replaced_behind n rest) none

address_kept : (high low : ℕ) (rest : List ℕ) → replaced_behind 0 (set_buffer_address ∷ high ∷ low ∷ rest) ≡ set_buffer_address ∷ high ∷ low ∷ replaced_behind 0 rest
unfolding replaced_behind
address_kept high low rest = refl

attribute_kept : (code : ℕ) (rest : List ℕ) → replaced_behind 0 (start_field ∷ code ∷ rest) ≡ start_field ∷ code ∷ replaced_behind 0 rest
unfolding replaced_behind
attribute_kept code rest = refl

-- what encodes a part is kept, whatever is behind it
part_kept : (size : ℕ) (form : Form) (part : Part) (front back : List ℕ) → IsPart size form part front → replaced_behind 0 (front ++ back) ≡ front ++ replaced_behind 0 back
part_kept size Modified (At address) front back (high, low, is_address, is) = rw is (address_kept high low back)
part_kept size Modified (Char char) front back (text, is) = rw is (storable_alone char back (and_parts (is_storable char) (not (char == 0)) text).0)
part_kept size Modified (Attr attr) front back none = elim none [ ]
part_kept size AllModified (At address) front back (high, low, is_address, is) = rw is (address_kept high low back)
part_kept size AllModified (Char char) front back (text, is) = rw is (storable_alone char back (and_parts (is_storable char) (not (char == 0)) text).0)
part_kept size AllModified (Attr attr) front back none = elim none [ ]
part_kept size Buffer (At address) front back none = elim none [ ]
part_kept size Buffer (Char char) front back (storable, is) = rw is (storable_alone char back storable)
part_kept size Buffer (Attr attr) front back (code, value, is) = rw is (attribute_kept code back)

-- what encodes parts is kept, whatever is behind it
pub parts_kept : (size : ℕ) (form : Form) (parts : List Part) (front back : List ℕ) → AreParts size form parts front
    → replaced_behind 0 (front ++ back) ≡ front ++ replaced_behind 0 back
parts_kept size form [] front back are = rw are refl
parts_kept size form (part ∷ parts) bytes back (front, behind, first, others, is) =
    ap (λ b. replaced_behind 0 (b ++ back)) is
    ∙ ap (replaced_behind 0) (append_assoc front behind back)
    ∙ part_kept size form part front (behind ++ back) first
    ∙ ap (λ b. front ++ b) (parts_kept size form parts behind back others)
    ∙ sym (append_assoc front behind (replaced_behind 0 back))
    ∙ ap (λ b. b ++ replaced_behind 0 back) (sym is)

pub escape_is_one : (size : ℕ) (form : Form) (parts : List Part) (front : List ℕ) (code : ℕ) (back : List ℕ) → AreParts size form parts front
    → replaced_behind 0 (front ++ graphic_escape ∷ code ∷ back) ≡ front ++ substitute ∷ replaced_behind 0 back
escape_is_one size form parts front code back are =
    parts_kept size form parts front (graphic_escape ∷ code ∷ back) are ∙ ap (λ b. front ++ b) (replaced_escape code back)

head_kept : (byte high low : ℕ) (text : List ℕ) → without_escapes (byte ∷ high ∷ low ∷ text) ≡ byte ∷ high ∷ low ∷ replaced_behind 0 text
unfolding replaced_behind
head_kept byte high low text = refl

pub read_as_it_is : (parts : InboundParts) (bytes : List ℕ) → IsInbound parts bytes → without_escapes bytes ≡ bytes
read_as_it_is a bytes (alone byte stands known is_cursor none is) = rw is (replaced_last 3 byte)
read_as_it_is a bytes (long byte high low cursor text goes_on known is_cursor address are whole is) =
    let kept : replaced_behind 0 text ≡ text =
    ap (replaced_behind 0) (sym (append-nil text)) ∙ parts_kept _ a.form a.parts text [] are ∙ ap (λ b. text ++ b) (replaced_nil 0) ∙ append-nil text in
    rw is (head_kept byte high low text ∙ ap (λ b. byte ∷ high ∷ low ∷ b) kept)

-- ---- lengths

pub no_longer : (n : ℕ) (bytes : List ℕ) → length (replaced_behind n bytes) ≤ length bytes
no_longer n [] = rw (replaced_nil n) (omega arith)
no_longer (suc n) (byte ∷ rest) = rw (replaced_copied n byte rest) (let shorter = no_longer n rest in omega arith)
no_longer zero (byte ∷ []) = rw (replaced_last 0 byte) (omega arith)
no_longer zero (byte ∷ next ∷ rest) =
    elim (cases_Bool (byte == graphic_escape)) [
      | inl is ↦
          let same : byte ≡ graphic_escape = eqb-true byte graphic_escape is in
          rw (same, replaced_escape next rest) (let shorter = no_longer zero rest in omega arith)
      | inr other ↦ rw (replaced_other byte (next ∷ rest) other) (let shorter = no_longer (operand_count byte) (next ∷ rest) in omega arith)
    ]

-- what is as long is the same
pub same_length : (n : ℕ) (bytes : List ℕ) → length bytes ≤ length (replaced_behind n bytes) → replaced_behind n bytes ≡ bytes
same_length n [] enough = replaced_nil n
same_length (suc n) (byte ∷ rest) enough =
    let is = replaced_copied n byte rest in
    let lengths = ap length is in
    is ∙ ap (λ b. byte ∷ b) (same_length n rest (omega arith))
same_length zero (byte ∷ []) enough = replaced_last 0 byte
same_length zero (byte ∷ next ∷ rest) enough =
    elim (cases_Bool (byte == graphic_escape)) [
      | inl escape ↦
          let same : byte ≡ graphic_escape = eqb-true byte graphic_escape escape in
          let is : replaced_behind 0 (byte ∷ next ∷ rest) ≡ substitute ∷ replaced_behind 0 rest = rw same (replaced_escape next rest) in
          let lengths = ap length is in
          let shorter = no_longer zero rest in
          absurd (omega arith)
      | inr other ↦
          let is = replaced_other byte (next ∷ rest) other in
          let lengths = ap length is in
          is ∙ ap (λ b. byte ∷ b) (same_length (operand_count byte) (next ∷ rest) (omega arith))
    ]

pub unchanged_without : (bytes : List ℕ) → has_escapes bytes ≡ false → without_escapes bytes ≡ bytes
unchanged_without bytes none = same_length 3 bytes (omega (arith, eqb-true (escapes_in bytes) 0 (not_false _ none)))
  where
    not_false : (b : Bool) → not b ≡ false → b ≡ true
    not_false true e = refl
    not_false false e = sym e

-- ---- for the iterator

-- whether an escape is next, if `n` bytes are copied before
abbrev is_next : ℕ → List ℕ → Bool
is_next n bytes = n == 0 && nat_lt 1 (length bytes) && slice_index_or bytes 0 0 == graphic_escape

-- what a slice binds, from one of its places on
rest_from : (at : ℕ) (bytes : List ℕ) → drop at bytes ≡ take (length bytes - at) (drop at bytes)
rest_from at bytes = sym (take_all (length bytes - at) (drop at bytes) (omega (arith, length-drop at bytes)))

pub escape_first : (n : ℕ) (bytes : List ℕ) → is_next n bytes ≡ true
    → replaced_behind n bytes ≡ substitute ∷ replaced_behind n (take (length bytes - 2) (drop 2 bytes))
escape_first n bytes next =
    let both = and_parts (n == 0 && nat_lt 1 (length bytes)) (slice_index_or bytes 0 0 == graphic_escape) next in
    let front = and_parts (n == 0) (nat_lt 1 (length bytes)) both.0 in
    begins n bytes (eqb-true n 0 front.0) (ltb-true 1 (length bytes) front.1) (eqb-true (slice_index_or bytes 0 0) graphic_escape both.1)
    ∙ ap (λ rest. substitute ∷ replaced_behind n rest) (rest_from 2 bytes)
  where
    begins : (n : ℕ) (bytes : List ℕ) → n ≡ 0 → 1 < length bytes → slice_index_or bytes 0 0 ≡ graphic_escape
        → replaced_behind n bytes ≡ substitute ∷ replaced_behind n (drop 2 bytes)
    begins n [] none some is = absurd (omega arith)
    begins n (byte ∷ []) none some is = absurd (omega arith)
    begins n (byte ∷ code ∷ rest) none some is = rw (none, is) (replaced_escape code rest)

-- the first byte is copied, if no escape is next
pub copied_first : (n m : ℕ) (bytes : List ℕ) → is_next n bytes ≡ false → 1 ≤ length bytes
    → (n ≡ 0 → m ≡ operand_count (slice_index_or bytes 0 0)) → (1 ≤ n → n ≡ 1 + m)
    → replaced_behind n bytes ≡ slice_index_or bytes 0 0 ∷ replaced_behind m (take (length bytes - 1) (drop 1 bytes))
copied_first n m bytes not_next some operands counted =
    copied n m bytes not_next some operands counted ∙ ap (λ rest. slice_index_or bytes 0 0 ∷ replaced_behind m rest) (rest_from 1 bytes)
  where
    no_escape : (byte next : ℕ) (rest : List ℕ) → is_next 0 (byte ∷ next ∷ rest) ≡ false → (byte == graphic_escape) ≡ false
    no_escape byte next rest not_next =
        elim (cases_Bool (byte == graphic_escape)) [
          | inl is ↦ absurd (true≢false (sym (and_from (nat_lt 1 (length (byte ∷ next ∷ rest))) (byte == graphic_escape) (lt-ltb 1 (length (byte ∷ next ∷ rest)) (omega arith)) is) ∙ not_next))
          | inr other ↦ other
        ]

    copied : (n m : ℕ) (bytes : List ℕ) → is_next n bytes ≡ false → 1 ≤ length bytes
        → (n ≡ 0 → m ≡ operand_count (slice_index_or bytes 0 0)) → (1 ≤ n → n ≡ 1 + m)
        → replaced_behind n bytes ≡ slice_index_or bytes 0 0 ∷ replaced_behind m (drop 1 bytes)
    copied n m [] not_next some operands counted = absurd (omega arith)
    copied n m (byte ∷ []) not_next some operands counted = replaced_last n byte ∙ ap (λ b. byte ∷ b) (sym (replaced_nil m))
    copied zero m (byte ∷ next ∷ rest) not_next some operands counted =
        rw (operands refl) (replaced_other byte (next ∷ rest) (no_escape byte next rest not_next))
    copied (suc n) m (byte ∷ next ∷ rest) not_next some operands counted =
        let same : n ≡ m = let all = counted (omega arith) in omega arith in
        replaced_copied n byte (next ∷ rest) ∙ ap (λ k. byte ∷ replaced_behind k (next ∷ rest)) same

-- nothing is left
pub nothing_left : (n : ℕ) (bytes : List ℕ) → length bytes < 1 → replaced_behind n bytes ≡ []
nothing_left n [] none = replaced_nil n
nothing_left n (byte ∷ rest) none = absurd (omega arith)
