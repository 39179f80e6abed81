-- Characters one behind the other.
use Rattle.std.proofs.Common.{◌≡◌, ℕ, ◌+◌, ◌*◌, ◌-◌, ◌/◌, ◌%◌, ◌^◌, ◌<◌, ◌≤◌, suc, zero, true, false, List, [], ◌∷◌, ◌++◌, length, drop, get_or, refl, ap, sym, subst, take, Result, Ok, Err, ◌∙◌, arith, inl, inr}
use Rattle.std.proofs.lemmas.List.{length-drop, drop_more as drop_next, get_or-drop}
use Rattle.std.specs.Int.Count.{trailing_of_zero}
use Rattle.std.proofs.lemmas.Nat.{or_lt, and_le_r, trailing_le}
use Rattle.std.proofs.Math.Nat.{div-le_self}
use Rattle.std.specs.Prelude.{min, bit_and, bit_or}
use Rattle.std.specs.List.{prefix_len}
use Rattle.std.specs.Int.{bit_at, bit_not, w64, trailing_zeros}
use Rattle.std.proofs.lemmas.Bool.{cases_lt, cases_eq, cases_Bool, and_parts, false≢true}
use Rattle.std.proofs.lemmas.Bool.Decides.{nat_tests}
use Rattle.std.proofs.lemmas.Nat.Bits.{bit_at-zero, bit_at-suc, bit_at_and, bit_at_or, bit_at_not, bit_at-trailing_zeros, bit_at_above, bit_at_cat_low, bit_at_cat_high}
use Rattle.codes3270.specs.Storable.{is_storable}
use Rattle.datastream.specs.declared.order.Order.{Order}
use Rattle.datastream.specs.declared.order.Order.TheVariants.{Sf, Sba, Ic, Pt, Ra, Eua, Char}
use Rattle.datastream.specs.declared.fault.CommandFault.{CommandFault}
use Rattle.datastream.specs.Reading.{order_at, and_orders, orders_within, orders_in, characters_ahead}
use Rattle.datastream.proofs.Front.{IsRead, order_read, order_again}
use Rattle.datastream.proofs.Sequences.{IsReadTo, reads_on, reads_nothing, shorter, orders_in-next}
use Rattle.datastream.specs.ByteWords.{word, IsWordOf}
use Rattle.datastream.specs.Grammar.{start_field}
use Rattle.datastream.specs.InboundReading.{PassesText}
use Rattle.datastream.specs.InboundText.{is_text_char}

-- ---- what is left behind characters

abbrev pub behind : List ℕ → List ℕ
behind text = drop (prefix_len is_storable text) text

drop_more : {A : Type 0} (k : ℕ) (x : A) (xs : List A) → drop (1 + k) (x ∷ xs) ≡ drop k xs
drop_more k x xs = let more : 1 + k ≡ suc k = omega arith in ap (λ n. drop n (x ∷ xs)) more

drop_drop : {A : Type 0} (n m : ℕ) (xs : List A) → drop m (drop n xs) ≡ drop (n + m) xs
drop_drop zero m xs = let same : m ≡ 0 + m = omega arith in ap (λ k. drop k xs) same
drop_drop {A} (suc n) m [] = none m ∙ sym (none (suc n + m))
  where
    none : (k : ℕ) → drop {A = A} k [] ≡ []
    none zero = refl
    none (suc k) = refl
drop_drop (suc n) m (x ∷ xs) = let more : suc (n + m) ≡ suc n + m = omega arith in drop_drop n m xs ∙ ap (λ k. drop k (x ∷ xs)) more

take_more : {A : Type 0} (k : ℕ) (x : A) (xs : List A) → take (1 + k) (x ∷ xs) ≡ x ∷ take k xs
take_more k x xs = let more : 1 + k ≡ suc k = omega arith in ap (λ n. take n (x ∷ xs)) more

pub behind_first : (byte : ℕ) (bytes : List ℕ) → is_storable byte ≡ true → behind (byte ∷ bytes) ≡ behind bytes
behind_first byte bytes is = rw is (drop_more (prefix_len is_storable bytes) byte bytes)

pub behind_none : (byte : ℕ) (bytes : List ℕ) → is_storable byte ≡ false → behind (byte ∷ bytes) ≡ byte ∷ bytes
behind_none byte bytes other = rw other refl

pub behind_count : (count : ℕ) (text : List ℕ) → ((place : ℕ) → place < count → is_storable (get_or text place 0) ≡ true) → count ≤ length text
    → behind (drop count text) ≡ behind text
behind_count zero text each few = refl
behind_count (suc n) [] each few = absurd (omega arith)
behind_count (suc n) (byte ∷ bytes) each few =
    behind_count n bytes (λ place less. each (suc place) (omega arith)) (omega arith) ∙ sym (behind_first byte bytes (each 0 (omega arith)))

pub behind_text : (text rest : List ℕ) → PassesText text rest → behind rest ≡ behind text
behind_text text rest (count, few, each, is) = ap behind is ∙ behind_count count text (λ place less. (and_parts _ _ (each place less)).0) few

-- some more of the text
pub passes_on : (text rest : List ℕ) (count : ℕ) → PassesText text rest → count ≤ length rest → ((place : ℕ) → place < count → is_text_char (get_or rest place 0) ≡ true) → PassesText text (drop count rest)
passes_on text rest more (count, few, each, is) fits others =
    let left : length rest ≡ length text - count = ap length is ∙ length-drop count text in (
      count + more,
      omega (arith, fits, few, left),
      λ place less. elim (cases_lt place count) [
        | inl before ↦ each place before
        | inr after ↦
            let there : count + (place - count) ≡ place = omega arith in
            ap is_text_char (ap (λ (n : ℕ). get_or text n 0) (sym there) ∙ sym (get_or-drop count text (place - count) 0) ∙ ap (λ (t : List ℕ). get_or t (place - count) 0) (sym is)) ∙ others (place - count) (omega arith)
      ],
      ap (drop more) is ∙ drop_drop count more text,
    )

-- ---- the bits of a word of bytes

-- the bits of a byte are eight of the word's
pub bits_of_byte : (bytes : List ℕ) (place bit : ℕ) → ((k : ℕ) → k < length bytes → get_or bytes k 0 < 256) → place < length bytes → bit < 8
    → bit_at (word bytes) (8 * place + bit) ≡ bit_at (get_or bytes place 0) bit
bits_of_byte [] place bit few inside low = absurd (omega arith)
bits_of_byte (byte ∷ bytes) zero bit few inside low =
    let there : 8 * 0 + bit ≡ bit = omega arith in
    ap (bit_at (word (byte ∷ bytes))) there ∙ bit_at_cat_low (word bytes) 8 byte bit low
bits_of_byte (byte ∷ bytes) (suc place) bit few inside low =
    let there : 8 * suc place + bit ≡ 8 + (8 * place + bit) = omega arith in
    let back : 8 + (8 * place + bit) - 8 ≡ 8 * place + bit = omega arith in
    ap (bit_at (word (byte ∷ bytes))) there
    ∙ bit_at_cat_high (word bytes) 8 byte (8 + (8 * place + bit)) (few 0 (omega arith)) (omega arith)
    ∙ ap (bit_at (word bytes)) back
    ∙ bits_of_byte bytes place bit (λ k less. few (suc k) (omega arith)) (omega arith) low

-- a byte below 40 has neither of the two highest bits
low_byte : (byte : ℕ) → byte < 64 → (bit_at byte 6 ≡ 0) × (bit_at byte 7 ≡ 0)
low_byte byte below = (bit_at_above byte 6 6 below (omega arith), bit_at_above byte 6 7 below (omega arith))

abbrev bits_40 : ℕ
bits_40 = 4629771061636907072

has_40 : (place : ℕ) → place < 8 → bit_at bits_40 (8 * place + 6) ≡ 1
has_40 zero few = refl
has_40 (suc zero) few = refl
has_40 (suc (suc zero)) few = refl
has_40 (suc (suc (suc zero))) few = refl
has_40 (suc (suc (suc (suc zero)))) few = refl
has_40 (suc (suc (suc (suc (suc zero))))) few = refl
has_40 (suc (suc (suc (suc (suc (suc zero)))))) few = refl
has_40 (suc (suc (suc (suc (suc (suc (suc zero))))))) few = refl
has_40 (suc (suc (suc (suc (suc (suc (suc (suc n)))))))) few = absurd (omega arith)

-- the bytes that have none of the two bits, each by its bit 40
abbrev pub low_bits : ℕ → ℕ
low_bits n = bit_and (18446744073709551615 - bit_or n (n / 2)) bits_40

abbrev pub high_count : ℕ → ℕ
high_count n = trailing_zeros w64 (low_bits n) / 8

-- what stands before the first of them
none_before : (n place : ℕ) → place < trailing_zeros w64 n / 8 → n < 2 ^ 64 → (place < 8) × (bit_at n (8 * place + 6) ≡ 0)
none_before n place less few = (
  omega (arith, less, trailing_le 64 n),
  elim (cases_eq n 0) [
    | inl none ↦ ap (λ m. bit_at m (8 * place + 6)) none ∙ bit_at-zero (8 * place + 6)
    | inr some ↦ (bit_at-trailing_zeros w64 n (omega (arith, some)) few).2 (8 * place + 6) (omega (arith, less))
  ],
)

and_none : (a b : ℕ) → min a b ≡ 0 → b ≡ 1 → a ≡ 0
and_none a b none one = omega (arith, none, one)

or_some : (n place : ℕ) → bit_at n (8 * place + 6) ≡ 0 → bit_at n (8 * place + 7) ≡ 0 → bit_at (bit_or n (n / 2)) (8 * place + 6) ≡ 0
or_some n place six seven =
    let more : suc (8 * place + 6) ≡ 8 * place + 7 = omega arith in
    let half : bit_at (n / 2) (8 * place + 6) ≡ 0 = sym (bit_at-suc n (8 * place + 6)) ∙ ap (bit_at n) more ∙ seven in
    bit_at_or n (n / 2) (8 * place + 6) ∙ rw (six, half) refl

pub high_in_word : (bytes : List ℕ) (place : ℕ) → ((k : ℕ) → k < length bytes → get_or bytes k 0 < 256) → length bytes ≡ 8 → word bytes < 2 ^ 64
    → place < high_count (word bytes) → 64 ≤ get_or bytes place 0
high_in_word bytes place few eight fits less =
    let n : ℕ = word bytes in
    let either : ℕ = bit_or n (n / 2) in
    let low = none_before (low_bits n) place less (omega (arith, and_le_r (18446744073709551615 - either) bits_40)) in
    let both : min (bit_at (bit_not w64 either) (8 * place + 6)) (bit_at bits_40 (8 * place + 6)) ≡ 0 =
    sym (bit_at_and (bit_not w64 either) bits_40 (8 * place + 6)) ∙ low.1 in
    let not_there : bit_at (bit_not w64 either) (8 * place + 6) ≡ 0 = and_none _ _ both (has_40 place low.0) in
    let either_fits : either < 2 ^ 64 = or_lt 64 n (n / 2) fits (omega (arith, fits, div-le_self n 2)) in
    let there : 1 - bit_at either (8 * place + 6) ≡ 0 = sym (bit_at_not w64 either (8 * place + 6) either_fits (omega (arith, low.0))) ∙ not_there in
    let inside : place < length bytes = omega (arith, low.0, eight) in
    elim (cases_lt (get_or bytes place 0) 64) [
      | inl below ↦ absurd (
          let none = low_byte (get_or bytes place 0) below in
          let six : bit_at n (8 * place + 6) ≡ 0 = bits_of_byte bytes place 6 few inside (omega arith) ∙ none.0 in
          let seven : bit_at n (8 * place + 7) ≡ 0 = bits_of_byte bytes place 7 few inside (omega arith) ∙ none.1 in
          let clear : bit_at either (8 * place + 6) ≡ 0 = or_some n place six seven in
          omega (arith, there, clear))
      | inr high ↦ high
    ]

storable_high : (byte : ℕ) → 64 ≤ byte → byte < 256 → is_storable byte ≡ true
storable_high byte high few = grind (arith, nat_tests)

text_high : (byte : ℕ) → 64 ≤ byte → byte < 256 → is_text_char byte ≡ true
text_high byte high few = grind (arith, nat_tests)

-- ---- the first eight bytes of a text

abbrev pub eight_of : List ℕ → List ℕ
eight_of text =
    get_or text 0 0 ∷ get_or text 1 0 ∷ get_or text 2 0 ∷ get_or text 3 0 ∷ get_or text 4 0 ∷ get_or text 5 0 ∷ get_or text 6 0 ∷ get_or text 7 0 ∷ []

eight_at : (text : List ℕ) (place : ℕ) → place < 8 → get_or (eight_of text) place 0 ≡ get_or text place 0
eight_at text zero few = refl
eight_at text (suc zero) few = refl
eight_at text (suc (suc zero)) few = refl
eight_at text (suc (suc (suc zero))) few = refl
eight_at text (suc (suc (suc (suc zero)))) few = refl
eight_at text (suc (suc (suc (suc (suc zero))))) few = refl
eight_at text (suc (suc (suc (suc (suc (suc zero)))))) few = refl
eight_at text (suc (suc (suc (suc (suc (suc (suc zero))))))) few = refl
eight_at text (suc (suc (suc (suc (suc (suc (suc (suc n)))))))) few = absurd (omega arith)

pub eight_are : (text : List ℕ) (number : ℕ) → ((place : ℕ) → get_or text place 0 < 256) → number ≡ word (eight_of text) → IsWordOf (eight_of text) number
eight_are text number small is = record {
  small = λ place inside. rw (eight_at text place inside) (small place);
  eight = refl;
  number = is;
}

pub eight_text : (text : List ℕ) (count : ℕ) → ((place : ℕ) → get_or text place 0 < 256) → count ≤ 8
    → ((place : ℕ) → place < count → 64 ≤ get_or (eight_of text) place 0)
    → (place : ℕ) → place < count → is_text_char (get_or text place 0) ≡ true
eight_text text count small few high place less =
    let same : get_or (eight_of text) place 0 ≡ get_or text place 0 = eight_at text place (omega (arith, few, less)) in
    text_high (get_or text place 0) (omega (arith, same, high place less)) (small place)

-- the two lowest bytes of a word
two_lowest : (n others a b : ℕ) → a < 256 → b < 256 → n ≡ (others * 256 + b) * 256 + a → (n % 256 ≡ a) × (n % 65536 / 256 ≡ b)
two_lowest n others a b first second is = (omega arith, omega arith)

-- one character, and Start Field behind it
pub one_character : (text : List ℕ) (n : ℕ) → 8 ≤ length text → ((place : ℕ) → get_or text place 0 < 256) → n ≡ word (eight_of text)
    → (64 ≤ n % 256) × (n % 65536 / 256 ≡ start_field) → behind text ≡ drop 1 text
one_character text n long small is found =
    let a : ℕ = get_or text 0 0 in
    let b : ℕ = get_or text 1 0 in
    let others : ℕ = word (get_or text 2 0 ∷ get_or text 3 0 ∷ get_or text 4 0 ∷ get_or text 5 0 ∷ get_or text 6 0 ∷ get_or text 7 0 ∷ []) in
    let two = two_lowest n others a b (small 0) (small 1) is in
    let high : 64 ≤ a = omega (arith, two.0, found.0) in
    let field : b ≡ start_field = sym two.1 ∙ found.1 in
    let other : is_storable b ≡ false = ap is_storable field in
    let split : drop 1 text ≡ b ∷ drop 2 text = drop_next text 1 0 (omega (arith, long)) in
    sym (behind_count 1 text (λ place less. ap (λ (k : ℕ). is_storable (get_or text k 0)) (first_place place less) ∙ storable_high a high (small 0)) (omega (arith, long)))
    ∙ ap behind split ∙ behind_none b (drop 2 text) other ∙ sym split
  where
    first_place : (place : ℕ) → place < 1 → place ≡ 0
    first_place place less = omega (arith, less)

-- no byte of a word is low if no bit says so
pub all_high : (n : ℕ) → low_bits n ≡ 0 → (place : ℕ) → place < 8 → place < high_count n
all_high n none place less =
    let whole : high_count n ≡ 8 = ap (λ (m : ℕ). trailing_zeros w64 m / 8) none ∙ ap (λ (m : ℕ). m / 8) (trailing_of_zero 64) in
    omega (arith, whole, less)

-- ---- the orders of a text that begins with characters

order_char : (size byte : ℕ) (bytes : List ℕ) → is_storable byte ≡ true → order_at size (byte ∷ bytes) ≡ Ok (Char byte, bytes)
order_char size byte bytes is = order_again size (Char byte) (byte ∷ []) bytes (is, refl)

module _ (size : ℕ) where
  pub reads_behind : (text rest : List ℕ) → IsReadTo size text rest → IsReadTo size text (behind rest)
  reads_behind text [] so_far = so_far
  reads_behind text (byte ∷ bytes) so_far = elim (cases_Bool (is_storable byte)) [
    | inl is ↦
        subst (IsReadTo size text) (sym (behind_first byte bytes is))
        (reads_behind text bytes (reads_on size text (byte ∷ bytes) (Char byte) bytes (omega arith) so_far (order_char size byte bytes is)))
    | inr other ↦ subst (IsReadTo size text) (sym (behind_none byte bytes other)) so_far
  ]

  pub reads_behind_first : (text : List ℕ) → IsReadTo size text (behind text)
  reads_behind_first text = reads_behind text text (reads_nothing size text)

  pub shorter_behind : (bytes : List ℕ) (order : Order) (rest : List ℕ) → order_at size bytes ≡ Ok (order, rest) → length (behind rest) < length bytes
  shorter_behind bytes order rest is = omega (arith, shorter size bytes order rest is, length-drop (prefix_len is_storable rest) rest)

  -- a character is encoded by a byte that a cell can hold
  none_ahead : (byte : ℕ) (bytes : List ℕ) (others : List ℕ → List Order) (r : Result (Order × List ℕ) CommandFault) → IsRead size (byte ∷ bytes) r → is_storable byte ≡ false
      → characters_ahead (and_orders others r) ≡ []
  none_ahead byte bytes others (Ok (Char char, rest)) (front, (storable, is), encoded, some) other =
      absurd (
      let whole : byte ∷ bytes ≡ char ∷ rest = encoded ∙ ap (λ f. f ++ rest) is in
      let same : byte ≡ char = ap (λ bs. get_or bs 0 0) whole in
      false≢true (sym other ∙ ap is_storable same ∙ storable))
  none_ahead byte bytes others (Ok (Sf attr, rest)) read other = refl
  none_ahead byte bytes others (Ok (Sba address, rest)) read other = refl
  none_ahead byte bytes others (Ok (Ic, rest)) read other = refl
  none_ahead byte bytes others (Ok (Pt, rest)) read other = refl
  none_ahead byte bytes others (Ok (Ra stop char, rest)) read other = refl
  none_ahead byte bytes others (Ok (Eua stop, rest)) read other = refl
  none_ahead byte bytes others (Err fault) read other = refl

  pub ahead_in : (text : List ℕ) → characters_ahead (orders_in size text) ≡ take (prefix_len is_storable text) text
  unfolding orders_in orders_within
  ahead_in [] = refl
  ahead_in (byte ∷ bytes) = elim (cases_Bool (is_storable byte)) [
    | inl is ↦
        ap characters_ahead (orders_in-next size (byte ∷ bytes) (Char byte) bytes (order_char size byte bytes is))
        ∙ ap (λ cs. byte ∷ cs) (ahead_in bytes)
        ∙ rw is (sym (take_more (prefix_len is_storable bytes) byte bytes))
    | inr other ↦ none_ahead byte bytes (orders_within size (length bytes)) (order_at size (byte ∷ bytes)) (order_read size byte bytes) other ∙ rw other refl
  ]

  pub orders_behind : (text : List ℕ) → orders_in size (behind text) ≡ drop (prefix_len is_storable text) (orders_in size text)
  orders_behind [] = refl
  orders_behind (byte ∷ bytes) = elim (cases_Bool (is_storable byte)) [
    | inl is ↦
        ap (orders_in size) (behind_first byte bytes is)
        ∙ orders_behind bytes
        ∙ sym (drop_more (prefix_len is_storable bytes) (Char byte) (orders_in size bytes))
        ∙ rw (is, orders_in-next size (byte ∷ bytes) (Char byte) bytes (order_char size byte bytes is)) refl
    | inr other ↦ ap (orders_in size) (behind_none byte bytes other) ∙ rw other refl
  ]
