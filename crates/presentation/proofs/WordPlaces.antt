-- The places of attributes among the 64 cells of a word, from the lowest bit on.
use Rattle.std.proofs.Common.{◌≡◌, ℕ, ◌+◌, ◌-◌, ◌*◌, ◌<◌, ◌≤◌, not, Bool, true, false, List, [], ◌∷◌, ◌++◌, length, take, set, ap, refl, arith, sym, ◌∙◌, inl, inr, append_assoc}
use Rattle.std.specs.Int.{bit_at}
use Rattle.std.specs.Prelude.{bit_and, nat_eq, nat_lt, if◌then◌else◌}
use Rattle.std.proofs.lemmas.Bool.{cases_lt, cases_eq, ne_eqb, eq-eqb}
use Rattle.std.proofs.lemmas.List.{get_or_past, take_more_set}
use Rattle.std.proofs.lemmas.Nat.Bits.{bit_at-zero}
use Rattle.codes3270.specs.declared.attribute.Cell.{Cell}
use Rattle.codes3270.specs.declared.attribute.Cell.TheVariants.{Char}
use Rattle.codes3270.specs.Size.{most_cells}
use Rattle.datastream.specs.CellBits.{bit_of, has_bit, kept, AreBits}
use Rattle.datastream.specs.Screen.{is_char, is_char_at}
use Rattle.datastream.proofs.Words.{word_up_to}
use Rattle.presentation.specs.Kept.{cell_by}
use Rattle.presentation.specs.Places.{attribute_places}
use Rattle.presentation.proofs.AttributePlaces.{all_passed, listed_first}
use Rattle.presentation.proofs.KeptCells.{size, character_read}

clear_bit : (test : Bool) → 0 ≡ bit_of (not test) → test ≡ true
clear_bit true is = refl
clear_bit false is = absurd (omega (arith, is))

set_bit : (test : Bool) → 1 ≡ bit_of (not test) → test ≡ false
set_bit true is = absurd (omega (arith, is))
set_bit false is = refl

again : (bit : Bool) → bit_of bit ≡ bit_of (not (not bit))
again true = refl
again false = refl

beyond : (cells : List Cell) (at : ℕ) → length cells ≤ at → is_char_at cells at ≡ true
beyond cells at end = ap is_char (get_or_past cells at (Char 0) end)

-- a word of bits, of which those behind the last cell are clear
module _ (attributes codes : List ℕ) (now : List Cell) (view : kept (cell_by attributes) 0 codes ≡ now) (word bits : ℕ) (are : AreBits most_cells (has_bit attributes) word bits)
    (few : length codes ≤ most_cells) where
  inside : (place : ℕ) → place < 64 → 64 * word + place < length now → bit_at bits place ≡ bit_of (not (is_char_at now (64 * word + place)))
  inside place low below =
      let same = size attributes codes now view in
      are place low (omega (arith, below, same, few))
      ∙ again (has_bit attributes (64 * word + place))
      ∙ sym (ap (λ (test : Bool). bit_of (not test)) (character_read attributes codes now view (64 * word + place) (Char 0) (omega (arith, below, same))))

  pub whole_word : 64 * word + 64 ≤ length now → (place : ℕ) → place < 64 → bit_at bits place ≡ bit_of (not (is_char_at now (64 * word + place)))
  whole_word room place low = inside place low (omega (arith, room, low))

  pub cut_word : (ones count : ℕ) → 0 < count → 64 * word + count ≡ length now → ((other : ℕ) → other < 64 → bit_at ones other ≡ bit_of (nat_lt other count))
      → (place : ℕ) → place < 64 → bit_at (bit_and bits ones) place ≡ bit_of (not (is_char_at now (64 * word + place)))
  cut_word ones count some end low_ones place low =
      let more : count ≡ count - 1 + 1 = omega (arith, some) in
      let parts = word_up_to bits ones (count - 1) (λ other less. low_ones other less ∙ ap (λ (n : ℕ). bit_of (nat_lt other n)) more) in
      elim (cases_lt place count) [
        | inl before ↦ parts.0 place low (omega (arith, before)) ∙ inside place low (omega (arith, before, end))
        | inr behind ↦ parts.1 place low (omega (arith, behind, some)) ∙ sym (ap (λ (test : Bool). bit_of (not test)) (beyond now (64 * word + place) (omega (arith, behind, end))))
      ]

-- what is left of a word from a place on
pub record IsRest (cells : List Cell) (word bits from : ℕ) : Type 0 where
  pub ahead : (place : ℕ) → place < 64 → from ≤ place → bit_at bits place ≡ bit_of (not (is_char_at cells (64 * word + place)))
  pub behind : (place : ℕ) → place < from → bit_at bits place ≡ 0

module _ (cells : List Cell) (word bits from : ℕ) (rest : IsRest cells word bits from) where
  -- nothing is left
  pub none_left : bits ≡ 0 → from ≤ 64 → attribute_places cells (64 * word + 64) ≡ attribute_places cells (64 * word + from)
  none_left is few =
      let end : 64 * word + 64 ≡ 64 * word + from + (64 - from) = omega (arith, few) in
      ap (attribute_places cells) end
      ∙ all_passed cells (64 * word + from) (64 - from)
      (λ i less.
      let there : 64 * word + from + i ≡ 64 * word + (from + i) = omega arith in
      ap (is_char_at cells) there
      ∙ clear_bit (is_char_at cells (64 * word + (from + i)))
      (sym (ap (λ (n : ℕ). bit_at n (from + i)) is ∙ bit_at-zero (from + i)) ∙ rest.ahead (from + i) (omega (arith, less)) (omega arith)))

  -- the lowest bit
  module _ (place : ℕ) (low : place < 64) (is_set : bit_at bits place ≡ 1) (clear : (other : ℕ) → other < place → bit_at bits other ≡ 0) where
    pub onward : from ≤ place
    onward = elim (cases_lt place from) [
      | inl before ↦ absurd (let none = rest.behind place before in omega (arith, none, is_set))
      | inr later ↦ later
    ]

    pub stands : is_char_at cells (64 * word + place) ≡ false
    stands = set_bit (is_char_at cells (64 * word + place)) (sym is_set ∙ rest.ahead place low onward)

    pub within : 64 * word + place < length cells
    within = elim (cases_lt (64 * word + place) (length cells)) [
      | inl below ↦ below
      | inr end ↦ absurd (let no : true ≡ false = sym (beyond cells (64 * word + place) end) ∙ stands in cc)
    ]

    pub lowest_listed : attribute_places cells (64 * word + from) ≡ (64 * word + place) ∷ attribute_places cells (64 * word + (place + 1))
    lowest_listed =
        let there : 64 * word + place ≡ 64 * word + from + (place - from) = omega (arith, onward) in
        let behind_it : 64 * word + place + 1 ≡ 64 * word + (place + 1) = omega arith in
        sym (ap (attribute_places cells) there
        ∙ all_passed cells (64 * word + from) (place - from)
        (λ i less.
        let here : 64 * word + from + i ≡ 64 * word + (from + i) = omega arith in
        ap (is_char_at cells) here
        ∙ clear_bit (is_char_at cells (64 * word + (from + i))) (sym (clear (from + i) (omega (arith, less))) ∙ rest.ahead (from + i) (omega (arith, less, low)) (omega arith))))
        ∙ listed_first cells (64 * word + place) within stands
        ∙ ap (λ (at : ℕ). (64 * word + place) ∷ attribute_places cells at) behind_it

    pub next_listed : (places : List ℕ) (count : ℕ) → count < length places
        → take (count + 1) (set places count (64 * word + place)) ++ attribute_places cells (64 * word + (place + 1)) ≡ take count places ++ attribute_places cells (64 * word + from)
    next_listed places count room =
        let others : List ℕ = attribute_places cells (64 * word + (place + 1)) in
        ap (λ (front : List ℕ). front ++ others) (take_more_set places count (64 * word + place) room)
        ∙ append_assoc (take count places) ((64 * word + place) ∷ []) others
        ∙ ap (λ (rest_of : List ℕ). take count places ++ rest_of) (sym lowest_listed)

    pub next_rest : (left : ℕ) → ((other : ℕ) → bit_at left other ≡ (if nat_eq other place then 0 else bit_at bits other)) → IsRest cells word left (place + 1)
    next_rest left is = record {
      ahead = λ other few later.
          is other
          ∙ ap (λ (test : Bool). if test then 0 else bit_at bits other) (ne_eqb other place (λ same. omega (arith, same, later)))
          ∙ rest.ahead other few (omega (arith, later, onward));
      behind = λ other before. elim (cases_eq other place) [
        | inl same ↦ is other ∙ ap (λ (test : Bool). if test then 0 else bit_at bits other) (eq-eqb other place same)
        | inr apart ↦ is other
            ∙ ap (λ (test : Bool). if test then 0 else bit_at bits other) (ne_eqb other place apart)
            ∙ clear other (omega (arith, before, apart))
      ];
    }
