-- How the search for the cells to store goes on.
use Rattle.std.proofs.Common.{◌≡◌, ℕ, zero, suc, ◌+◌, ◌-◌, ◌*◌, ◌^◌, ◌/◌, ◌%◌, ◌<◌, ◌≤◌, Bool, true, false, List, ◌++◌, length, replicate, drop, get_or, map, if◌then◌else◌, Option, Some, None, refl, ap, sym, subst, arith, ◌∙◌, inl, inr, eq-eqb}
use Rattle.std.specs.Prelude.{bit_and, bit_or, min, max}
use Rattle.std.specs.Int.{bit_at, w64, bit_not, trailing_zeros}
use Rattle.std.proofs.Math.Nat.{div-div-eq-div-mul}
use Rattle.std.proofs.lemmas.Bool.{cases_lt}
use Rattle.std.proofs.lemmas.Nat.{pow-add}
use Rattle.std.proofs.lemmas.Nat.Bits.{bit_at-zero, bit_at-lt, bit_at-trailing_zeros, bit_at_above, bit_at_or, bit_at_and, bit_at_not}
use Rattle.std.proofs.lemmas.List.{get_or-map, get_or_default, length-map, length-replicate}
use Rattle.codes3270.specs.declared.attribute.Cell.{Cell}
use Rattle.codes3270.specs.declared.attribute.Cell.TheVariants.{Char}
use Rattle.datastream.specs.CellBits.{bit_of, AreBits}
use Rattle.datastream.specs.Wanted.{is_attribute, is_character, byte_of}
use Rattle.datastream.specs.declared.wanted.Want.{Want}
use Rattle.datastream.specs.declared.wanted.Want.TheVariants.{Char as WantChar, Attr as WantAttr, Keep}
use Rattle.shadow.specs.declared.known.Known.{Known}
use Rattle.shadow.specs.declared.known.Known.TheVariants.{Char as KnownChar}
use Rattle.shadow.specs.Stores.{store_also}
use Rattle.shadow.specs.Paint.{cell_to_store, unless, is_there, known_nulls}
use Rattle.shadow.specs.Looks.{SetUnless, stores_from, IsRight}
use Rattle.shadow.specs.declared.cell_belief.CellBelief.{CellBelief}
use Rattle.shadow.specs.declared.cell_belief.CellBelief.TheVariants.{Known as KnownPlace, Unknown}
use Rattle.shadow.specs.InPlace.{cell_known, cells_known}
use Rattle.shadow.specs.Base.{mark_off_if}
use Rattle.shadow.specs.Taken.{old_char, marks_off_if}
use Rattle.shadow.proofs.Placed.{known_reset, length_reset}
use Rattle.shadow.proofs.PaintBytes.{cell_here}

-- ---- bits

-- a bit behind a shift
shifted : (n i j : ℕ) → bit_at (n / 2 ^ i) j ≡ bit_at n (i + j)
shifted n i j = ap (λ (q : ℕ). q % 2) (div-div-eq-div-mul n (2 ^ i) (2 ^ j) ∙ ap (λ (d : ℕ). n / d) (sym (pow-add 2 i j)))

-- none is set behind a place
pub none_behind : (n i : ℕ) → n / 2 ^ i ≡ 0 → (other : ℕ) → i ≤ other → bit_at n other ≡ 0
none_behind n i none other later =
    let there : i + (other - i) ≡ other = omega arith in
    ap (bit_at n) (sym there) ∙ sym (shifted n i (other - i)) ∙ ap (λ (m : ℕ). bit_at m (other - i)) none ∙ bit_at-zero (other - i)

module _ (n i : ℕ) (few : n < 2 ^ 64) (some : 0 < n / 2 ^ i) (small : n / 2 ^ i < 2 ^ 64) where
  pub lowest_behind : (other : ℕ) → i ≤ other → other < i + trailing_zeros w64 (n / 2 ^ i) → bit_at n other ≡ 0
  lowest_behind other later before =
      let there : i + (other - i) ≡ other = omega arith in
      ap (bit_at n) (sym there) ∙ sym (shifted n i (other - i)) ∙ (bit_at-trailing_zeros w64 (n / 2 ^ i) some small).2 (other - i) (omega arith)

  -- that bit is one of the word
  pub lowest_within : i + trailing_zeros w64 (n / 2 ^ i) ≤ 64
  lowest_within = elim (cases_lt (i + trailing_zeros w64 (n / 2 ^ i)) 64) [
    | inl under ↦ omega (arith, under)
    | inr over ↦ absurd (let none = bit_at_above n 64 (i + trailing_zeros w64 (n / 2 ^ i)) few over in
        let set = sym (shifted n i (trailing_zeros w64 (n / 2 ^ i))) ∙ (bit_at-trailing_zeros w64 (n / 2 ^ i) some small).1 in
        let both : 0 ≡ 1 = sym none ∙ set in omega (arith, both))
  ]

no_max : (a b : ℕ) → max a b ≡ 0 → (a ≡ 0) × (b ≡ 0)
no_max a b none = (omega (arith, none), omega (arith, none))

no_min : (a b : ℕ) → min a b ≡ 0 → a ≡ 1 → b ≡ 0
no_min a b none set = omega (arith, none, set)

pub or_clear : (a b i : ℕ) → bit_at (bit_or a b) i ≡ 0 → (bit_at a i ≡ 0) × (bit_at b i ≡ 0)
or_clear a b i clear = no_max (bit_at a i) (bit_at b i) (sym (bit_at_or a b i) ∙ clear)

and_clear : (a b i : ℕ) → bit_at (bit_and a b) i ≡ 0 → bit_at a i ≡ 1 → bit_at b i ≡ 0
and_clear a b i clear = no_min (bit_at a i) (bit_at b i) (sym (bit_at_and a b i) ∙ clear)

pub not_clear : (n i : ℕ) → n < 2 ^ 64 → i < 64 → bit_at (bit_not w64 n) i ≡ 0 → bit_at n i ≡ 1
not_clear n i few low clear =
    let inverted = sym (bit_at_not w64 n i few low) ∙ clear in
    let bit = bit_at-lt n i in
    omega (arith, inverted, bit)

pub bit_true : (b : Bool) (n : ℕ) → n ≡ bit_of b → n ≡ 1 → b ≡ true
bit_true true n is set = refl
bit_true false n is set = absurd (let both : 0 ≡ 1 = sym is ∙ set in omega (arith, both))

pub bit_false : (b : Bool) (n : ℕ) → n ≡ bit_of b → n ≡ 0 → b ≡ false
bit_false false n is clear = refl
bit_false true n is clear = absurd (let both : 1 ≡ 0 = sym is ∙ clear in omega (arith, both))

-- a place is known to have a character where its bits say so
pub plain_bits : (attribute known differ i : ℕ) → known < 2 ^ 64 → i < 64 → bit_at (bit_or (bit_or attribute (bit_not w64 known)) differ) i ≡ 0
    → (bit_at attribute i ≡ 0) × (bit_at known i ≡ 1) × (bit_at differ i ≡ 0)
plain_bits attribute known differ i few low clear =
    let outer = or_clear (bit_or attribute (bit_not w64 known)) differ i clear in
    let inner = or_clear attribute (bit_not w64 known) i outer.0 in
    (inner.0, not_clear known i few low inner.1, outer.1)

-- ---- what is looked at

-- a character that is known to be there isn't stored
there_already : (ahead : List Want) (byte : ℕ) → cell_to_store ahead (WantChar byte) (KnownChar (Some byte) false) ≡ None
there_already ahead byte = ap (λ (same : Bool). unless same (Char byte)) (eq-eqb byte byte refl)

right : (ahead : List Want) (want : Want) (known : Known) → bit_of (is_attribute want) ≡ 0 → (bit_of (is_character want) ≡ 1 → known ≡ KnownChar (Some (byte_of want)) false)
    → cell_to_store ahead want known ≡ None
right ahead (WantAttr a) known none is = absurd (let both : 1 ≡ 0 = none in omega (arith, both))
right ahead (WantChar byte) known none is = ap (cell_to_store ahead (WantChar byte)) (is refl) ∙ there_already ahead byte
right ahead Keep known none is = refl

pub covered : (wants : List Want) (known : List Known) (bytes : List ℕ) (word attributes characters unlike : ℕ) → bytes ≡ map byte_of wants
    → AreBits (length wants) (λ cell. is_attribute (get_or wants cell Keep)) word attributes → AreBits (length wants) (λ cell. is_character (get_or wants cell Keep)) word characters
    → SetUnless (length wants) (λ cell. get_or known cell (KnownChar None false) ≡ KnownChar (Some (get_or bytes cell 0)) false) word unlike
    → SetUnless (length wants) (IsRight wants known) word (bit_or attributes (bit_and characters unlike))
covered wants known bytes word attributes characters unlike is_bytes is_attributes are_characters alike = λ place low inside clear.
    let cell = 64 * word + place in
    let parts = or_clear attributes (bit_and characters unlike) place clear in
    right (drop (cell + 1) wants ++ wants) (get_or wants cell Keep) (get_or known cell (KnownChar None false))
    (sym (is_attributes place low inside) ∙ parts.0)
    (λ character.
    alike place low inside (and_clear characters unlike place parts.1 (are_characters place low inside ∙ character))
    ∙ ap (λ (b : ℕ). KnownChar (Some b) false) (ap (λ (bs : List ℕ). get_or bs cell 0) is_bytes ∙ get_or-map byte_of wants cell Keep 0 (omega (arith, inside))))

-- ---- how it goes on

pub here : (wants : List Want) (known : List Known) (n : ℕ) (o : Option Cell) → n < length wants → n < length known
    → o ≡ cell_to_store (drop (n + 1) wants ++ wants) (get_or wants n Keep) (get_or known n (KnownChar None false))
    → stores_from wants known n ≡ store_also o n (stores_from wants known (n + 1))
here wants known n o in_wants in_known is =
    cell_here wants known n (get_or wants n Keep) (get_or known n (KnownChar None false)) (drop (n + 1) wants) o in_wants in_known
    (get_or_default wants n Keep (get_or wants n Keep) in_wants) (get_or_default known n (KnownChar None false) (get_or known n (KnownChar None false)) in_known) refl is

pub here_known : (wants : List Want) (known : List Known) (n : ℕ) (o : Option Cell) (there : Known) → n < length wants → n < length known → there ≡ get_or known n there
    → o ≡ cell_to_store (drop (n + 1) wants ++ wants) (get_or wants n Keep) there → stores_from wants known n ≡ store_also o n (stores_from wants known (n + 1))
here_known wants known n o there in_wants in_known is_there is =
    here wants known n o in_wants in_known
    (is ∙ ap (cell_to_store (drop (n + 1) wants ++ wants) (get_or wants n Keep)) (is_there ∙ get_or_default known n there (KnownChar None false) in_known))

skip : (wants : List Want) (known : List Known) (n from : ℕ) → from + n ≤ length wants → from + n ≤ length known → ((cell : ℕ) → from ≤ cell → cell < from + n → IsRight wants known cell)
    → stores_from wants known from ≡ stores_from wants known (from + n)
skip wants known zero from in_wants in_known is_right = let same : from ≡ from + 0 = omega arith in ap (stores_from wants known) same
skip wants known (suc n) from in_wants in_known is_right =
    let next : (from + 1) + n ≡ from + suc n = omega arith in
    here wants known from None (omega arith) (omega arith) (sym (is_right from (omega arith) (omega arith)))
    ∙ skip wants known n (from + 1) (omega arith) (omega arith) (λ cell later before. is_right cell (omega arith) (omega arith))
    ∙ ap (stores_from wants known) next

-- the cells up to a place are right
pub passed : (wants : List Want) (known : List Known) (look from place : ℕ) → place ≤ length wants → place ≤ length known → from ≤ place
    → SetUnless (length wants) (IsRight wants known) (from / 64) look → ((cell : ℕ) → from ≤ cell → cell < place → cell / 64 ≡ from / 64)
    → ((cell : ℕ) → from ≤ cell → cell < place → bit_at look (cell % 64) ≡ 0)
    → stores_from wants known from ≡ stores_from wants known place
passed wants known look from place in_wants in_known onward covers same_word clear =
    let there : from + (place - from) ≡ place = omega arith in
    skip wants known (place - from) from (omega arith) (omega arith) (λ cell later before.
    let word = same_word cell later (omega arith) in
    let whole : 64 * (from / 64) + cell % 64 ≡ cell = omega (arith, word) in
    subst (IsRight wants known) whole (covers (cell % 64) (omega arith) (omega (arith, whole, before)) (clear cell later (omega arith))))
    ∙ ap (stores_from wants known) there

pub some_left : (n : ℕ) → (n ≡ 0 → ⊥) → 0 < n
some_left zero none = absurd (none refl)
some_left (suc n) none = omega arith

-- ---- what is known of a cell

nulls_length : (n : ℕ) → length (known_nulls n) ≡ n
nulls_length n = length-map (replicate n (Some 0)) old_char ∙ length-replicate n (Some 0)

off_char : (reset : Bool) (byte : ℕ) → mark_off_if reset (cell_known (KnownPlace byte) false) ≡ KnownChar (Some byte) false
off_char true byte = refl
off_char false byte = refl

pub base_length : (cells : ℕ) (formatted reset : Bool) (places : List CellBelief) → (formatted ≡ true → length places ≡ cells) → length (if formatted then marks_off_if reset (cells_known places) else known_nulls cells) ≡ cells
base_length cells true reset places size = length_reset reset places ∙ size refl
base_length cells false reset places size = nulls_length cells

pub char_there : (reset : Bool) (places : List CellBelief) (cell byte : ℕ) → cell < length places → get_or places cell Unknown ≡ KnownPlace byte
    → get_or (marks_off_if reset (cells_known places)) cell (KnownChar None false) ≡ KnownChar (Some byte) false
char_there reset places cell byte within is =
    known_reset reset places cell (KnownPlace byte) (KnownChar None false) within (sym is ∙ get_or_default places cell Unknown (KnownPlace byte) within) ∙ off_char reset byte
