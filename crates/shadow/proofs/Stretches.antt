-- The characters between two attributes, passed in one step.
use Rattle.std.proofs.Common.{◌≡◌, ℕ, zero, suc, ◌+◌, ◌-◌, ◌<◌, ◌≤◌, Bool, true, false, List, [], ◌∷◌, ◌++◌, length, drop, get_or, refl, ap, sym, arith, ◌∙◌, inl, inr, append-nil}
use Rattle.std.specs.Prelude.{nat_lt}
use Rattle.std.proofs.Math.Seq.{drop-nil}
use Rattle.std.proofs.lemmas.Bool.{cases_lt, lt-ltb, le-ltb}
use Rattle.std.proofs.lemmas.List.{get_or-drop, get_or_default, length-drop}
use Rattle.shadow.specs.declared.cell_belief.CellBelief.{CellBelief}
use Rattle.shadow.specs.declared.cell_belief.CellBelief.TheVariants.{Attr, Known, Unplaced, Unknown}
use Rattle.shadow.specs.declared.cell_beliefs.AttributeKnowledge.{AttributeKnowledge}
use Rattle.shadow.specs.InPlace.{is_attribute, has_attribute, chars_known, beliefs_held}
use Rattle.datastream.specs.CellBits.{has_bit, kept}
use Rattle.shadow.specs.PackedBeliefs.{no_head, place_kept, place_by}
use Rattle.datastream.proofs.Keeping.{kept_at, length_kept}

-- ---- where the first attribute stands

stretch : (ps : List CellBelief) (n : ℕ) → n ≤ length ps → ((i : ℕ) → i < n → is_attribute (get_or ps i Unknown) ≡ false) → (n < length ps → is_attribute (get_or ps n Unknown) ≡ true) → length (chars_known ps) ≡ n
stretch [] n few none here = omega arith
stretch (Attr a m t ∷ ps) zero few none here = refl
stretch (Known c ∷ ps) zero few none here = absurd (let no = here (omega arith) in cc)
stretch (Unplaced c ∷ ps) zero few none here = absurd (let no = here (omega arith) in cc)
stretch (Unknown ∷ ps) zero few none here = absurd (let no = here (omega arith) in cc)
stretch (Attr a m t ∷ ps) (suc n) few none here = absurd (let no = none 0 (omega arith) in cc)
stretch (Known c ∷ ps) (suc n) few none here = ap suc (stretch ps n (omega arith) (λ i low. none (suc i) (omega arith)) (λ low. here (omega arith)))
stretch (Unplaced c ∷ ps) (suc n) few none here = ap suc (stretch ps n (omega arith) (λ i low. none (suc i) (omega arith)) (λ low. here (omega arith)))
stretch (Unknown ∷ ps) (suc n) few none here = ap suc (stretch ps n (omega arith) (λ i low. none (suc i) (omega arith)) (λ low. here (omega arith)))

kept_attribute : (head : AttributeKnowledge) (a k t : Bool) (byte : ℕ) → is_attribute (place_kept head a k t byte) ≡ a
kept_attribute head true k t byte = refl
kept_attribute head false true t byte = refl
kept_attribute head false false true byte = refl
kept_attribute head false false false byte = refl

module _ (heads : List AttributeKnowledge) (attributes known told bytes : List ℕ) (now : List CellBelief) (view : kept (place_by heads attributes known told) 0 bytes ≡ now) where
  size : length now ≡ length bytes
  size = sym (ap length view) ∙ length_kept (place_by heads attributes known told) 0 bytes

  pub attribute_bit : (i : ℕ) → i < length bytes → is_attribute (get_or now i Unknown) ≡ has_bit attributes i
  attribute_bit i low =
      let byte : ℕ = get_or bytes i 0 in
      ap (λ (ps : List CellBelief). is_attribute (get_or ps i Unknown)) (sym view)
      ∙ ap is_attribute (kept_at (place_by heads attributes known told) bytes i byte Unknown low (get_or_default bytes i 0 byte low))
      ∙ kept_attribute (get_or heads i no_head) (has_bit attributes i) (has_bit known i) (has_bit told i) byte

  pub first_attribute : (n from to : ℕ) → length bytes ≡ n → from ≤ to → to ≤ n → ((i : ℕ) → from ≤ i → i < to → has_bit attributes i ≡ false) → (to < n → has_bit attributes to ≡ true)
      → to ≡ from + length (chars_known (drop from now))
  first_attribute n from to even later within clear set =
      let k : ℕ = to - from in
      let there : from + k ≡ to = omega arith in
      let is = stretch (drop from now) k (omega (arith, size, length-drop from now))
      (λ i low. ap is_attribute (get_or-drop from now i Unknown) ∙ attribute_bit (from + i) (omega arith) ∙ clear (from + i) (omega arith) (omega arith))
      (λ low. ap is_attribute (get_or-drop from now k Unknown) ∙ attribute_bit (from + k) (omega (arith, size, length-drop from now)) ∙ ap (has_bit attributes) there ∙ set (omega (arith, size, length-drop from now))) in
      omega arith

-- where no character stands, an attribute does
pub stands_attribute : (ps : List CellBelief) (at : ℕ) → at < length ps → length (chars_known (drop at ps)) ≡ 0 → is_attribute (get_or ps at Unknown) ≡ true
stands_attribute [] at low none = absurd (omega arith)
stands_attribute (Attr a m t ∷ ps) zero low none = refl
stands_attribute (Known c ∷ ps) zero low none = absurd (omega arith)
stands_attribute (Unplaced c ∷ ps) zero low none = absurd (omega arith)
stands_attribute (Unknown ∷ ps) zero low none = absurd (omega arith)
stands_attribute (p ∷ ps) (suc at) low none = stands_attribute ps at (omega arith) none

-- ---- whether there is one

less_further : (a b : ℕ) → nat_lt (suc a) (suc b) ≡ nat_lt a b
less_further a b = elim (cases_lt a b) [
  | inl low ↦ lt-ltb (suc a) (suc b) (omega arith) ∙ sym (lt-ltb a b low)
  | inr high ↦ le-ltb (suc a) (suc b) (omega arith) ∙ sym (le-ltb a b high)
]

any_within : (ps : List CellBelief) → nat_lt (length (chars_known ps)) (length ps) ≡ has_attribute ps
any_within [] = refl
any_within (Attr a m t ∷ ps) = lt-ltb 0 (suc (length ps)) (omega arith)
any_within (Known c ∷ ps) = less_further (length (chars_known ps)) (length ps) ∙ any_within ps
any_within (Unplaced c ∷ ps) = less_further (length (chars_known ps)) (length ps) ∙ any_within ps
any_within (Unknown ∷ ps) = less_further (length (chars_known ps)) (length ps) ∙ any_within ps

pub any_before : (ps : List CellBelief) (first size : ℕ) → first ≡ 0 + length (chars_known (drop 0 ps)) → size ≡ length ps → nat_lt first size ≡ has_attribute ps
any_before ps first size is all =
    let same : first ≡ length (chars_known ps) = omega arith in
    ap (λ (n : ℕ). nat_lt n size) same ∙ ap (nat_lt (length (chars_known ps))) all ∙ any_within ps

-- ---- how many characters a field has

pub count_inner : (xs ys : List CellBelief) → length (chars_known xs) < length xs → length (chars_known (xs ++ ys)) ≡ length (chars_known xs)
count_inner [] ys h = absurd (omega arith)
count_inner (Attr a m t ∷ xs) ys h = refl
count_inner (Known c ∷ xs) ys h = ap suc (count_inner xs ys (omega arith))
count_inner (Unplaced c ∷ xs) ys h = ap suc (count_inner xs ys (omega arith))
count_inner (Unknown ∷ xs) ys h = ap suc (count_inner xs ys (omega arith))

pub count_round : (xs ys : List CellBelief) → length (chars_known xs) ≡ length xs → length (chars_known (xs ++ ys)) ≡ length xs + length (chars_known ys)
count_round [] ys e = omega arith
count_round (Attr a m t ∷ xs) ys e = absurd (omega arith)
count_round (Known c ∷ xs) ys e = let h = count_round xs ys (omega arith) in omega arith
count_round (Unplaced c ∷ xs) ys e = let h = count_round xs ys (omega arith) in omega arith
count_round (Unknown ∷ xs) ys e = let h = count_round xs ys (omega arith) in omega arith

-- ---- the fields that are left

pub drop_drop : {A : Type 0} (n k : ℕ) (xs : List A) → drop k (drop n xs) ≡ drop (n + k) xs
drop_drop zero k xs = let same : k ≡ 0 + k = omega arith in ap (λ (j : ℕ). drop j xs) same
drop_drop (suc n) k [] = drop-nil k ∙ sym (drop-nil (suc n + k))
drop_drop (suc n) k (x ∷ xs) = let same : suc (n + k) ≡ suc n + k = omega arith in drop_drop n k xs ∙ ap (λ (j : ℕ). drop j (x ∷ xs)) same

fields_on : (whole : List CellBelief) (at : ℕ) (ps more : List CellBelief) → (let k = length (chars_known (ps ++ more)) in beliefs_held whole at ps ≡ beliefs_held whole (at + k) (drop k ps))
fields_on whole at [] more = ap (beliefs_held whole (at + length (chars_known more))) (sym (drop-nil (length (chars_known more))))
fields_on whole at (Attr a m t ∷ ps) more = let same : at ≡ at + 0 = omega arith in ap (λ (n : ℕ). beliefs_held whole n (Attr a m t ∷ ps)) same
fields_on whole at (Known c ∷ ps) more =
    let k : ℕ = length (chars_known (ps ++ more)) in
    let same : (at + 1) + k ≡ at + suc k = omega arith in
    fields_on whole (at + 1) ps more ∙ ap (λ (n : ℕ). beliefs_held whole n (drop k ps)) same
fields_on whole at (Unplaced c ∷ ps) more =
    let k : ℕ = length (chars_known (ps ++ more)) in
    let same : (at + 1) + k ≡ at + suc k = omega arith in
    fields_on whole (at + 1) ps more ∙ ap (λ (n : ℕ). beliefs_held whole n (drop k ps)) same
fields_on whole at (Unknown ∷ ps) more =
    let k : ℕ = length (chars_known (ps ++ more)) in
    let same : (at + 1) + k ≡ at + suc k = omega arith in
    fields_on whole (at + 1) ps more ∙ ap (λ (n : ℕ). beliefs_held whole n (drop k ps)) same

-- from a place on they are those from the next attribute on
pub fields_left : (whole : List CellBelief) (at : ℕ) (more : List CellBelief) → (let k = length (chars_known (drop at whole ++ more)) in beliefs_held whole at (drop at whole) ≡ beliefs_held whole (at + k) (drop (at + k) whole))
fields_left whole at more =
    let k : ℕ = length (chars_known (drop at whole ++ more)) in
    fields_on whole at (drop at whole) more ∙ ap (beliefs_held whole (at + k)) (drop_drop at k whole)

-- from a place on they are those from the next attribute before the end on
pub fields_until : (whole : List CellBelief) (at next : ℕ) → next ≡ at + length (chars_known (drop at whole)) → beliefs_held whole at (drop at whole) ≡ beliefs_held whole next (drop next whole)
fields_until whole at next is =
    let none = ap (λ (ps : List CellBelief). length (chars_known ps)) (append-nil (drop at whole)) in
    let same : at + length (chars_known (drop at whole ++ [])) ≡ next = omega arith in
    fields_left whole at [] ∙ ap (λ (n : ℕ). beliefs_held whole n (drop n whole)) same
