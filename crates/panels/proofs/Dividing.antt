-- A panel's items: its fields, and after these its values.
use Rattle.std.proofs.Common.{◌≡◌, ◌<◌, ◌≤◌, ◌+◌, ◌-◌, ℕ, zero, suc, List, [], ◌∷◌, ◌++◌, length, take, drop, Option, Some, None, refl, ap, sym, subst, ◌∙◌, arith, inl, inr}
use Rattle.std.specs.Prelude.{◌⊎◌, position, slice_get, unwrap_or}
use Rattle.std.specs.Option.{option_and_then}
use Rattle.std.proofs.lemmas.List.{length-take-le}
use Rattle.std.proofs.lemmas.List.Quantifiers.{position-Some}
use Rattle.std.proofs.lemmas.Option.{slice_get_within}
use Rattle.panels.specs.declared.fault.Location.TheVariants.{Field}
use Rattle.panels.specs.Draft.{DraftItem, DraftPanel, field_count, fields_of, values_of}
use Rattle.panels.specs.Faults.{item_at}

pub taken : {X : Type 0} (n i : ℕ) (xs : List X) (x : X) → slice_get (take n xs) i ≡ Some x → (slice_get xs i ≡ Some x) × (i < n)
taken zero i xs x is = cc
taken (suc n) i [] x is = cc
taken (suc n) zero (y ∷ xs) x is = (is, omega arith)
taken (suc n) (suc i) (y ∷ xs) x is =
    let (there, below) = taken n i xs x is in
    (there, omega (arith, below))

pub dropped : {X : Type 0} (n i : ℕ) (xs : List X) → slice_get (drop n xs) i ≡ slice_get xs (n + i)
dropped zero i xs =
    let none : i ≡ 0 + i = omega arith in
    ap (slice_get xs) none
dropped (suc n) i [] = refl
dropped (suc n) i (x ∷ xs) =
    let more : suc (n + i) ≡ suc n + i = omega arith in
    dropped n i xs ∙ ap (slice_get (x ∷ xs)) more

found_within : (items : List DraftItem) (found : Option ℕ) → position (λ item. item.is_value) items ≡ found → unwrap_or found (length items) ≤ length items
found_within items None is = omega arith
found_within [] (Some n) is = cc
found_within (item ∷ items) (Some n) is =
    let below = (position-Some (λ (item : DraftItem). item.is_value) (item ∷ items) n item is).0 in
    omega (arith, below)

pub count_within : (items : List DraftItem) → field_count items ≤ length items
count_within items = found_within items (position (λ item. item.is_value) items) refl

pub field_there : (panel : DraftPanel) (i : ℕ) (item : DraftItem) → slice_get (fields_of panel) i ≡ Some item → slice_get panel.fields i ≡ Some item
field_there panel i item is = (taken (field_count panel.fields) i panel.fields item is).0

pub field_below : (panel : DraftPanel) (i : ℕ) (item : DraftItem) → slice_get (fields_of panel) i ≡ Some item → i < field_count panel.fields
field_below panel i item is = (taken (field_count panel.fields) i panel.fields item is).1

pub value_there : (panel : DraftPanel) (i : ℕ) (item : DraftItem) → slice_get (values_of panel) i ≡ Some item → slice_get panel.fields (field_count panel.fields + i) ≡ Some item
value_there panel i item is = sym (dropped (field_count panel.fields) i panel.fields) ∙ is

-- of a panel of a text
pub field_at : (panels : List DraftPanel) (panel : DraftPanel) (p i : ℕ) (item : DraftItem) → slice_get panels p ≡ Some panel → slice_get (fields_of panel) i ≡ Some item
    → item_at (Field p i) panels ≡ Some item
field_at panels panel p i item at_p there = ap (option_and_then (λ (panel : DraftPanel). slice_get panel.fields i)) at_p ∙ field_there panel i item there

pub value_at : (panels : List DraftPanel) (panel : DraftPanel) (p i : ℕ) (item : DraftItem) → slice_get panels p ≡ Some panel → slice_get (values_of panel) i ≡ Some item
    → item_at (Field p (field_count panel.fields + i)) panels ≡ Some item
value_at panels panel p i item at_p there =
    let place = field_count panel.fields + i in
    ap (option_and_then (λ (other : DraftPanel). slice_get other.fields place)) at_p ∙ value_there panel i item there

-- how many there are of each
pub fields_few : (panel : DraftPanel) → length (fields_of panel) ≡ field_count panel.fields
fields_few panel = length-take-le (field_count panel.fields) panel.fields (count_within panel.fields)

pub value_below : (panel : DraftPanel) (i : ℕ) (item : DraftItem) → slice_get (values_of panel) i ≡ Some item → field_count panel.fields + i < length panel.fields
value_below panel i item is = slice_get_within panel.fields (field_count panel.fields + i) item (value_there panel i item is)

-- an item of two lists, one behind the other
pub either : {X : Type 0} (xs ys : List X) (i : ℕ) (x : X) → slice_get (xs ++ ys) i ≡ Some x → (slice_get xs i ≡ Some x) ⊎ ((length xs ≤ i) × (slice_get ys (i - length xs) ≡ Some x))
either [] ys i x is =
    let none : i ≡ i - 0 = omega arith in
    inr (omega arith, subst (λ k. slice_get ys k ≡ Some x) none is)
either (y ∷ xs) ys zero x is = inl is
either (y ∷ xs) ys (suc i) x is =
    elim (either xs ys i x is) [
      | inl first ↦ inl first
      | inr (past, second) ↦
          let same : i - length xs ≡ suc i - length (y ∷ xs) = omega (arith, past) in
          inr (omega (arith, past), subst (λ k. slice_get ys k ≡ Some x) same second)
    ]
