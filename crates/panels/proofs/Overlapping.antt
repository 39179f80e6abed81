-- Items that share a cell.
use Rattle.std.proofs.Common.{◌≡◌, ◌<◌, ◌≤◌, ◌+◌, ℕ, ℤ, pos, ◌+ℤ◌, ◌-ℤ◌, ◌≤ℤ◌, List, length, Option, Some, None, Bool, true, ◌&&◌, refl, sym, ◌∙◌, subst, inl, inr, arith}
use Rattle.std.proofs.lemmas.Int.{ints}
use Rattle.std.specs.Prelude.{◌⊎◌, nat_le, slice_get}
use Rattle.std.specs.Option.{option_and_then, option_map_or}
use Rattle.std.proofs.lemmas.Bool.Decides.{nat_tests}
use Rattle.std.proofs.lemmas.Option.{same_Some, slice_get_within}
use Rattle.codes3270.specs.Size.{ScreenSize}
use Rattle.panels.specs.declared.extent.Extent.{Extent}
use Rattle.panels.specs.declared.fault.Location.{Location}
use Rattle.panels.specs.declared.fault.Location.TheVariants.{Top, Panel, Text, Field, Value, Keys}
use Rattle.panels.specs.Draft.{DraftItem, DraftPanel}
use Rattle.panels.specs.Items.{IsExtentOf, is_on_screen, HasCell}
use Rattle.panels.specs.Faults.{IsOverlapping, Overlaps, item_at, size_at}
use Rattle.panels.specs.Walk.{nth}

abbrev meets : Extent → Extent → Bool
meets one other = nat_le one.first (other.first + other.length) && nat_le other.first (one.first + one.length)

ordered : (a b : ℕ) → (a ≤ b) ⊎ (b ≤ a)
ordered a b = grind arith

-- intervals that meet share a point, and the other way round
shared_point : (a m b n : ℕ) → a ≤ b + n → b ≤ a + m
    → (cell : ℤ) × ((pos a ≤ℤ (cell +ℤ pos 1)) × ((cell +ℤ pos 1) ≤ℤ (pos a +ℤ pos m))) × ((pos b ≤ℤ (cell +ℤ pos 1)) × ((cell +ℤ pos 1) ≤ℤ (pos b +ℤ pos n)))
shared_point a m b n first second =
    elim (ordered a b) [
      | inl le ↦ (pos b -ℤ pos 1, (omega (arith, ints), omega (arith, ints)), (omega (arith, ints), omega (arith, ints)))
      | inr ge ↦ (pos a -ℤ pos 1, (omega (arith, ints), omega (arith, ints)), (omega (arith, ints), omega (arith, ints)))
    ]

point_meets : (a b n : ℕ) (cell : ℤ) → pos a ≤ℤ (cell +ℤ pos 1) → (cell +ℤ pos 1) ≤ℤ (pos b +ℤ pos n) → a ≤ b + n
point_meets a b n cell low high = omega (arith, ints)

tests_meet : (a m b n : ℕ) → (nat_le a (b + n) && nat_le b (a + m)) ≡ true → (a ≤ b + n) × (b ≤ a + m)
tests_meet a m b n is = grind (arith, nat_tests)

meet_tests : (a m b n : ℕ) → a ≤ b + n → b ≤ a + m → (nat_le a (b + n) && nat_le b (a + m)) ≡ true
meet_tests a m b n first second = grind (arith, nat_tests)

pub overlap_of : (shape : ScreenSize) (item other : DraftItem) (a b : Extent) → is_on_screen shape item ≡ true → is_on_screen shape other ≡ true → IsExtentOf shape item a
    → IsExtentOf shape other b → meets a b ≡ true → Overlaps shape item other
overlap_of shape item other a b on_screen other_on_screen a_is b_is met =
    let sides = tests_meet a.first a.length b.first b.length met in
    let point = shared_point a.first a.length b.first b.length sides.0 sides.1 in
    record {
      on_screen = on_screen;
      other_on_screen = other_on_screen;
      cell = point.0;
      has_cell = subst (λ f. (f ≤ℤ (point.0 +ℤ pos 1)) × ((point.0 +ℤ pos 1) ≤ℤ (f +ℤ item.size))) a_is.0 (subst (λ l. (pos a.first ≤ℤ (point.0 +ℤ pos 1)) × ((point.0 +ℤ pos 1) ≤ℤ (pos a.first +ℤ l))) a_is.1 point.1);
      other_has_cell = subst (λ f. (f ≤ℤ (point.0 +ℤ pos 1)) × ((point.0 +ℤ pos 1) ≤ℤ (f +ℤ other.size))) b_is.0 (subst (λ l. (pos b.first ≤ℤ (point.0 +ℤ pos 1)) × ((point.0 +ℤ pos 1) ≤ℤ (pos b.first +ℤ l))) b_is.1 point.2);
    }

cells_of : (shape : ScreenSize) (item : DraftItem) (a : Extent) (cell : ℤ) → IsExtentOf shape item a → HasCell shape item cell → (pos a.first ≤ℤ (cell +ℤ pos 1)) × ((cell +ℤ pos 1) ≤ℤ (pos a.first +ℤ pos a.length))
cells_of shape item a cell is has =
    subst (λ l. (pos a.first ≤ℤ (cell +ℤ pos 1)) × ((cell +ℤ pos 1) ≤ℤ (pos a.first +ℤ l))) (sym is.1)
    (subst (λ f. (f ≤ℤ (cell +ℤ pos 1)) × ((cell +ℤ pos 1) ≤ℤ (f +ℤ item.size))) (sym is.0) has)

pub meet_of : (shape : ScreenSize) (item other : DraftItem) (a b : Extent) → IsExtentOf shape item a → IsExtentOf shape other b → Overlaps shape item other → meets a b ≡ true
meet_of shape item other a b a_is b_is overlap =
    let mine = cells_of shape item a overlap.cell a_is overlap.has_cell in
    let theirs = cells_of shape other b overlap.cell b_is overlap.other_has_cell in
    meet_tests a.first a.length b.first b.length
    (point_meets a.first b.first b.length overlap.cell mine.0 theirs.1)
    (point_meets b.first a.first a.length overlap.cell theirs.0 mine.1)

pub overlap_tells : (shape : ScreenSize) (item other : DraftItem) (a b : Extent) → (is_on_screen shape item ≡ true) × IsExtentOf shape item a
    → (is_on_screen shape other ≡ true) × IsExtentOf shape other b → (meets a b ≡ true → Overlaps shape item other) × (Overlaps shape item other → meets a b ≡ true)
overlap_tells shape item other a b is also =
    (λ met. overlap_of shape item other a b is.0 also.0 is.1 also.1 met, λ overlap. meet_of shape item other a b is.1 also.1 overlap)

below_or_at : (i n : ℕ) → i < n + 1 → (i < n) ⊎ (i ≡ n)
below_or_at i n below = grind arith

pub one_more : (Is : ℕ → Type 0) (n : ℕ) → ((j : ℕ) → j < n → Is j) → Is n → (j : ℕ) → j < n + 1 → Is j
one_more Is n all here j below = elim (below_or_at j n below) [ inl less ↦ all j less | inr same ↦ subst Is (sym same) here ]

-- an item of an array that shares a cell, on a screen
abbrev pub MeetsOne : ScreenSize → List DraftPanel → DraftItem → Location → ℕ → Type 0
MeetsOne shape panels item array count = (j : ℕ) × (other : DraftItem) × (j < count) × (item_at (nth array j) panels ≡ Some other) × Overlaps shape item other

abbrev pub Tells : Bool → Type 0 → Type 0
Tells r P = (r ≡ true → P) × (P → r ≡ true)

same_item : (panels : List DraftPanel) (part : Location) (item other : DraftItem) → item_at part panels ≡ Some item → item_at part panels ≡ Some other → item ≡ other
same_item panels part item other is also = same_Some item other (sym is ∙ also)

text_overlaps : (panels : List DraftPanel) (p i : ℕ) (item : DraftItem) → item_at (Text p i) panels ≡ Some item → MeetsOne (size_at (Text p i) panels) panels item (Text p i) i → IsOverlapping (Text p i) panels
text_overlaps panels p i item is (j, other, less, at_j, overlap) = (Text p j, item, other, (refl, less), is, at_j, overlap)

overlaps_text : (panels : List DraftPanel) (p i : ℕ) (item : DraftItem) → item_at (Text p i) panels ≡ Some item → IsOverlapping (Text p i) panels → MeetsOne (size_at (Text p i) panels) panels item (Text p i) i
overlaps_text panels p i item is (Top, one, other, before, at_i, at_e, overlap) = absurd before
overlaps_text panels p i item is (Panel q, one, other, before, at_i, at_e, overlap) = absurd before
overlaps_text panels p i item is (Field q j, one, other, before, at_i, at_e, overlap) = absurd before
overlaps_text panels p i item is (Keys q, one, other, before, at_i, at_e, overlap) = absurd before
overlaps_text panels p i item is (Value q j, one, other, before, at_i, at_e, overlap) = absurd before
overlaps_text panels p i item is (Text q j, one, other, before, at_i, at_e, overlap) =
    (j, other, before.1, subst (λ r. item_at (Text r j) panels ≡ Some other) before.0 at_e, subst (λ x. Overlaps (size_at (Text p i) panels) x other) (same_item panels (Text p i) one item at_i is) overlap)

pub text_tells : (panels : List DraftPanel) (p i : ℕ) (item : DraftItem) (r : Bool) → item_at (Text p i) panels ≡ Some item → Tells r (MeetsOne (size_at (Text p i) panels) panels item (Text p i) i)
    → Tells r (IsOverlapping (Text p i) panels)
text_tells panels p i item r is tells = (λ met. text_overlaps panels p i item is (tells.0 met), λ overlap. tells.1 (overlaps_text panels p i item is overlap))

-- how many texts a panel has
abbrev texts_at : ℕ → List DraftPanel → ℕ
texts_at p panels = option_map_or (λ draft. length draft.texts) (slice_get panels p) 0

text_below : (o : Option DraftPanel) (j : ℕ) (other : DraftItem) → option_and_then (λ panel. slice_get panel.texts j) o ≡ Some other → j < option_map_or (λ draft. length draft.texts) o 0
text_below None j other is = cc
text_below (Some panel) j other is = slice_get_within panel.texts j other is

pub field_meets_text : (panels : List DraftPanel) (p i n : ℕ) (item : DraftItem) → item_at (Field p i) panels ≡ Some item → MeetsOne (size_at (Field p i) panels) panels item (Text p 0) n → IsOverlapping (Field p i) panels
field_meets_text panels p i n item is (j, other, less, at_j, overlap) = (Text p j, item, other, refl, is, at_j, overlap)

field_meets_field : (panels : List DraftPanel) (p i : ℕ) (item : DraftItem) → item_at (Field p i) panels ≡ Some item → MeetsOne (size_at (Field p i) panels) panels item (Field p i) i → IsOverlapping (Field p i) panels
field_meets_field panels p i item is (j, other, less, at_j, overlap) = (Field p j, item, other, (refl, less), is, at_j, overlap)

overlaps_field : (panels : List DraftPanel) (p i : ℕ) (item : DraftItem) → item_at (Field p i) panels ≡ Some item → IsOverlapping (Field p i) panels
    → MeetsOne (size_at (Field p i) panels) panels item (Text p 0) (texts_at p panels) ⊎ MeetsOne (size_at (Field p i) panels) panels item (Field p i) i
overlaps_field panels p i item is (Top, one, other, before, at_i, at_e, overlap) = absurd before
overlaps_field panels p i item is (Panel q, one, other, before, at_i, at_e, overlap) = absurd before
overlaps_field panels p i item is (Keys q, one, other, before, at_i, at_e, overlap) = absurd before
overlaps_field panels p i item is (Value q j, one, other, before, at_i, at_e, overlap) = absurd before
overlaps_field panels p i item is (Text q j, one, other, before, at_i, at_e, overlap) =
    let here = subst (λ r. item_at (Text r j) panels ≡ Some other) before at_e in
    inl (j, other, text_below (slice_get panels p) j other here, here, subst (λ x. Overlaps (size_at (Field p i) panels) x other) (same_item panels (Field p i) one item at_i is) overlap)
overlaps_field panels p i item is (Field q j, one, other, before, at_i, at_e, overlap) =
    inr (j, other, before.1, subst (λ r. item_at (Field r j) panels ≡ Some other) before.0 at_e, subst (λ x. Overlaps (size_at (Field p i) panels) x other) (same_item panels (Field p i) one item at_i is) overlap)

-- where it meets no text, the fields tell
pub field_tells : (panels : List DraftPanel) (p i n : ℕ) (item : DraftItem) (r : Bool) → n ≡ texts_at p panels → item_at (Field p i) panels ≡ Some item
    → ¬ MeetsOne (size_at (Field p i) panels) panels item (Text p 0) n → Tells r (MeetsOne (size_at (Field p i) panels) panels item (Field p i) i) → Tells r (IsOverlapping (Field p i) panels)
field_tells panels p i n item r all is none tells = (
  λ met. field_meets_field panels p i item is (tells.0 met),
  λ overlap. elim (overlaps_field panels p i item is overlap) [
    | inl one ↦ absurd (none (subst (λ m. MeetsOne (size_at (Field p i) panels) panels item (Text p 0) m) (sym all) one))
    | inr one ↦ tells.1 one
  ],
)

-- the same of a part that is known to be a text, or a field, and of its panel's screen
pub text_part_tells : (panels : List DraftPanel) (part : Location) (shape : ScreenSize) (p i : ℕ) (item : DraftItem) (r : Bool) → part ≡ Text p i → shape ≡ size_at part panels
    → Some item ≡ item_at part panels → Tells r (MeetsOne shape panels item (Text p i) i) → Tells r (IsOverlapping part panels)
text_part_tells panels part shape p i item r same at is tells =
    subst (λ q. shape ≡ size_at q panels → Some item ≡ item_at q panels → Tells r (IsOverlapping q panels)) (sym same)
    (λ at is. text_tells panels p i item r (sym is) (subst (λ s. Tells r (MeetsOne s panels item (Text p i) i)) at tells)) at is

pub field_part_meets : (panels : List DraftPanel) (part : Location) (shape : ScreenSize) (p i n : ℕ) (item : DraftItem) → part ≡ Field p i → shape ≡ size_at part panels
    → Some item ≡ item_at part panels → MeetsOne shape panels item (Text p 0) n → IsOverlapping part panels
field_part_meets panels part shape p i n item same at is one =
    subst (λ q. shape ≡ size_at q panels → Some item ≡ item_at q panels → IsOverlapping q panels) (sym same)
    (λ at is. field_meets_text panels p i n item (sym is) (subst (λ s. MeetsOne s panels item (Text p 0) n) at one)) at is

pub field_part_tells : (panels : List DraftPanel) (part : Location) (shape : ScreenSize) (p i n : ℕ) (item : DraftItem) (r : Bool) → part ≡ Field p i → shape ≡ size_at part panels
    → n ≡ texts_at p panels → Some item ≡ item_at part panels → ¬ MeetsOne shape panels item (Text p 0) n → Tells r (MeetsOne shape panels item (Field p i) i)
    → Tells r (IsOverlapping part panels)
field_part_tells panels part shape p i n item r same at all is none tells =
    subst (λ q. shape ≡ size_at q panels → Some item ≡ item_at q panels → Tells r (IsOverlapping q panels)) (sym same)
    (λ at is. field_tells panels p i n item r all (sym is) (subst (λ s. ¬ MeetsOne s panels item (Text p 0) n) at none)
    (subst (λ s. Tells r (MeetsOne s panels item (Field p i) i)) at tells)) at is
