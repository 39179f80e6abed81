-- Items above the row for messages, and that row at the end of the screen.
use Rattle.std.proofs.Common.{◌≡◌, ◌<◌, ◌≤◌, ◌+◌, ◌-◌, ◌*◌, ◌∙◌, ℕ, zero, suc, List, ℤ, pos, ◌-ℤ◌, ◌≤ℤ◌, true, false, ◌&&◌, Option, None, Some, ap, sym, subst, arith}
use Rattle.std.specs.Prelude.{All, MatchOption, int_le, slice_get}
use Rattle.std.proofs.lemmas.Bool.{and_parts}
use Rattle.std.proofs.lemmas.Int.{ints}
use Rattle.std.proofs.lemmas.Option.{slice_get_within, get_or_from_slice_get}
use Rattle.std.proofs.Math.Nat.{suc-mul}
use Rattle.codes3270.specs.Size.{ScreenSize, cells_in, alternate_of}
use Rattle.codes3270.specs.declared.size.Model.{Model}
use Rattle.codes3270.specs.declared.size.Model.TheVariants.{M2, M3, M4, M5}
use Rattle.panels.specs.declared.extent.Extent.{Extent}
use Rattle.panels.specs.Draft.{DraftItem}
use Rattle.panels.specs.Items.{IsExtentOf, is_in_rows, is_on_screen, is_above_message, first_cell}
use Rattle.panels.specs.Panel.{IsAbove}
use Rattle.panels.specs.Size.{message_start}

-- what holds of each thing of a list holds of the one at a place
pub all_at : {X : Type 0} (P : X → Type 0) (xs : List X) (i : ℕ) (x : X) → All P xs → slice_get xs i ≡ Some x → P x
all_at P xs i x all there = subst P (get_or_from_slice_get xs i x x there) (all i x (slice_get_within xs i x there))

-- ---- the row for messages

one_less : (n : ℕ) → suc n - 1 ≡ n
one_less n = omega arith

some_row : (rows columns : ℕ) → 0 < rows * columns → (rows - 1) * columns + columns ≡ rows * columns
some_row zero columns some = absurd (omega arith)
some_row (suc rows) columns some = ap (λ n. n * columns + columns) (one_less rows) ∙ sym (suc-mul rows columns)

-- it ends where the screen ends
pub row_ends : (shape : ScreenSize) → 0 < cells_in shape → message_start shape + shape.columns ≡ cells_in shape
row_ends shape some = some_row shape.rows shape.columns some

some_column : (rows columns : ℕ) → 0 < rows * columns → 0 < columns
some_column rows zero some = absurd (omega (arith, none rows, some))
  where
    none : (n : ℕ) → n * 0 ≡ 0
    none n = omega arith
some_column rows (suc columns) some = omega arith

pub start_before_end : (shape : ScreenSize) → 0 < cells_in shape → message_start shape < cells_in shape
start_before_end shape some =
    let column = some_column shape.rows shape.columns some in
    let ends = row_ends shape some in
    omega (arith, column, ends)

pub cells_some : (model : Model) → 0 < cells_in (alternate_of model)
cells_some M2 = omega arith
cells_some M3 = omega arith
cells_some M4 = omega arith
cells_some M5 = omega arith

-- ---- the items

-- what is found at the address of an item in the rows is the item's extent
pub extent_is : (size : ScreenSize) (item : DraftItem) (address length : ℤ) (o : Option Extent) → is_in_rows size item ≡ true → address ≡ first_cell size item → length ≡ item.size
    → MatchOption o (is_above_message size address length ≡ false) (λ extent. (is_above_message size address length ≡ true) × (pos extent.first ≡ address) × (pos extent.length ≡ length))
    → MatchOption o (is_on_screen size item ≡ false) (λ extent. (is_on_screen size item ≡ true) × IsExtentOf size item extent)
extent_is size item address length None inside at of is =
    ap (λ b. b && is_above_message size (first_cell size item) item.size) inside
    ∙ subst (λ n. is_above_message size (first_cell size item) n ≡ false) of (subst (λ f. is_above_message size f length ≡ false) at is)
extent_is size item address length (Some extent) inside at of (is, first, long) = (
  ap (λ b. b && is_above_message size (first_cell size item) item.size) inside
      ∙ subst (λ n. is_above_message size (first_cell size item) n ≡ true) of (subst (λ f. is_above_message size f length ≡ true) at is),
  (first ∙ at, long ∙ of),
)

le_of : (a b : ℤ) → int_le a b ≡ true → a ≤ℤ b
le_of a b is = omega (arith, ints, is)

above : (start first size : ℕ) → pos size ≤ℤ (pos start -ℤ pos first) → first + size ≤ start
above start first size fits = omega (arith, ints, fits)

-- an item on a screen lies above the row
pub item_above : (shape : ScreenSize) (item : DraftItem) (extent : Extent) → is_on_screen shape item ≡ true → IsExtentOf shape item extent → IsAbove shape extent
item_above shape item extent on is =
    let inner = (and_parts _ (is_above_message shape (first_cell shape item) item.size) on).1 in
    let fits : int_le item.size (pos (message_start shape) -ℤ first_cell shape item) ≡ true = (and_parts _ _ (and_parts _ _ inner).1).1 in
    above (message_start shape) extent.first extent.length
    (subst (λ f. pos extent.length ≤ℤ (pos (message_start shape) -ℤ f)) (sym is.0)
    (subst (λ l. l ≤ℤ (pos (message_start shape) -ℤ first_cell shape item)) (sym is.1) (le_of _ _ fits)))
