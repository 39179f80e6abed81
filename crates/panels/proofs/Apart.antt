-- No two items of a panel share a cell.
use Rattle.std.proofs.Common.{◌≡◌, ◌<◌, ◌≤◌, ◌+◌, ◌-◌, ℕ, pos, ◌+ℤ◌, ◌≤ℤ◌, List, length, Some, refl, ap, sym, ◌∙◌, subst, true, arith, inl, inr}
use Rattle.std.specs.Prelude.{◌⊎◌, slice_get}
use Rattle.std.specs.Option.{option_and_then}
use Rattle.std.proofs.lemmas.Int.{ints}
use Rattle.std.proofs.lemmas.Option.{slice_get_within}
use Rattle.codes3270.specs.Size.{ScreenSize}
use Rattle.panels.specs.declared.extent.Extent.{Extent}
use Rattle.panels.specs.declared.fault.TreeFault.TheVariants as fault
use Rattle.panels.specs.declared.panel.Field.{Field as FieldItem}
use Rattle.panels.specs.declared.panel.TextItem.{TextItem}
use Rattle.panels.specs.declared.fault.Location.{Location}
use Rattle.panels.specs.declared.fault.Location.TheVariants.{Text, Field}
use Rattle.panels.specs.Draft.{DraftItem, DraftPanel, DraftText, draft_size, field_count, fields_of, values_of}
use Rattle.panels.specs.Items.{HasCell, IsExtentOf, is_on_screen}
use Rattle.panels.specs.Faults.{IsItemBefore, Overlaps, item_at, size_at}
use Rattle.panels.specs.Passes.{IsFaultless}
use Rattle.panels.specs.Panel.{PanelParts, IsCellOf, ShareNoCell, HasItemsApart}
use Rattle.panels.specs.Defines.{AreTextsOf, IsTextOf, IsFieldOf, IsPanelOf, IsShownOf, fields_before, first_value}
use Rattle.panels.proofs.Dividing.{either, field_at, field_below, value_at}
use Rattle.panels.proofs.Faultless.{no_fault, item_is_part, on_screen, text_shape, field_shape, draft_of_each}

-- a cell of an extent is one of the item
sides : (first size cell : ℕ) → first ≤ cell + 1 → cell + 1 ≤ first + size → (pos first ≤ℤ (pos cell +ℤ pos 1)) × ((pos cell +ℤ pos 1) ≤ℤ (pos first +ℤ pos size))
sides first size cell low high = (omega (arith, ints), omega (arith, ints))

cell_of_item : (shape : ScreenSize) (item : DraftItem) (extent : Extent) (cell : ℕ) → IsExtentOf shape item extent → IsCellOf extent cell → HasCell shape item (pos cell)
cell_of_item shape item extent cell is has =
    subst (λ f. (f ≤ℤ (pos cell +ℤ pos 1)) × ((pos cell +ℤ pos 1) ≤ℤ (f +ℤ item.size))) is.0
    (subst (λ l. (pos extent.first ≤ℤ (pos cell +ℤ pos 1)) × ((pos cell +ℤ pos 1) ≤ℤ (pos extent.first +ℤ l))) is.1 (sides extent.first extent.length cell has.0 has.1))

-- a shared cell would be a fault of the later item
items_of : (draft : DraftText) (shape : ScreenSize) (item other : DraftItem) (part earlier : Location) (one later : Extent) → IsFaultless draft → size_at part draft.panels ≡ shape
    → size_at earlier draft.panels ≡ shape → item_at part draft.panels ≡ Some item → item_at earlier draft.panels ≡ Some other → IsItemBefore earlier part
    → IsExtentOf shape other one → IsExtentOf shape item later → ShareNoCell one later
items_of draft shape item other part earlier one later clean at other_at there other_there before one_is later_is = λ cell has later_has.
    let overlap : Overlaps shape item other = record {
      on_screen = subst (λ s. is_on_screen s item ≡ true) at (on_screen draft part item clean there);
      other_on_screen = subst (λ s. is_on_screen s other ≡ true) other_at (on_screen draft earlier other clean other_there);
      cell = pos cell;
      has_cell = cell_of_item shape item later cell later_is later_has;
      other_has_cell = cell_of_item shape other one cell one_is has;
    } in
    no_fault draft part fault.Overlap clean (item_is_part part draft.panels item there)
    (earlier, item, other, before, there, other_there, subst (λ s. Overlaps s item other) (sym at) overlap)

-- the item that one of a panel's texts is: a text, or a value, which comes after all fields
abbrev IsOwn : DraftText → ℕ → DraftPanel → ℕ → Extent → Type 0
IsOwn draft p inner i extent = (item : DraftItem) × (i < length inner.texts) × (item_at (Text p i) draft.panels ≡ Some item) × IsExtentOf (draft_size inner) item extent

abbrev IsShown : DraftText → ℕ → DraftPanel → ℕ → Extent → Type 0
IsShown draft p inner i extent = (k : ℕ) × (item : DraftItem) × (length inner.texts + k ≡ i)
    × (item_at (Field p (field_count inner.fields + k)) draft.panels ≡ Some item) × IsExtentOf (draft_size inner) item extent

own_or_shown : (draft : DraftText) (p : ℕ) (inner : DraftPanel) (texts : List TextItem) (i : ℕ) (text : TextItem) → slice_get draft.panels p ≡ Some inner → AreTextsOf draft.panels p inner texts
    → slice_get texts i ≡ Some text → IsOwn draft p inner i text.extent ⊎ IsShown draft p inner i text.extent
own_or_shown draft p inner texts i text at_p are at_i =
    elim (either are.own are.shown i text (subst (λ list. slice_get list i ≡ Some text) are.all at_i)) [
      | inl own ↦
          let (item, there, is) = draft_of_each (λ i. IsTextOf (draft_size inner) draft.panels) inner.texts are.own i text are.are_own own in
          inl (item, slice_get_within inner.texts i item there, ap (option_and_then (λ (panel : DraftPanel). slice_get panel.texts i)) at_p ∙ there, is.extent)
      | inr (past, shown) ↦
          let k = i - length are.own in
          let (item, there, is) =
          draft_of_each (λ i. IsShownOf (draft_size inner) (first_value p draft.panels inner + i)) (values_of inner) are.shown k text are.are_shown shown in
          inr (k, item, omega (arith, past, are.are_own.size), value_at draft.panels inner p k item at_p there, is.extent)
    ]

swapped : (one other : Extent) → ShareNoCell other one → ShareNoCell one other
swapped one other apart = λ cell has also. apart cell also has

module _ (draft : DraftText) (p : ℕ) (inner : DraftPanel) (clean : IsFaultless draft) (at_p : slice_get draft.panels p ≡ Some inner) where
  abbrev shape : ScreenSize
  shape = draft_size inner

  two_texts : (i j : ℕ) (one other : Extent) → i < j → IsOwn draft p inner i one ⊎ IsShown draft p inner i one → IsOwn draft p inner j other ⊎ IsShown draft p inner j other
      → ShareNoCell one other
  two_texts i j one other less (inl (a, a_below, a_there, a_is)) (inl (b, b_below, b_there, b_is)) =
      items_of draft shape b a (Text p j) (Text p i) one other clean (text_shape draft.panels inner p j at_p) (text_shape draft.panels inner p i at_p) b_there a_there (refl, less) a_is b_is
  two_texts i j one other less (inl (a, a_below, a_there, a_is)) (inr (k, b, b_at, b_there, b_is)) =
      let place = field_count inner.fields + k in
      items_of draft shape b a (Field p place) (Text p i) one other clean (field_shape draft.panels inner p place at_p) (text_shape draft.panels inner p i at_p) b_there a_there refl a_is b_is
  two_texts i j one other less (inr (m, a, a_at, a_there, a_is)) (inl (b, b_below, b_there, b_is)) = absurd (omega (arith, less, a_at, b_below))
  two_texts i j one other less (inr (m, a, a_at, a_there, a_is)) (inr (k, b, b_at, b_there, b_is)) =
      let first = field_count inner.fields + m in
      let second = field_count inner.fields + k in
      items_of draft shape b a (Field p second) (Field p first) one other clean (field_shape draft.panels inner p second at_p) (field_shape draft.panels inner p first at_p) b_there a_there
      (refl, omega (arith, less, a_at, b_at)) a_is b_is

  text_and_field : (i j : ℕ) (b : DraftItem) (one other : Extent) → IsOwn draft p inner i one ⊎ IsShown draft p inner i one → slice_get (fields_of inner) j ≡ Some b → IsExtentOf shape b other
      → ShareNoCell one other
  text_and_field i j b one other (inl (a, a_below, a_there, a_is)) b_in b_is =
      items_of draft shape b a (Field p j) (Text p i) one other clean (field_shape draft.panels inner p j at_p) (text_shape draft.panels inner p i at_p)
      (field_at draft.panels inner p j b at_p b_in) a_there refl a_is b_is
  text_and_field i j b one other (inr (k, a, a_at, a_there, a_is)) b_in b_is =
      let place = field_count inner.fields + k in
      let before : j < place = omega (arith, field_below inner j b b_in) in
      swapped one other (items_of draft shape a b (Field p place) (Field p j) other one clean (field_shape draft.panels inner p place at_p) (field_shape draft.panels inner p j at_p)
      a_there (field_at draft.panels inner p j b at_p b_in) (refl, before) b_is a_is)

pub items_apart : (draft : DraftText) (p : ℕ) (inner : DraftPanel) (panel : PanelParts) → IsFaultless draft → slice_get draft.panels p ≡ Some inner
    → IsPanelOf draft.panels p inner panel → HasItemsApart panel
items_apart draft p inner panel clean at_p is =
    let shape = draft_size inner in
    let at_field = λ (i : ℕ). field_shape draft.panels inner p i at_p in
    let kind = λ (i : ℕ) (text : TextItem) (at_i : slice_get panel.texts i ≡ Some text). own_or_shown draft p inner panel.texts i text at_p is.texts at_i in
    let field = λ (i : ℕ) (field : FieldItem) (at_i : slice_get panel.fields i ≡ Some field).
    draft_of_each (λ i. IsFieldOf shape (fields_before p draft.panels + i)) (fields_of inner) panel.fields i field is.fields at_i in
    record {
      texts = λ i j one other less at_i at_j. two_texts draft p inner clean at_p i j one.extent other.extent less (kind i one at_i) (kind j other at_j);
      fields = λ i j one other less at_i at_j.
          let (a, a_there, a_is) = field i one at_i in
          let (b, b_there, b_is) = field j other at_j in
          items_of draft shape b a (Field p j) (Field p i) one.extent other.extent clean (at_field j) (at_field i) (field_at draft.panels inner p j b at_p b_there)
          (field_at draft.panels inner p i a at_p a_there) (refl, less) a_is.extent b_is.extent;
      both = λ i j one other at_i at_j.
          let (b, b_there, b_is) = field j other at_j in
          text_and_field draft p inner clean at_p i j b one.extent other.extent (kind i one at_i) b_there b_is.extent;
    }
