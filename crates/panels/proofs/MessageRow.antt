-- On each screen that a panel asks for, the last row is the message's.
use Rattle.std.proofs.Common.{◌≡◌, ◌==◌, ◌<◌, ◌≤◌, ◌+◌, ◌-◌, ◌∙◌, ℕ, zero, suc, Bool, true, false, cond, List, [], ◌∷◌, Option, Some, None, refl, ap, arith}
use Rattle.std.specs.Prelude.{nat_lt, slice_get, slice_index_or, option_map, unwrap_or}
use Rattle.std.specs.Option.{option_or}
use Rattle.std.specs.Int.{is_in_range}
use Rattle.std.proofs.lemmas.Bool.Decides.{nat_tests}
use Rattle.codes3270.specs.declared.attribute.Attr.{Attr}
use Rattle.codes3270.specs.declared.size.Model.TheVariants.{M2, M3, M4, M5}
use Rattle.datastream.specs.declared.wanted.Want.{Want}
use Rattle.datastream.specs.declared.wanted.Want.TheVariants as want
use Rattle.panels.specs.declared.extent.Extent.{Extent}
use Rattle.panels.specs.declared.message.Message.{Message}
use Rattle.panels.specs.declared.panel.Field.{Field}
use Rattle.panels.specs.declared.panel.TextItem.{TextItem}
use Rattle.panels.specs.Size.{message_start}
use Rattle.panels.specs.Panel.{PanelParts, IsLaidOut, IsAbove, size_of}
use Rattle.panels.specs.Screen.{Values, distance_in, item_cell, autoskip_attr, text_cell, field_cell, stopper_cell, message_text, message_cell, first_some, wanted_cell}
use Rattle.panels.specs.MessageRow.{PanelsLeaveTheRow, TheRowIsTheMessage, TheRoomIsTheRow}
use Rattle.panels.proofs.Placing.{all_at, cells_some, start_before_end}
use Rattle.panels.proofs.Screens.{cell_of_screen}

-- ---- no item comes there

no_distance : (extent : Extent) (cell : ℕ) (b : Bool) → b ≡ false → cond b (Some (cell + 1 - extent.first)) None ≡ None
no_distance extent cell b is = rw is refl

past_end : (start first size cell : ℕ) → first + size ≤ start → start ≤ cell → is_in_range first (first + size) (cell + 1) ≡ false
past_end start first size cell above below = grind (arith, nat_tests)

past_item : (start : ℕ) (extent : Extent) (cell : ℕ) → extent.first + extent.length ≤ start → start ≤ cell → distance_in extent cell ≡ None
past_item start extent cell above below =
    no_distance extent cell (is_in_range extent.first (extent.first + extent.length) (cell + 1)) (past_end start extent.first extent.length cell above below)

none_of : {X : Type 0} (find : X → Option Want) (xs : List X) → ((i : ℕ) (x : X) → slice_get xs i ≡ Some x → find x ≡ None) → first_some find xs ≡ None
none_of find [] each = refl
none_of find (x ∷ xs) each = ap (λ o. option_or o (first_some find xs)) (each zero x refl) ∙ none_of find xs (λ i y there. each (suc i) y there)

no_text : (panel : PanelParts) (values : Values) (cell : ℕ) → IsLaidOut panel → message_start (size_of panel) ≤ cell → first_some (text_cell values cell) panel.texts ≡ None
no_text panel values cell laid below =
    none_of (text_cell values cell) panel.texts (λ i text there.
    ap (option_map _) (past_item (message_start (size_of panel)) text.extent cell (all_at (λ (text : TextItem). IsAbove (size_of panel) text.extent) panel.texts i text laid.texts there) below))

no_field : (panel : PanelParts) (values : Values) (message : Message) (keep : Bool) (cell : ℕ) → IsLaidOut panel → message_start (size_of panel) ≤ cell
    → first_some (field_cell values message keep cell) panel.fields ≡ None
no_field panel values message keep cell laid below =
    none_of (field_cell values message keep cell) panel.fields (λ i field there.
    ap (option_map _) (past_item (message_start (size_of panel)) field.extent cell (all_at (λ (field : Field). IsAbove (size_of panel) field.extent) panel.fields i field laid.fields there) below))

-- ---- so the message has it

not_before : (b : Bool) (w : Want) → b ≡ false → cond b None (Some w) ≡ Some w
not_before b w is = rw is refl

past_start : (start cell : ℕ) → start ≤ cell → nat_lt cell start ≡ false
past_start start cell below = grind (arith, nat_tests)

layer : (texts fields message stoppers : Option Want) (w null : Want) → texts ≡ None → fields ≡ None → message ≡ Some w
    → unwrap_or (option_or texts (option_or fields (option_or message stoppers))) null ≡ w
layer texts fields message stoppers w null t f m = rw (t, f, m) refl

abbrev row_cell : ℕ → PanelParts → Message → ℕ → Want
row_cell start panel message cell = item_cell (autoskip_attr true) (message_text panel.fields message) (cell - start)

in_row : (panel : PanelParts) (values : Values) (message : Message) (keep : Bool) (cell : ℕ) → IsLaidOut panel → message_start (size_of panel) ≤ cell
    → wanted_cell panel values message keep cell ≡ row_cell (message_start (size_of panel)) panel message cell
in_row panel values message keep cell laid below =
    let start = message_start (size_of panel) in
    layer (first_some (text_cell values cell) panel.texts) (first_some (field_cell values message keep cell) panel.fields) (message_cell start panel.fields message cell)
    (first_some (stopper_cell cell) panel.fields) (row_cell start panel message cell) (want.Char 0)
    (no_text panel values cell laid below) (no_field panel values message keep cell laid below)
    (not_before (nat_lt cell start) (row_cell start panel message cell) (past_start start cell below))

pub row_is_message : TheRowIsTheMessage
row_is_message panel values message keep cell laid below within =
    cell_of_screen panel values message keep cell within ∙ ap Some (in_row panel values message keep cell laid below)

-- ---- its attribute, and characters behind it

attr_first : (attr : Attr) (content : List ℕ) (distance : ℕ) → distance ≡ 0 → item_cell attr content distance ≡ want.Attr attr
attr_first attr content distance is = rw is refl

later_char : (attr : Attr) (content : List ℕ) (distance : ℕ) (b : Bool) → b ≡ false
    → cond b (want.Attr attr) (want.Char (slice_index_or content (distance - 1) 0)) ≡ want.Char (slice_index_or content (distance - 1) 0)
later_char attr content distance b is = rw is refl

some_distance : (start cell : ℕ) → start < cell → ((cell - start) == 0) ≡ false
some_distance start cell after = grind (arith, nat_tests)

le_self : (start : ℕ) → start ≤ start
le_self start = omega arith

no_way : (start : ℕ) → start - start ≡ 0
no_way start = omega arith

after_start : (start cell : ℕ) → start < cell → start ≤ cell
after_start start cell after = omega arith

pub row_is_left : PanelsLeaveTheRow
row_is_left panel values message keep laid =
    let start = message_start (size_of panel) in
    record {
      attribute =
          row_is_message panel values message keep start laid (le_self start) (start_before_end (size_of panel) (cells_some panel.model))
          ∙ ap Some (attr_first (autoskip_attr true) (message_text panel.fields message) (start - start) (no_way start));
      characters = λ cell after within. (
        slice_index_or (message_text panel.fields message) (cell - start - 1) 0,
        row_is_message panel values message keep cell laid (after_start start cell after) within
            ∙ ap Some (later_char (autoskip_attr true) (message_text panel.fields message) (cell - start) ((cell - start) == 0) (some_distance start cell after)),
      );
    }

-- the room for a message is the rest of the row
pub room_is_row : TheRoomIsTheRow
room_is_row M2 = refl
room_is_row M3 = refl
room_is_row M4 = refl
room_is_row M5 = refl
