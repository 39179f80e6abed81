-- The message row: the last row of each panel's screen (our profile).
use Rattle.std.specs.Prelude.{◌≡◌, ℕ, ◌<◌, ◌≤◌, ◌+◌, ◌-◌, Bool, true, Some, slice_get}
use Rattle.codes3270.specs.Size.{cells_in, alternate_of}
use Rattle.codes3270.specs.declared.size.Model.{Model}
use Rattle.datastream.specs.Wanted.{WantedScreen}
use Rattle.datastream.specs.declared.wanted.Want.TheVariants as want
use Rattle.panels.specs.declared.message.Message.{Message}
use Rattle.panels.specs.Size.{message_start, message_room}
use Rattle.panels.specs.Panel.{PanelParts, IsLaidOut, size_of}
use Rattle.panels.specs.Screen.{Values, autoskip_attr, item_cell, message_text, screen_of}

-- holds if the screen wants a character at the cell: no attribute, and nothing kept
abbrev pub HasCharacterAt : WantedScreen → ℕ → Type 0
HasCharacterAt screen cell = (byte : ℕ) × (slice_get screen.cells cell ≡ Some (want.Char byte))

-- the message row is one field, protected and bright, with characters up to the end of the screen
pub record HasMessageRow (screen : WantedScreen) : Type 0 where
  pub attribute : slice_get screen.cells (message_start screen.size) ≡ Some (want.Attr (autoskip_attr true))
  pub characters : (cell : ℕ) → message_start screen.size < cell → cell < cells_in screen.size
      → HasCharacterAt screen cell

-- Each screen that a panel asks for has the message row, whatever the values, the message and `keep` are.
abbrev pub PanelsLeaveTheRow : Type 0
PanelsLeaveTheRow = (panel : PanelParts) (values : Values) (message : Message) (keep : Bool) → IsLaidOut panel
    → HasMessageRow (screen_of panel values message keep)

-- The message row has the message, and nulls after it.
abbrev pub TheRowIsTheMessage : Type 0
TheRowIsTheMessage =
    (panel : PanelParts) (values : Values) (message : Message) (keep : Bool) (cell : ℕ) → IsLaidOut panel
    → message_start (size_of panel) ≤ cell → cell < cells_in (size_of panel)
    → slice_get (screen_of panel values message keep).cells cell
    ≡ Some (item_cell (autoskip_attr true) (message_text panel.fields message) (cell - message_start (size_of panel)))

-- The room for a message reaches from the message row's attribute to the end of the screen.
abbrev pub TheRoomIsTheRow : Type 0
TheRoomIsTheRow = (model : Model) → message_start (alternate_of model) + 1 + message_room (alternate_of model)
    ≡ cells_in (alternate_of model)
