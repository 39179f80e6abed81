-- Panels that have MDT on in each of their input fields, so that each Enter or PF key returns the text of all of them
-- (our profile). A read of modified fields returns those with MDT on (GA23-0059-07 on Read Modified).
use Rattle.std.specs.Prelude.{◌≡◌, ℕ, Bool, true, false, [], map, Some, slice_get}
use Rattle.codes3270.specs.declared.attribute.Attr.{Attr}
use Rattle.datastream.specs.Wanted.{WantedScreen}
use Rattle.datastream.specs.declared.wanted.Want.TheVariants as want
use Rattle.panels.specs.declared.message.Message.{Message}
use Rattle.panels.specs.declared.panel.Field.{Field}
use Rattle.panels.specs.Panel.{PanelParts, Panels}
use Rattle.panels.specs.Screen.{Values, screen_of}

-- the field with MDT on in its attribute whenever it is shown
abbrev pub marked_field : Field → Field
marked_field field = record field { marked = true }

-- the panel with all its fields marked
abbrev pub marked_panel : PanelParts → PanelParts
marked_panel panel = record panel { fields = map marked_field panel.fields }

-- the panels of a text with all their fields marked
abbrev pub marked_set : Panels → Panels
marked_set set = record set { panels = map marked_panel set.panels }

-- holds if each unprotected attribute that the screen wants has MDT on
abbrev pub IsInputReturned : WantedScreen → Type 0
IsInputReturned screen = (cell : ℕ) (attribute : Attr) → slice_get screen.cells cell ≡ Some (want.Attr attribute)
    → attribute.protected ≡ false → attribute.mdt ≡ true

-- Each screen that a panel with all its fields marked asks for has MDT on in each input field.
abbrev pub MarkedPanelsReturnInput : Type 0
MarkedPanelsReturnInput =
    (panel : PanelParts) (values : Values) (message : Message) (keep : Bool)
    → IsInputReturned (screen_of (marked_panel panel) values message keep)

-- So has each screen that a panel of a marked set asks for.
abbrev pub MarkedSetsReturnInput : Type 0
MarkedSetsReturnInput =
    (set : Panels) (number : ℕ) (panel : PanelParts) (values : Values) (message : Message) (keep : Bool)
    → slice_get (marked_set set).panels number ≡ Some panel
    → IsInputReturned (screen_of panel values message keep)

-- A panel without fields has no input field, whatever its texts are.
abbrev pub PanelsWithoutFieldsReturnInput : Type 0
PanelsWithoutFieldsReturnInput =
    (panel : PanelParts) (values : Values) (message : Message) (keep : Bool) → panel.fields ≡ []
    → IsInputReturned (screen_of panel values message keep)
