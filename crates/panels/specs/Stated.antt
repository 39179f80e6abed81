-- Whether the value that a fault is of is in the text (our profile). If it isn't, its key is missing or has a value of
-- another type, which is another fault.
use Rattle.std.specs.Prelude.{◌≡◌, ◌⊎◌, ◌&&◌, Bool, false, List, Some, option_and_then, slice_get, IsTrue}
use Rattle.std.specs.Option.{option_map_or}
use Rattle.panels.specs.declared.fault.TreeFault.{TreeFault}
use Rattle.panels.specs.declared.fault.TreeFault.TheVariants.{BadName, TwiceNamed, OutOfPlace, Overlap, NoTarget}
use Rattle.panels.specs.declared.fault.Location.{Location}
use Rattle.panels.specs.declared.fault.Location.TheVariants.{Top, Panel, Text, Keys}
use Rattle.panels.specs.Draft.{DraftPanel, DraftText}
use Rattle.panels.specs.Faults.{HasLostCursor, item_at, panel_of_part}
use Rattle.panels.specs.Size.{is_model_number}

-- whether a panel, a text or a field has a name
abbrev pub is_named : Location → List DraftPanel → Bool
is_named (Panel p) panels = option_map_or (λ panel. panel.named) (slice_get panels p) false
is_named part panels = option_map_or (λ item. item.named) (item_at part panels) false

-- whether the screen of a panel has a known size: its model is absent, or has a model's number
abbrev pub is_sized : DraftPanel → Bool
is_sized panel = panel.sized && is_model_number panel.model

-- whether a text or a field has a row, a column and a length; and whether the panel that has the part is of a known size
abbrev pub is_laid_out : Location → List DraftPanel → Bool
is_laid_out part panels = option_map_or (λ item. item.placed) (item_at part panels) false

abbrev pub is_on_screen : Location → List DraftPanel → Bool
is_on_screen part panels = option_map_or is_sized (option_and_then (slice_get panels) (panel_of_part part)) false

-- whether a text or a field has a row, a column and a length, on a screen of a known size
abbrev pub is_placed : Location → List DraftPanel → Bool
is_placed part panels = is_laid_out part panels && is_on_screen part panels

-- holds if a name in a part's table that is of nothing is there
abbrev pub IsTargetStated : Location → DraftText → Type 0
IsTargetStated Top draft = IsTrue draft.starts
IsTargetStated (Panel p) draft = (panel : DraftPanel) × (slice_get draft.panels p ≡ Some panel)
    × (IsTrue panel.replaced ⊎ HasLostCursor panel)
IsTargetStated (Text p i) draft = IsTrue (option_map_or (λ item. item.shows) (item_at (Text p i) draft.panels) false)
IsTargetStated _ draft = Unit {0}

-- holds if the value that a fault of a part is of is in the text
abbrev pub IsStated : TreeFault → Location → DraftText → Type 0
IsStated BadName part draft = IsTrue (is_named part draft.panels)
IsStated TwiceNamed (Keys p) draft = Unit {0}
IsStated TwiceNamed part draft = IsTrue (is_named part draft.panels)
IsStated OutOfPlace part draft = IsTrue (is_placed part draft.panels)
IsStated Overlap part draft = IsTrue (is_placed part draft.panels)
IsStated NoTarget part draft = IsTargetStated part draft
IsStated _ part draft = Unit {0}
