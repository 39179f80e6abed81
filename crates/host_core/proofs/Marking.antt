-- The panels of a host that doesn't rely on the wait have MDT on in each input field.
use Rattle.std.proofs.Common.{◌≡◌, Option, Some, None, unwrap_or, refl, ap, ◌∙◌}
use Rattle.std.specs.Prelude.{slice_get}
use Rattle.panels.specs.Marked.{MarkedSetsReturnInput, PanelsWithoutFieldsReturnInput, marked_set}
use Rattle.panels.specs.Panel.{PanelParts, Panels}
use Rattle.panels.specs.Screen.{screen_of}
use Rattle.shadow.specs.Settled.{WantsInputReturned}
use Rattle.host_core.specs.Application.{application_of, no_panel}
use Rattle.host_core.specs.Laws.{MarksInput, ServedIsMarked}
use Rattle.host_core.specs.declared.terminals.Terminals.TheVariants.{Waiting, Any, Verified}

marked_input : MarkedSetsReturnInput → PanelsWithoutFieldsReturnInput → (set : Panels) → marked_set set ≡ set → MarksInput (application_of set)
marked_input marked bare set same number values message keep = by_panel (slice_get set.panels number) refl
  where
    by_panel : (found : Option PanelParts) → slice_get set.panels number ≡ found → WantsInputReturned (screen_of (unwrap_or found no_panel) values message keep)
    by_panel None is = bare no_panel values message keep refl
    by_panel (Some panel) is = marked set number panel values message keep (ap (λ (panels : Panels). slice_get panels.panels number) same ∙ is)

pub served_is_marked : MarkedSetsReturnInput → PanelsWithoutFieldsReturnInput → ServedIsMarked
served_is_marked marked bare Waiting set waits same = absurd (cc)
served_is_marked marked bare Any set changed same = marked_input marked bare set same
served_is_marked marked bare Verified set changed same = marked_input marked bare set same
