-- The faults for which a panel text is refused (our profile).
use Rattle.std.specs.Prelude.{◌≡◌, ℕ, ◌<◌, List, Contains, None, Some}
use Rattle.toml.specs.Data.{Members}
use Rattle.panels.specs.Draft.{DraftText, draft_of}
use Rattle.toml.specs.Parse.{parse_document}
use Rattle.panels.specs.declared.fault.TreeFault.{TreeFault}
use Rattle.panels.specs.declared.fault.PanelFault.{PanelFault}
use Rattle.panels.specs.declared.fault.PanelFault.TheVariants.{Memory, NotToml, Tree}
use Rattle.panels.specs.declared.fault.Location.{Location}
use Rattle.panels.specs.declared.fault.At.{At}
use Rattle.panels.specs.Faults.{IsFaultAt, IsFaulty, faults_of, IsCleanIn}

-- the fault is at the place, and no pass before the one that looks for it finds a fault
pub record IsFirst (fault : TreeFault) (place : At) (draft : DraftText) : Type 0 where
  pub pass : ℕ
  pub looked_for : Contains (faults_of pass) fault
  pub stands : IsFaultAt fault place draft
  pub earlier : (before : ℕ) → before < pass → IsCleanIn before draft

-- holds if no part has a fault
abbrev pub IsFaultless : DraftText → Type 0
IsFaultless draft = (fault : TreeFault) (part : Location) → ¬ IsFaulty fault part draft

-- holds if the answer says why a draft defines no panels; lack of memory says nothing of the draft
abbrev pub IsReasonIn : DraftText → PanelFault → Type 0
IsReasonIn draft Memory = Unit {0}
IsReasonIn draft NotToml = ⊥
IsReasonIn draft (Tree fault place) = IsFirst fault place draft

-- holds if the answer says why a text defines no panels: it isn't TOML, or its draft has the fault
abbrev pub IsReason : List ℕ → PanelFault → Type 0
IsReason text Memory = Unit {0}
IsReason text NotToml = parse_document text ≡ None
IsReason text (Tree fault place) = (top : Members) × (parse_document text ≡ Some top)
    × IsFirst fault place (draft_of top)
