-- Whether a host accepts a panel text (our profile).
use Rattle.std.specs.Prelude.{◌≡◌, ℕ, List, map, Some}
use Rattle.toml.specs.Data.{Members}
use Rattle.toml.specs.Parse.{parse_document}
use Rattle.tn3270e_msg.specs.Lu.{lu_of}
use Rattle.lu_pool.specs.Reading.{HasFault, IsRight, IsFirstFault}
use Rattle.panels.specs.Draft.{DraftText, draft_of}
use Rattle.panels.specs.Faults.{IsFaulty}
use Rattle.panels.specs.Passes.{IsFaultless}
use Rattle.panels.specs.Turns.{IsClearTo, turn_of}
use Rattle.panel_check.specs.declared.report.Cause.{Cause}
use Rattle.panel_check.specs.declared.report.Cause.TheVariants as cause
use Rattle.panel_check.specs.Causes.{IsOfText}

-- the panel reader accepts the text, since its tables have no fault, and the LU pool its LUs
pub record IsAccepted (text : List ℕ) : Type 0 where
  pub top : Members
  pub parsed : parse_document text ≡ Some top
  pub faultless : IsFaultless (draft_of top)
  pub lus_right : IsRight (map lu_of (draft_of top).lus)

-- holds for the first fault in the order in which they look for faults: those of tables, and then those of the LUs
abbrev pub IsFirstIn : DraftText → Cause → Type 0
IsFirstIn draft (cause.Tree fault part) = IsFaulty fault part draft × IsClearTo (turn_of fault part) draft
IsFirstIn draft (cause.Lus fault) =
    IsFaultless draft × HasFault (map lu_of draft.lus) fault × IsFirstFault (map lu_of draft.lus) fault
IsFirstIn draft _ = ⊥

-- holds if they refuse the text for this fault
abbrev pub IsFirstCause : List ℕ → Cause → Type 0
IsFirstCause = IsOfText IsFirstIn
