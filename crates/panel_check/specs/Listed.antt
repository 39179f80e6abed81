-- How the faults of a text are listed, and reported one by one (our profile; only for contracts of private functions).
use Rattle.std.specs.Prelude.{◌≡◌, ◌⊎◌, ◌<◌, ◌++◌, ℕ, true, List, [], ◌∷◌, length, map, All, Contains, IsPermutation, slice_index_or}
use Rattle.tn3270e_msg.specs.Lu.{lu_of}
use Rattle.lu_pool.specs.Reading.{AreFaultsOf as AreLuFaultsOf}
use Rattle.lu_pool.specs.declared.fault.PoolFault.{PoolFault}
use Rattle.panels.specs.Draft.{DraftText}
use Rattle.panels.specs.Listing.{AreFaultsOf}
use Rattle.panels.specs.declared.fault.LocatedFault.{LocatedFault}
use Rattle.panel_check.specs.declared.report.Cause.{Cause}
use Rattle.panel_check.specs.declared.report.Cause.TheVariants as cause
use Rattle.panel_check.specs.declared.report.Finding.{Finding}
use Rattle.panel_check.specs.Causes.{IsStated, in_table}
use Rattle.panel_check.specs.Report.{AreInOrder, HasCause, is_fault}

-- the cause for a fault of a part of the draft
abbrev pub cause_of : LocatedFault → Cause
cause_of at = cause.Tree at.fault at.part

abbrev pub warnings : List Cause
warnings = cause.TextWraps ∷ cause.FillNotNumeric ∷ cause.NoKeyLeads ∷ []

abbrev pub causes_of : List LocatedFault → List PoolFault → List Cause
causes_of tables lus = map cause_of tables ++ (map cause.Lus lus ++ warnings)

-- the causes are the faults of the draft's tables, in their order, those of its LUs, and the warnings
pub record AreCausesOf (draft : DraftText) (causes : List Cause) : Type 0 where
  pub tables : List LocatedFault
  pub lus : List PoolFault
  pub of_tables : AreFaultsOf draft tables
  pub of_lus : AreLuFaultsOf (map lu_of draft.lus) lus
  pub all : causes ≡ causes_of tables lus

-- holds if findings with this cause are added at the end
abbrev pub AddsOf : Cause → List Finding → List Finding → Type 0
AddsOf cause findings all = (added : List Finding) × (all ≡ findings ++ added)
    × All (λ finding. finding.cause ≡ cause) added

-- the first of the causes, if it is a fault, and each of the first n that is a fault whose value is in the text, are
-- reported at their tables, and nothing else
pub record AreReported (n : ℕ) (draft : DraftText) (causes : List Cause) (findings : List Finding) : Type 0 where
  pub each : (j : ℕ) (d : Cause) → j < n → is_fault (slice_index_or causes j d) ≡ true
      → (j ≡ 0) ⊎ IsStated draft (slice_index_or causes j d)
      → HasCause (in_table draft (slice_index_or causes j d)) findings
  pub nothing_else : All (λ finding. (fault : Cause) × Contains causes fault × (finding.cause ≡ in_table draft fault))
      findings

-- the findings for all causes of the draft, in the order of their lines
abbrev pub AreFindingsOf : DraftText → List Finding → Type 0
AreFindingsOf draft findings = (causes : List Cause) × (reported : List Finding) × AreCausesOf draft causes
    × AreReported (length causes) draft causes reported × IsPermutation reported findings × AreInOrder findings
