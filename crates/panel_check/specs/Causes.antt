-- The faults of a panel text: those of its tables and of its LUs' names (our profile).
use Rattle.std.specs.Prelude.{◌≡◌, ℕ, List, map, None, Some, IsTrue}
use Rattle.toml.specs.Data.{Members}
use Rattle.toml.specs.Parse.{parse_document}
use Rattle.tn3270e_msg.specs.Lu.{lu_of}
use Rattle.lu_pool.specs.Reading.{IsFaultOf as IsLuFault}
use Rattle.lu_pool.specs.declared.fault.PoolFault.TheVariants.{BadCount}
use Rattle.panels.specs.Draft.{DraftText, draft_of}
use Rattle.panels.specs.Faults.{IsFaulty, table_of}
use Rattle.panels.specs.Stated.{IsStated as IsValueStated}
use Rattle.panel_check.specs.declared.report.Cause.{Cause}
use Rattle.panel_check.specs.declared.report.Cause.TheVariants as cause

-- ---- the faults of a draft, in which each copy of an item is a part

-- holds if a part of the draft has the fault, or the LUs have it
abbrev pub IsFaultIn : DraftText → Cause → Type 0
IsFaultIn draft (cause.Tree fault part) = IsFaulty fault part draft
IsFaultIn draft (cause.Lus fault) = IsLuFault (map lu_of draft.lus) fault
IsFaultIn draft _ = ⊥

-- holds if the value that a fault is of is in the text; for the number of LUs that is their array
abbrev pub IsStated : DraftText → Cause → Type 0
IsStated draft (cause.Tree fault part) = IsValueStated fault part draft
IsStated draft (cause.Lus BadCount) = IsTrue draft.has_lus
IsStated draft _ = Unit {0}

abbrev pub IsStatedFaultIn : DraftText → Cause → Type 0
IsStatedFaultIn draft fault = IsFaultIn draft fault × IsStated draft fault

-- ---- the faults of a text, which are at its tables

-- a fault of a copy of an item, as a fault of the item's table
abbrev pub in_table : DraftText → Cause → Cause
in_table draft (cause.Tree fault part) = cause.Tree fault (table_of part draft.panels)
in_table draft fault = fault

-- holds if the text isn't TOML, or its draft has such a fault, which is one of this table
abbrev pub IsOfText : (DraftText → Cause → Type 0) → List ℕ → Cause → Type 0
IsOfText IsIn text cause.NotToml = parse_document text ≡ None
IsOfText IsIn text reported =
    (top : Members) × (fault : Cause) × (parse_document text ≡ Some top) × (reported ≡ in_table (draft_of top) fault)
    × IsIn (draft_of top) fault

abbrev pub IsFaultOf : List ℕ → Cause → Type 0
IsFaultOf = IsOfText IsFaultIn

abbrev pub IsStatedFaultOf : List ℕ → Cause → Type 0
IsStatedFaultOf = IsOfText IsStatedFaultIn
