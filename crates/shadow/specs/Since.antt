-- For proofs alone: how a write preserves what is known of the texts of fields that it doesn't change (our profile).
use Rattle.std.specs.Prelude.{◌≡◌, ⊤, ◌||◌, not, Bool, true, false, List, [], ◌∷◌, ◌++◌, Option, Some, None, unwrap_or, is_some, if◌then◌else◌}
use Rattle.codes3270.specs.declared.attribute.Cell.{Cell}
use Rattle.codes3270.specs.declared.attribute.Cell.TheVariants.{Char, Attr as AttrCell}
use Rattle.datastream.specs.KeptByKeys.{without_mdt}
use Rattle.shadow.specs.declared.mdt_state.MdtState.TheVariants.{Off}
use Rattle.shadow.specs.declared.known.Known.{Known}
use Rattle.shadow.specs.declared.known.Known.TheVariants.{Attr as KnownAttr, Char as KnownChar}
use Rattle.shadow.specs.declared.cell_belief.TextKnowledge.{TextKnowledge}
use Rattle.shadow.specs.declared.cell_belief.TextKnowledge.TheVariants.{Cells}
use Rattle.shadow.specs.declared.cell_belief.CellBelief.{CellBelief}
use Rattle.shadow.specs.declared.cell_belief.CellBelief.TheVariants.{Attr, Known as KnownPlace, Unplaced, Unknown}
use Rattle.shadow.specs.declared.cell_belief.BeforeWrite.{BeforeWrite}
use Rattle.shadow.specs.AfterReadBuffer.{mark_seen}
use Rattle.shadow.specs.InPlace.{cell_known}

-- what is believed of a cell that a write has stored or a read has returned
abbrev pub belief_of_cell : Cell → CellBelief
belief_of_cell (Char byte) = KnownPlace byte
belief_of_cell (AttrCell attribute) = Attr (without_mdt attribute) (mark_seen attribute.mdt) Cells

abbrev pub beliefs_of_cells : List Cell → List CellBelief
beliefs_of_cells [] = []
beliefs_of_cells (cell ∷ cells) = belief_of_cell cell ∷ beliefs_of_cells cells

abbrev pub place_off : CellBelief → CellBelief
place_off (Attr attribute mdt knowledge) = Attr attribute Off knowledge
place_off (KnownPlace char) = KnownPlace char
place_off (Unplaced char) = Unplaced char
place_off Unknown = Unknown

abbrev pub knowledge_of : CellBelief → Option TextKnowledge
knowledge_of (Attr attribute mdt knowledge) = Some knowledge
knowledge_of (KnownPlace char) = None
knowledge_of (Unplaced char) = None
knowledge_of Unknown = None

-- ---- during a write

abbrev pub never : BeforeWrite
never = record { knowledge = None; fresh = false }

-- a cell that the write has stored in, and that held no attribute before
abbrev pub stored_past : BeforeWrite
stored_past = record { knowledge = None; fresh = true }

-- a cell once the write has stored in it
abbrev pub stored_since : BeforeWrite → BeforeWrite
stored_since past = record { knowledge = past.knowledge; fresh = true }

abbrev pub cells_written : List CellBelief → List BeforeWrite → List Known
cells_written [] pasts = []
cells_written (place ∷ beliefs) [] = []
cells_written (place ∷ beliefs) (past ∷ pasts) = cell_known place past.fresh ∷ cells_written beliefs pasts

-- holds if the cell holds an attribute, was stored, or has the belief that it had before the write
abbrev pub IsAsItWas : CellBelief → CellBelief → Bool → Type 0
IsAsItWas old (Attr attribute mdt knowledge) fresh = ⊤
IsAsItWas old (KnownPlace char) fresh = fresh ≡ false → old ≡ KnownPlace char
IsAsItWas old (Unplaced char) fresh = fresh ≡ false → old ≡ Unplaced char
IsAsItWas old Unknown fresh = fresh ≡ false → old ≡ Unknown

-- holds if these are the beliefs before the write, those now, and what is noted of the former
abbrev pub Since : List CellBelief → List CellBelief → List BeforeWrite → Type 0
Since [] [] [] = ⊤
Since [] [] (past ∷ pasts) = ⊥
Since [] (new ∷ news) pasts = ⊥
Since (old ∷ olds) [] pasts = ⊥
Since (old ∷ olds) (new ∷ news) [] = ⊥
Since (old ∷ olds) (new ∷ news) (past ∷ pasts) = (past.knowledge ≡ knowledge_of old) × IsAsItWas old new past.fresh
    × Since olds news pasts

-- ---- once all is stored

-- whether the write has stored a character before the next attribute, or that attribute is new
abbrev pub is_touched : List Known → List BeforeWrite → Bool
is_touched [] pasts = false
is_touched (known ∷ cells) [] = false
is_touched (KnownAttr attribute mdt ∷ cells) (past ∷ pasts) = not (is_some past.knowledge)
is_touched (KnownChar char fresh ∷ cells) (past ∷ pasts) = fresh || is_touched cells pasts

abbrev pub knowledge_after : BeforeWrite → Bool → TextKnowledge
knowledge_after past touched = if touched then Cells else unwrap_or past.knowledge Cells

abbrev pub place_settled : CellBelief → BeforeWrite → Bool → CellBelief
place_settled (Attr attribute mdt knowledge) past touched = Attr attribute mdt (knowledge_after past touched)
place_settled (KnownPlace char) past touched = KnownPlace char
place_settled (Unplaced char) past touched = Unplaced char
place_settled Unknown past touched = Unknown

-- the beliefs of `rest`, with what is known of each field's text after the write; `pasts`: what is noted of `rest`;
-- `whole` and `before`: all cells, and what is noted of them
abbrev pub settled : List Known → List BeforeWrite → List CellBelief → List BeforeWrite → List CellBelief
settled whole before [] pasts = []
settled whole before (place ∷ rest) [] = []
settled whole before (place ∷ rest) (past ∷ pasts) =
    place_settled place past (is_touched (cells_written rest pasts ++ whole) (pasts ++ before))
    ∷ settled whole before rest pasts
