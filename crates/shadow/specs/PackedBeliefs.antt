-- For proofs alone: the beliefs of cells, kept as bits and bytes (our profile).
use Rattle.std.specs.Prelude.{◌≡◌, ◌<◌, ℕ, length, Bool, true, false, List, slice_index_or}
use Rattle.codes3270.specs.Attribute.{attr_of}
use Rattle.datastream.specs.CellBits.{has_bit}
use Rattle.shadow.specs.declared.mdt_state.MdtState.{MdtState}
use Rattle.shadow.specs.declared.mdt_state.MdtState.TheVariants.{Unknown as UnknownMark}
use Rattle.shadow.specs.declared.cell_belief.TextKnowledge.{TextKnowledge}
use Rattle.shadow.specs.declared.cell_belief.TextKnowledge.TheVariants.{Cells}
use Rattle.shadow.specs.declared.cell_belief.CellBelief.{CellBelief}
use Rattle.shadow.specs.declared.cell_belief.CellBelief.TheVariants.{Attr, Known, Unplaced, Unknown}
use Rattle.shadow.specs.declared.cell_beliefs.AttributeKnowledge.{AttributeKnowledge}

abbrev pub no_head : AttributeKnowledge
no_head = record { mdt = UnknownMark; knowledge = Cells }

abbrev pub head_of : CellBelief → AttributeKnowledge
head_of (Attr attribute mdt knowledge) = record { mdt = mdt; knowledge = knowledge }
head_of (Known char) = no_head
head_of (Unplaced char) = no_head
head_of Unknown = no_head

-- the belief with this head, if it is of an attribute
abbrev pub with_head : MdtState → TextKnowledge → CellBelief → CellBelief
with_head mdt knowledge (Attr attribute was_mark was_telling) = Attr attribute mdt knowledge
with_head mdt knowledge (Known char) = Known char
with_head mdt knowledge (Unplaced char) = Unplaced char
with_head mdt knowledge Unknown = Unknown

-- whether the belief is of an attribute or a known character
abbrev pub is_known : CellBelief → Bool
is_known (Attr attribute mdt knowledge) = true
is_known (Known char) = true
is_known (Unplaced char) = false
is_known Unknown = false

abbrev pub is_told : CellBelief → Bool
is_told (Attr attribute mdt knowledge) = false
is_told (Known char) = false
is_told (Unplaced char) = true
is_told Unknown = false

-- the belief that a head, an attribute bit, a known bit, a told bit and a byte stand for
abbrev pub place_kept : AttributeKnowledge → Bool → Bool → Bool → ℕ → CellBelief
place_kept head true known told byte = Attr (attr_of byte) head.mdt head.knowledge
place_kept head false true told byte = Known byte
place_kept head false false true byte = Unplaced byte
place_kept head false false false byte = Unknown

abbrev pub place_by : List AttributeKnowledge → List ℕ → List ℕ → List ℕ → ℕ → ℕ → CellBelief
place_by heads attributes known told at byte = place_kept (slice_index_or heads at no_head) (has_bit attributes at)
    (has_bit known at) (has_bit told at) byte

-- holds if the bit of each cell is set exactly if the cell is an attribute or a known character
abbrev pub MarksKnown : List ℕ → List CellBelief → Type 0
MarksKnown known beliefs = (cell : ℕ) → cell < length beliefs
    → has_bit known cell ≡ is_known (slice_index_or beliefs cell Unknown)
