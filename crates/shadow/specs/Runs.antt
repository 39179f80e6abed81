-- For private functions: characters in consecutive cells, and cells as they are read (our profile).
use Rattle.std.specs.Prelude.{◌+◌, ℕ, Bool, false, List, [], ◌∷◌, ◌++◌, length, map, take, drop, slice_index_or, Option, Some, None}
use Rattle.codes3270.specs.declared.attribute.Cell.{Cell}
use Rattle.codes3270.specs.declared.attribute.Cell.TheVariants.{Char, Attr as AttrCell}
use Rattle.datastream.specs.Screen.{text_before_attribute}
use Rattle.shadow.specs.declared.cell_belief.CellBelief.{CellBelief}
use Rattle.shadow.specs.declared.cell_belief.CellBelief.TheVariants.{Attr, Known, Unplaced, Unknown}
use Rattle.shadow.specs.declared.rule_break.Rule.{Rule}
use Rattle.shadow.specs.declared.rule_break.Rule.TheVariants.{Applies}
use Rattle.shadow.specs.InPlace.{belief_held, other_here}
use Rattle.shadow.specs.RuleBreaks.{operator_rule, rule_broken}
use Rattle.shadow.specs.Since.{belief_of_cell, beliefs_of_cells}

-- the beliefs with a known text in the cells from an address on
abbrev pub placed : ℕ → List ℕ → List CellBelief → List CellBelief
placed from text beliefs = take from beliefs ++ (map Known text ++ drop (from + length text) beliefs)

-- whether the next cell that was read shows that the screen isn't the believed one; `whole` follows the rest
abbrev pub other_next : List CellBelief → ℕ → List Cell → List Cell → Bool
other_next beliefs place [] whole = false
other_next beliefs place (cell ∷ rest) whole =
    other_here (slice_index_or beliefs place Unknown) (belief_of_cell cell) (drop (place + 1) beliefs ++ beliefs)
    (beliefs_of_cells rest ++ beliefs_of_cells whole)

-- the rule that is broken if this cell was read at an address; `ahead`: the beliefs of the cells after it, `text`: the
-- characters that were read after it
abbrev pub rule_at : ℕ → CellBelief → Cell → List CellBelief → List ℕ → Option Rule
rule_at place (Attr attribute mdt knowledge) (AttrCell seen) ahead text =
    rule_broken (belief_held place attribute mdt knowledge ahead) (record { place = place; attr = seen; text = text })
rule_at place (Attr attribute mdt knowledge) (Char char) ahead text = Some Applies
rule_at place (Known known) (AttrCell seen) ahead text = Some Applies
rule_at place (Known known) (Char char) ahead text = None
rule_at place (Unplaced told) (AttrCell seen) ahead text = Some Applies
rule_at place (Unplaced told) (Char char) ahead text = None
rule_at place Unknown (AttrCell seen) ahead text = Some Applies
rule_at place Unknown (Char char) ahead text = None

-- the rule that the operator's changes show to be broken if this cell was read at an address
abbrev pub operator_rule_at : ℕ → CellBelief → Cell → List CellBelief → List ℕ → Option Rule
operator_rule_at place (Attr attribute mdt knowledge) (AttrCell seen) ahead text =
    operator_rule (belief_held place attribute mdt knowledge ahead) (record { place = place; attr = seen; text = text })
operator_rule_at place (Attr attribute mdt knowledge) (Char char) ahead text = None
operator_rule_at place (Known known) (AttrCell seen) ahead text = None
operator_rule_at place (Known known) (Char char) ahead text = None
operator_rule_at place (Unplaced told) (AttrCell seen) ahead text = None
operator_rule_at place (Unplaced told) (Char char) ahead text = None
operator_rule_at place Unknown (AttrCell seen) ahead text = None
operator_rule_at place Unknown (Char char) ahead text = None

-- the rule that the next cell that was read shows to be broken
abbrev pub rule_next : List CellBelief → ℕ → List Cell → List Cell → Option Rule
rule_next beliefs place [] whole = None
rule_next beliefs place (cell ∷ rest) whole =
    rule_at place (slice_index_or beliefs place Unknown) cell (drop (place + 1) beliefs ++ beliefs)
    (text_before_attribute (rest ++ whole))
