-- For private functions: what was known of the text of the field whose attribute a cell held, in a byte (our profile).
use Rattle.std.specs.Prelude.{◌≡◌, Option, Some, None}
use Rattle.std.proofs.Common.{refl}
use Rattle.shadow.specs.declared.cell_belief.TextKnowledge.{TextKnowledge}
use Rattle.shadow.specs.declared.cell_belief.TextKnowledge.TheVariants.{Cells, ExactOrNulls, Text, TextOrNulls}
use Rattle.shadow.specs.declared.cell_belief.Kept.{Kept}
use Rattle.shadow.specs.declared.cell_belief.Kept.TheVariants as kept

abbrev pub knowledge_kept : Kept → Option TextKnowledge
knowledge_kept kept.NoField = None
knowledge_kept kept.Cells = Some Cells
knowledge_kept kept.ExactOrNulls = Some ExactOrNulls
knowledge_kept kept.Text = Some Text
knowledge_kept kept.TextOrNulls = Some TextOrNulls

abbrev pub kept_of : Option TextKnowledge → Kept
kept_of None = kept.NoField
kept_of (Some Cells) = kept.Cells
kept_of (Some ExactOrNulls) = kept.ExactOrNulls
kept_of (Some Text) = kept.Text
kept_of (Some TextOrNulls) = kept.TextOrNulls

-- the two conversions are inverse: a byte is kept for the option that it is read as
pub kept_again : (byte : Kept) → kept_of (knowledge_kept byte) ≡ byte
kept_again kept.NoField = refl
kept_again kept.Cells = refl
kept_again kept.ExactOrNulls = refl
kept_again kept.Text = refl
kept_again kept.TextOrNulls = refl
