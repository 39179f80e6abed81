-- For private functions: which cells hold the text of a field (our profile).
use Rattle.std.specs.Prelude.{ℕ, List, []}
use Rattle.shadow.specs.declared.cell_belief.CellBelief.{CellBelief}
use Rattle.shadow.specs.declared.field_text.TextPlaces.{TextPlaces}
use Rattle.shadow.specs.declared.field_text.TextPlaces.TheVariants.{Known, Unplaced, Nowhere}
use Rattle.shadow.specs.InPlace.{chars_known, known_text, text_told}

-- the text that begins at the first of these cells; it ends before the first cell that isn't of the given kind
abbrev pub text_in : TextPlaces → List CellBelief → List ℕ
text_in Known beliefs = known_text (chars_known beliefs)
text_in Unplaced beliefs = text_told beliefs
text_in Nowhere beliefs = []
