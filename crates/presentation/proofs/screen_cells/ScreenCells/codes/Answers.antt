use Rattle.std.proofs.Common.{◌∙◌, length, map, ap, sym}
use Rattle.std.proofs.lemmas.List.{length-map}
use Rattle.datastream.specs.CellCodes.{code_in}
use Rattle.presentation.proofs.screen_cells.ScreenCells.codes.Goals as goal

pub returns-clause-codes : goal.returns-clause-codes
returns-clause-codes c = c.codes.ensures.codes ∙ sym c.self.invariant.codes ∙ ap (map code_in) c.self.view_is

pub returns-clause-len : goal.returns-clause-len
returns-clause-len c = ap length (returns-clause-codes c) ∙ length-map c.args.self.now code_in
