use Rattle.std.proofs.Common.{◌+◌, ◌-◌, ◌%◌, ◌<◌, ◌∙◌}
use Rattle.std.proofs.Math.Nat.{mod-eq_of_lt}
use Rattle.codes3270.specs.Size.{ScreenSize, cells_in}
use Rattle.keyboard.proofs.RowEnds.{row_ends_inside}
use Rattle.keyboard.proofs.places.row_end_of.Goals as goal

pub returns-clause-value : goal.returns-clause-value
returns-clause-value c =
    let shape : ScreenSize = c.args.screen.now.size in
    let inside : c.args.at + (shape.columns - 1 - c.args.at % shape.columns) < cells_in shape = row_ends_inside shape.rows shape.columns c.args.at c.requires in
    c.forward.ensures.value ∙ rw (c.rest_of_row-rest.ensures.value, c.columns_of.ensures.value, c.get.ensures.value, c.size.ensures.size) (mod-eq_of_lt inside)
