use Rattle.std.proofs.Common.{◌<◌}
use Rattle.codes3270.specs.Size.{ScreenSize, cells_in}
use Rattle.keyboard.proofs.RowEnds.{some_columns, few_columns}
use Rattle.keyboard.proofs.places.columns_of.Goals as goal

pub returns-clause-some : goal.returns-clause-some
returns-clause-some c =
    let shape : ScreenSize = c.size-size.result in
    let some : 0 < cells_in shape = rw c.cells-cells.ensures.value at c.cells-cells.ensures.some in
    rw c.cols.ensures.value (some_columns shape.rows shape.columns some)

pub returns-clause-few : goal.returns-clause-few
returns-clause-few c =
    let shape : ScreenSize = c.size-size.result in
    let some : 0 < cells_in shape = rw c.cells-cells.ensures.value at c.cells-cells.ensures.some in
    rw (c.cols.ensures.value, ← c.size-size.ensures.size) (few_columns shape.rows shape.columns some)
