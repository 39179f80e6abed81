use Rattle.codes3270.specs.Size.{cells_in}
use Rattle.std.proofs.Common.{◌≡◌, ◌-◌, List, length}
use Rattle.codes3270.specs.declared.attribute.Cell.{Cell}
use Rattle.datastream.specs.Screen.{field_text}
use Rattle.presentation.specs.Index.{place_of}
use Rattle.presentation.proofs.FieldLengths.{field_spans}
use Rattle.presentation.proofs.screen.Screen.field_number.Goals as goal

pub returns : goal.returns
returns c =
    let cells : List Cell = c.args.self.now.screen.cells in
    let size : length cells ≡ cells_in c.args.self.now.size = c.field_count-count.ensures.size in
    let spans : c.distance_to.result - 1 ≡ length (field_text cells (place_of cells c.args.number)) =
    rw (c.distance_to.ensures.value, c.field_place-attr.ensures.place, c.field_place-next.ensures.place, c.number_behind.ensures, c.field_count-count.ensures.count, c.size.ensures.size, ← size) (field_spans cells c.args.number c.requires) in
    rw (c.field_place-attr.ensures.place, spans)
