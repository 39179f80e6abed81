use Rattle.std.proofs.Common.{◌<◌, List, length}
use Rattle.codes3270.specs.declared.attribute.Cell.{Cell}
use Rattle.presentation.specs.Places.{attribute_places}
use Rattle.presentation.proofs.AttributePlaces.{are_ascending, place_holds}
use Rattle.presentation.proofs.cells.first_with_start.Goals as goal

pub has_start_behind-requires-clause-placed : goal.has_start_behind-requires-clause-placed
has_start_behind-requires-clause-placed c =
    let cells : List Cell = c.args.cells.now in
    let below : c.loop-index.index < length (attribute_places cells 0) = rw (← c.requires) c.loop-index-test.true in
    rw (c.place_in.ensures, c.requires) ((are_ascending cells).within c.loop-index.index below)

pub has_start_behind-requires-clause-attribute : goal.has_start_behind-requires-clause-attribute
has_start_behind-requires-clause-attribute c =
    let cells : List Cell = c.args.cells.now in
    let below : c.loop-index.index < length (attribute_places cells 0) = rw (← c.requires) c.loop-index-test.true in
    rw (c.place_in.ensures, c.requires) (place_holds cells c.loop-index.index below)
