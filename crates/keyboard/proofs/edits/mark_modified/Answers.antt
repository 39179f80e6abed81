use Rattle.codes3270.specs.Size.{cells_in}
use Rattle.std.proofs.Common.{◌≡◌, ◌<◌, length, Some}
use Rattle.keyboard.specs.Places.{governing_place}
use Rattle.keyboard.proofs.Governing.{governing_place_is, governing_place_none}
use Rattle.keyboard.proofs.edits.mark_modified.Goals as goal

pub returns-in-Some : goal.returns-in-Some
returns-in-Some c =
    let cells = c.args.screen.now.screen.cells in
    let size : length cells ≡ cells_in c.args.screen.now.size = c.cursor.ensures.size in
    let below : c.cursor.result < length cells = rw size c.cursor.ensures.in_range in
    let place : governing_place cells c.args.screen.now.screen.cursor ≡ Some c.in-Some.field.attr =
    rw c.cursor.ensures.value at (governing_place_is cells c.cursor.result c.in-Some.field.attr below c.in-Some.ensures.nearest) in
    rw place c.set_mdt.ensures

pub returns-in_default : goal.returns-in_default
returns-in_default c =
    let cells = c.args.screen.now.screen.cells in
    rw (governing_place_none cells c.args.screen.now.screen.cursor c.in_default.ensures.none)
