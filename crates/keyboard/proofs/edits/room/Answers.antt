use Rattle.std.proofs.Common.{◌<◌, Bool, length, ap, arith}
use Rattle.keyboard.specs.Edits.{text_from, with_room}
use Rattle.keyboard.proofs.Texts.{text_some}
use Rattle.keyboard.proofs.edits.room.Goals as goal

pub returns-else-inserting : goal.returns-else-inserting
returns-else-inserting c =
    let cells = c.args.screen.now.screen.cells in
    let below : c.args.at < length cells = rw c.size-size.ensures.cells c.requires.address in (
      ap (λ (inserting : Bool). with_room inserting (text_from cells c.args.at)) c.if-inserting.false,
      text_some cells c.args.at below c.requires.free,
      omega (arith, c.requires.address),
    )
