use Rattle.shadow.proofs.Opening.{long_opens_nothing, read_leaves_nothing_open, erase_leaves_nothing_open, clear_is_heard}
use Rattle.shadow.proofs.PaintOpening.{paint_opens_nothing}
use Rattle.shadow.proofs.laws.what_leaves_nothing_open.Goals as goal

pub returns : goal.returns
returns c = record { long = long_opens_nothing; buffer = read_leaves_nothing_open; erased = erase_leaves_nothing_open; cleared = clear_is_heard; painted = paint_opens_nothing }
