use Rattle.presentation.proofs.Nearest.{counted_found, counted_missed}
use Rattle.presentation.proofs.index.count_up_to.Goals as goal

pub returns-in-Ok : goal.returns-in-Ok
returns-in-Ok c = counted_found c.args.cells c.args.places.now c.args.at c.in-Ok.number c.requires.ascending c.in-Ok.ensures.position

pub returns-in-Err : goal.returns-in-Err
returns-in-Err c = counted_missed c.args.cells c.args.places.now c.args.at c.in-Err.count c.requires.ascending c.in-Err.ensures.position
