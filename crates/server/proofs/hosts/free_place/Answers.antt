use Rattle.std.proofs.Common.{sym}
use Rattle.server.proofs.Places.{one_owned}
use Rattle.server.proofs.hosts.free_place.Goals as goal

pub loop-place-preserved : goal.loop-place-preserved
loop-place-preserved c = one_owned c.loop-place.place c.args.owners.now c.loop-place.invariant (sym c.if-not-is_owned.ensures)
