use Rattle.server.proofs.Reloads.{reserves_lu}
use Rattle.server.proofs.hosts.reserve_for.Goals as goal

pub returns-in-Bound-clause-reserves : goal.returns-in-Bound-clause-reserves
returns-in-Bound-clause-reserves c =
    reserves_lu c.args.conn c.in-Bound.lu c.args.phase.now c.args.host.now c.reserve.new.self c.in-Bound.is c.reserve.ensures.reserved c.reserve.ensures.taken c.reserve.ensures.held c.reserve.ensures.others
