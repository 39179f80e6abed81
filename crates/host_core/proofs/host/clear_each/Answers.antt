use Rattle.std.proofs.Common.{arith}
use Rattle.host_core.proofs.Hosts.{one_more_unused}
use Rattle.host_core.proofs.host.clear_each.Goals as goal

pub loop-index-preserved : goal.loop-index-preserved
loop-index-preserved c =
    one_more_unused c.loop-index.index c.args.connections.now.items c.loop-index.connections.items c.clear.new.self c.clear.ensures (omega arith) c.loop-index.invariant
