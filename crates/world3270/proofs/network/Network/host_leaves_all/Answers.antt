use Rattle.world3270.proofs.Steps.{gone_none, one_more_gone}
use Rattle.world3270.proofs.network.Network.host_leaves_all.Goals as goal

pub loop-conn-init : goal.loop-conn-init
loop-conn-init c = gone_none c.args.self.now

pub loop-conn-preserved : goal.loop-conn-preserved
loop-conn-preserved c = one_more_gone c.loop-conn.conn c.args.self.now c.loop-conn.self c.host_leaves_if_there.new.self c.loop-conn.invariant c.host_leaves_if_there.ensures
