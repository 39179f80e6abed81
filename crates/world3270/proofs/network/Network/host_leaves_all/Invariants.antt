use Rattle.std.proofs.Common.{◌≡◌}
use Rattle.world3270.specs.model.ByteSteps.{host_gone_below}
use Rattle.world3270.proofs.network.Network.host_leaves_all.Given as goal

abbrev pub invariant-loop-conn : goal.invariant-loop-conn
invariant-loop-conn l = l.self ≡ host_gone_below l.conn l.initial.self
