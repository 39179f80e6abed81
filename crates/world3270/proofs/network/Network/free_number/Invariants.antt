use Rattle.std.proofs.Common.{◌≡◌, ◌-◌}
use Rattle.host_core.specs.State.{most_connections}
use Rattle.world3270.specs.model.ByteSteps.{free_from}
use Rattle.world3270.proofs.network.Network.free_number.Given as goal

abbrev pub invariant-loop-conn : goal.invariant-loop-conn
invariant-loop-conn l = free_from most_connections 0 l.self ≡ free_from (most_connections - l.conn) l.conn l.self
