use Rattle.std.proofs.Common.{◌≡◌, replicate}
use Rattle.world3270.specs.model.ByteWorld.{unused_transits}
use Rattle.world3270.proofs.network.unused_links.Given as goal

abbrev pub invariant-loop : goal.invariant-loop
invariant-loop l = l.links.items ≡ replicate l.counter unused_transits
