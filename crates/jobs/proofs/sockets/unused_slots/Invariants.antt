use Rattle.std.proofs.Common.{◌≡◌, replicate}
use Rattle.jobs.specs.Sockets.{unused}
use Rattle.jobs.proofs.sockets.unused_slots.Given as goal

abbrev pub invariant-loop : goal.invariant-loop
invariant-loop g l = l.slots.items ≡ replicate l.counter unused
