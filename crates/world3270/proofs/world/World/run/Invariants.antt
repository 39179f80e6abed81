use Rattle.std.specs.Prelude.{take}
use Rattle.world3270.specs.model.ByteRuns.{AllHappen}
use Rattle.world3270.proofs.Follows.{Gone}
use Rattle.world3270.proofs.world.World.run.Given as goal

abbrev pub invariant-loop-whole : goal.invariant-loop-whole
invariant-loop-whole l = AllHappen (take l.whole l.events) l.initial.self l.self × Gone (take l.whole l.events) l.initial.self l.self
