use Rattle.std.proofs.Common.{◌≡◌, take}
use Rattle.term_core.specs.Feeds.{IsAttached}
use Rattle.world3270.specs.model.TrackedTerminals.{TrackedTakes}
use Rattle.world3270.proofs.terminal_slot.TerminalSlot.feed.Given as goal

abbrev pub invariant-loop-taken : goal.invariant-loop-taken
invariant-loop-taken l =
    TrackedTakes l.initial.self.tracked (take l.taken l.bytes) l.self.tracked × IsAttached l.self.tracked.terminal.link × (l.self.at ≡ l.initial.self.at)
