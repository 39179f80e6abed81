use Rattle.std.proofs.Common.{subst}
use Rattle.term_core.specs.Presses.{LacksKeyRoom}
use Rattle.term_core.specs.Room.{out_room}
use Rattle.term_core.proofs.Sends.{of_an_error}
use Rattle.world3270.specs.model.ByteWorld.{TerminalSlot}
use Rattle.world3270.proofs.Slots.{key_lacked}
use Rattle.world3270.proofs.terminal_slot.TerminalSlot.press.Goals as goal

pub returns-in_err-pressed-clause-full : goal.returns-in_err-pressed-clause-full
returns-in_err-pressed-clause-full c =
    let lacks = key_lacked c.self.inside.at c.self.inside.terminal c.args.key c.self.invariant c.in_err-pressed.ensures.full in
    of_an_error c.from_residual.result (LacksKeyRoom out_room c.args.key c.args.self.now.tracked.terminal)
    (subst (λ (slot : TerminalSlot). LacksKeyRoom out_room c.args.key slot.tracked.terminal) c.self.view_is lacks)
