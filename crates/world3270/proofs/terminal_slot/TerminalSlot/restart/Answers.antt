use Rattle.std.proofs.Common.{None, ap, ◌∙◌}
use Rattle.term_core.specs.State.{new_terminal, model_of}
use Rattle.world3270.specs.model.ByteWorld.{TerminalSlot}
use Rattle.world3270.proofs.Slots.{begun}
use Rattle.world3270.proofs.terminal_slot.TerminalSlot.restart.Goals as goal

pub returns : goal.returns
returns c =
    begun c.restart.new.self.terminal (new_terminal (model_of c.args.self.now.tracked.terminal)) c.blank-self-inside.result c.blank-self-inside-2.result _ None
    (c.restart.ensures.terminal ∙ ap (λ (s : TerminalSlot). new_terminal (model_of s.tracked.terminal)) c.self.view_is) c.blank-self-inside.ensures c.blank-self-inside-2.ensures
