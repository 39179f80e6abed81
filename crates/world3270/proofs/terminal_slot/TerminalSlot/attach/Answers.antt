use Rattle.std.proofs.Common.{Some, ap, ◌∙◌}
use Rattle.term_core.specs.State.{Terminal, connected, model_of}
use Rattle.world3270.specs.model.ByteWorld.{TerminalSlot}
use Rattle.world3270.proofs.Slots.{begun}
use Rattle.world3270.proofs.terminal_slot.TerminalSlot.attach.Goals as goal

pub returns-clause-attached_slot : goal.returns-clause-attached_slot
returns-clause-attached_slot c =
    let same = c.make_room.ensures.terminal ∙ ap (λ (s : TerminalSlot). s.tracked.terminal) c.self.view_is in
    begun c.connected.new.self.terminal (connected (model_of c.args.self.now.tracked.terminal) c.args.wanted) c.blank-self-inside.result c.blank-self-inside-2.result _ (Some c.args.conn)
    (c.connected.ensures.terminal ∙ ap (λ (t : Terminal). connected (model_of t) c.args.wanted) same) c.blank-self-inside.ensures c.blank-self-inside-2.ensures
