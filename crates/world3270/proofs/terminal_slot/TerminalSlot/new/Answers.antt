use Rattle.std.proofs.Common.{None}
use Rattle.term_core.specs.State.{new_terminal}
use Rattle.world3270.proofs.Slots.{begun}
use Rattle.world3270.proofs.terminal_slot.TerminalSlot.new.Goals as goal

pub returns : goal.returns
returns c = begun c.in_ok-terminal.terminal.terminal (new_terminal c.args.model) c.blank.result c.blank-2.result c.args.model None c.in_ok-terminal.ensures.terminal c.blank.ensures c.blank-2.ensures
