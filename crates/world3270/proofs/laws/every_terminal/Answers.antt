use Rattle.world3270.proofs.EveryTerminal.{every_terminal}
use Rattle.world3270.proofs.laws.every_terminal.Goals as goal

pub returns : goal.returns
returns c = every_terminal c.what_is_given.ensures c.painted_fields_are_there.ensures.written c.painted_fields_are_there.ensures.kept
