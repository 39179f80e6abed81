use Rattle.telnet_wire.proofs.Running.{fresh_runs}
use Rattle.tn3270e_msg.specs.Header.{record_limit}
use Rattle.term_core.proofs.Steps.{limit_of}
use Rattle.term_core.proofs.terminal.Terminal.connected.Goals as goal

pub invariant_of-self : goal.invariant_of-self
invariant_of-self c =
    fresh_runs record_limit c.reset.new.self c.self.inside.decoder.limit c.reset.ensures (limit_of c.self.inside.attachment c.self.inside.decoder c.self.invariant)
