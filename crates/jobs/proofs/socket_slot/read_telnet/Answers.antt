use Rattle.std.proofs.Common.{rules, ◌≡◌, false, take, refl}
use Rattle.jobs.specs.Sockets.{begins_with_iac, no_telnet}
use Rattle.jobs.proofs.socket_slot.read_telnet.Goals as goal

-- src/socket_slot.rt:84:1
pub returns-in-Got-clause-once : goal.returns-in-Got-clause-once
returns-in-Got-clause-once g c =
    let foreign : begins_with_iac (take c.in-Got.count c.read_once.new.buffer) ≡ false = search rules in
    no_telnet (take c.in-Got.count c.read_once.new.buffer) c.in-Got.count search rules search rules foreign refl refl
