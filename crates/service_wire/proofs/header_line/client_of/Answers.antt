use Rattle.std.proofs.Common.{arith}
use Rattle.std.proofs.lemmas.Grind.{common_steps}
use Rattle.service_wire.proofs.Clients.{no_ipv4_addresses, no_ipv6_addresses, no_pair_of_ports}
use Rattle.service_wire.proofs.header_line.client_of.Goals as goal

pub returns-in_err-first_ipv4-in-TCP4 : goal.returns-in_err-first_ipv4-in-TCP4
returns-in_err-first_ipv4-in-TCP4 c = rw c.from_residual.ensures (no_ipv4_addresses _ _ _ _ _ (grind (arith, common_steps)) c.in_err-first_ipv4-in-TCP4.ensures)

pub returns-in_err-first_ipv6-in-TCP6 : goal.returns-in_err-first_ipv6-in-TCP6
returns-in_err-first_ipv6-in-TCP6 c =
    rw c.from_residual-in_err-first_ipv6-in-TCP6.ensures (no_ipv6_addresses _ _ _ _ _ (grind (arith, common_steps)) c.in_err-first_ipv6-in-TCP6.ensures)

pub returns-in_err-port : goal.returns-in_err-port
returns-in_err-port c = rw c.from_residual-in_err-port.ensures (no_pair_of_ports _ _ _ _ _ c.in_err-port.ensures)
