use Rattle.server.proofs.Apart.{only_apart}
use Rattle.server.proofs.hosts.Hosts.new.Goals as goal

pub invariant_of-result : goal.invariant_of-result
invariant_of-result c = only_apart c.args.host c.new.result.items c.in_ok-owners.owners.items c.in_ok-owners.ensures
