use Rattle.std.proofs.Common.{subst}
use Rattle.server.specs.Apart.{NobodyShares}
use Rattle.server.specs.Hosts.{Hosts}
use Rattle.server.proofs.Apart.{nobody_shares}
use Rattle.server.proofs.hosts.Hosts.hosts_are_apart.Goals as goal

pub returns-clause-unshared : goal.returns-clause-unshared
returns-clause-unshared c =
    let hosts : Hosts = record { current = c.self.inside.current; earlier = c.self.inside.earlier.items; owners = c.self.inside.owners.items } in
    subst NobodyShares c.self.view_is
    (nobody_shares hosts c.self.invariant c.hosts_are_sound.ensures.sound c.hosts_are_sound.ensures.one_holder c.hosts_are_sound.ensures.unshared)
