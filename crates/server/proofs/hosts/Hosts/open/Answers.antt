use Rattle.std.proofs.Common.{subst, sym, ◌≡◌}
use Rattle.host_core.specs.State.{phase_of}
use Rattle.host_core.specs.declared.phase.Phase.TheVariants as phase
use Rattle.server.specs.Apart.{service_at}
use Rattle.server.specs.Hosts.{Hosts}
use Rattle.server.proofs.Apart.{free_here, opened_if_apart}
use Rattle.server.proofs.hosts.Hosts.open.Goals as goal

pub invariant_of-self : goal.invariant_of-self
invariant_of-self c =
    let hosts : Hosts = record { current = c.self.inside.current; earlier = c.self.inside.earlier.items; owners = c.self.inside.owners.items } in
    opened_if_apart c.args.conn hosts c.open.new.self c.open.result c.requires.number c.self.invariant (subst (λ (h : Hosts). phase_of (service_at c.args.conn h) ≡ phase.Free) (sym c.self.view_is) c.requires.free)
    c.open.ensures.opened c.open.ensures.unchanged

pub open-requires-clause-free : goal.open-requires-clause-free
open-requires-clause-free c =
    let hosts : Hosts = record { current = c.self.inside.current; earlier = c.self.inside.earlier.items; owners = c.self.inside.owners.items } in
    free_here c.args.conn hosts c.self.invariant (subst (λ (h : Hosts). phase_of (service_at c.args.conn h) ≡ phase.Free) (sym c.self.view_is) c.requires.free)
