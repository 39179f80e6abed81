use Rattle.std.proofs.Common.{arith, ap, ◌∙◌}
use Rattle.host_core.specs.State.{given_up}
use Rattle.server.specs.Apart.{service_at}
use Rattle.server.specs.Hosts.{Hosts}
use Rattle.server.proofs.Apart.{closed_is_free, current_closed, current_closed_others, earlier_closed, earlier_closed_others, host_got, owner_got}
use Rattle.server.proofs.hosts.Hosts.closed.Goals as goal

pub index_mut-requires : goal.index_mut-requires
index_mut-requires c =
    let hosts : Hosts = record { current = c.self.inside.current; earlier = c.self.inside.earlier.items; owners = c.self.inside.owners.items } in
    let there = (c.self.invariant.earlier c.args.conn c.in-Some.place (owner_got c.args.conn hosts c.index.result.now c.requires.number c.self.invariant c.index.ensures ∙ c.in-Some.is)).there in
    let len = c.self.inside.earlier.ok.0 in
    omega (arith, there, len)

pub invariant_of-self : goal.invariant_of-self
invariant_of-self c =
    let hosts : Hosts = record { current = c.self.inside.current; earlier = c.self.inside.earlier.items; owners = c.self.inside.owners.items } in
    let owner = owner_got c.args.conn hosts c.index.result.now c.requires.number c.self.invariant c.index.ensures ∙ c.in-Some.is in
    let got = host_got c.in-Some.place hosts c.index_mut.result.now (c.self.invariant.earlier c.args.conn c.in-Some.place owner).there c.index_mut.ensures.value in
    rw (c.release.ensures.released, c.closed.ensures.closed, got)
    (earlier_closed c.args.conn c.in-Some.place hosts c.requires.number c.self.invariant owner)

pub invariant_of-self-in-None : goal.invariant_of-self-in-None
invariant_of-self-in-None c =
    let hosts : Hosts = record { current = c.self.inside.current; earlier = c.self.inside.earlier.items; owners = c.self.inside.owners.items } in
    rw c.closed-in-None.ensures.closed (current_closed c.args.conn hosts c.requires.number c.self.invariant (owner_got c.args.conn hosts c.index.result.now c.requires.number c.self.invariant c.index.ensures ∙ c.in-None.is))

pub returns-in-Some-clause-free : goal.returns-in-Some-clause-free
returns-in-Some-clause-free c =
    let hosts : Hosts = record { current = c.self.inside.current; earlier = c.self.inside.earlier.items; owners = c.self.inside.owners.items } in
    closed_is_free c.args.conn c.in-Some.place hosts c.release.new.self _ c.requires.number c.self.invariant (owner_got c.args.conn hosts c.index.result.now c.requires.number c.self.invariant c.index.ensures ∙ c.in-Some.is) c.release.ensures.released

pub returns-in-Some-clause-others : goal.returns-in-Some-clause-others
returns-in-Some-clause-others c = λ other ne.
    let hosts : Hosts = record { current = c.self.inside.current; earlier = c.self.inside.earlier.items; owners = c.self.inside.owners.items } in
    let owner = owner_got c.args.conn hosts c.index.result.now c.requires.number c.self.invariant c.index.ensures ∙ c.in-Some.is in
    let got = host_got c.in-Some.place hosts c.index_mut.result.now (c.self.invariant.earlier c.args.conn c.in-Some.place owner).there c.index_mut.ensures.value in
    earlier_closed_others c.args.conn c.in-Some.place hosts c.release.new.self c.closed.new.self c.self.invariant owner c.release.ensures.released
    (c.closed.ensures.closed ∙ ap (given_up c.args.conn) got) other ne ∙ ap (service_at other) c.self.view_is

pub returns-in-None-clause-others : goal.returns-in-None-clause-others
returns-in-None-clause-others c = λ other ne.
    let hosts : Hosts = record { current = c.self.inside.current; earlier = c.self.inside.earlier.items; owners = c.self.inside.owners.items } in
    current_closed_others c.args.conn hosts c.closed-in-None.new.self c.self.invariant c.closed-in-None.ensures.closed other ne ∙ ap (service_at other) c.self.view_is
