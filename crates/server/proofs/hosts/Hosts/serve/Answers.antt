use Rattle.std.proofs.Common.{arith, subst, ap, set, ◌∙◌}
use Rattle.host_core.specs.OneNumber.{ChangesOne}
use Rattle.host_core.specs.Serves.{Serves}
use Rattle.host_core.specs.State.{Host}
use Rattle.host_core.proofs.OneNumber.{serves_changes}
use Rattle.server.specs.Hosts.{Hosts, host_at}
use Rattle.server.proofs.Apart.{current_after, current_changed, earlier_after, earlier_changed, host_before, host_got, host_now, of_changes, owner_got}
use Rattle.server.proofs.hosts.Hosts.serve.Goals as goal

pub index_mut-requires : goal.index_mut-requires
index_mut-requires g c =
    let hosts : Hosts = record { current = c.self.inside.current; earlier = c.self.inside.earlier.items; owners = c.self.inside.owners.items } in
    let there = (c.self.invariant.earlier c.args.conn c.in-Some.place (owner_got c.args.conn hosts c.index.result.now c.requires.number c.self.invariant c.index.ensures ∙ c.in-Some.is)).there in
    let len = c.self.inside.earlier.ok.0 in
    omega (arith, there, len)

pub invariant_of-self : goal.invariant_of-self
invariant_of-self g c =
    let hosts : Hosts = record { current = c.self.inside.current; earlier = c.self.inside.earlier.items; owners = c.self.inside.owners.items } in
    let owner = owner_got c.args.conn hosts c.index.result.now c.requires.number c.self.invariant c.index.ensures ∙ c.in-Some.is in
    earlier_changed c.args.conn c.in-Some.place c.serve_turn.new.host hosts c.self.invariant owner
    (subst (λ (host : Host). ChangesOne c.args.conn host c.serve_turn.new.host) (host_got c.in-Some.place hosts c.index_mut.result.now (c.self.invariant.earlier c.args.conn c.in-Some.place owner).there c.index_mut.ensures.value)
    (serves_changes g.L.Links.gave g.L.Links.took c.args.conn c.index_mut.result.now c.args.links.now c.serve_turn.result c.serve_turn.new.host c.serve_turn.new.links c.serve_turn.ensures.serves))

pub invariant_of-self-in-None : goal.invariant_of-self-in-None
invariant_of-self-in-None g c =
    let hosts : Hosts = record { current = c.self.inside.current; earlier = c.self.inside.earlier.items; owners = c.self.inside.owners.items } in
    current_changed c.args.conn c.serve_turn-in-None.new.host hosts c.requires.number c.self.invariant (owner_got c.args.conn hosts c.index.result.now c.requires.number c.self.invariant c.index.ensures ∙ c.in-None.is)
    (of_changes c.args.conn c.self.inside.current c.serve_turn-in-None.new.host (serves_changes g.L.Links.gave g.L.Links.took c.args.conn c.self.inside.current c.args.links.now c.serve_turn-in-None.result c.serve_turn-in-None.new.host c.serve_turn-in-None.new.links c.serve_turn-in-None.ensures.serves))

pub returns-in-Some-clause-serves : goal.returns-in-Some-clause-serves
returns-in-Some-clause-serves g c =
    let hosts : Hosts = record { current = c.self.inside.current; earlier = c.self.inside.earlier.items; owners = c.self.inside.owners.items } in
    let owner = owner_got c.args.conn hosts c.index.result.now c.requires.number c.self.invariant c.index.ensures ∙ c.in-Some.is in
    let got = host_got c.in-Some.place hosts c.index_mut.result.now (c.self.invariant.earlier c.args.conn c.in-Some.place owner).there c.index_mut.ensures.value in
    subst (λ (host : Host). Serves g.L.Links.gave g.L.Links.took c.args.conn host c.args.links.now c.serve_turn.result (host_at c.args.conn (record hosts { earlier = set hosts.earlier c.in-Some.place c.serve_turn.new.host })) c.serve_turn.new.links)
    (host_before c.args.conn c.in-Some.place hosts c.index_mut.result.now owner got ∙ ap (host_at c.args.conn) c.self.view_is)
    (subst (λ (host : Host). Serves g.L.Links.gave g.L.Links.took c.args.conn c.index_mut.result.now c.args.links.now c.serve_turn.result host c.serve_turn.new.links)
    (earlier_after c.args.conn c.in-Some.place c.serve_turn.new.host hosts c.self.invariant owner) c.serve_turn.ensures.serves)

pub returns-in-None-clause-serves : goal.returns-in-None-clause-serves
returns-in-None-clause-serves g c =
    let hosts : Hosts = record { current = c.self.inside.current; earlier = c.self.inside.earlier.items; owners = c.self.inside.owners.items } in
    let owner = owner_got c.args.conn hosts c.index.result.now c.requires.number c.self.invariant c.index.ensures ∙ c.in-None.is in
    subst (λ (host : Host). Serves g.L.Links.gave g.L.Links.took c.args.conn host c.args.links.now c.serve_turn-in-None.result (host_at c.args.conn (record hosts { current = c.serve_turn-in-None.new.host })) c.serve_turn-in-None.new.links)
    (host_now c.args.conn hosts owner ∙ ap (host_at c.args.conn) c.self.view_is)
    (subst (λ (host : Host). Serves g.L.Links.gave g.L.Links.took c.args.conn hosts.current c.args.links.now c.serve_turn-in-None.result host c.serve_turn-in-None.new.links)
    (current_after c.args.conn c.serve_turn-in-None.new.host hosts owner) c.serve_turn-in-None.ensures.serves)
