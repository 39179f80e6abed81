use Rattle.std.proofs.Common.{arith, subst, ◌∙◌}
use Rattle.host_core.specs.OneNumber.{ChangesOne}
use Rattle.host_core.specs.State.{Host}
use Rattle.host_core.proofs.OneNumber.{answer_changes}
use Rattle.server.specs.Hosts.{Hosts}
use Rattle.server.proofs.Apart.{current_changed, earlier_changed, host_got, of_changes, owner_got}
use Rattle.server.proofs.hosts.Hosts.answer.Goals as goal

pub index_mut-requires : goal.index_mut-requires
index_mut-requires c =
    let hosts : Hosts = record { current = c.self.inside.current; earlier = c.self.inside.earlier.items; owners = c.self.inside.owners.items } in
    let there = (c.self.invariant.earlier c.args.conn c.in-Some.place (owner_got c.args.conn hosts c.index.result.now c.requires.number c.self.invariant c.index.ensures ∙ c.in-Some.is)).there in
    let len = c.self.inside.earlier.ok.0 in
    omega (arith, there, len)

pub invariant_of-self : goal.invariant_of-self
invariant_of-self c =
    let hosts : Hosts = record { current = c.self.inside.current; earlier = c.self.inside.earlier.items; owners = c.self.inside.owners.items } in
    let owner = owner_got c.args.conn hosts c.index.result.now c.requires.number c.self.invariant c.index.ensures ∙ c.in-Some.is in
    earlier_changed c.args.conn c.in-Some.place c.answer.new.self hosts c.self.invariant owner
    (subst (λ (host : Host). ChangesOne c.args.conn host c.answer.new.self) (host_got c.in-Some.place hosts c.index_mut.result.now (c.self.invariant.earlier c.args.conn c.in-Some.place owner).there c.index_mut.ensures.value)
    (answer_changes c.args.conn c.args.ticket c.args.answer.now c.index_mut.result.now c.answer.result c.answer.new.self c.answer.ensures.answered c.answer.ensures.others))

pub invariant_of-self-in-None : goal.invariant_of-self-in-None
invariant_of-self-in-None c =
    let hosts : Hosts = record { current = c.self.inside.current; earlier = c.self.inside.earlier.items; owners = c.self.inside.owners.items } in
    current_changed c.args.conn c.answer-in-None.new.self hosts c.requires.number c.self.invariant (owner_got c.args.conn hosts c.index.result.now c.requires.number c.self.invariant c.index.ensures ∙ c.in-None.is)
    (of_changes c.args.conn c.self.inside.current c.answer-in-None.new.self (answer_changes c.args.conn c.args.ticket c.args.answer.now c.self.inside.current c.answer-in-None.result c.answer-in-None.new.self c.answer-in-None.ensures.answered c.answer-in-None.ensures.others))
