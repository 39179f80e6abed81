use Rattle.std.proofs.Common.{arith, sym, ap, Option, ℕ, ◌∙◌}
use Rattle.server.specs.Hosts.{Hosts, host_at, host_of}
use Rattle.server.proofs.Apart.{host_got, owner_got}
use Rattle.server.proofs.hosts.Hosts.at.Goals as goal

pub index-requires-in-Some : goal.index-requires-in-Some
index-requires-in-Some c =
    let hosts : Hosts = record { current = c.self.inside.current; earlier = c.self.inside.earlier.items; owners = c.self.inside.owners.items } in
    let there = (c.self.invariant.earlier c.args.conn c.in-Some.place (owner_got c.args.conn hosts c.index.result.now c.requires c.self.invariant c.index.ensures ∙ c.in-Some.is)).there in
    let len = c.self.inside.earlier.ok.0 in
    omega (arith, there, len)

pub returns-in-Some : goal.returns-in-Some
returns-in-Some c =
    let hosts : Hosts = record { current = c.self.inside.current; earlier = c.self.inside.earlier.items; owners = c.self.inside.owners.items } in
    let owner = owner_got c.args.conn hosts c.index.result.now c.requires c.self.invariant c.index.ensures ∙ c.in-Some.is in
    host_got c.in-Some.place hosts c.index-in-Some.result.now (c.self.invariant.earlier c.args.conn c.in-Some.place owner).there c.index-in-Some.ensures
    ∙ ap (λ (o : Option ℕ). host_of o hosts) (sym owner) ∙ ap (host_at c.args.conn) c.self.view_is
