use Rattle.std.proofs.Common.{◌≡◌, ◌-◌, true, false, sym, ap, ◌∙◌, arith, rules}
use Rattle.host_core.specs.State.{most_connections}
use Rattle.world3270.specs.model.ByteSteps.{is_held, free_from}
use Rattle.world3270.proofs.Steps.{free_here, free_on, none_from}
use Rattle.world3270.proofs.network.Network.free_number.Goals as goal

pub returns-then-not-is_held-clause-found : goal.returns-then-not-is_held-clause-found
returns-then-not-is_held-clause-found c =
    let held : is_held c.loop-conn.conn c.args.self.now ≡ false = search rules in
    sym (c.loop-conn.invariant ∙ free_here most_connections c.loop-conn.conn c.args.self.now c.loop-conn-test.true held)

pub loop-conn-preserved : goal.loop-conn-preserved
loop-conn-preserved c =
    let held : is_held c.loop-conn.conn c.args.self.now ≡ true = search rules in
    c.loop-conn.invariant ∙ free_on most_connections c.loop-conn.conn c.args.self.now c.loop-conn-test.true held

pub returns-clause-found : goal.returns-clause-found
returns-clause-found c =
    let none : most_connections - c.loop-conn.conn ≡ 0 = omega (arith, c.loop-conn-test.false) in
    sym (c.loop-conn.invariant ∙ ap (λ n. free_from n c.loop-conn.conn c.args.self.now) none ∙ none_from c.loop-conn.conn c.args.self.now)
