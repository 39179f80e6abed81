use Rattle.std.proofs.Common.{◌≡◌, subst, sym, arith}
use Rattle.panels.specs.declared.fault.Location.TheVariants.{Top}
use Rattle.panels.specs.Walk.{turn_at, AreFoundTo}
use Rattle.panels.proofs.Turning.{none_found, all_found}
use Rattle.panels.proofs.draft.Draft.faults.Goals as goal

pub loop-pass-init : goal.loop-pass-init
loop-pass-init c = subst (AreFoundTo (turn_at 1 Top) c.args.self.now) (sym c.new-found.ensures.items) (none_found c.args.self.now)

pub returns : goal.returns
returns c =
    let whole : c.loop-pass.pass ≡ 7 = omega arith in
    all_found c.args.self.now c.loop-pass.found.items (subst (λ n. AreFoundTo (turn_at n Top) c.args.self.now c.loop-pass.found.items) whole c.loop-pass.invariant)
