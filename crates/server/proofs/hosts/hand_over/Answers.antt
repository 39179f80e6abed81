use Rattle.std.proofs.Common.{◌<◌, ℕ, arith, get_or, length, None, ap, subst, sym, ◌∙◌}
use Rattle.server.specs.Hosts.{owner_after}
use Rattle.server.proofs.Apart.{any_default}
use Rattle.server.proofs.Places.{handed_length, none_handed, one_handed}
use Rattle.server.proofs.hosts.hand_over.Goals as goal

pub loop-conn-init : goal.loop-conn-init
loop-conn-init c = none_handed c.args.place c.args.current.now c.args.owners.now.items

pub loop-conn-preserved : goal.loop-conn-preserved
loop-conn-preserved c =
    let whole = c.requires in
    let below = c.loop-conn-test.true in
    let inside : c.loop-conn.conn < length c.args.owners.now.items = omega (arith, whole, below) in
    let same = ap length c.loop-conn.invariant ∙ handed_length c.args.place c.args.current.now c.args.owners.now.items c.loop-conn.conn in
    one_handed c.args.place c.args.current.now c.args.owners.now.items c.loop-conn.owners.items c.loop-conn.conn c.owner_after.result inside c.loop-conn.invariant
    (c.owner_after.ensures
    ∙ ap (λ owner. owner_after c.args.place owner c.phase.result) (c.index.ensures ∙ any_default c.loop-conn.owners.items c.loop-conn.conn c.index.result.now None (subst (λ (n : ℕ). c.loop-conn.conn < n) (sym same) inside))
    ∙ ap (owner_after c.args.place (get_or c.loop-conn.owners.items c.loop-conn.conn None)) c.phase.ensures)
