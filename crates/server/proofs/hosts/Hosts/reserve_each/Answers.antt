use Rattle.std.proofs.Common.{◌≡◌, ℕ, ap, arith, subst, ◌∙◌}
use Rattle.host_core.specs.State.{phase_of, state_at}
use Rattle.host_core.specs.declared.phase.Phase.{Phase}
use Rattle.server.specs.Apart.{KeepsFor, Reserves}
use Rattle.server.specs.Hosts.{lu_in, reserved_for}
use Rattle.server.proofs.Reloads.{none_below, none_reserved, one_below, one_reserved}
use Rattle.server.proofs.hosts.Hosts.reserve_each.Goals as goal

pub loop-conn-init : goal.loop-conn-init
loop-conn-init c = (none_below c.args.self.now c.args.host.now, none_reserved c.args.self.now c.args.host.now.pool c.requires.nobody)

pub loop-conn-preserved : goal.loop-conn-preserved
loop-conn-preserved c =
    let now = c.phase.ensures ∙ ap (λ host. phase_of (state_at c.loop-conn.conn host)) c.at.ensures in (
      one_below c.args.self.now c.args.host.now c.loop-conn.host c.reserve_for.new.host c.loop-conn.conn c.loop-conn.invariant.0
          (c.reserve_for.ensures.reserved ∙ ap (λ (phase : Phase). reserved_for c.loop-conn.conn phase c.loop-conn.host) now),
      one_reserved c.args.self.now c.loop-conn.conn c.loop-conn.host.pool c.reserve_for.new.host.pool c.hosts_are_apart.ensures.unshared c.loop-conn.invariant.1
          (subst (λ (phase : Phase). Reserves c.loop-conn.conn (lu_in phase) c.loop-conn.host.pool c.reserve_for.new.host.pool) now c.reserve_for.ensures.reserves),
    )

pub returns-clause-kept : goal.returns-clause-kept
returns-clause-kept c =
    let whole : c.loop-conn.conn ≡ 64 = omega arith in
    subst (λ (n : ℕ). KeepsFor c.args.self.now n c.loop-conn.host.pool) whole c.loop-conn.invariant.1.kept
