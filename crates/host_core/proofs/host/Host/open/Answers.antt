use Rattle.std.proofs.Common.{ap, sym, subst, ◌∙◌}
use Rattle.host_core.specs.Sound.{IsSound}
use Rattle.host_core.specs.State.{Host, Sessions, lu_of}
use Rattle.host_core.proofs.Hosts.{changed, changed_sound, counted_sound, held_here, connection_got, others_stay, is_free}
use Rattle.host_core.proofs.host.Host.open.Goals as goal

pub invariant_of-self : goal.invariant_of-self
invariant_of-self c =
    let host : Host = record { panels = c.self.inside.panels; pool = c.self.inside.pool; connections = c.self.inside.connections.items; sessions = c.self.inside.sessions; terminals = c.self.inside.terminals } in
    let got = connection_got c.args.conn host c.index_mut.result.now c.requires.number c.self.invariant.0 c.index_mut.ensures.value in (
      changed_sound c.args.conn c.self.inside.pool c.open.new.self host c.requires.number c.self.invariant.0
          (held_here c.args.conn c.open.new.self c.index_mut.result.now host c.requires.number c.self.invariant.0 got
          (c.open.ensures.held ∙ sym (ap lu_of (is_free c.args.conn host c.args.self.now c.index_mut.result.now c.self.view_is got c.requires.free))))
          (others_stay c.args.conn c.self.inside.pool) (c.open.ensures.shown),
      c.self.invariant.1,
    )

pub invariant_of-self-2 : goal.invariant_of-self-2
invariant_of-self-2 c =
    let host : Host = record { panels = c.self.inside.panels; pool = c.self.inside.pool; connections = c.self.inside.connections.items; sessions = c.self.inside.sessions; terminals = c.self.inside.terminals } in
    let got = connection_got c.args.conn host c.index_mut.result.now c.requires.number c.self.invariant.0 c.index_mut.ensures.value in (
      subst (λ (sessions : Sessions). IsSound (record (changed c.args.conn c.self.inside.pool c.open.new.self host) { sessions = sessions })) (sym c.count.ensures)
          (counted_sound c.args.conn (changed c.args.conn c.self.inside.pool c.open.new.self host)
          (changed_sound c.args.conn c.self.inside.pool c.open.new.self host c.requires.number c.self.invariant.0
          (held_here c.args.conn c.open.new.self c.index_mut.result.now host c.requires.number c.self.invariant.0 got
          (c.open.ensures.held ∙ sym (ap lu_of (is_free c.args.conn host c.args.self.now c.index_mut.result.now c.self.view_is got c.requires.free))))
          (others_stay c.args.conn c.self.inside.pool) c.open.ensures.shown)),
      c.self.invariant.1,
    )

pub open-requires : goal.open-requires
open-requires c =
    let host : Host = record { panels = c.self.inside.panels; pool = c.self.inside.pool; connections = c.self.inside.connections.items; sessions = c.self.inside.sessions; terminals = c.self.inside.terminals } in
    let got = connection_got c.args.conn host c.index_mut.result.now c.requires.number c.self.invariant.0 c.index_mut.ensures.value in
    record { free = is_free c.args.conn host c.args.self.now c.index_mut.result.now c.self.view_is got c.requires.free }
