use Rattle.std.proofs.Common.{Bool, ap, refl, subst, sym, ◌∙◌, ◌≡◌, vec_len}
use Rattle.std.specs.Vec.{vec_capacity}
use Rattle.term_core.specs.Over.{link_of}
use Rattle.term_core.specs.Presses.{LacksKeyRoom, data_of_key, room_of}
use Rattle.term_core.specs.State.{TerminalWithRoom, is_bound, phase_of}
use Rattle.term_core.proofs.Sends.{of_an_error, lacks_room}
use Rattle.term_core.proofs.terminal.Terminal.press.Goals as goal

pub returns-in_err-reserve-clause-full : goal.returns-in_err-reserve-clause-full
returns-in_err-reserve-clause-full c =
    let out = c.self.inside.out in
    let old : TerminalWithRoom = record { terminal = record { link = link_of c.self.inside.attachment c.self.inside.decoder; station = c.self.inside.station; out = out.items }; room = vec_capacity out } in
    let phase = c.phase.ensures ∙ ap (λ (d : TerminalWithRoom). phase_of d.terminal.link) (sym c.self.view_is) in
    let bound = c.is_bound-bound.ensures ∙ ap is_bound phase in
    let asked : c.room_for-room.result ≡ room_of (data_of_key c.args.key (is_bound (phase_of old.terminal.link)) c.self.inside.station) =
    c.room_for-room.ensures ∙ ap (λ (b : Bool). room_of (data_of_key c.args.key b c.self.inside.station)) bound in
    let lacks = lacks_room (vec_capacity out) (vec_len out) (data_of_key c.args.key (is_bound (phase_of old.terminal.link)) c.self.inside.station) c.args.key old.terminal refl
    out.ok.0 out.ok.1 (rw asked at c.in_err-reserve.ensures.full) in
    of_an_error c.from_residual.result (LacksKeyRoom c.args.self.now.room c.args.key c.args.self.now.terminal)
    (subst (λ (d : TerminalWithRoom). LacksKeyRoom d.room c.args.key d.terminal) c.self.view_is lacks)
