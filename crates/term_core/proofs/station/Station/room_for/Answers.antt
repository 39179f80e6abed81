use Rattle.std.proofs.Common.{sym, ◌∙◌}
use Rattle.term_core.specs.Presses.{key_outcome}
use Rattle.term_core.proofs.Sends.{room_if_sent, no_room_if_unbound, no_room_if_silent}
use Rattle.term_core.proofs.station.Station.room_for.Goals as goal
use Rattle.term_core.proofs.station.Station.room_for.Goals.{else-bound-via-then-bound+else-sends, else-bound-via-else-bound}

pub returns-then-sends : goal.returns-then-sends
returns-then-sends c =
    let outcome = key_outcome c.args.key.now c.args.self.now in
    room_if_sent c.args.bound outcome.answer outcome.screen c.if-bound.true (sym c.sends.ensures ∙ c.if-sends.true)

pub returns-else-bound : goal.returns-else-bound
returns-else-bound c =
    let outcome = key_outcome c.args.key.now c.args.self.now in
    elim c.else-bound.branch [
      | else-bound-via-then-bound+else-sends w ↦ no_room_if_silent c.args.bound outcome.answer outcome.screen (sym w.sends.ensures ∙ w.if-sends.false)
      | else-bound-via-else-bound w ↦ no_room_if_unbound c.args.bound outcome.answer outcome.screen w.if-bound.false
    ]
