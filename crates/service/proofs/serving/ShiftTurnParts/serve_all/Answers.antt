use Rattle.std.proofs.Common.{refl}
use Rattle.std.proofs.lemmas.Result.{err_from_is_err_and}
use Rattle.server.specs.ServerTurns.{polled}
use Rattle.service.proofs.Polls.{not_polled}
use Rattle.service.proofs.serving.ShiftTurnParts.serve_all.Goals as goal

pub returns-in_err-poll : goal.returns-in_err-poll
returns-in_err-poll g c =
    let p = err_from_is_err_and c.from_residual.result c.from_residual.ensures.1 in
    rw (p.1, p.2, c.in_err-poll.ensures) (not_polled _ _ _ _ _ _ _ _ _ _ _, refl, refl, refl, refl)

pub returns-then-is_closed : goal.returns-then-is_closed
returns-then-is_closed g c = rw (← c.if-is_closed.ensures) (polled _ c.turn.ensures, refl, refl, refl, refl)

pub returns-else-is_closed : goal.returns-else-is_closed
returns-else-is_closed g c = rw (← c.if-is_closed.ensures) (polled _ c.turn-else-is_closed.ensures, refl, refl, refl, refl)
