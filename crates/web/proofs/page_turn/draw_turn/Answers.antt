use Rattle.std.proofs.Common.{◌≡◌, true, length, Err, ap, refl, subst}
use Rattle.web_wire.specs.Sockets.{is_full}
use Rattle.std.proofs.lemmas.Result.{err_from_is_err_and}
use Rattle.operate.specs.LiveSessions.{BreaksTurnTyped, TakesTurnTyped}
use Rattle.web.specs.Pages.{FailsToDraw}
use Rattle.web.proofs.page_turn.draw_turn.Goals as goal

pub returns-in_err-moved-clause-fails : goal.returns-in_err-moved-clause-fails
returns-in_err-moved-clause-fails g c =
    let p = err_from_is_err_and c.from_residual.result c.from_residual.ensures.1 in
    rw (p.1, p.2) (FailsToDraw.at_turn _ c.turn_typed.new.drawn.items
    (subst (λ front. BreaksTurnTyped g.H.RawRead.read_gave g.H.RawWrite.write_took c.args.typed.now c.args.terminal.now c.turn_typed.new.self front c.turn_typed.new.drawn.items c.in_err-moved.field-0.0) c.new-drawing.ensures.items c.in_err-moved.ensures.breaks)
    refl)

pub returns-clause-fails : goal.returns-clause-fails
returns-clause-fails g c =
    rw (c.fault_of.ensures) (FailsToDraw.at_page c.turn_typed.new.drawn.items c.in-Err.fault
    (subst (λ front. TakesTurnTyped g.H.RawRead.read_gave g.H.RawWrite.write_took c.args.typed.now c.args.terminal.now c.turn_typed.new.self front c.turn_typed.new.drawn.items) c.new-drawing.ensures.items c.in_ok-moved.ensures.takes)
    c.in-Err.ensures.unchanged
    (λ e. subst (λ bytes. is_full c.args.page.now.frames.output (length bytes) ≡ true) c.as_slice.ensures.value (c.in-Err.ensures.full (ap Err e))))
