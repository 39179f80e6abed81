use Rattle.std.proofs.lemmas.Result.{err_from_is_err_and}
use Rattle.std.proofs.Common.{◌||◌, take}
use Rattle.term_core.specs.State.{is_bound, phase_of}
use Rattle.operate.specs.LiveSessions.{BreaksTurnTyped}
use Rattle.operate.proofs.LiveFaults.{phase_after}
use Rattle.operate.proofs.live_session.OperatorSession.turn_typed.Goals as goal

pub returns-in_err-came_count-clause-breaks : goal.returns-in_err-came_count-clause-breaks
returns-in_err-came_count-clause-breaks g c =
    let p = err_from_is_err_and c.from_residual.result c.from_residual.ensures.1 in
    rw (p.1, p.2) (BreaksTurnTyped.at_read _ c.in_err-came_count.ensures.fails)

pub returns-in_err-take_bytes-clause-breaks : goal.returns-in_err-take_bytes-clause-breaks
returns-in_err-take_bytes-clause-breaks g c =
    let p = err_from_is_err_and c.from_residual-in_err-take_bytes.result c.from_residual-in_err-take_bytes.ensures.1 in
    rw (p.1, p.2, c.in_err-take_bytes.ensures.memory) BreaksTurnTyped.for_memory

pub returns-in_err-check_phase-clause-breaks : goal.returns-in_err-check_phase-clause-breaks
returns-in_err-check_phase-clause-breaks g c =
    let p = err_from_is_err_and c.from_residual-in_err-check_phase.result c.from_residual-in_err-check_phase.ensures.1 in
    rw (p.1, p.2) (BreaksTurnTyped.by_phase _ (record {
      came = take c.in_ok-came_count.came_count c.read_host.new.came;
      heard = c.read_host.new.self;
      hears = c.in_ok-came_count.ensures.reads;
      taken = c.take_bytes.new.self;
      takes = c.in_ok-take_bytes.ensures.takes;
      sent = c.send-sent.new.self;
      moved = c.send-sent.result;
      sends = c.send-sent.ensures;
      noted = c.check_phase.ensures.noted;
    }) (phase_after c.send-sent.new.self c.check_phase.new.self (c.send-sent.new.self.was_bound || is_bound (phase_of c.send-sent.new.self.live.seat.terminal.link)) _ c.check_phase.ensures.noted c.in_err-check_phase.ensures.result))
