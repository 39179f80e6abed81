use Rattle.std.proofs.Common.{◌||◌, take}
use Rattle.term_core.specs.State.{is_bound, phase_of}
use Rattle.std.proofs.lemmas.Result.{err_from_is_err_and}
use Rattle.operate.specs.LiveSessions.{BreaksTurnOver}
use Rattle.operate.proofs.LiveFaults.{not_taken, phase_after}
use Rattle.operate.proofs.live_session.OperatorSession.turn.Goals as goal

pub returns-in_err-came_count-clause-breaks : goal.returns-in_err-came_count-clause-breaks
returns-in_err-came_count-clause-breaks g c =
    let p = err_from_is_err_and c.from_residual.result c.from_residual.ensures.1 in
    rw (p.1, p.2) (BreaksTurnOver.at_read _ c.in_err-came_count.ensures.fails)

pub returns-in_err-typed_count-clause-breaks : goal.returns-in_err-typed_count-clause-breaks
returns-in_err-typed_count-clause-breaks g c =
    let p = err_from_is_err_and c.from_residual-in_err-typed_count.result c.from_residual-in_err-typed_count.ensures.1 in
    let fails = c.in_err-typed_count.ensures.fails in
    rw (p.1, p.2, fails.0) (BreaksTurnOver.at_keys _ _ c.in_ok-came_count.ensures.reads fails.1)

pub returns-in_err-take-clause-breaks : goal.returns-in_err-take-clause-breaks
returns-in_err-take-clause-breaks g c =
    let p = err_from_is_err_and c.from_residual-in_err-take.result c.from_residual-in_err-take.ensures.1 in
    rw (p.1, p.2) (not_taken g.T.Sink.seen _ _ _ _ _ c.in_ok-came_count.ensures.reads c.in_ok-typed_count.ensures.reads c.in_err-take.ensures.fails)

pub returns-in_err-check_phase-clause-breaks : goal.returns-in_err-check_phase-clause-breaks
returns-in_err-check_phase-clause-breaks g c =
    let p = err_from_is_err_and c.from_residual-in_err-check_phase.result c.from_residual-in_err-check_phase.ensures.1 in
    rw (p.1, p.2) (BreaksTurnOver.by_phase _ (record {
      came = take c.in_ok-came_count.came_count c.read_host.new.came;
      heard = c.read_host.new.self;
      hears = c.in_ok-came_count.ensures.reads;
      typed = take c.in_ok-typed_count.typed_count c.read_keys.new.typed;
      keyed = c.read_keys.new.self;
      keys = c.in_ok-typed_count.ensures.reads;
      taken = c.take.new.self;
      takes = c.in_ok-take.ensures.takes;
      sent = c.send-sent.new.self;
      moved = c.send-sent.result;
      sends = c.send-sent.ensures;
      noted = c.check_phase.ensures.noted;
    }) (phase_after c.send-sent.new.self c.check_phase.new.self (c.send-sent.new.self.was_bound || is_bound (phase_of c.send-sent.new.self.live.seat.terminal.link)) _ c.check_phase.ensures.noted c.in_err-check_phase.ensures.result))

pub returns-clause-takes : goal.returns-clause-takes
returns-clause-takes g c = record {
  came = take c.in_ok-came_count.came_count c.read_host.new.came;
  heard = c.read_host.new.self;
  hears = c.in_ok-came_count.ensures.reads;
  typed = take c.in_ok-typed_count.typed_count c.read_keys.new.typed;
  keyed = c.read_keys.new.self;
  keys = c.in_ok-typed_count.ensures.reads;
  taken = c.take.new.self;
  takes = c.in_ok-take.ensures.takes;
  sent = c.send-sent.new.self;
  moved = c.send-sent.result;
  sends = c.send-sent.ensures;
  noted = c.check_phase.ensures.noted;
}
