use Rattle.std.proofs.Common.{ℕ, List, ap, false, subst, sym}
use Rattle.std.proofs.lemmas.Result.{on_ok_weaker}
use Rattle.std.specs.Prelude.{OnOk}
use Rattle.jobs.specs.Counting.{Output}
use Rattle.operate.specs.Live.{Live, TakesTurn}
use Rattle.operate.specs.LiveSessions.{Session, Works, WritesTty}
use Rattle.operate.proofs.LiveFaults.{written_fails}
use Rattle.operate.proofs.live_session.OperatorSession.work.Goals as goal

works : {S K T : Type 0} (seen : T → Output) (came typed : List ℕ) (old new : Session S K T) (after : Live)
    (drawn : List ℕ) → TakesTurn came typed old.live after old.drawn drawn
    → WritesTty seen (record old { live = after; drawn = drawn; stale = false }) new → Works seen came typed old new
works seen came typed old new after drawn turned written = record {
  drawn = drawn;
  turned = subst (λ live. TakesTurn came typed old.live live old.drawn drawn) (sym (ap (λ s. s.live) written.rest)) turned;
  writes = subst (λ live. WritesTty seen (record old { live = live; drawn = drawn; stale = false }) new)
      (sym (ap (λ s. s.live) written.rest)) written;
}

pub returns-clause-works : goal.returns-clause-works
returns-clause-works g c = subst (λ old. OnOk c.write_tty.result (Works g.T.Sink.seen c.args.came.now c.args.typed.now old c.write_tty.new.self))
    c.self.view_is
    (on_ok_weaker c.write_tty.result
    (works g.T.Sink.seen c.args.came.now c.args.typed.now _ c.write_tty.new.self c.turn.new.self c.turn.new.drawn.items c.in_ok-turn.ensures)
    c.write_tty.ensures.writes)

pub returns-clause-fails : goal.returns-clause-fails
returns-clause-fails g c =
    written_fails g.T.Sink.seen c.self.inside.tty c.turn.new.drawn.items c.args.self.now c.write_tty.new.self c.write_tty.result
    (ap (λ s. s.tty) c.self.view_is) c.write_tty.ensures.fails
