use Rattle.std.proofs.Common.{◌∙◌, ℕ, List, take, sym, subst, arith}
use Rattle.scripts.specs.Waits.{read_room}
use Rattle.jobs.specs.declared.streams.Answer.TheVariants.{Gave, Interrupted}
use Rattle.scripts.proofs.Waits.{after_all, after_bytes, after_nothing, after_wait_over, after_unsent, begins, ends_by_reads, ends_lost, is_over}
use Rattle.scripts.proofs.operator.exchange.Goals.{in-Gave+in_ok-take-in-Gave, in-Interrupted}
use Rattle.scripts.proofs.operator.exchange.Goals as goal

pub loop-init : goal.loop-init
loop-init g c = begins g.D.Source.gave c.args.terminal.now.terminal c.args.down.now (g.U.Sink.seen c.args.up.now)

pub returns-then-not-send_all : goal.returns-then-not-send_all
returns-then-not-send_all g c =
    after_unsent g.D.Source.gave c.loop.counter c.args.terminal.now.terminal c.loop.terminal.terminal c.args.down.now c.loop.down (g.U.Sink.seen c.args.up.now) (g.U.Sink.seen c.loop.up)
    c.loop.invariant c.send_all.result c.send_all.new.terminal.terminal (g.U.Sink.seen c.send_all.new.up) c.send_all.ensures c.if-not-send_all.true

pub returns-then-is_wait_over : goal.returns-then-is_wait_over
returns-then-is_wait_over g c =
    after_wait_over g.D.Source.gave c.loop.counter c.args.terminal.now.terminal c.loop.terminal.terminal c.args.down.now c.loop.down (g.U.Sink.seen c.args.up.now) (g.U.Sink.seen c.loop.up)
    c.loop.invariant c.send_all.result c.send_all.new.terminal.terminal (g.U.Sink.seen c.send_all.new.up) c.send_all.ensures c.if-not-send_all.false
    (sym c.is_wait_over.ensures ∙ c.if-is_wait_over.true)

pub returns-in-Ended : goal.returns-in-Ended
returns-in-Ended g c =
    let all = after_all g.D.Source.gave c.loop.counter c.args.terminal.now.terminal c.loop.terminal.terminal c.args.down.now c.loop.down (g.U.Sink.seen c.args.up.now) (g.U.Sink.seen c.loop.up)
    c.loop.invariant c.send_all.result c.send_all.new.terminal.terminal (g.U.Sink.seen c.send_all.new.up) c.send_all.ensures c.if-not-send_all.false in
    let over = is_over c.read_host.result c.read_host.new.buffer c.in-Ended.is in
    ends_lost g.D.Source.gave c.loop.counter c.args.terminal.now.terminal c.send_all.new.terminal.terminal c.args.down.now c.loop.down (g.U.Sink.seen c.args.up.now) (g.U.Sink.seen c.send_all.new.up)
    all.0 c.lost.new.self.terminal c.read_host.new.down c.read_host.result all.1
    (subst (λ (bytes : List ℕ). g.D.Source.gave c.loop.down read_room bytes c.read_host.result c.read_host.new.down) over.0 c.read_host.ensures.gave)
    over.1 c.lost.ensures.terminal

pub loop-preserved : goal.loop-preserved
loop-preserved g c =
    let all = after_all g.D.Source.gave c.loop.counter c.args.terminal.now.terminal c.loop.terminal.terminal c.args.down.now c.loop.down (g.U.Sink.seen c.args.up.now) (g.U.Sink.seen c.loop.up)
    c.loop.invariant c.send_all.result c.send_all.new.terminal.terminal (g.U.Sink.seen c.send_all.new.up) c.send_all.ensures c.if-not-send_all.false in
    let waits = sym c.is_wait_over.ensures ∙ c.if-is_wait_over.false in
    elim c.match-read_host.branch [
      | in-Gave+in_ok-take-in-Gave w ↦ rw w.terminal-is
          (after_bytes g.D.Source.gave c.loop.counter c.args.terminal.now.terminal c.send_all.new.terminal.terminal c.args.down.now c.loop.down (g.U.Sink.seen c.args.up.now) (g.U.Sink.seen c.send_all.new.up)
          all.0 w.take.new.terminal.terminal c.read_host.new.down (take w.in-Gave.count c.read_host.new.buffer) (Gave w.in-Gave.count) c.loop-test.true waits
          w.in-Gave.ensures.gave tt
          w.in_ok-take-in-Gave.ensures)
      | in-Interrupted w ↦ rw w.terminal-is
          (after_nothing g.D.Source.gave c.loop.counter c.args.terminal.now.terminal c.send_all.new.terminal.terminal c.args.down.now c.loop.down (g.U.Sink.seen c.args.up.now) (g.U.Sink.seen c.send_all.new.up)
          all.0 c.read_host.new.down Interrupted c.loop-test.true
          w.in-Interrupted.ensures.gave tt)
    ]

pub returns : goal.returns
returns g c = λ all_sent last up_last sends.
    ends_by_reads g.D.Source.gave c.loop.counter c.args.terminal.now.terminal c.loop.terminal.terminal c.args.down.now c.loop.down (g.U.Sink.seen c.args.up.now) (g.U.Sink.seen c.loop.up)
    c.loop.invariant all_sent last up_last sends (omega arith)
