use Rattle.std.proofs.Common.{◌≡◌, ◌<◌, ◌≤◌, ◌-◌, ◌∙◌, ℕ, drop, length, take, sym, ap, subst, arith}
use Rattle.jobs.specs.RawCalls.{FailsToWrite, call_failed, most_calls, too_many_calls}
use Rattle.jobs.proofs.Known.{taken_more, within_more}
use Rattle.jobs.proofs.WriteCalls.{called, called_more, failed, taken_held, taken_within}
use Rattle.jobs.proofs.streams.CountedWriterSink.write_all.Goals as goal

less : (taken all : ℕ) → taken ≤ all → (taken ≡ all → ⊥) → taken < all
less taken all within differs = omega arith

all_calls : (count : ℕ) → count ≤ most_calls → most_calls ≤ count → count ≡ most_calls
all_calls count few many = omega arith

pub returns-in-None-clause-wrote : goal.returns-in-None-clause-wrote
returns-in-None-clause-wrote g c =
    let took = g.W.RawWrite.write_took in
    let bytes = c.args.bytes.now in
    let first = c.args.self.now.writer in
    failed took bytes first c.fail.result c.fail.new.self.writer c.fail.ensures.failed
    (subst (FailsToWrite took first bytes) (sym (ap (λ s. s.writer) c.fail.ensures.counted))
    (call_failed c.loop.counter c.loop.taken c.loop.self.writer c.write_once.result c.loop.invariant.calls
    (called took bytes first c.loop.taken c.loop.self.writer c.write_once.result c.write_once.new.self
    (less c.loop.taken (length bytes) c.loop.invariant.within c.if-taken-bytes.false) c.write_once.ensures.took)
    (sym c.count_taken.ensures ∙ c.in-None.is)))

pub loop-preserved : goal.loop-preserved
loop-preserved g c =
    let took = g.W.RawWrite.write_took in
    let bytes = c.args.bytes.now in
    let first = c.args.self.now.writer in
    let before = c.loop.invariant in
    let count = c.in-Some.count in
    let left = take (length bytes - c.loop.taken) (drop c.loop.taken bytes) in
    let held = g.W.RawWrite.contents in
    let is = sym c.count_taken.ensures ∙ c.in-Some.is in record {
      within = within_more bytes c.loop.taken count before.within (taken_within c.write_once.result left count c.write_once.ensures.bound is);
      appended = taken_more (held first) (held c.loop.self.writer) (held c.write_once.new.self) bytes c.loop.taken count before.within before.appended
          (taken_held c.write_once.result left count (held c.loop.self.writer) (held c.write_once.new.self) c.write_once.ensures.bytes is);
      same = before.same;
      calls = called_more took bytes first c.loop.counter c.loop.taken count c.loop.self.writer c.write_once.result c.write_once.new.self before.calls
          (called took bytes first c.loop.taken c.loop.self.writer c.write_once.result c.write_once.new.self
          (less c.loop.taken (length bytes) before.within c.if-taken-bytes.false) c.write_once.ensures.took)
          is;
    }

pub returns-clause-wrote : goal.returns-clause-wrote
returns-clause-wrote g c =
    let took = g.W.RawWrite.write_took in
    let bytes = c.args.bytes.now in
    let first = c.args.self.now.writer in
    failed took bytes first c.fail-2.result c.fail-2.new.self.writer c.fail-2.ensures.failed
    (subst (FailsToWrite took first bytes) (sym (ap (λ s. s.writer) c.fail-2.ensures.counted))
    (too_many_calls c.loop.counter c.loop.taken (all_calls c.loop.counter c.loop.auto.counter-end c.loop-test.false) c.loop.invariant.calls))
