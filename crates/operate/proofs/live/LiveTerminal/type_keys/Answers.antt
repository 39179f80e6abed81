use Rattle.std.proofs.Common.{sym, ◌∙◌}
use Rattle.operate.proofs.LiveLemmas.{keys_done, keys_more}
use Rattle.operate.proofs.live.LiveTerminal.type_keys.Goals as goal

pub loop-typed-preserved : goal.loop-typed-preserved
loop-typed-preserved c = record {
  seat =
      keys_more c.args.keys.now c.loop-typed.typed-index _ c.typed-item.result c.loop-typed.self.seat c.type_key.new.self.seat
      c.loop-typed-test.true c.typed-item.is
      c.in_ok-type_key.ensures.seat
      ∙ c.loop-typed.invariant.seat;
  kept = c.in_ok-type_key.ensures.kept ∙ c.loop-typed.invariant.kept;
}

pub returns-clause-seat : goal.returns-clause-seat
returns-clause-seat c =
    sym (keys_done c.args.keys.now c.loop-typed.typed-index c.loop-typed.self.seat c.loop-typed-test.false) ∙ c.loop-typed.invariant.seat
