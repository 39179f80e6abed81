use Rattle.std.proofs.Common.{arith, inl, inr}
use Rattle.std.proofs.lemmas.Bool.{cases_lt}
use Rattle.codes3270.specs.Size.{most_cells}
use Rattle.datastream.specs.CellBits.{has_bit}
use Rattle.shadow.proofs.KnownRuns.{words_set}
use Rattle.shadow.proofs.cell_beliefs.are_set.Goals as goal

pub loop-at-preserved : goal.loop-at-preserved
loop-at-preserved c =
    let before = c.loop-at.invariant in
    let at = c.loop-at.at in
    record {
      from = omega (arith, before.from);
      set = λ cell above below inside. elim (cases_lt cell at) [
        | inl less ↦ before.set cell above less inside
        | inr more ↦
            words_set (has_bit c.args.bits.now) most_cells c.word.result at c.args.to c.clear_bits-count.result c.word.type_inv c.word.ensures c.clear_bits-count.ensures.clear c.clear_bits-count.ensures.few c.requires cell more below inside
      ];
    }
