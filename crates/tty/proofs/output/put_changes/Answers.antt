use Rattle.std.proofs.Common.{arith, refl}
use Rattle.std.proofs.lemmas.Result.{err_from_is_err_and}
use Rattle.codes3270.proofs.Appendings.{appending_more, appending_stopped}
use Rattle.tty.specs.Pictures.{next_place}
use Rattle.tty.proofs.Changing.{change_more}
use Rattle.tty.proofs.output.put_changes.Goals as goal

pub returns-in_err-put_change : goal.returns-in_err-put_change
returns-in_err-put_change c =
    let failed = err_from_is_err_and c.from_residual.result c.from_residual.ensures.1 in
    let split = change_more c.args.colors c.args.columns c.loop-index.place (next_place c.args.columns c.loop-index.place) c.loop-index.run _ c.args.olds.now c.args.news.now c.loop-index.index _ c.of-old.result (omega (arith, c.loop-index-test.true)) c.of-old.ensures refl refl in
    let before = rw split at c.loop-index.invariant.appending in
    rw failed.1 (appending_stopped _ _ _ _ _ _ _ _ before c.in_err-put_change.ensures)

pub loop-index-preserved : goal.loop-index-preserved
loop-index-preserved c =
    let split = change_more c.args.colors c.args.columns c.loop-index.place c.next_place-place.result c.loop-index.run c.run_after-run.result c.args.olds.now c.args.news.now c.loop-index.index _ c.of-old.result (omega (arith, c.loop-index-test.true)) c.of-old.ensures c.next_place-place.ensures.value c.run_after-run.ensures in
    let before = rw split at c.loop-index.invariant.appending in
    let row = c.loop-index.invariant.row in
    let column = c.loop-index.invariant.column in
    let row_next = c.next_place-place.ensures.row in
    let column_next = c.next_place-place.ensures.column in
    record {
      row = omega (arith, row, row_next);
      column = omega (arith, column, column_next);
      appending = appending_more _ _ _ _ _ _ _ before c.in_ok-put_change.ensures;
    }
