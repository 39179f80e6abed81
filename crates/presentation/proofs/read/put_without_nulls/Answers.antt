use Rattle.std.proofs.lemmas.Result.{err_from_is_err_and}
use Rattle.codes3270.proofs.Appendings.{appending_more, appending_stopped}
use Rattle.presentation.proofs.Texts.{nulls_split_at}
use Rattle.presentation.proofs.read.put_without_nulls.Goals as goal

pub returns-in_err-put_few : goal.returns-in_err-put_few
returns-in_err-put_few c =
    let failed = err_from_is_err_and c.from_residual.result c.from_residual.ensures.1 in
    let split = nulls_split_at c.loop-rest.rest.now c.split_at.result.0.now c.split_at.result.1.now c.count_before_null.result c.count_before_null.ensures.value c.split_at.ensures.front c.split_at.ensures.back in
    let before = rw split at c.loop-rest.invariant in
    rw failed.1 (appending_stopped _ _ _ _ _ _ _ _ before c.in_err-put_few.ensures)

pub loop-rest-preserved : goal.loop-rest-preserved
loop-rest-preserved c =
    let split = nulls_split_at c.loop-rest.rest.now c.split_at.result.0.now c.split_at.result.1.now c.count_before_null.result c.count_before_null.ensures.value c.split_at.ensures.front c.split_at.ensures.back in
    let before = rw split at c.loop-rest.invariant in
    rw c.behind_first-rest.ensures (appending_more _ _ _ _ _ _ _ before c.in_ok-put_few.ensures)
