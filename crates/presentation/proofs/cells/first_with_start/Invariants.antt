use Rattle.presentation.specs.Index.{HaveNoStart}
use Rattle.presentation.proofs.cells.first_with_start.Given as goal

abbrev pub invariant-loop-index : goal.invariant-loop-index
invariant-loop-index l = HaveNoStart l.cells l.fn.from l.index
