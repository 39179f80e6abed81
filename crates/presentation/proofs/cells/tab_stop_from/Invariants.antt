use Rattle.std.proofs.Common.{◌≡◌, ◌≤◌, ◌-◌}
use Rattle.datastream.specs.Meaning.{tab_stop}
use Rattle.presentation.proofs.cells.tab_stop_from.Given as goal

abbrev pub invariant-loop-attr : goal.invariant-loop-attr
invariant-loop-attr l = record {
  so_far : tab_stop l.fn.cells l.attr ≡ tab_stop l.fn.cells l.fn.at;
  within : l.attr ≤ l.count;
}

abbrev pub decreases-loop-attr : goal.decreases-loop-attr
decreases-loop-attr l = l.count - l.attr
