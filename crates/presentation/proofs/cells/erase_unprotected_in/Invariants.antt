use Rattle.std.proofs.Common.{◌≡◌, ◌+◌, ◌%◌, ◌<◌, length}
use Rattle.datastream.specs.Screen.{last_attribute, ring}
use Rattle.datastream.specs.Meaning.{opened}
use Rattle.presentation.proofs.cells.erase_unprotected_in.Given as goal

abbrev pub invariant-loop-step : goal.invariant-loop-step
invariant-loop-step l = record {
  so_far : l.cells ≡ opened l.fn.from l._step l.initial.cells;
  place : l.at ≡ (l.fn.from + l._step) % length l.initial.cells;
  below : l.at < length l.initial.cells;
  over : l.over ≡ last_attribute (ring l.at l.initial.cells);
}
