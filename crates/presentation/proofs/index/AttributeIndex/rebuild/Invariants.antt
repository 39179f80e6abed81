use Rattle.std.proofs.Common.{◌≡◌, ◌≤◌, ◌*◌, ◌++◌, length, take}
use Rattle.codes3270.specs.Size.{most_cells}
use Rattle.presentation.specs.Places.{attribute_places}
use Rattle.presentation.proofs.index.AttributeIndex.rebuild.Given as goal

abbrev pub invariant-loop-word : goal.invariant-loop-word
invariant-loop-word l = record {
  room : length l.self-inside.places ≡ most_cells;
  few : l.count ≤ 64 * l.word;
  within : l.count ≤ length l.cells;
  listed : take l.count l.self-inside.places ++ attribute_places l.cells (64 * l.word) ≡ attribute_places l.cells 0;
}
