use Rattle.std.proofs.Common.{◌≡◌, ◌≤◌, ◌+◌, ◌*◌, ◌-◌, ◌++◌, length, take}
use Rattle.codes3270.specs.Size.{most_cells}
use Rattle.presentation.specs.Places.{attribute_places}
use Rattle.presentation.proofs.WordPlaces.{IsRest}
use Rattle.presentation.proofs.index.list_word.Given as goal

abbrev pub invariant-loop-bits : goal.invariant-loop-bits
invariant-loop-bits l = record {
  room : length l.places ≡ most_cells;
  within : 64 * l.word + l.from ≤ length l._cells;
  few : l.count ≤ 64 * l.word + l.from;
  word : l.from ≤ 64;
  rest : IsRest l._cells l.word l.bits l.from;
  listed : take l.count l.places ++ attribute_places l._cells (64 * l.word + l.from) ≡ take l.initial.count l.initial.places ++ attribute_places l._cells (64 * l.word);
}

abbrev pub decreases-loop-bits : goal.decreases-loop-bits
decreases-loop-bits l = 64 - l.from
