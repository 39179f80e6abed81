use Rattle.std.proofs.Common.{◌≡◌, ◌++◌}
use Rattle.shadow.specs.InPlace.{chars_known, known_text}
use Rattle.shadow.specs.AfterReadBuffer.{differs}
use Rattle.shadow.specs.Since.{beliefs_of_cells}
use Rattle.shadow.proofs.buffer.are_others.Given as goal

abbrev pub invariant-loop-place : goal.invariant-loop-place
invariant-loop-place l = differs (chars_known l.fn.known) (known_text (chars_known (beliefs_of_cells l.fn.rest ++ beliefs_of_cells l.fn.whole))) ≡ differs (chars_known l.place-iterator) (known_text (chars_known (beliefs_of_cells l.rest ++ beliefs_of_cells l.whole)))
