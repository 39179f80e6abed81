use Rattle.std.proofs.Common.{◌≡◌, ◌++◌}
use Rattle.std.specs.Prelude.{bytes_eq}
use Rattle.shadow.specs.InPlace.{chars_known, known_text}
use Rattle.shadow.specs.Since.{beliefs_of_cells}
use Rattle.shadow.proofs.verifying.are_told.Given as goal

abbrev pub invariant-loop-char : goal.invariant-loop-char
invariant-loop-char l =
    bytes_eq l.fn.told (known_text (chars_known (beliefs_of_cells l.fn.rest ++ beliefs_of_cells l.fn.whole)))
    ≡ bytes_eq l.char-iterator (known_text (chars_known (beliefs_of_cells l.rest ++ beliefs_of_cells l.whole)))
