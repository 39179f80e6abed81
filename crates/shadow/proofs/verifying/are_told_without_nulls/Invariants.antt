use Rattle.std.proofs.Common.{◌≡◌, ◌++◌, length}
use Rattle.std.specs.Prelude.{bytes_eq}
use Rattle.datastream.specs.Inbound.{without_nulls}
use Rattle.shadow.specs.InPlace.{chars_known, known_text}
use Rattle.shadow.specs.Since.{beliefs_of_cells}
use Rattle.shadow.proofs.verifying.are_told_without_nulls.Given as goal

abbrev pub invariant-loop-read : goal.invariant-loop-read
invariant-loop-read l =
    bytes_eq l.fn.told (without_nulls (known_text (chars_known (beliefs_of_cells l.fn.rest ++ beliefs_of_cells l.fn.whole))))
    ≡ bytes_eq l.told (without_nulls (known_text (chars_known (beliefs_of_cells l.rest ++ beliefs_of_cells l.whole))))

abbrev pub decreases-loop-read : goal.decreases-loop-read
decreases-loop-read l = length (known_text (chars_known (beliefs_of_cells l.rest ++ beliefs_of_cells l.whole)))
