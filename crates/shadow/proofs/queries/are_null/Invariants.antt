use Rattle.std.proofs.Common.{◌≡◌, length}
use Rattle.std.specs.Prelude.{bytes_eq}
use Rattle.shadow.specs.Belief.{nulls}
use Rattle.shadow.specs.InPlace.{chars_known, known_text}
use Rattle.shadow.proofs.queries.are_null.Given as goal

abbrev pub invariant-loop-place : goal.invariant-loop-place
invariant-loop-place l =
    bytes_eq (known_text (chars_known l.fn.ahead)) (nulls (length (known_text (chars_known l.fn.ahead))))
    ≡ bytes_eq (known_text (chars_known l.place-iterator)) (nulls (length (known_text (chars_known l.place-iterator))))
