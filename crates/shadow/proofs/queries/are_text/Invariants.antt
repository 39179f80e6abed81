use Rattle.std.proofs.Common.{◌≡◌}
use Rattle.std.specs.Prelude.{bytes_eq}
use Rattle.datastream.specs.Inbound.{without_nulls}
use Rattle.shadow.specs.InPlace.{chars_known, known_text}
use Rattle.shadow.proofs.queries.are_text.Given as goal

abbrev pub invariant-loop-place : goal.invariant-loop-place
invariant-loop-place l =
    bytes_eq (without_nulls (known_text (chars_known l.fn.ahead))) l.text ≡ bytes_eq (without_nulls (known_text (chars_known l.place-iterator))) l.rest
