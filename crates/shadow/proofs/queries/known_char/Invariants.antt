use Rattle.std.proofs.Common.{◌≡◌}
use Rattle.std.specs.Prelude.{slice_get}
use Rattle.shadow.specs.InPlace.{chars_known, known_text}
use Rattle.shadow.proofs.queries.known_char.Given as goal

abbrev pub invariant-loop-place : goal.invariant-loop-place
invariant-loop-place l = slice_get (known_text (chars_known l.fn.ahead)) l.index ≡ slice_get (known_text (chars_known l.place-iterator)) l.left
