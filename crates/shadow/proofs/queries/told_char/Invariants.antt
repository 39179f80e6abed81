use Rattle.std.proofs.Common.{◌≡◌}
use Rattle.std.specs.Prelude.{slice_get}
use Rattle.shadow.specs.InPlace.{text_told}
use Rattle.shadow.proofs.queries.told_char.Given as goal

abbrev pub invariant-loop-place : goal.invariant-loop-place
invariant-loop-place l = slice_get (text_told l.fn.ahead) l.index ≡ slice_get (text_told l.place-iterator) l.left
