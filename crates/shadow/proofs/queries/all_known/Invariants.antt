use Rattle.std.proofs.Common.{◌≡◌}
use Rattle.shadow.specs.InPlace.{chars_known, is_whole}
use Rattle.shadow.proofs.queries.all_known.Given as goal

abbrev pub invariant-loop-place : goal.invariant-loop-place
invariant-loop-place l = is_whole (chars_known l.fn.ahead) ≡ is_whole (chars_known l.place-iterator)
