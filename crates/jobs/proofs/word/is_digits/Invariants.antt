use Rattle.std.proofs.Common.{◌≡◌, drop}
use Rattle.std.specs.Str.{all_ascii_digits}
use Rattle.jobs.proofs.word.is_digits.Given as goal

abbrev pub invariant-loop-digit : goal.invariant-loop-digit
invariant-loop-digit l = all_ascii_digits l.word ≡ all_ascii_digits (drop l.digit-index l.word)
