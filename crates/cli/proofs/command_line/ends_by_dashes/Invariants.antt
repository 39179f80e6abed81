use Rattle.std.proofs.Common.{◌≡◌, false, drop, map, string_bytes}
use Rattle.cli.specs.Words.{ends_by_dashes}
use Rattle.cli.proofs.command_line.ends_by_dashes.Given as goal

abbrev pub invariant-loop-word : goal.invariant-loop-word
invariant-loop-word l = ends_by_dashes false (map string_bytes l.words) ≡ ends_by_dashes l.dashes (map string_bytes (drop l.word-index l.words))
