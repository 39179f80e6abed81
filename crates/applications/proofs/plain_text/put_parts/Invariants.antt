use Rattle.std.proofs.Common.{◌≡◌, ◌++◌, drop, flat_map, string_bytes}
use Rattle.applications.specs.PlainTexts.{written}
use Rattle.applications.proofs.plain_text.put_parts.Given as goal

abbrev pub invariant-loop-part : goal.invariant-loop-part
invariant-loop-part l = string_bytes l.fn.plain ++ flat_map written l.parts ≡ string_bytes l.plain ++ flat_map written (drop l.part-index l.parts)
