use Rattle.std.proofs.Common.{◌≡◌, drop}
use Rattle.std.specs.List.{list_all}
use Rattle.applications.specs.PlainTexts.{is_writable}
use Rattle.applications.proofs.plain_text.are_writable.Given as goal

abbrev pub invariant-loop-part : goal.invariant-loop-part
invariant-loop-part l = list_all is_writable l.parts ≡ list_all is_writable (drop l.part-index l.parts)
