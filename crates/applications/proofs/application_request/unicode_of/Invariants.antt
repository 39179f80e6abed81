use Rattle.std.proofs.Common.{◌≡◌, ◌++◌, drop, string_bytes}
use Rattle.applications.specs.QuestionLines.{unicode_of}
use Rattle.applications.proofs.application_request.unicode_of.Given as goal

abbrev pub invariant-loop-byte : goal.invariant-loop-byte
invariant-loop-byte l = string_bytes l.text ++ unicode_of (drop l.byte-index l.bytes) ≡ unicode_of l.bytes
