use Rattle.std.proofs.Common.{◌≡◌, drop}
use Rattle.application_http.specs.Keeping.{number_after}
use Rattle.application_http.proofs.keeping.number_in.Given as goal

abbrev pub invariant-loop-byte : goal.invariant-loop-byte
invariant-loop-byte l = number_after 0 l.text ≡ number_after l.number (drop l.byte-index l.text)
