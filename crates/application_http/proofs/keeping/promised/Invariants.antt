use Rattle.std.proofs.Common.{◌≡◌, drop, map}
use Rattle.httparse.specs.Spans.{header_bytes}
use Rattle.application_http.specs.Keeping.{promised}
use Rattle.application_http.proofs.keeping.promised.Given as goal

abbrev pub invariant-loop-field : goal.invariant-loop-field
invariant-loop-field l = promised (map (header_bytes l.bytes) l.fields) ≡ promised (map (header_bytes l.bytes) (drop l.field-index l.fields))
