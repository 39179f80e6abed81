use Rattle.std.proofs.Common.{◌≡◌, ◌++◌, drop, map}
use Rattle.application_http.specs.Replies.{field_text}
use Rattle.applications.specs.ApplicationRequests.{texts_asked}
use Rattle.applications.proofs.application_request.texts_asked.Given as goal

abbrev pub invariant-loop-field : goal.invariant-loop-field
invariant-loop-field l = map field_text l.texts.items ++ texts_asked l.values (drop l.field-index l.fields) ≡ texts_asked l.values l.fields
