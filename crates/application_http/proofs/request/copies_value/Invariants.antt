use Rattle.std.proofs.Common.{◌≡◌, ◌++◌, map, drop}
use Rattle.serde_json.specs.Data.{string}
use Rattle.serde_json.specs.View.{view}
use Rattle.application_http.specs.Requests.{copies_of}
use Rattle.application_http.proofs.request.copies_value.Given as goal

abbrev pub invariant-loop-field : goal.invariant-loop-field
invariant-loop-field l = map string (copies_of l.stem l.fields) ≡ map view l.texts.items ++ map string (copies_of l.stem (drop l.field-index l.fields))
