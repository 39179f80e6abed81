use Rattle.std.proofs.Common.{◌≡◌, drop}
use Rattle.serde_json.specs.Data.{no_members}
use Rattle.serde_json.specs.View.{members_view}
use Rattle.application_http.specs.Requests.{with_texts}
use Rattle.application_http.proofs.request.fields_value.Given as goal

abbrev pub invariant-loop-field : goal.invariant-loop-field
invariant-loop-field l = with_texts l.fields no_members l.fields ≡ with_texts l.fields (members_view l.texts.entries) (drop l.field-index l.fields)
