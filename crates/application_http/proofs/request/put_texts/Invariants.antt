use Rattle.std.proofs.Common.{◌≡◌, drop}
use Rattle.serde_json.specs.View.{members_view}
use Rattle.application_http.specs.Requests.{with_strings}
use Rattle.application_http.proofs.request.put_texts.Given as goal

abbrev pub invariant-loop-key : goal.invariant-loop-key
invariant-loop-key l = with_strings l.texts (members_view l.initial.members.entries) ≡ with_strings (drop l.key-index l.texts) (members_view l.members.entries)
