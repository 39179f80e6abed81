use Rattle.std.proofs.Common.{◌≡◌, drop}
use Rattle.serde_json.specs.Data.{no_members}
use Rattle.serde_json.specs.View.{members_view}
use Rattle.application_http.specs.Requests.{with_numbers}
use Rattle.application_http.proofs.request.numbers_value.Given as goal

abbrev pub invariant-loop-key : goal.invariant-loop-key
invariant-loop-key l = with_numbers l.numbers no_members ≡ with_numbers (drop l.key-index l.numbers) (members_view l.members.entries)
