use Rattle.std.proofs.Common.{◌≡◌}
use Rattle.serde_json.specs.View.{members_view}
use Rattle.application_http.specs.Replies.{first_flaw}
use Rattle.application_http.proofs.reply.first_flaw.Given as goal

abbrev pub invariant-loop-key : goal.invariant-loop-key
invariant-loop-key l = first_flaw (members_view l.members.entries) ≡ first_flaw (members_view l.key-iterator)
