use Rattle.std.proofs.Common.{◌≡◌}
use Rattle.serde_json.specs.View.{members_view, view}
use Rattle.application_http.specs.Replies.{fields_flaw, first_non_text}
use Rattle.application_http.proofs.reply.fields_flaw.Given as goal

abbrev pub invariant-loop-name : goal.invariant-loop-name
invariant-loop-name l = fields_flaw l.key (view l.value) ≡ first_non_text (members_view l.name-iterator)
