use Rattle.std.proofs.Common.{◌≡◌, drop}
use Rattle.serde_json.specs.View.{items_view}
use Rattle.application_http.specs.Replies.{are_texts}
use Rattle.application_http.proofs.reply.are_texts.Given as goal

abbrev pub invariant-loop-value : goal.invariant-loop-value
invariant-loop-value l = are_texts (items_view l.values) ≡ are_texts (items_view (drop l.value-index l.values))
