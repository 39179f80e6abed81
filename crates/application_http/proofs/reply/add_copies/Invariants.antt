use Rattle.std.proofs.Common.{◌≡◌, ◌++◌, ◌+◌, drop, map}
use Rattle.serde_json.specs.View.{items_view}
use Rattle.application_http.specs.Replies.{copies_in, field_text}
use Rattle.application_http.proofs.reply.add_copies.Given as goal

abbrev pub invariant-loop-index : goal.invariant-loop-index
invariant-loop-index l =
    map field_text l.initial.texts.items ++ copies_in l.stem 1 (items_view l.values)
    ≡ map field_text l.texts.items ++ copies_in l.stem (l.index + 1) (items_view (drop l.index l.values))
