use Rattle.std.proofs.Common.{◌≡◌, ◌++◌, map, string_bytes}
use Rattle.serde_json.specs.View.{members_view}
use Rattle.application_http.specs.Replies.{HasTexts, arrays_in, field_text, texts_in}
use Rattle.application_http.proofs.reply.add_fields.Given as goal

abbrev pub invariant-loop-name : goal.invariant-loop-name
invariant-loop-name l = record {
  arrays : map string_bytes l.initial.arrays.items ++ arrays_in (members_view l.members.entries)
      ≡ map string_bytes l.arrays.items ++ arrays_in (members_view l.name-iterator);
  texts : map field_text l.initial.texts.items ++ texts_in (members_view l.members.entries)
      ≡ map field_text l.texts.items ++ texts_in (members_view l.name-iterator);
  refused : HasTexts (members_view l.name-iterator) → HasTexts (members_view l.members.entries);
}
