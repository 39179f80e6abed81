use Rattle.std.proofs.Common.{◌≡◌, ◌≤◌, length, take, IsUtf8, chars}
use Rattle.std.specs.Str.Iter.{chars_rest}
use Rattle.service_wire.specs.Texts.{coded}
use Rattle.service_wire.proofs.Texts.{codes_behind}
use Rattle.service_wire.proofs.note_text.NoteText.read.Given as goal

abbrev pub invariant-loop-character : goal.invariant-loop-character
invariant-loop-character l = record {
  can_next : (goal.iterator-loop-character).can_next l.character-iterator;
  is_finite : (goal.iterator-loop-character).is_finite l.character-iterator;
  utf8 : IsUtf8 (chars_rest l.character-iterator);
  size : length l.codes ≡ 131;
  fits : l.count ≤ 131;
  so_far : coded (chars l.text) ≡ codes_behind (take l.count l.codes) (coded (chars (chars_rest l.character-iterator)));
}
