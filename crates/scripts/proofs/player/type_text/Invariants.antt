use Rattle.std.proofs.Common.{IsUtf8, chars, string_bytes}
use Rattle.std.specs.Str.Iter.{chars_rest}
use Rattle.scripts.proofs.Typing.{Typed}
use Rattle.scripts.proofs.player.type_text.Given as goal

abbrev pub invariant-loop-letter : goal.invariant-loop-letter
invariant-loop-letter l = record {
  utf8 : IsUtf8 (chars_rest l.letter-iterator);
  so_far : Typed l.terminal (chars l.typed) (chars (chars_rest l.letter-iterator)) l.fn.world l.world (string_bytes l.fn.text) (string_bytes l.text);
}
