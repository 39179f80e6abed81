use Rattle.std.proofs.Common.{◌≡◌, ◌++◌, IsUtf8, chars, string_bytes}
use Rattle.std.specs.Str.Iter.{chars_rest}
use Rattle.scripts.specs.Operating.{after_text, said_of_text}
use Rattle.scripts.proofs.operator.type_text.Given as goal

abbrev pub invariant-loop-letter : goal.invariant-loop-letter
invariant-loop-letter l = record {
  utf8 : IsUtf8 (chars_rest l.letter-iterator);
  typed : after_text (chars (chars_rest l.letter-iterator)) l.terminal.terminal ≡ after_text (chars l.typed) l.fn.terminal.terminal;
  said : string_bytes l.text ++ said_of_text (chars (chars_rest l.letter-iterator)) l.terminal.terminal
      ≡ string_bytes l.fn.text ++ said_of_text (chars l.typed) l.fn.terminal.terminal;
}
