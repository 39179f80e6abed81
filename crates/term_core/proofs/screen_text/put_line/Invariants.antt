use Rattle.std.proofs.Common.{◌≡◌, ◌≤◌, ◌++◌, take, drop, string_bytes}
use Rattle.std.specs.List.{flat_map}
use Rattle.std.specs.Char.{encode_utf8}
use Rattle.term_core.specs.ScreenText.{trimmed}
use Rattle.term_core.proofs.Rows.{Waits}
use Rattle.term_core.proofs.screen_text.put_line.Given as goal

abbrev pub invariant-loop : goal.invariant-loop
invariant-loop l = record {
  written : string_bytes l.text ≡ string_bytes l.initial.text ++ flat_map encode_utf8 (trimmed (take l.counter l.initial.glyphs));
  waits : Waits (take l.counter l.initial.glyphs) l.waiting;
  few : l.waiting ≤ l.counter;
  left : l.glyphs ≡ drop l.counter l.initial.glyphs;
}
