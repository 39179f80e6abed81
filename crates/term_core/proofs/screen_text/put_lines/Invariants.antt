use Rattle.std.proofs.Common.{◌≡◌, ◌++◌, ◌*◌, drop, string_bytes}
use Rattle.presentation.specs.Glyph.{all_glyphs}
use Rattle.term_core.specs.ScreenText.{lines}
use Rattle.term_core.proofs.screen_text.put_lines.Given as goal

abbrev pub invariant-loop : goal.invariant-loop
invariant-loop l = record {
  written : string_bytes l.text ≡ string_bytes l.initial.text ++ lines l.screen.size.columns l.screen.screen.cells l.counter;
  left : l.glyphs ≡ drop (l.counter * l.screen.size.columns) (all_glyphs l.screen.screen.cells);
}
