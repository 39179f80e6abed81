-- What an edit makes of the cells that its text doesn't take.
use Rattle.std.proofs.Common.{◌≡◌, Option, None, ℕ, ◌+◌, ◌-◌, ◌%◌, ◌<◌, ◌≤◌, true, false, eqb, cond, List, length, get_or, Some, arith, ◌∙◌, ap, inl, inr}
use Rattle.std.specs.List.{list_all}
use Rattle.std.proofs.Math.Nat.{mod-lt}
use Rattle.std.proofs.lemmas.List.{get_or-set_same, get_or-set_other}
use Rattle.std.proofs.lemmas.Bool.{cases_eq}
use Rattle.std.proofs.lemmas.Bool.Decides.{nat_tests}
use Rattle.codes3270.specs.declared.attribute.Cell.{Cell}
use Rattle.codes3270.specs.declared.attribute.Cell.TheVariants.{Char}
use Rattle.datastream.specs.Screen.{Screen, IsGoverned, is_char}
use Rattle.datastream.proofs.Fields.{all_characters_round}
use Rattle.datastream.specs.Span.{is_within}
use Rattle.datastream.specs.Meaning.{modified}
use Rattle.keyboard.specs.Places.{governing_place}
use Rattle.keyboard.specs.Edits.{text_from, laid, marked_at, rewritten}
use Rattle.keyboard.proofs.Texts.{length-laid}
use Rattle.keyboard.proofs.Kept.{laid_outside, laid_alike}
use Rattle.keyboard.proofs.Governing.{governing_place_is, governing_place_none, governed_alike, each_is_char}

pub marked_alone : (text : List ℕ) (screen : Screen) (attr place : ℕ) → screen.cursor < length screen.cells → length text ≤ length (text_from screen.cells screen.cursor) → IsGoverned screen.cells screen.cursor attr → place < length screen.cells → is_within (length screen.cells) screen.cursor (length text) place ≡ false → get_or (rewritten text screen).cells place (Char 0) ≡ cond (eqb place attr) (modified (get_or screen.cells place (Char 0))) (get_or screen.cells place (Char 0))
marked_alone text screen attr place inside few governed below out =
    let cells : List Cell = screen.cells in
    let at : ℕ = screen.cursor in
    let new : List Cell = laid at (length text) text cells in
    let long : length new ≡ length cells = length-laid at (length text) text cells in
    let stands : governing_place new at ≡ Some attr = governing_place_is new at attr (rw long inside) (governed_alike cells new at attr inside long (laid_alike at (length text) text cells inside few) governed) in
    let far : length text ≤ (place + length cells - at) % length cells = grind (arith, nat_tests) in
    let same : get_or new place (Char 0) ≡ get_or cells place (Char 0) = laid_outside at (length text) text cells place (Char 0) below far in
    rw stands
    (elim (cases_eq place attr) [
      | inl here ↦
          let test : eqb place attr ≡ true = grind (arith, nat_tests) in
          let within : attr < length new = rw (long, ← here) below in
          rw (test, ← same, here) (get_or-set_same new attr (modified (get_or new attr (Char 0))) (Char 0) within)
      | inr apart ↦
          let test : eqb place attr ≡ false = grind (arith, nat_tests) in
          rw test (get_or-set_other new attr place (modified (get_or new attr (Char 0))) (Char 0) apart ∙ same)
    ])

pub unmarked_alone : (text : List ℕ) (screen : Screen) (place : ℕ) → screen.cursor < length screen.cells → length text ≤ length (text_from screen.cells screen.cursor) → list_all is_char screen.cells ≡ true → place < length screen.cells → is_within (length screen.cells) screen.cursor (length text) place ≡ false → get_or (rewritten text screen).cells place (Char 0) ≡ get_or screen.cells place (Char 0)
unmarked_alone text screen place inside few all below out =
    let cells : List Cell = screen.cells in
    let at : ℕ = screen.cursor in
    let new : List Cell = laid at (length text) text cells in
    let long : length new ≡ length cells = length-laid at (length text) text cells in
    let still : list_all is_char new ≡ true =
    all_characters_round new at (rw long inside)
    (λ nearer lower.
    let there : ℕ = (at + length new - nearer) % length new in
    let some : 0 < length new = omega arith in
    let there_new : there < length new = mod-lt (at + length new - nearer) some in
    let there_below : there < length cells = omega arith in
    laid_alike at (length text) text cells inside few there there_below ∙ each_is_char cells all there) in
    let none : governing_place new at ≡ None = governing_place_none new at still in
    let far : length text ≤ (place + length cells - at) % length cells = grind (arith, nat_tests) in
    ap (λ (p : Option ℕ). get_or (marked_at p new) place (Char 0)) none
    ∙ laid_outside at (length text) text cells place (Char 0) below far
