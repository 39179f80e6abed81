use Rattle.std.proofs.Common.{◌≡◌, ◌+◌, ◌<◌, ◌∷◌, ◌++◌, ◌&&◌, not, ℕ, List, true, false, Some, length, take, drop, ap, sym, ◌∙◌}
use Rattle.presentation.specs.Sizes.{SizedScreen}
use Rattle.datastream.specs.Screen.{Screen, attribute_over}
use Rattle.keyboard.specs.Places.{is_free_at}
use Rattle.keyboard.specs.Edits.{laid, text_from, rewritten, advanced, with_room, wants_numbers, is_numeric_letter}
use Rattle.std.proofs.lemmas.Bool.{and_parts}
use Rattle.keyboard.proofs.Texts.{laid_pushed, rewritten_is, typed_is, shown}
use Rattle.keyboard.proofs.edits.type_character.Goals as goal

pub returns-clause-edit : goal.returns-clause-edit
returns-clause-edit c =
    let sized : SizedScreen = c.args.screen.now in
    let screen : Screen = sized.screen in
    let text : List ℕ = text_from screen.cells screen.cursor in
    let count : ℕ = c.in-Some-room.count in
    let byte : ℕ = c.in-Some.byte in
    let at : c.cursor-at.result ≡ screen.cursor = c.cursor-at.ensures.value in
    let below : screen.cursor < length screen.cells = rw c.cursor-at.ensures.size (rw at at c.cursor-at.ensures.in_range) in
    let free : is_free_at screen.cells screen.cursor ≡ true = rw at at (sym c.is_free.ensures ∙ c.if-not-is_free.false) in
    let kind : (wants_numbers (attribute_over screen.cells screen.cursor) && not (is_numeric_letter c.args.letter)) ≡ false =
    rw (c.attribute_over.ensures, at) at (sym c.is_refused_by.ensures ∙ c.if-is_refused_by.false) in
    let rest : List ℕ = take count text ++ drop (count + 1) text in
    let room : with_room c.args.inserting text ≡ Some rest = rw at at c.in-Some-room.ensures.0 in
    let few : count < length text = rw at at c.in-Some-room.ensures.1 in
    let written : c.push.new.screen ≡ record sized { screen = record screen { cells = laid screen.cursor (length (byte ∷ rest)) (byte ∷ rest) screen.cells } } =
    rw (laid_pushed screen.cursor byte count screen.cells below few) (rw at at c.push.ensures) in
    let changed : c.mark_modified.new.screen ≡ record sized { screen = rewritten (byte ∷ rest) screen } =
    rewritten_is (byte ∷ rest) sized c.push.new.screen c.mark_modified.new.screen written c.mark_modified.ensures in
    typed_is c.args.inserting c.args.letter byte rest screen c.advance.new.screen.screen (sym c.from_latin1.ensures.code ∙ c.in-Some.is) free kind room
    (shown c.advance.ensures ∙ ap (λ (s : SizedScreen). advanced s.screen) changed)

pub room-requires-clause-free : goal.room-requires-clause-free
room-requires-clause-free c =
    let free : is_free_at c.args.screen.now.screen.cells c.cursor-at.result ≡ true = sym c.is_free.ensures ∙ c.if-not-is_free.false in
    (and_parts _ _ free).0
