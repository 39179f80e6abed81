-- The cursor stays on the screen, and the screen keeps its size.
use Rattle.std.proofs.Common.{◌≡◌, ℕ, ◌+◌, ◌-◌, ◌%◌, ◌<◌, ◌&&◌, not, Bool, true, false, cond, List, ◌∷◌, length, get_or, map, min, replicate, zip, position, Option, Some, None, Result, Ok, Err, arith, sym, ◌∙◌, refl, suc, zero, subst}
use Rattle.std.proofs.Math.Nat.{mod-lt}
use Rattle.std.specs.List.{find, range_with_len}
use Rattle.std.specs.Option.{unwrap_or}
use Rattle.std.proofs.lemmas.List.{length-map, length-replicate}
use Rattle.std.proofs.lemmas.List.Quantifiers.{position-Some}
use Rattle.std.proofs.lemmas.Slice.Zip.{length-zip}
use Rattle.codes3270.specs.CodePage.{code_of}
use Rattle.codes3270.specs.declared.attribute.Cell.{Cell}
use Rattle.codes3270.specs.declared.attribute.Cell.TheVariants.{Char}
use Rattle.codes3270.specs.declared.attribute.Attr.{Attr as Attribute}
use Rattle.datastream.specs.Screen.{Screen, attribute_in, attribute_over, is_protected, ring}
use Rattle.datastream.specs.Meaning.{erased, opened, open_unmodified, home, is_start, place_or_first, unprotected_erased}
use Rattle.datastream.proofs.Places.{length-across}
use Rattle.keyboard.specs.declared.key.Key.{Key}
use Rattle.keyboard.specs.declared.key.Key.TheVariants.{Char as CharKey, Tab as TabKey, BackTab as BackTabKey, NewLine as NewLineKey, Home as HomeKey, CursorUp as CursorUpKey, CursorDown as CursorDownKey, CursorLeft as CursorLeftKey, CursorRight as CursorRightKey, Backspace as BackspaceKey, Insert as InsertKey, Delete as DeleteKey, EraseEof as EraseEofKey, EraseInput as EraseInputKey, Reset as ResetKey, Enter as EnterKey, Pf as PfKey, Pa as PaKey, Clear as ClearKey}
use Rattle.keyboard.specs.declared.key.Lock.{Lock}
use Rattle.keyboard.specs.declared.key.Lock.TheVariants.{Free, Wait, Error}
use Rattle.keyboard.specs.declared.key.Refusal.{Refusal}
use Rattle.keyboard.specs.declared.key.Refusal.TheVariants.{Protected, NotNumeric}
use Rattle.keyboard.specs.State.{Keyboard}
use Rattle.keyboard.specs.Places.{onward, backward, first_or_zero, is_free_at, is_start_at, next_start, governing_place, row_end}
use Rattle.keyboard.specs.Edits.{text_from, laid, within_row, deleted, advanced, past_attribute, rewritten, with_room, wants_numbers, is_numeric_letter, typed, typed_code, typed_before, changed, with_deleted, with_field_erased}
use Rattle.keyboard.specs.Keys.{pressed, acted, locked_out, at_lock, edited}
use Rattle.keyboard.proofs.Texts.{length-laid}
use Rattle.keyboard.proofs.Replaced.{length-marked}

-- a screen of a size, with its cursor on it
abbrev pub Inside : ℕ → Screen → Type 0
Inside size screen = (length screen.cells ≡ size) × (screen.cursor < size)

-- ---- the places that keys look for

first_below : (passes : ℕ → Bool) (place : ℕ → ℕ) (size start count : ℕ) → 0 < size → ((k : ℕ) → place k < size) → unwrap_or (find passes (map place (range_with_len start count))) 0 < size
first_below passes place size start zero some each = some
first_below passes place size start (suc count) some each = by_test (passes (place start)) (first_below passes place size (start + 1) count some each)
  where
    by_test : (test : Bool) → unwrap_or (find passes (map place (range_with_len (start + 1) count))) 0 < size → unwrap_or (cond test (Some (place start)) (find passes (map place (range_with_len (start + 1) count)))) 0 < size
    by_test true rest = each start
    by_test false rest = rest

onward_below : (passes : ℕ → Bool) (size at : ℕ) → 0 < size → first_or_zero passes (onward size at) < size
unfolding onward
onward_below passes size at some = first_below passes (λ step. (at + step) % size) size 1 size some (λ step. mod-lt (at + step) some)

backward_below : (passes : ℕ → Bool) (size at : ℕ) → 0 < size → first_or_zero passes (backward size at) < size
unfolding backward
backward_below passes size at some = first_below passes (λ step. (at + size - step) % size) size 1 size some (λ step. mod-lt (at + size - step) some)

home_below : (cells : List Cell) → 0 < length cells → home cells < length cells
home_below cells some = by_place (position is_start (zip (ring (length cells - 1) cells) cells)) refl
  where
    by_place : (found : Option ℕ) → position is_start (zip (ring (length cells - 1) cells) cells) ≡ found → place_or_first found < length cells
    by_place None e = some
    by_place (Some place) e =
        let below : place < length (zip (ring (length cells - 1) cells) cells) =
        (position-Some is_start (zip (ring (length cells - 1) cells) cells) place (Char 0, Char 0) e).0 in
        let fewer : length (zip (ring (length cells - 1) cells) cells) ≡ min (length (ring (length cells - 1) cells)) (length cells) =
        length-zip (ring (length cells - 1) cells) cells in
        omega arith

-- ---- edits

past_below : (over : Option Attribute) (cells : List Cell) (next : ℕ) → next < length cells → past_attribute over cells next < length cells
past_below None cells next below = below
past_below (Some attribute) cells next below = by_test (attribute.protected && attribute.numeric)
  where
    by_test : (test : Bool) → cond test (next_start cells next) ((next + 1) % length cells) < length cells
    by_test true = let some : 0 < length cells = omega arith in onward_below (is_start_at cells) (length cells) next some
    by_test false = let some : 0 < length cells = omega arith in mod-lt (next + 1) some

advanced_inside : (size : ℕ) (screen : Screen) → Inside size screen → Inside size (advanced screen)
advanced_inside size screen (same, below) =
    let some : 0 < length screen.cells = rw same (omega arith) in
    let next : ℕ = (screen.cursor + 1) % length screen.cells in (
      same,
      subst (λ (n : ℕ). (advanced screen).cursor < n) same
          (past_below (attribute_in (get_or screen.cells next (Char 0))) screen.cells next (mod-lt (screen.cursor + 1) some)),
    )

rewritten_inside : (size : ℕ) (text : List ℕ) (screen : Screen) → Inside size screen → Inside size (rewritten text screen)
rewritten_inside size text screen (same, below) =
    let new : List Cell = laid screen.cursor (length text) text screen.cells in
    (length-marked (governing_place new screen.cursor) new ∙ length-laid screen.cursor (length text) text screen.cells ∙ same, below)

made_inside : (size : ℕ) (edit : Result Screen Refusal) (made new : Screen) → edit ≡ Ok made → edit ≡ Ok new → Inside size made → Inside size new
made_inside size edit made new m e inside = let same : made ≡ new = cc in subst (λ (s : Screen). Inside size s) same inside

typed_inside : (size : ℕ) (inserting : Bool) (letter : ℕ) (screen new : Screen) → Inside size screen → typed inserting letter screen ≡ Ok new → Inside size new
typed_inside size inserting letter screen new inside e = by_code (code_of letter) e
  where
    by_room : (byte : ℕ) (room : Option (List ℕ)) → typed_before byte room screen ≡ Ok new → Inside size new
    by_room byte None e = cc
    by_room byte (Some rest) e =
        let made : Screen = advanced (rewritten (byte ∷ rest) screen) in
        made_inside size (Ok made) made new refl e
        (advanced_inside size (rewritten (byte ∷ rest) screen) (rewritten_inside size (byte ∷ rest) screen inside))

    by_test : (free wrong : Bool) (rest : Result Screen Refusal) → (rest ≡ Ok new → Inside size new) → cond (not free) (Err Protected) (cond wrong (Err NotNumeric) rest) ≡ Ok new → Inside size new
    by_test true true rest made e = cc
    by_test true false rest made e = made e
    by_test false wrong rest made e = cc

    by_code : (code : Option ℕ) → typed_code inserting letter code screen ≡ Ok new → Inside size new
    by_code None e = cc
    by_code (Some byte) e =
        by_test (is_free_at screen.cells screen.cursor) (wants_numbers (attribute_over screen.cells screen.cursor) && not (is_numeric_letter letter))
        (typed_before byte (with_room inserting (text_from screen.cells screen.cursor)) screen)
        (λ made. by_room byte (with_room inserting (text_from screen.cells screen.cursor)) made) e

changed_inside : (size : ℕ) (text : List ℕ) (screen new : Screen) → Inside size screen → changed text screen ≡ Ok new → Inside size new
changed_inside size text screen new inside e = by_test (is_free_at screen.cells screen.cursor) e
  where
    by_test : (free : Bool) → cond free (Ok (rewritten text screen)) (Err Protected) ≡ Ok new → Inside size new
    by_test true e = made_inside size (Ok (rewritten text screen)) (rewritten text screen) new refl e (rewritten_inside size text screen inside)
    by_test false e = cc

erased_inside : (size : ℕ) (screen : Screen) → Inside size screen → Inside size (unprotected_erased screen)
erased_inside size screen (same, below) =
    let cells : List Cell = screen.cells in
    let some : 0 < length cells = rw same (omega arith) in
    let long : length (opened 0 (length cells) cells) ≡ length cells = length-across 0 (length cells) (λ at old. cond (is_protected cells at) old (erased old)) cells in
    (length-map (opened 0 (length cells) cells) open_unmodified ∙ long ∙ same, subst (λ (n : ℕ). home screen.cells < n) same (home_below cells some))

-- ---- keys

edit_inside : (size : ℕ) (keyboard : Keyboard) (screen : Screen) (edit : Result Screen Refusal) → Inside size screen → ((new : Screen) → edit ≡ Ok new → Inside size new) → Inside size (edited edit keyboard screen).screen
edit_inside size keyboard screen (Ok new) inside made = made new refl
edit_inside size keyboard screen (Err why) inside made = inside

free_inside : (key : Key) (columns : ℕ) (keyboard : Keyboard) (screen : Screen) → screen.cursor < length screen.cells → Inside (length screen.cells) (acted columns key keyboard screen).screen
free_inside (CharKey letter) columns keyboard screen below = edit_inside (length screen.cells) keyboard screen (typed keyboard.inserting letter screen) (refl, below) (λ new e. typed_inside (length screen.cells) keyboard.inserting letter screen new (refl, below) e)
free_inside TabKey columns keyboard screen below = (refl, onward_below (is_start_at screen.cells) (length screen.cells) screen.cursor (omega arith))
free_inside BackTabKey columns keyboard screen below = (refl, backward_below (is_start_at screen.cells) (length screen.cells) screen.cursor (omega arith))
free_inside NewLineKey columns keyboard screen below = (refl, onward_below (is_free_at screen.cells) (length screen.cells) (row_end columns screen.cursor) (omega arith))
free_inside HomeKey columns keyboard screen below = (refl, home_below screen.cells (omega arith))
free_inside CursorUpKey columns keyboard screen below = (refl, mod-lt (screen.cursor + length screen.cells - columns) (omega arith))
free_inside CursorDownKey columns keyboard screen below = (refl, mod-lt (screen.cursor + columns) (omega arith))
free_inside CursorLeftKey columns keyboard screen below = (refl, mod-lt (screen.cursor + length screen.cells - 1) (omega arith))
free_inside CursorRightKey columns keyboard screen below = (refl, mod-lt (screen.cursor + 1) (omega arith))
free_inside BackspaceKey columns keyboard screen below = (refl, mod-lt (screen.cursor + length screen.cells - 1) (omega arith))
free_inside InsertKey columns keyboard screen below = (refl, below)
free_inside DeleteKey columns keyboard screen below = edit_inside (length screen.cells) keyboard screen (with_deleted columns screen) (refl, below) (λ new e. changed_inside (length screen.cells) (deleted (within_row columns screen.cursor (text_from screen.cells screen.cursor))) screen new (refl, below) e)
free_inside EraseEofKey columns keyboard screen below = edit_inside (length screen.cells) keyboard screen (with_field_erased screen) (refl, below) (λ new e. changed_inside (length screen.cells) (replicate (length (text_from screen.cells screen.cursor)) 0) screen new (refl, below) e)
free_inside EraseInputKey columns keyboard screen below = erased_inside (length screen.cells) screen (refl, below)
free_inside ResetKey columns keyboard screen below = (refl, below)
free_inside EnterKey columns keyboard screen below = (refl, below)
free_inside (PfKey number) columns keyboard screen below = (refl, below)
free_inside (PaKey number) columns keyboard screen below = (refl, below)
free_inside ClearKey columns keyboard screen below = (length-replicate (length screen.cells) (Char 0), omega arith)

locked_inside : (key : Key) (keyboard : Keyboard) (screen : Screen) → (locked_out key keyboard screen).screen ≡ screen
locked_inside (CharKey letter) keyboard screen = refl
locked_inside TabKey keyboard screen = refl
locked_inside BackTabKey keyboard screen = refl
locked_inside NewLineKey keyboard screen = refl
locked_inside HomeKey keyboard screen = refl
locked_inside CursorUpKey keyboard screen = refl
locked_inside CursorDownKey keyboard screen = refl
locked_inside CursorLeftKey keyboard screen = refl
locked_inside CursorRightKey keyboard screen = refl
locked_inside BackspaceKey keyboard screen = refl
locked_inside InsertKey keyboard screen = refl
locked_inside DeleteKey keyboard screen = refl
locked_inside EraseEofKey keyboard screen = refl
locked_inside EraseInputKey keyboard screen = refl
locked_inside ResetKey keyboard screen = refl
locked_inside EnterKey keyboard screen = refl
locked_inside (PfKey number) keyboard screen = refl
locked_inside (PaKey number) keyboard screen = refl
locked_inside ClearKey keyboard screen = refl

pub keys_stay : (columns : ℕ) (key : Key) (keyboard : Keyboard) (screen : Screen) → screen.cursor < length screen.cells → Inside (length screen.cells) (pressed columns key keyboard screen).screen
keys_stay columns key keyboard screen below = by_lock keyboard.lock
  where
    stayed : Inside (length screen.cells) (locked_out key keyboard screen).screen
    stayed = subst (λ (s : Screen). Inside (length screen.cells) s) (sym (locked_inside key keyboard screen)) (refl, below)

    by_lock : (lock : Lock) → Inside (length screen.cells) (at_lock lock columns key keyboard screen).screen
    by_lock Free = free_inside key columns keyboard screen below
    by_lock Wait = stayed
    by_lock Error = stayed
