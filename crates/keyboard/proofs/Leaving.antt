-- What each key leaves of the cells.
use Rattle.std.proofs.Common.{◌≡◌, ℕ, ◌-◌, ◌%◌, ◌<◌, ◌≤◌, ◌==◌, Bool, true, false, not, ◌&&◌, cond, List, [], ◌∷◌, length, take, drop, get_or, replicate, Option, Some, None, option_map, Result, Ok, Err, arith, ap, refl, suc, zero, subst, length-take, length-drop}
use Rattle.std.proofs.lemmas.List.{length-replicate}
use Rattle.codes3270.specs.CodePage.{code_of}
use Rattle.codes3270.specs.declared.attribute.Cell.{Cell}
use Rattle.codes3270.specs.declared.attribute.Cell.TheVariants.{Char}
use Rattle.datastream.specs.Screen.{Screen, attribute_over}
use Rattle.keyboard.specs.declared.key.Key.{Key}
use Rattle.keyboard.specs.declared.key.Key.TheVariants.{Char as CharKey, Tab as TabKey, BackTab as BackTabKey, NewLine as NewLineKey, Home as HomeKey, CursorUp as CursorUpKey, CursorDown as CursorDownKey, CursorLeft as CursorLeftKey, CursorRight as CursorRightKey, Backspace as BackspaceKey, Insert as InsertKey, Delete as DeleteKey, EraseEof as EraseEofKey, EraseInput as EraseInputKey, Reset as ResetKey, Enter as EnterKey, Pf as PfKey, Pa as PaKey, Clear as ClearKey}
use Rattle.keyboard.specs.declared.key.Lock.{Lock}
use Rattle.keyboard.specs.declared.key.Lock.TheVariants.{Free, Wait, Error}
use Rattle.keyboard.specs.declared.key.Refusal.{Refusal}
use Rattle.keyboard.specs.declared.key.Refusal.TheVariants.{Protected, NotNumeric}
use Rattle.keyboard.specs.State.{Keyboard}
use Rattle.keyboard.specs.Places.{is_free_at}
use Rattle.keyboard.specs.Edits.{text_from, within_row, deleted, advanced, rewritten, without_null, with_room, wants_numbers, is_numeric_letter, typed, typed_code, typed_before, changed, with_deleted, with_field_erased}
use Rattle.keyboard.specs.Keys.{pressed, acted, locked_out, at_lock, edited}
use Rattle.datastream.specs.KeptByKeys.{KeptByKeys}
use Rattle.keyboard.specs.Leaves.{Leaves, LeavesDone}
use Rattle.keyboard.proofs.Texts.{text_some, free_is_char, length-deleted}
use Rattle.keyboard.proofs.Kept.{kept_cell, rewritten_held}

held_same : (cells : List Cell) → KeptByKeys false cells cells
held_same cells = record { same_length = refl; each = λ place below. kept_cell (get_or cells place (Char 0)) (attribute_over cells place) }

-- a text with a null less is one shorter
length-without_null : (text rest : List ℕ) → without_null text ≡ Some rest → suc (length rest) ≡ length text
length-without_null [] rest e = cc
length-without_null (byte ∷ text) rest e = by_test (byte == 0) (without_null text) (length-without_null text) e
  where
    by_test : (test : Bool) (less : Option (List ℕ)) → ((more : List ℕ) → less ≡ Some more → suc (length more) ≡ length text) → cond test (Some text) (option_map (λ more. byte ∷ more) less) ≡ Some rest → suc (length rest) ≡ suc (length text)
    by_test true less shorter e = let same : text ≡ rest = cc in rw same
    by_test false None shorter e = cc
    by_test false (Some more) shorter e = let same : byte ∷ more ≡ rest = cc in rw (← same) (ap (λ n. suc n) (shorter more refl))

length-with_room : (inserting : Bool) (text rest : List ℕ) → 0 < length text → with_room inserting text ≡ Some rest → suc (length rest) ≡ length text
length-with_room false text rest some e = let same : drop 1 text ≡ rest = cc in rw (← same) (omega (arith, length-drop 1 text))
length-with_room true text rest some e = length-without_null text rest e

some_text : (screen : Screen) → screen.cursor < length screen.cells → is_free_at screen.cells screen.cursor ≡ true → 0 < length (text_from screen.cells screen.cursor)
some_text screen inside free = text_some screen.cells screen.cursor inside (free_is_char screen.cells screen.cursor free)

-- what was made is what there is
made_held : (edit : Result Screen Refusal) (made new : Screen) (cells : List Cell) → edit ≡ Ok made → edit ≡ Ok new → KeptByKeys false cells made.cells → KeptByKeys false cells new.cells
made_held edit made new cells m e held = let same : made ≡ new = cc in let P : Screen → Type 0 = λ s. KeptByKeys false cells s.cells in subst P same held

length-deleted_part : (count : ℕ) (text : List ℕ) → 0 < length text → length (deleted (take count text)) ≤ length text
length-deleted_part zero text some = omega arith
length-deleted_part (suc count) [] some = absurd (omega arith)
length-deleted_part (suc count) (byte ∷ text) some =
    rw (length-deleted (byte ∷ take count text) (omega arith)) (omega (arith, length-take count text))

typed_held : (inserting : Bool) (letter : ℕ) (screen new : Screen) → screen.cursor < length screen.cells → typed inserting letter screen ≡ Ok new → KeptByKeys false screen.cells new.cells
typed_held inserting letter screen new inside e = by_code (code_of letter) e
  where
    by_room : (byte : ℕ) (room : Option (List ℕ)) → with_room inserting (text_from screen.cells screen.cursor) ≡ room → is_free_at screen.cells screen.cursor ≡ true → typed_before byte room screen ≡ Ok new → KeptByKeys false screen.cells new.cells
    by_room byte None room free e = cc
    by_room byte (Some rest) room free e =
        let few : suc (length rest) ≡ length (text_from screen.cells screen.cursor) =
        length-with_room inserting (text_from screen.cells screen.cursor) rest (some_text screen inside free) room in
        let held : KeptByKeys false screen.cells (rewritten (byte ∷ rest) screen).cells = rewritten_held (byte ∷ rest) screen inside free (omega arith) in
        made_held (typed_before byte (Some rest) screen) (advanced (rewritten (byte ∷ rest) screen)) new screen.cells refl e held

    by_test : (byte : ℕ) (free wrong : Bool) (rest : Result Screen Refusal) → (free ≡ true → rest ≡ Ok new → KeptByKeys false screen.cells new.cells) → cond (not free) (Err Protected) (cond wrong (Err NotNumeric) rest) ≡ Ok new → KeptByKeys false screen.cells new.cells
    by_test byte true true rest held e = cc
    by_test byte true false rest held e = held refl e
    by_test byte false wrong rest held e = cc

    by_code : (code : Option ℕ) → typed_code inserting letter code screen ≡ Ok new → KeptByKeys false screen.cells new.cells
    by_code None e = cc
    by_code (Some byte) e =
        by_test byte (is_free_at screen.cells screen.cursor) (wants_numbers (attribute_over screen.cells screen.cursor) && not (is_numeric_letter letter))
        (typed_before byte (with_room inserting (text_from screen.cells screen.cursor)) screen)
        (λ free made. by_room byte (with_room inserting (text_from screen.cells screen.cursor)) refl free made) e

changed_held : (text : List ℕ) (screen new : Screen) → screen.cursor < length screen.cells → (0 < length (text_from screen.cells screen.cursor) → length text ≤ length (text_from screen.cells screen.cursor)) → changed text screen ≡ Ok new → KeptByKeys false screen.cells new.cells
changed_held text screen new inside few e = by_test (is_free_at screen.cells screen.cursor) refl e
  where
    by_test : (free : Bool) → is_free_at screen.cells screen.cursor ≡ free → cond free (Ok (rewritten text screen)) (Err Protected) ≡ Ok new → KeptByKeys false screen.cells new.cells
    by_test true free e =
        let held : KeptByKeys false screen.cells (rewritten text screen).cells = rewritten_held text screen inside free (few (some_text screen inside free)) in
        made_held (Ok (rewritten text screen)) (rewritten text screen) new screen.cells refl e held
    by_test false free e = cc

deleted_held : (columns : ℕ) (screen new : Screen) → screen.cursor < length screen.cells → with_deleted columns screen ≡ Ok new → KeptByKeys false screen.cells new.cells
deleted_held columns screen new inside e =
    let text : List ℕ = text_from screen.cells screen.cursor in
    changed_held (deleted (within_row columns screen.cursor text)) screen new inside
    (λ some. length-deleted_part (columns - screen.cursor % columns) text some) e

erased_held : (screen new : Screen) → screen.cursor < length screen.cells → with_field_erased screen ≡ Ok new → KeptByKeys false screen.cells new.cells
erased_held screen new inside e =
    let text : List ℕ = text_from screen.cells screen.cursor in
    changed_held (replicate (length text) 0) screen new inside (λ some. omega (arith, length-replicate {A = ℕ} (length text) 0)) e

edit_leaves : (key : Key) (keyboard : Keyboard) (screen : Screen) (edit : Result Screen Refusal) → ((new : Screen) → edit ≡ Ok new → LeavesDone key screen.cells new.cells) → Leaves key (edited edit keyboard screen).answer screen.cells (edited edit keyboard screen).screen.cells
edit_leaves key keyboard screen (Ok new) held = held new refl
edit_leaves key keyboard screen (Err why) held = refl

locked : (key : Key) (keyboard : Keyboard) (screen : Screen) → Leaves key (locked_out key keyboard screen).answer screen.cells (locked_out key keyboard screen).screen.cells
locked (CharKey letter) keyboard screen = refl
locked TabKey keyboard screen = refl
locked BackTabKey keyboard screen = refl
locked NewLineKey keyboard screen = refl
locked HomeKey keyboard screen = refl
locked CursorUpKey keyboard screen = refl
locked CursorDownKey keyboard screen = refl
locked CursorLeftKey keyboard screen = refl
locked CursorRightKey keyboard screen = refl
locked BackspaceKey keyboard screen = refl
locked InsertKey keyboard screen = refl
locked DeleteKey keyboard screen = refl
locked EraseEofKey keyboard screen = refl
locked EraseInputKey keyboard screen = refl
locked ResetKey keyboard screen = held_same screen.cells
locked EnterKey keyboard screen = refl
locked (PfKey number) keyboard screen = refl
locked (PaKey number) keyboard screen = refl
locked ClearKey keyboard screen = refl

at_free : (key : Key) (columns : ℕ) (keyboard : Keyboard) (screen : Screen) → screen.cursor < length screen.cells → Leaves key (acted columns key keyboard screen).answer screen.cells (acted columns key keyboard screen).screen.cells
at_free (CharKey letter) columns keyboard screen inside = edit_leaves (CharKey letter) keyboard screen (typed keyboard.inserting letter screen) (λ new e. typed_held keyboard.inserting letter screen new inside e)
at_free TabKey columns keyboard screen inside = held_same screen.cells
at_free BackTabKey columns keyboard screen inside = held_same screen.cells
at_free NewLineKey columns keyboard screen inside = held_same screen.cells
at_free HomeKey columns keyboard screen inside = held_same screen.cells
at_free CursorUpKey columns keyboard screen inside = held_same screen.cells
at_free CursorDownKey columns keyboard screen inside = held_same screen.cells
at_free CursorLeftKey columns keyboard screen inside = held_same screen.cells
at_free CursorRightKey columns keyboard screen inside = held_same screen.cells
at_free BackspaceKey columns keyboard screen inside = held_same screen.cells
at_free InsertKey columns keyboard screen inside = held_same screen.cells
at_free DeleteKey columns keyboard screen inside = edit_leaves DeleteKey keyboard screen (with_deleted columns screen) (λ new e. deleted_held columns screen new inside e)
at_free EraseEofKey columns keyboard screen inside = edit_leaves EraseEofKey keyboard screen (with_field_erased screen) (λ new e. erased_held screen new inside e)
at_free EraseInputKey columns keyboard screen inside = refl
at_free ResetKey columns keyboard screen inside = held_same screen.cells
at_free EnterKey columns keyboard screen inside = refl
at_free (PfKey number) columns keyboard screen inside = refl
at_free (PaKey number) columns keyboard screen inside = refl
at_free ClearKey columns keyboard screen inside = refl

pub keys_leave : (columns : ℕ) (key : Key) (keyboard : Keyboard) (screen : Screen) → screen.cursor < length screen.cells → Leaves key (pressed columns key keyboard screen).answer screen.cells (pressed columns key keyboard screen).screen.cells
keys_leave columns key keyboard screen inside = by_lock keyboard.lock
  where
    by_lock : (lock : Lock) → Leaves key (at_lock lock columns key keyboard screen).answer screen.cells (at_lock lock columns key keyboard screen).screen.cells
    by_lock Free = at_free key columns keyboard screen inside
    by_lock Wait = locked key keyboard screen
    by_lock Error = locked key keyboard screen
