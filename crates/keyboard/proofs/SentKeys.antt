-- What keys that send leave, and those that don't.
use Rattle.std.proofs.Common.{◌≡◌, ◌&&◌, not, ℕ, Bool, true, false, Option, None, Some, Result, Ok, Err, List, length, replicate, refl, subst, ap, IfOk, if◌then◌else◌}
use Rattle.codes3270.specs.CodePage.{code_of}
use Rattle.codes3270.specs.declared.attention.Aid.{Aid}
use Rattle.codes3270.specs.declared.attention.Aid.TheVariants.{NoAid, Clear as ClearAid}
use Rattle.codes3270.specs.declared.attribute.Cell.{Cell}
use Rattle.codes3270.specs.declared.attribute.Cell.TheVariants.{Char as CharCell}
use Rattle.datastream.specs.Screen.{Screen, attribute_over}
use Rattle.keyboard.specs.declared.key.Key.{Key}
use Rattle.keyboard.specs.declared.key.Key.TheVariants.{Char, Tab, BackTab, NewLine, Home, CursorUp, CursorDown, CursorLeft, CursorRight, Backspace, Insert, Delete, EraseEof, EraseInput, Reset, Enter, Pf, Pa, Clear}
use Rattle.keyboard.specs.declared.key.Lock.{Lock}
use Rattle.keyboard.specs.declared.key.Lock.TheVariants.{Free, Wait, Error}
use Rattle.keyboard.specs.declared.key.Pressed.{Pressed}
use Rattle.keyboard.specs.declared.key.Pressed.TheVariants.{Done, Refused, Send}
use Rattle.keyboard.specs.declared.key.Refusal.{Refusal}
use Rattle.keyboard.specs.declared.key.Refusal.TheVariants.{Locked, NoCode, Protected, NotNumeric, NoRoom}
use Rattle.keyboard.specs.Edits.{text_from, rewritten, with_room, wants_numbers, is_numeric_letter, typed_before, typed_code, typed, changed, with_deleted, with_field_erased}
use Rattle.keyboard.specs.Keys.{Outcome, edited, lock_after, lock_reset, acted, locked_out, at_lock, pressed}
use Rattle.keyboard.specs.Places.{is_free_at}
use Rattle.keyboard.specs.Sending.{IsSilent, SendingWaits, ClearEmptiesTheScreen, SilentKeysKeepTheAid, SilentKeysBeginNoWait, NothingIsSentAtALock}
use Rattle.keyboard.specs.State.{Keyboard}

-- ---- edits keep the AID

abbrev SameAid : Screen → Screen → Type 0
SameAid before new = new.aid ≡ before.aid

typed_aid : (inserting : Bool) (letter : ℕ) (screen : Screen) → IfOk (typed inserting letter screen) (SameAid screen)
typed_aid inserting letter screen = by_code (code_of letter)
  where
    by_room : (byte : ℕ) (room : Option (List ℕ)) → IfOk (typed_before byte room screen) (SameAid screen)
    by_room byte None = tt
    by_room byte (Some rest) = refl

    by_test : (free wrong : Bool) (rest : Result Screen Refusal) → IfOk rest (SameAid screen) → IfOk (if not free then Err Protected else if wrong then Err NotNumeric else rest) (SameAid screen)
    by_test true true rest made = tt
    by_test true false rest made = made
    by_test false wrong rest made = tt

    by_code : (code : Option ℕ) → IfOk (typed_code inserting letter code screen) (SameAid screen)
    by_code None = tt
    by_code (Some byte) =
        let cells : List Cell = screen.cells in
        let room : Option (List ℕ) = with_room inserting (text_from cells screen.cursor) in
        by_test (is_free_at cells screen.cursor) (wants_numbers (attribute_over cells screen.cursor) && not (is_numeric_letter letter)) (typed_before byte room screen) (by_room byte room)

changed_aid : (text : List ℕ) (screen : Screen) → IfOk (changed text screen) (SameAid screen)
changed_aid text screen = by_test (is_free_at screen.cells screen.cursor)
  where
    by_test : (free : Bool) → IfOk (if free then Ok (rewritten text screen) else Err Protected) (SameAid screen)
    by_test true = refl
    by_test false = tt

-- ---- what each answer says

-- of a key that sends nothing: `before` is the screen that it found, and `lock` the lock
record StaysQuiet (before : Screen) (lock : Lock) (new : Outcome) : Type 0 where
  aid : new.screen.aid ≡ before.aid
  waits : new.keyboard.lock ≡ Wait → lock ≡ Wait

-- of a key that sends an identifier
record IsSent (before : Screen) (aid : Aid) (new : Outcome) : Type 0 where
  shown : new.screen.aid ≡ aid
  real : aid ≡ NoAid → ⊥
  waits : new.keyboard.lock ≡ Wait
  cleared : aid ≡ ClearAid → (new.screen.cells ≡ replicate (length before.cells) (CharCell 0)) × (new.screen.cursor ≡ 0)

abbrev Says : Screen → Lock → Outcome → Pressed → Type 0
Says before lock new Done = StaysQuiet before lock new
Says before lock new (Refused why) = StaysQuiet before lock new
Says before lock new (Send aid) = IsSent before aid new

after_refusal : (why : Refusal) (lock : Lock) → lock_after why lock ≡ Wait → lock ≡ Wait
after_refusal Locked lock e = e
after_refusal NoCode lock e = e
after_refusal Protected lock e = cc
after_refusal NotNumeric lock e = cc
after_refusal NoRoom lock e = cc

after_reset : (lock : Lock) → lock_reset lock ≡ Wait → lock ≡ Wait
after_reset Free e = e
after_reset Wait e = e
after_reset Error e = cc

edit_says : (edit : Result Screen Refusal) (keyboard : Keyboard) (screen : Screen) → IfOk edit (SameAid screen) → Says screen keyboard.lock (edited edit keyboard screen) (edited edit keyboard screen).answer
edit_says (Ok new) keyboard screen same = record { aid = same; waits = λ e. e }
edit_says (Err why) keyboard screen same = record { aid = refl; waits = after_refusal why keyboard.lock }

-- ---- at a free lock

free_says : (columns : ℕ) (key : Key) (keyboard : Keyboard) (screen : Screen) → Says screen keyboard.lock (acted columns key keyboard screen) (acted columns key keyboard screen).answer
free_says columns (Char letter) keyboard screen = edit_says (typed keyboard.inserting letter screen) keyboard screen (typed_aid keyboard.inserting letter screen)
free_says columns Tab keyboard screen = record { aid = refl; waits = λ e. e }
free_says columns BackTab keyboard screen = record { aid = refl; waits = λ e. e }
free_says columns NewLine keyboard screen = record { aid = refl; waits = λ e. e }
free_says columns Home keyboard screen = record { aid = refl; waits = λ e. e }
free_says columns CursorUp keyboard screen = record { aid = refl; waits = λ e. e }
free_says columns CursorDown keyboard screen = record { aid = refl; waits = λ e. e }
free_says columns CursorLeft keyboard screen = record { aid = refl; waits = λ e. e }
free_says columns CursorRight keyboard screen = record { aid = refl; waits = λ e. e }
free_says columns Backspace keyboard screen = record { aid = refl; waits = λ e. e }
free_says columns Insert keyboard screen = record { aid = refl; waits = λ e. e }
free_says columns Delete keyboard screen = edit_says (with_deleted columns screen) keyboard screen (changed_aid _ screen)
free_says columns EraseEof keyboard screen = edit_says (with_field_erased screen) keyboard screen (changed_aid _ screen)
free_says columns EraseInput keyboard screen = record { aid = refl; waits = λ e. e }
free_says columns Reset keyboard screen = record { aid = refl; waits = after_reset keyboard.lock }
free_says columns Enter keyboard screen = record { shown = refl; real = λ e. cc; waits = refl; cleared = λ e. cc }
free_says columns (Pf number) keyboard screen = record { shown = refl; real = λ e. cc; waits = refl; cleared = λ e. cc }
free_says columns (Pa number) keyboard screen = record { shown = refl; real = λ e. cc; waits = refl; cleared = λ e. cc }
free_says columns Clear keyboard screen = record { shown = refl; real = λ e. cc; waits = refl; cleared = λ e. (refl, refl) }

-- ---- at a lock

record StaysLocked (before : Screen) (lock : Lock) (new : Outcome) : Type 0 where
  silent : IsSilent new.answer
  screen : new.screen ≡ before
  waits : new.keyboard.lock ≡ Wait → lock ≡ Wait

locked : (key : Key) (keyboard : Keyboard) (screen : Screen) → StaysLocked screen keyboard.lock (locked_out key keyboard screen)
locked (Char letter) keyboard screen = record { silent = λ aid e. cc; screen = refl; waits = λ e. e }
locked Tab keyboard screen = record { silent = λ aid e. cc; screen = refl; waits = λ e. e }
locked BackTab keyboard screen = record { silent = λ aid e. cc; screen = refl; waits = λ e. e }
locked NewLine keyboard screen = record { silent = λ aid e. cc; screen = refl; waits = λ e. e }
locked Home keyboard screen = record { silent = λ aid e. cc; screen = refl; waits = λ e. e }
locked CursorUp keyboard screen = record { silent = λ aid e. cc; screen = refl; waits = λ e. e }
locked CursorDown keyboard screen = record { silent = λ aid e. cc; screen = refl; waits = λ e. e }
locked CursorLeft keyboard screen = record { silent = λ aid e. cc; screen = refl; waits = λ e. e }
locked CursorRight keyboard screen = record { silent = λ aid e. cc; screen = refl; waits = λ e. e }
locked Backspace keyboard screen = record { silent = λ aid e. cc; screen = refl; waits = λ e. e }
locked Insert keyboard screen = record { silent = λ aid e. cc; screen = refl; waits = λ e. e }
locked Delete keyboard screen = record { silent = λ aid e. cc; screen = refl; waits = λ e. e }
locked EraseEof keyboard screen = record { silent = λ aid e. cc; screen = refl; waits = λ e. e }
locked EraseInput keyboard screen = record { silent = λ aid e. cc; screen = refl; waits = λ e. e }
locked Reset keyboard screen = record { silent = λ aid e. cc; screen = refl; waits = after_reset keyboard.lock }
locked Enter keyboard screen = record { silent = λ aid e. cc; screen = refl; waits = λ e. e }
locked (Pf number) keyboard screen = record { silent = λ aid e. cc; screen = refl; waits = λ e. e }
locked (Pa number) keyboard screen = record { silent = λ aid e. cc; screen = refl; waits = λ e. e }
locked Clear keyboard screen = record { silent = λ aid e. cc; screen = refl; waits = λ e. e }

-- ---- the laws

is_sent : (before : Screen) (lock : Lock) (new : Outcome) (aid : Aid) → Says before lock new new.answer → new.answer ≡ Send aid → IsSent before aid new
is_sent before lock new aid says e = subst (Says before lock new) e says

is_quiet : (before : Screen) (lock : Lock) (new : Outcome) (answer : Pressed) → Says before lock new answer → IsSilent answer → StaysQuiet before lock new
is_quiet before lock new Done says silent = says
is_quiet before lock new (Refused why) says silent = says
is_quiet before lock new (Send aid) says silent = absurd (silent aid refl)

sent : (columns : ℕ) (key : Key) (keyboard : Keyboard) (screen : Screen) (aid : Aid) → (pressed columns key keyboard screen).answer ≡ Send aid → IsSent screen aid (pressed columns key keyboard screen)
sent columns key keyboard screen aid = by_lock keyboard.lock
  where
    by_lock : (lock : Lock) → (at_lock lock columns key keyboard screen).answer ≡ Send aid → IsSent screen aid (at_lock lock columns key keyboard screen)
    by_lock Free e = is_sent screen keyboard.lock (acted columns key keyboard screen) aid (free_says columns key keyboard screen) e
    by_lock Wait e = absurd ((locked key keyboard screen).silent aid e)
    by_lock Error e = absurd ((locked key keyboard screen).silent aid e)

quiet : (columns : ℕ) (key : Key) (keyboard : Keyboard) (screen : Screen) → IsSilent (pressed columns key keyboard screen).answer → StaysQuiet screen keyboard.lock (pressed columns key keyboard screen)
quiet columns key keyboard screen = by_lock keyboard.lock
  where
    stays : StaysQuiet screen keyboard.lock (locked_out key keyboard screen)
    stays = record { aid = ap (λ (s : Screen). s.aid) (locked key keyboard screen).screen; waits = (locked key keyboard screen).waits }

    by_lock : (lock : Lock) → IsSilent (at_lock lock columns key keyboard screen).answer → StaysQuiet screen keyboard.lock (at_lock lock columns key keyboard screen)
    by_lock Free silent = is_quiet screen keyboard.lock (acted columns key keyboard screen) (acted columns key keyboard screen).answer (free_says columns key keyboard screen) silent
    by_lock Wait silent = stays
    by_lock Error silent = stays

pub sending_waits : SendingWaits
sending_waits columns key keyboard screen aid e =
    let is : IsSent screen aid (pressed columns key keyboard screen) = sent columns key keyboard screen aid e in
    (is.shown, is.real, is.waits)

pub clear_empties_the_screen : ClearEmptiesTheScreen
clear_empties_the_screen columns key keyboard screen e = (sent columns key keyboard screen ClearAid e).cleared refl

pub silent_keys_keep_the_aid : SilentKeysKeepTheAid
silent_keys_keep_the_aid columns key keyboard screen silent = (quiet columns key keyboard screen silent).aid

pub silent_keys_begin_no_wait : SilentKeysBeginNoWait
silent_keys_begin_no_wait columns key keyboard screen silent = (quiet columns key keyboard screen silent).waits

pub nothing_is_sent_at_a_lock : NothingIsSentAtALock
nothing_is_sent_at_a_lock columns key keyboard screen apart = by_lock keyboard.lock apart
  where
    stays : IsSilent (locked_out key keyboard screen).answer × ((locked_out key keyboard screen).screen ≡ screen)
    stays = ((locked key keyboard screen).silent, (locked key keyboard screen).screen)

    by_lock : (lock : Lock) → (lock ≡ Free → ⊥) → IsSilent (at_lock lock columns key keyboard screen).answer × ((at_lock lock columns key keyboard screen).screen ≡ screen)
    by_lock Free apart = absurd (apart refl)
    by_lock Wait apart = stays
    by_lock Error apart = stays
