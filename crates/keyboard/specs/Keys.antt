-- What each key does to the screen and the keyboard, and its result (GA23-0059-07 on keyboard operation). Locks and
-- refusals are our profile.
use Rattle.std.specs.Prelude.{◌+◌, ◌-◌, ◌%◌, ℕ, true, false, length, Result, Ok, Err}
use Rattle.codes3270.specs.declared.attention.Aid.{Aid}
use Rattle.codes3270.specs.declared.attention.Aid.TheVariants.{Enter as EnterAid, Pf as PfAid, Pa as PaAid, Clear as ClearAid}
use Rattle.datastream.specs.Screen.{Screen}
use Rattle.datastream.specs.Meaning.{cleared, unprotected_erased, home}
use Rattle.keyboard.specs.declared.key.Key.{Key}
use Rattle.keyboard.specs.declared.key.Key.TheVariants.{Char, Tab, BackTab, NewLine, Home, CursorUp, CursorDown, CursorLeft, CursorRight, Backspace, Insert, Delete, EraseEof, EraseInput, Reset, Enter, Pf, Pa, Clear}
use Rattle.keyboard.specs.declared.key.Lock.{Lock}
use Rattle.keyboard.specs.declared.key.Lock.TheVariants.{Free, Wait, Error}
use Rattle.keyboard.specs.declared.key.Pressed.{Pressed}
use Rattle.keyboard.specs.declared.key.Pressed.TheVariants.{Done, Refused, Send}
use Rattle.keyboard.specs.declared.key.Refusal.{Refusal}
use Rattle.keyboard.specs.declared.key.Refusal.TheVariants.{Locked, NoCode, Protected, NotNumeric, NoRoom}
use Rattle.keyboard.specs.State.{Keyboard}
use Rattle.keyboard.specs.Places.{next_start, start_before, next_line}
use Rattle.keyboard.specs.Edits.{typed, with_deleted, with_field_erased}

-- the keyboard and the screen after a key, and the key's result
pub record Outcome : Type 0 where
  pub keyboard : Keyboard
  pub screen : Screen
  pub answer : Pressed

-- the outcome of a key that was done and sends nothing
abbrev pub done : Keyboard → Screen → Outcome
done keyboard screen = record { keyboard = keyboard; screen = screen; answer = Done }

-- the outcome of a key that moves the cursor
abbrev pub moved : Keyboard → Screen → ℕ → Outcome
moved keyboard screen to = done keyboard (record screen { cursor = to })

-- the lock after a refusal: Locked and NoCode keep it, the others set it to Error
abbrev pub lock_after : Refusal → Lock → Lock
lock_after Locked lock = lock
lock_after NoCode lock = lock
lock_after Protected lock = Error
lock_after NotNumeric lock = Error
lock_after NoRoom lock = Error

-- the keyboard after a refusal
abbrev pub keyboard_refused : Refusal → Keyboard → Keyboard
keyboard_refused why keyboard = record keyboard { lock = lock_after why keyboard.lock }

-- the outcome of a refused key: the screen stays as it is
abbrev pub refused : Refusal → Keyboard → Screen → Outcome
refused why keyboard screen =
    record { keyboard = keyboard_refused why keyboard; screen = screen; answer = Refused why }

-- the outcome of an edit that was done or refused
abbrev pub edited : Result Screen Refusal → Keyboard → Screen → Outcome
edited (Ok new) keyboard screen = done keyboard new
edited (Err why) keyboard screen = refused why keyboard screen

-- the keyboard after an edit that was done or refused
abbrev pub keyboard_after : Result Unit Refusal → Keyboard → Keyboard
keyboard_after (Ok answer) keyboard = keyboard
keyboard_after (Err why) keyboard = keyboard_refused why keyboard

-- the result of a key whose edit was done or refused
abbrev pub answer_to : Result Unit Refusal → Pressed
answer_to (Ok answer) = Done
answer_to (Err why) = Refused why

-- the outcome of a key that sends: the screen has its AID, the lock is Wait, and insert mode is off
abbrev pub sent : Aid → Keyboard → Screen → Outcome
sent aid keyboard screen =
    record {
      keyboard = record { lock = Wait; inserting = false };
      screen = record screen { aid = aid };
      answer = Send aid;
    }

-- Reset ends the lock after a refusal, never Wait
abbrev pub lock_reset : Lock → Lock
lock_reset Free = Free
lock_reset Wait = Wait
lock_reset Error = Free

-- the keyboard after Reset
abbrev pub reset : Keyboard → Keyboard
reset keyboard = record { lock = lock_reset keyboard.lock; inserting = false }

-- the outcome of a key while the lock is Free, on a screen with rows of `columns` cells
abbrev pub acted : ℕ → Key → Keyboard → Screen → Outcome
acted columns (Char letter) keyboard screen = edited (typed keyboard.inserting letter screen) keyboard screen
acted columns Tab keyboard screen = moved keyboard screen (next_start screen.cells screen.cursor)
acted columns BackTab keyboard screen = moved keyboard screen (start_before screen.cells screen.cursor)
acted columns NewLine keyboard screen = moved keyboard screen (next_line columns screen.cells screen.cursor)
acted columns Home keyboard screen = moved keyboard screen (home screen.cells)
acted columns CursorUp keyboard screen =
    moved keyboard screen ((screen.cursor + length screen.cells - columns) % length screen.cells)
acted columns CursorDown keyboard screen = moved keyboard screen ((screen.cursor + columns) % length screen.cells)
acted columns CursorLeft keyboard screen =
    moved keyboard screen ((screen.cursor + length screen.cells - 1) % length screen.cells)
acted columns CursorRight keyboard screen = moved keyboard screen ((screen.cursor + 1) % length screen.cells)
acted columns Backspace keyboard screen =
    moved keyboard screen ((screen.cursor + length screen.cells - 1) % length screen.cells)
acted columns Insert keyboard screen = done (record keyboard { inserting = true }) screen
acted columns Delete keyboard screen = edited (with_deleted columns screen) keyboard screen
acted columns EraseEof keyboard screen = edited (with_field_erased screen) keyboard screen
acted columns EraseInput keyboard screen = done keyboard (unprotected_erased screen)
acted columns Reset keyboard screen = done (reset keyboard) screen
acted columns Enter keyboard screen = sent EnterAid keyboard screen
acted columns (Pf key) keyboard screen = sent (PfAid key) keyboard screen
acted columns (Pa key) keyboard screen = sent (PaAid key) keyboard screen
acted columns Clear keyboard screen = sent ClearAid keyboard (cleared (length screen.cells) screen)

-- the outcome of a key while the lock isn't Free
abbrev pub locked_out : Key → Keyboard → Screen → Outcome
locked_out Reset keyboard screen = done (reset keyboard) screen
locked_out _ keyboard screen = refused Locked keyboard screen

-- the outcome of a key, by the lock before it
abbrev pub at_lock : Lock → ℕ → Key → Keyboard → Screen → Outcome
at_lock Free columns key keyboard screen = acted columns key keyboard screen
at_lock Wait columns key keyboard screen = locked_out key keyboard screen
at_lock Error columns key keyboard screen = locked_out key keyboard screen

-- The outcome of a key, on a screen with rows of `columns` cells.
abbrev pub pressed : ℕ → Key → Keyboard → Screen → Outcome
pressed columns key keyboard screen = at_lock keyboard.lock columns key keyboard screen
