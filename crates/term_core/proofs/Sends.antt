-- Whether a key sends, and the room that it asks for.
use Rattle.std.proofs.Common.{◌≡◌, ◌<◌, ◌≤◌, ◌+◌, ℕ, Bool, true, false, List, Option, None, Some, Result, Ok, Err, OnErr, length, refl, subst, arith}
use Rattle.codes3270.specs.declared.attention.PaNo.{PaNo}
use Rattle.codes3270.specs.declared.attention.PfNo.{PfNo}
use Rattle.datastream.specs.Screen.{Screen}
use Rattle.keyboard.specs.Edits.{typed, with_deleted, with_field_erased}
use Rattle.keyboard.specs.Keys.{edited, acted, at_lock, pressed}
use Rattle.keyboard.specs.State.{Keyboard}
use Rattle.keyboard.specs.declared.key.Key.{Key}
use Rattle.keyboard.specs.declared.key.Key.TheVariants.{Char, Tab, BackTab, NewLine, Home, CursorUp, CursorDown, CursorLeft, CursorRight, Backspace, Insert, Delete, EraseEof, EraseInput, Reset, Enter, Pf, Pa, Clear}
use Rattle.keyboard.specs.declared.key.Lock.{Lock}
use Rattle.keyboard.specs.declared.key.Lock.TheVariants.{Free}
use Rattle.keyboard.specs.declared.key.Pressed.{Pressed}
use Rattle.keyboard.specs.declared.key.Pressed.TheVariants.{Done, Refused, Send}
use Rattle.keyboard.specs.declared.key.Refusal.{Refusal}
use Rattle.term_core.specs.Presses.{LacksKeyRoom, data_of_key, data_pressed, is_sent, room_of}
use Rattle.term_core.specs.Room.{data_room}
use Rattle.term_core.specs.State.{Terminal, is_bound, phase_of}

edit_is_silent : (edit : Result Screen Refusal) (keyboard : Keyboard) (screen : Screen) → false ≡ is_sent (edited edit keyboard screen).answer
edit_is_silent (Ok new) keyboard screen = refl
edit_is_silent (Err why) keyboard screen = refl

acts_silently : (columns : ℕ) (key : Key) (keyboard : Keyboard) (screen : Screen)
    → (key ≡ Enter → ⊥) → ((number : PfNo) → key ≡ Pf number → ⊥) → ((number : PaNo) → key ≡ Pa number → ⊥) → (key ≡ Clear → ⊥)
    → false ≡ is_sent (acted columns key keyboard screen).answer
acts_silently columns (Char letter) keyboard screen enter pf pa clear = edit_is_silent (typed keyboard.inserting letter screen) keyboard screen
acts_silently columns Tab keyboard screen enter pf pa clear = refl
acts_silently columns BackTab keyboard screen enter pf pa clear = refl
acts_silently columns NewLine keyboard screen enter pf pa clear = refl
acts_silently columns Home keyboard screen enter pf pa clear = refl
acts_silently columns CursorUp keyboard screen enter pf pa clear = refl
acts_silently columns CursorDown keyboard screen enter pf pa clear = refl
acts_silently columns CursorLeft keyboard screen enter pf pa clear = refl
acts_silently columns CursorRight keyboard screen enter pf pa clear = refl
acts_silently columns Backspace keyboard screen enter pf pa clear = refl
acts_silently columns Insert keyboard screen enter pf pa clear = refl
acts_silently columns Delete keyboard screen enter pf pa clear = edit_is_silent (with_deleted columns screen) keyboard screen
acts_silently columns EraseEof keyboard screen enter pf pa clear = edit_is_silent (with_field_erased screen) keyboard screen
acts_silently columns EraseInput keyboard screen enter pf pa clear = refl
acts_silently columns Reset keyboard screen enter pf pa clear = refl
acts_silently columns Enter keyboard screen enter pf pa clear = absurd (enter refl)
acts_silently columns (Pf number) keyboard screen enter pf pa clear = absurd (pf number refl)
acts_silently columns (Pa number) keyboard screen enter pf pa clear = absurd (pa number refl)
acts_silently columns Clear keyboard screen enter pf pa clear = absurd (clear refl)

-- at a free lock no key but these four sends
pub is_silent : (columns : ℕ) (key : Key) (keyboard : Keyboard) (screen : Screen) → Free ≡ keyboard.lock
    → (key ≡ Enter → ⊥) → ((number : PfNo) → key ≡ Pf number → ⊥) → ((number : PaNo) → key ≡ Pa number → ⊥) → (key ≡ Clear → ⊥)
    → false ≡ is_sent (pressed columns key keyboard screen).answer
is_silent columns key keyboard screen free enter pf pa clear =
    subst (λ (lock : Lock). false ≡ is_sent (at_lock lock columns key keyboard screen).answer) free (acts_silently columns key keyboard screen enter pf pa clear)

-- a bound terminal's key that sends asks for room
pub room_if_sent : (bound : Bool) (answer : Pressed) (screen : Screen) → bound ≡ true → is_sent answer ≡ true → data_room ≡ room_of (data_pressed bound answer screen)
room_if_sent true (Send aid) screen is sent = refl
room_if_sent true Done screen is sent = absurd (cc)
room_if_sent true (Refused why) screen is sent = absurd (cc)
room_if_sent false answer screen is sent = absurd (cc)

-- an unbound terminal's asks for none
pub no_room_if_unbound : (bound : Bool) (answer : Pressed) (screen : Screen) → bound ≡ false → 0 ≡ room_of (data_pressed bound answer screen)
no_room_if_unbound false (Send aid) screen is = refl
no_room_if_unbound false Done screen is = refl
no_room_if_unbound false (Refused why) screen is = refl
no_room_if_unbound true answer screen is = absurd (cc)

-- nor does a key that sends nothing
pub no_room_if_silent : (bound : Bool) (answer : Pressed) (screen : Screen) → is_sent answer ≡ false → 0 ≡ room_of (data_pressed bound answer screen)
no_room_if_silent true (Send aid) screen silent = absurd (cc)
no_room_if_silent true Done screen silent = refl
no_room_if_silent true (Refused why) screen silent = refl
no_room_if_silent false answer screen silent = no_room_if_unbound false answer screen refl

-- ---- a key for which memory was refused

-- what holds in any case holds of an error
pub of_an_error : {A E : Type 0} (result : Result A E) (P : Type 0) → P → OnErr result P
of_an_error (Ok value) P holds = tt
of_an_error (Err error) P holds = holds

-- where the room that a key asks for wasn't there, the key sends
pub lacks_room : (room waiting : ℕ) (body : Option (List ℕ)) (key : Key) (old : Terminal) → data_of_key key (is_bound (phase_of old.link)) old.station ≡ body
    → waiting ≡ length old.out → waiting ≤ room → room < waiting + room_of body → LacksKeyRoom room key old
lacks_room room waiting None key old sends same fits full = absurd (omega (arith, fits, full))
lacks_room room waiting (Some body) key old sends same fits full = record { body = body; sends = sends; full = omega (arith, same, full) }
