-- A live terminal: the effect of bytes from the operator's tty and from the host, and the bytes written to the tty (our
-- profile).
use Rattle.std.specs.Prelude.{◌≡◌, ℕ, ◌+◌, ◌-◌, ◌/◌, ◌%◌, ◌==◌, ◌&&◌, ◌||◌, min, not, Bool, true, false, List, [], ◌∷◌, ◌++◌, length, nat_le, nat_lt, Option, None, Some, codes, if◌then◌else◌}
use Rattle.keyboard.specs.declared.key.Key.{Key}
use Rattle.keyboard.specs.declared.key.Key.TheVariants as key
use Rattle.keyboard.specs.declared.key.Lock.{Lock}
use Rattle.keyboard.specs.declared.key.Lock.TheVariants as lock
use Rattle.keyboard.specs.declared.key.Pressed.{Pressed}
use Rattle.keyboard.specs.declared.key.Pressed.TheVariants as pressed
use Rattle.keyboard.specs.declared.key.Refusal.TheVariants as refusal
use Rattle.term_core.specs.Feeds.{Feeds}
use Rattle.term_core.specs.Presses.{after_key, answer_to_key}
use Rattle.term_core.specs.ScreenText.{all_lines}
use Rattle.term_core.specs.State.{Terminal, model_of, new_terminal, phase_of, silenced}
use Rattle.term_core.specs.declared.phase.TermPhase.{TermPhase}
use Rattle.term_core.specs.declared.phase.TermPhase.TheVariants as phase
use Rattle.codes3270.specs.Size.{alternate_of, cells_in}
use Rattle.datastream.specs.Screen.{is_char_at}
use Rattle.keyboard.specs.Places.{is_free_at}
use Rattle.codes3270.specs.declared.size.Model.{Model}
use Rattle.jobs.specs.declared.tty_size.TtySize.{TtySize}
use Rattle.tn3270e_msg.specs.declared.cause.Fed.{Fed}
use Rattle.tn3270e_msg.specs.declared.cause.Stop.TheVariants as stop
use Rattle.tty.specs.declared.action.Action.{Action}
use Rattle.tty.specs.declared.action.Action.TheVariants as action
use Rattle.tty.specs.declared.keymap.Binding.{Binding}
use Rattle.tty.specs.Keymaps.{action_of}
use Rattle.tty.specs.KeyReading.{after_pause, read_bytes}
use Rattle.tty.specs.declared.keystroke.Keystroke.{Keystroke}
use Rattle.tty.specs.declared.keystroke.Keystroke.TheVariants as stroke
use Rattle.tty.specs.Changes.{drawing_of}
use Rattle.tty.specs.declared.colors.Colors.{Colors}
use Rattle.tty.specs.Painting.{notice_of, page_of, picture_of}
use Rattle.tty.specs.Pictures.{PictureParts}
use Rattle.tty.specs.Spelling.{all_spelt, encoded}
use Rattle.tty.specs.Tty.{Control}
use Rattle.tty.specs.TtyRoom.{too_small_text}
use Rattle.tty.specs.declared.room.TooSmall.{TooSmall}
use Rattle.tty.specs.declared.status.StatusPlace.{StatusPlace}
use Rattle.tty.specs.declared.status.StatusPlace.TheVariants as place
use Rattle.tty.specs.declared.status.Trouble.{Trouble}
use Rattle.tty.specs.declared.status.Trouble.TheVariants as trouble
use Rattle.operate.specs.declared.live.Overlay.{Overlay}
use Rattle.operate.specs.declared.live.Overlay.TheVariants as over
use Rattle.operate.specs.declared.live.OperatorRequest.{OperatorRequest}
use Rattle.operate.specs.declared.live.OperatorRequest.TheVariants as asked
use Rattle.operate.specs.declared.typed.Paste.{Paste}
use Rattle.operate.specs.declared.typed.Paste.TheVariants as paste
use Rattle.operate.specs.declared.typed.Typed.{Typed}
use Rattle.operate.specs.declared.typed.Typed.TheVariants as typed

-- How an operator has the terminal: what keys do that don't do what is usual, the lines of the table of keys, for how
-- many milliseconds without a byte an incomplete keystroke is waited for, whether refused keys are silent, and whether
-- there is a file in which screens are saved.
pub record Settings : Type 0 where
  pub keymap : List Binding
  pub page : List (List ℕ)
  pub escape : ℕ
  pub quiet : Bool
  pub saves : Bool

-- An operator's seat: the terminal, the keys that were typed ahead, what the status row says of the last key, what is
-- shown over the screen, what the operator asks of the program, whether the bell must ring,
-- how far a pasted text is, for how many milliseconds no byte was typed and the keyboard has waited, the text of the
-- screens that must still be saved, the size of the tty, the colours in which it is drawn, and the picture that it shows,
-- if it is known.
pub record Seat : Type 0 where
  pub terminal : Terminal
  pub typeahead : List Typed
  pub trouble : Option Trouble
  pub overlay : Overlay
  pub asks : OperatorRequest
  pub rings : Bool
  pub paste : Paste
  pub idle : ℕ
  pub waited : ℕ
  pub saved : List ℕ
  pub settings : Settings
  pub size : TtySize
  pub colors : Colors
  pub shown : Option PictureParts

-- a seat, the bytes of an incomplete keystroke, and the capacity of the terminal's output buffer
pub record Live : Type 0 where
  pub seat : Seat
  pub kept : List ℕ
  pub room : ℕ

-- the seat at the start; it isn't known what the tty shows
abbrev pub first_seat : Settings → Model → TtySize → Colors → Seat
first_seat settings model size colors = record {
  terminal = new_terminal model;
  typeahead = [];
  trouble = None;
  overlay = over.Nothing;
  asks = asked.Nothing;
  rings = false;
  paste = paste.Off;
  idle = 0;
  waited = 0;
  saved = [];
  settings = settings;
  size = size;
  colors = colors;
  shown = None;
}

-- the bell must ring, unless keys are quiet
abbrev pub rung : Seat → Seat
rung seat = record seat { rings = seat.rings || not seat.settings.quiet }

-- ---- keystrokes

abbrev pub is_quit : OperatorRequest → Bool
is_quit asked.Quit = true
is_quit _ = false

abbrev pub is_idle : TermPhase → Bool
is_idle phase.Idle = true
is_idle _ = false

abbrev pub is_enter : Key → Bool
is_enter key.Enter = true
is_enter _ = false

-- what the status row says after a key; it stays if the keyboard was locked, and otherwise is the key's refusal, if any
abbrev pub trouble_after : Pressed → Option Trouble → Option Trouble
trouble_after (pressed.Refused refusal.Locked) shown = shown
trouble_after (pressed.Refused why) shown = Some (trouble.Refused why)
trouble_after pressed.Done shown = None
trouble_after (pressed.Send aid) shown = None

abbrev pub is_refused : Pressed → Bool
is_refused (pressed.Refused why) = true
is_refused _ = false

-- the seat after the operator is told that a key was refused: the bell rings, and the status row is shown, if the tty
-- has no row for it
abbrev pub told : Seat → Seat
told seat = rung (record seat { overlay = over.Status })

abbrev pub told_if : Bool → Seat → Seat
told_if true seat = told seat
told_if false seat = seat

-- whether a key asks for a connection: Enter without one
abbrev pub connects : Key → Terminal → Bool
connects key terminal = is_idle (phase_of terminal.link) && is_enter key

-- without a connection, Enter asks for one
abbrev pub asks_after : Key → TermPhase → OperatorRequest → OperatorRequest
asks_after key phase asks = if is_idle phase then (if is_enter key then asked.Connect else asks) else asks

-- A key is pressed, even if the keyboard is locked; the terminal drops a key that it refuses.
abbrev pub after_press : Key → Seat → Seat
after_press key seat =
    let answer : Pressed = answer_to_key key seat.terminal in
    told_if (is_refused answer && not (connects key seat.terminal)) (record seat {
      terminal = after_key key seat.terminal;
      trouble = if connects key seat.terminal then None else trouble_after answer seat.trouble;
      asks = asks_after key (phase_of seat.terminal.link) seat.asks;
    })

-- The seat after the character before the cursor is erased, as by c3270's `Erase`: Cursor Left and Delete are pressed. At
-- the first character of a field the key does nothing. Delete alone, which is refused, is pressed if the keyboard is
-- locked, or the cursor isn't in an input field.
abbrev pub erased : (is_free is_first : Bool) → Seat → Seat
erased false is_first seat = after_press key.Delete seat
erased true true seat = record seat { trouble = None }
erased true false seat = after_press key.Delete (after_press key.CursorLeft seat)

abbrev pub is_unlocked : Lock → Bool
is_unlocked lock.Free = true
is_unlocked _ = false

-- whether the cursor is at a character that the keyboard lets an operator change
abbrev pub can_edit : Terminal → Bool
can_edit terminal = is_unlocked terminal.station.keyboard.lock
    && is_free_at terminal.station.screen.screen.cells terminal.station.screen.screen.cursor

-- whether the cell before the cursor has an attribute
abbrev pub follows_attribute : Terminal → Bool
follows_attribute terminal =
    let count = cells_in terminal.station.screen.size in
    not (is_char_at terminal.station.screen.screen.cells ((terminal.station.screen.screen.cursor + count - 1) % count))

-- the seat after a key of the 3278 or the action Erase
abbrev pub after_typed : Typed → Seat → Seat
after_typed (typed.Key key) seat = after_press key seat
after_typed typed.Erase seat = erased (can_edit seat.terminal) (follows_attribute seat.terminal) seat

-- ---- keys that are typed ahead

abbrev pub is_reset : Typed → Bool
is_reset (typed.Key key.Reset) = true
is_reset _ = false

abbrev pub is_wait : Lock → Bool
is_wait lock.Wait = true
is_wait _ = false

-- whether a connected terminal's keyboard waits for the host
abbrev pub waits : Terminal → Bool
waits terminal = not (is_idle (phase_of terminal.link)) && is_wait terminal.station.keyboard.lock

-- the seat after a key is kept, if fewer than 256 are; if not, the bell rings
abbrev pub held : Typed → Seat → Seat
held one seat =
    if nat_lt (length seat.typeahead) 256 then record seat { typeahead = seat.typeahead ++ one ∷ [] } else rung seat

-- A key that is typed while the keyboard waits for the host is kept, up to 256 of them. Reset drops those kept.
abbrev pub after_typing : Typed → Seat → Seat
after_typing one seat =
    if is_reset one then after_press key.Reset (record seat { typeahead = [] })
    else if waits seat.terminal then held one seat else after_typed one seat

-- the seat after keys, one after another
abbrev pub all_typed : List Typed → Seat → Seat
all_typed [] seat = seat
all_typed (one ∷ more) seat = all_typed more (after_typing one seat)

-- the keys that were kept are typed again, in order: they are pressed until the keyboard waits, and the rest is kept
abbrev pub resumed : Seat → Seat
resumed seat = all_typed seat.typeahead (record seat { typeahead = [] })

-- ---- time

-- the most milliseconds that are counted
abbrev pub most_millis : ℕ
most_millis = 4294967295

-- the seat after a time in which nothing else happened
abbrev pub after_time : (millis : ℕ) → Seat → Seat
after_time millis seat = record seat {
  idle = min (seat.idle + millis) most_millis;
  waited = if waits seat.terminal then min (seat.waited + millis) most_millis else 0;
}

-- the whole seconds of the wait, below 60,000
abbrev pub seconds_of : ℕ → ℕ
seconds_of millis = millis / 1000 % 60000

-- ---- keystrokes, one after another

abbrev pub is_keys : Overlay → Bool
is_keys over.Keys = true
is_keys _ = false

abbrev pub is_status : Overlay → Bool
is_status over.Status = true
is_status _ = false

-- what is shown after the key for the table of keys: if that is shown, the screen
abbrev pub after_help : Overlay → Overlay
after_help over.Keys = over.Nothing
after_help _ = over.Keys

-- A key shows the screen again. At the table of keys it does nothing else.
abbrev pub after_key_at : Typed → Seat → Seat
after_key_at one seat =
    let again : Seat = record seat { overlay = over.Nothing } in
    if is_keys seat.overlay then again else after_typing one again

-- the seat after a report of the tty's size; what a tty shows after a change of its size isn't known
abbrev pub resized : (rows columns : ℕ) → Seat → Seat
resized rows columns seat = record seat { size = record { rows = rows; columns = columns }; shown = None }

-- the seat after the key that saves the screen: its rows must be saved, if there is a file; if not, the bell rings
abbrev pub after_save : Seat → Seat
after_save seat =
    if seat.settings.saves then record seat { saved = seat.saved ++ all_lines seat.terminal.station.screen } else rung seat

-- the seat after an action; the bell rings for a key that does nothing
abbrev pub after_action : Action → Seat → Seat
after_action (action.Key key) seat = after_key_at (typed.Key key) seat
after_action action.Erase seat = after_key_at typed.Erase seat
after_action action.Redraw seat = record seat { shown = None }
after_action action.Save seat = after_save seat
after_action action.Status seat = record seat { overlay = over.Status }
after_action action.Help seat = record seat { overlay = after_help seat.overlay }
after_action action.Quit seat = record seat { asks = asked.Quit }
after_action action.Nothing seat = rung seat

-- ---- pasted texts

abbrev pub cursor_of : Seat → ℕ
cursor_of seat = seat.terminal.station.screen.screen.cursor

-- what the status row says of a text that was cut: why the keyboard is locked, or that the text was cut
abbrev pub cut_trouble : Lock → Option Trouble → Option Trouble
cut_trouble lock.Free shown = Some trouble.PasteCut
cut_trouble _ shown = shown

-- a pasted text begins at the cursor
abbrev pub pasting : Seat → Seat
pasting seat = record seat { paste = paste.From (cursor_of seat); overlay = over.Nothing }

-- the rest of a pasted text is left out, and the operator is told
abbrev pub cut_off : Seat → Seat
cut_off seat = told (record seat { paste = paste.Cut; trouble = cut_trouble seat.terminal.station.keyboard.lock seat.trouble })

-- A key of a pasted text, of which the key before was pressed with the cursor at `from`: it is left out with the rest
-- once the keyboard is locked, or the cursor went back to the first field from the last, as in x3270.
abbrev pub after_pasted : (from : ℕ) → Key → Seat → Seat
after_pasted from key seat =
    if is_unlocked seat.terminal.station.keyboard.lock && nat_le from (cursor_of seat)
    then after_press key (record seat { paste = paste.From (cursor_of seat) }) else cut_off seat

-- the key that a keystroke is in a pasted text: a character, Tab, or for the end of a line New Line
abbrev pub pasted_control : ℕ → Option Key
pasted_control byte =
    if byte == 0x09 then Some key.Tab else if byte == 0x0A then Some key.NewLine
    else if byte == 0x0D then Some key.NewLine else None

abbrev pub pasted_key : Keystroke → Option Key
pasted_key (stroke.Char letter) = Some (key.Char letter)
pasted_key (stroke.Control byte) = pasted_control byte
pasted_key _ = None

abbrev pub is_reset_action : Action → Bool
is_reset_action (action.Key key.Reset) = true
is_reset_action _ = false

-- any other keystroke in a pasted text: its end, or the key Reset, ends it; what else it has does nothing
abbrev pub after_other : Keystroke → Seat → Seat
after_other stroke.PasteEnds seat = record seat { paste = paste.Off }
after_other (stroke.Size rows columns) seat = resized rows columns seat
after_other keystroke seat =
    if is_reset_action (action_of seat.settings.keymap keystroke)
    then after_key_at (typed.Key key.Reset) (record seat { paste = paste.Off }) else seat

abbrev pub after_maybe : Option Key → (from : ℕ) → Keystroke → Seat → Seat
after_maybe None from keystroke seat = after_other keystroke seat
after_maybe (Some key) from keystroke seat = after_pasted from key seat

-- ---- any keystroke

-- the seat after a keystroke that isn't in a pasted text
abbrev pub after_meaning : Keystroke → Seat → Seat
after_meaning (stroke.Char letter) seat = after_key_at (typed.Key (key.Char letter)) seat
after_meaning (stroke.Size rows columns) seat = resized rows columns seat
after_meaning stroke.PasteBegins seat = pasting seat
after_meaning stroke.PasteEnds seat = seat
after_meaning stroke.Unknown seat = rung seat
after_meaning keystroke seat = after_action (action_of seat.settings.keymap keystroke) seat

-- the seat after a keystroke, by how far a pasted text is
abbrev pub after_stroke : Paste → Keystroke → Seat → Seat
after_stroke paste.Off keystroke seat = after_meaning keystroke seat
after_stroke paste.Cut keystroke seat = after_other keystroke seat
after_stroke (paste.From from) keystroke seat = after_maybe (pasted_key keystroke) from keystroke seat

-- a keystroke after the one that ends the program has no effect
abbrev pub after_keystroke : Keystroke → Seat → Seat
after_keystroke keystroke seat = if is_quit seat.asks then seat else after_stroke seat.paste keystroke seat

-- the seat after keystrokes, one after another
abbrev pub after_keystrokes : List Keystroke → Seat → Seat
after_keystrokes [] seat = seat
after_keystrokes (keystroke ∷ keystrokes) seat = after_keystrokes keystrokes (after_keystroke keystroke seat)

-- Holds if the keystrokes in these bytes of the tty are taken, one after another.
pub record ReadsTyped (bytes : List ℕ) (old new : Live) : Type 0 where
  pub seat : new.seat ≡ after_keystrokes (read_bytes old.kept bytes).keystrokes old.seat
  pub kept : new.kept ≡ (read_bytes old.kept bytes).kept

-- whether so long no byte was typed that an incomplete keystroke isn't waited for any more
abbrev pub is_pause : Seat → Bool
is_pause seat = nat_le seat.settings.escape seat.idle

-- the effect of a pause, if there is one
abbrev pub PausesIf : Bool → (old new : Live) → Type 0
PausesIf true old new = (new.seat ≡ after_keystrokes (after_pause old.kept).keystrokes old.seat)
    × (new.kept ≡ (after_pause old.kept).kept)
PausesIf false old new = new ≡ old

-- Holds for a read of the tty that gave these bytes. After a long time without a byte, a read without one ends an
-- incomplete keystroke.
abbrev pub Types : (bytes : List ℕ) → (old new : Live) → Type 0
Types [] old new = PausesIf (is_pause old.seat) old new
Types (byte ∷ bytes) old new = ReadsTyped (byte ∷ bytes) (record old { seat = record old.seat { idle = 0 } }) new

-- ---- the picture

abbrev pub is_connected : TermPhase → Bool
is_connected phase.Idle = false
is_connected (phase.Closed cause) = false
is_connected _ = true

-- the text in the status row's place for the LU: the LU's name, or what Enter does if there is no connection
abbrev pub lu_place : TermPhase → List ℕ
lu_place (phase.Bound lu) = lu
lu_place phase.Idle = codes "Enter connects"
lu_place _ = []

-- The status row is below the screen if the tty has a row for it. If not, it gives way, unless it is asked for.
abbrev pub status_place : Overlay → (tty_rows screen_rows : ℕ) → StatusPlace
status_place overlay tty_rows screen_rows =
    if nat_lt screen_rows tty_rows then place.Below else if is_status overlay then place.Over else place.Nowhere

-- the picture of the screen
abbrev pub screen_at : Seat → PictureParts
screen_at seat =
    let phase = phase_of seat.terminal.link in
    let screen = seat.terminal.station.screen in
    picture_of (status_place seat.overlay seat.size.rows screen.size.rows) screen seat.terminal.station.keyboard
    (is_connected phase) seat.trouble (lu_place phase) (nat_lt 0 (length seat.typeahead)) (seconds_of seat.waited)

-- the picture of the screen, or of the table of keys, if that is shown
abbrev pub page_at : Seat → PictureParts
page_at seat = if is_keys seat.overlay then page_of seat.terminal.station.screen seat.settings.page else screen_at seat

-- why the tty has no room for the screens of the terminal's model, the largest of which has its alternate size
abbrev pub lack_at : Seat → Option TooSmall
lack_at seat =
    let needed = alternate_of (model_of seat.terminal) in
    if nat_le needed.rows seat.size.rows && nat_le needed.columns seat.size.columns then None
    else Some (record {
      rows = seat.size.rows;
      columns = seat.size.columns;
      needed_rows = needed.rows;
      needed_columns = needed.columns;
    })

-- the picture that the tty must show: a notice, if it is too small
abbrev pub picture_under : Option TooSmall → Seat → PictureParts
picture_under None seat = page_at seat
picture_under (Some lack) seat = notice_of seat.size.rows seat.size.columns (too_small_text lack)

abbrev pub picture_at : Seat → PictureParts
picture_at seat = picture_under (lack_at seat) seat

-- ---- a turn

-- holds if the terminal is fed these bytes from the host, and memory isn't refused
pub record Hears (bytes : List ℕ) (old new : Live) : Type 0 where
  pub fed : Fed
  pub feeds : Feeds new.room old.seat.terminal bytes fed new.seat.terminal
  pub has_memory : fed.stop ≡ stop.Memory → ⊥
  pub seat : new.seat ≡ record old.seat { terminal = new.seat.terminal }
  pub kept : new.kept ≡ old.kept

-- holds if the terminal is fed these bytes from the host up to one for which memory is refused
pub record IsOutOfMemory (bytes : List ℕ) (old new : Live) : Type 0 where
  pub fed : Fed
  pub feeds : Feeds new.room old.seat.terminal bytes fed new.seat.terminal
  pub refused : fed.stop ≡ stop.Memory

-- Holds if the bytes are drawn with which the tty shows the current picture.
pub record Draws (old new : Live) (drawn_old drawn_new : List ℕ) : Type 0 where
  pub drawn : drawn_new ≡ drawn_old ++ all_spelt (drawing_of old.seat.colors old.seat.shown (picture_at old.seat))
  pub live : new ≡ record old { seat = record old.seat { shown = Some (picture_at old.seat) } }

-- whether some bytes came from the host
abbrev pub has_bytes : List ℕ → Bool
has_bytes [] = false
has_bytes (byte ∷ bytes) = true

-- Holds if the current picture is drawn, provided that this is due.
abbrev pub DrawsIf : (is_due : Bool) → (old new : Live) → (drawn_old drawn_new : List ℕ) → Type 0
DrawsIf true old new drawn_old drawn_new = Draws old new drawn_old drawn_new
DrawsIf false old new drawn_old drawn_new = (new ≡ old) × (drawn_new ≡ drawn_old)

-- the bytes that sound the tty's alarm, if it must sound
abbrev pub alarm_bytes : (sounds : Bool) → List ℕ
alarm_bytes true = encoded Control.Bell
alarm_bytes false = []

-- Holds if the bell of the tty rings for the alarm that a write of the host asked for, or for what the operator typed.
pub record Sounds (old new : Live) (drawn_old drawn_new : List ℕ) : Type 0 where
  pub drawn : drawn_new ≡ drawn_old ++ alarm_bytes (old.seat.terminal.station.alarm || old.seat.rings)
  pub live : new ≡ record old { seat = record old.seat { terminal = silenced old.seat.terminal; rings = false } }

-- holds if the keys that were typed ahead are pressed, as far as the keyboard is free
pub record Resumes (old new : Live) : Type 0 where
  pub seat : new.seat ≡ resumed old.seat
  pub kept : new.kept ≡ old.kept

-- Holds for a turn: the host's bytes are taken, and the tty is drawn if there are any. So a new panel is drawn before
-- keys are pressed on it: first those that were typed ahead, then those that are typed now. Then the tty is drawn
-- again, and sounds the alarm.
pub record TakesTurn (came typed : List ℕ) (old new : Live) (drawn_old drawn_new : List ℕ) : Type 0 where
  pub heard : Live
  pub hears : Hears came old heard
  pub seen : Live
  pub panel : List ℕ
  pub shows : DrawsIf (has_bytes came) heard seen drawn_old panel
  pub free : Live
  pub resumes : Resumes seen free
  pub pressed : Live
  pub types : Types typed free pressed
  pub drawn : Live
  pub drawing : List ℕ
  pub draws : Draws pressed drawn panel drawing
  pub sounds : Sounds drawn new drawing drawn_new
