-- Notes (our profile): a host writes a short text into the last row while the operator has the turn.
use Rattle.std.specs.Prelude.{◌≤◌, ◌-◌, ◌+◌, nat_lt, ◌&&◌, not, ℕ, Bool, false, IsTrue, List, ◌∷◌, ◌++◌, length, map, take, replicate, All, Option, Some, None, if◌then◌else◌}
use Rattle.codes3270.specs.Size.{ScreenSize}
use Rattle.datastream.specs.Grammar.{CommandParts}
use Rattle.datastream.specs.Note.{quiet}
use Rattle.datastream.specs.declared.command_code.CommandCode.TheVariants.{Write}
use Rattle.datastream.specs.declared.order.Order.{Order}
use Rattle.datastream.specs.declared.order.Order.TheVariants.{Sba, Char as CharData}
use Rattle.tn3270e_msg.specs.Header.{next_number}
use Rattle.host_core.specs.Acts.{Sent}
use Rattle.host_core.specs.Application.{message_place}
use Rattle.host_core.specs.Messages.{ToTerminal}
use Rattle.host_core.specs.declared.turn.Turn.{Turn}
use Rattle.host_core.specs.declared.turn.Turn.TheVariants as whose
use Rattle.host_core.specs.Session.{Session, Pending, is_agreed}

-- a character of code page 037
abbrev pub is_graphic : ℕ → Bool
is_graphic byte = not (nat_lt byte 0x40) && nat_lt byte 0xFF

-- the characters of the longest last row of a 3278, that of 132 columns, after its attribute
abbrev pub longest_note : ℕ
longest_note = 131

-- holds for the text of a note: at most 131 characters of code page 037
pub record IsNoteText (text : List ℕ) : Type 0 where
  pub short : length text ≤ longest_note
  pub graphic : All (λ byte. IsTrue (is_graphic byte)) text

-- the text in `room` cells: cut to them, or filled up with nulls
abbrev pub in_cells : ℕ → List ℕ → List ℕ
in_cells room text = take room (text ++ replicate room 0)

-- the orders that write a text over the last row after its attribute
abbrev pub note_orders : ScreenSize → List ℕ → List Order
note_orders size text = Sba (message_place size + 1) ∷ map CharData (in_cells (size.columns - 1) text)

-- A note's command: a Write that restores no keyboard, resets no MDT and moves no cursor.
abbrev pub note_command : ScreenSize → List ℕ → CommandParts
note_command size text = record { code = Write; size = size; wcc = Some quiet; orders = note_orders size text }

-- a note may be sent: it is the operator's turn, and no command waits for its answer
abbrev pub may_note : Turn → Pending → Bool → Bool
may_note whose.Terminal Pending.Nothing agreed = agreed
may_note whose.Terminal (Pending.Writing number command) agreed = false
may_note whose.Terminal (Pending.Reading number) agreed = false
may_note whose.Terminal (Pending.Noting number command) agreed = false
may_note whose.Host pending agreed = false

-- what is sent for a note, and the connection after it: turn and belief stay until the note is answered
abbrev pub noted_as : List ℕ → Session → Sent
noted_as text conn =
    let command = note_command conn.size text in
    record {
      conn = record conn { pending = Pending.Noting conn.next_seq command; next_seq = next_number conn.next_seq };
      message = ToTerminal.Note conn.next_seq command;
    }

-- what is sent for a note, if one may be sent
abbrev pub noted : List ℕ → Session → Option Sent
noted text conn = if may_note conn.turn conn.pending (is_agreed conn.talk.state) then Some (noted_as text conn)
    else None
