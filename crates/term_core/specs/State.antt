-- The state of a terminal, as contracts see it (our profile).
use Rattle.std.specs.Prelude.{ℕ, Bool, true, false, List, [], Option}
use Rattle.codes3270.specs.declared.size.Model.{Model}
use Rattle.presentation.specs.Sizes.{SizedScreen, blank_of}
use Rattle.keyboard.specs.State.{Keyboard, fresh}
use Rattle.telnet_wire.specs.Reading.{Rest, nothing}
use Rattle.tn3270e_msg.specs.TermTable.{Term, term_start}
use Rattle.tn3270e_msg.specs.declared.term_talk.TermState.{TermState}
use Rattle.tn3270e_msg.specs.declared.term_talk.TermState.TheVariants.{Agreed, Refused}
use Rattle.tn3270e_msg.specs.declared.cause.Cause.{Cause}
use Rattle.term_core.specs.declared.phase.TermPhase.{TermPhase}
use Rattle.term_core.specs.declared.phase.TermPhase.TheVariants as phase

-- the terminal's connection: none; attached, with the undecoded rest of the stream and the state of the negotiation; or
-- closed by the terminal, with the cause
pub data Link : Type 0 where
  Detached : Link
  Attached : Rest → Term → Link
  Closed : Cause → Link

-- the screen and the keyboard before the operator
pub record Station : Type 0 where
  pub screen : SizedScreen
  pub keyboard : Keyboard
  pub number : ℕ  -- of the next record of data on this connection
  pub took_write : Bool  -- whether the last byte completed a write with keyboard restore, which was applied
  pub alarm : Bool  -- whether a write that was applied asked for the alarm, which nobody took since

pub record Terminal : Type 0 where
  pub link : Link
  pub station : Station
  pub out : List ℕ  -- what it has to send

-- A terminal as a program has it, with the capacity of its output buffer: how many bytes may wait there unsent before
-- the buffer has to grow.
pub record TerminalWithRoom : Type 0 where
  pub terminal : Terminal
  pub room : ℕ

-- the station with this screen before a host writes on it: its keyboard waits
abbrev pub waiting : SizedScreen → Station
waiting screen = record { screen = screen; keyboard = fresh; number = 0; took_write = false; alarm = false }

-- the terminal after its alarm is taken
abbrev pub silenced : Terminal → Terminal
silenced old = record old { station = record old.station { alarm = false } }

-- a terminal of this model after `new` or `restart`
abbrev pub new_terminal : Model → Terminal
new_terminal model = record { link = Detached; station = waiting (blank_of model); out = [] }

-- a terminal at the beginning of a connection, on which it asks for the LU `wanted`, if there is one
abbrev pub connected : Model → Option (List ℕ) → Terminal
connected model wanted =
    record { link = Attached nothing (term_start model wanted); station = waiting (blank_of model); out = [] }

-- the terminal's model
abbrev pub model_of : Terminal → Model
model_of terminal = terminal.station.screen.model

-- the terminal after its connection is lost: the screen stays
abbrev pub lost : Terminal → Terminal
lost old = record { link = Detached; station = waiting old.station.screen; out = [] }

-- the phase of an attached terminal, by the state of the negotiation
abbrev pub talk_phase : TermState → TermPhase
talk_phase (Agreed lu) = phase.Bound lu
talk_phase (Refused reason) = phase.Refused reason
talk_phase _ = phase.Talking

abbrev pub phase_of : Link → TermPhase
phase_of Detached = phase.Idle
phase_of (Attached rest talk) = talk_phase talk.talk.state
phase_of (Closed cause) = phase.Closed cause

-- whether a terminal in this phase is bound to an LU
abbrev pub is_bound : TermPhase → Bool
is_bound (phase.Bound lu) = true
is_bound phase.Idle = false
is_bound phase.Talking = false
is_bound (phase.Refused reason) = false
is_bound (phase.Closed cause) = false
