-- A terminal over messages: what it does with the host's messages, and with keys (RFC 1647, sections 7, 8.1 and 10.4;
-- keyboard locks are our profile).
use Rattle.std.specs.Prelude.{◌||◌, ℕ, Bool, true, false, List, [], ◌∷◌, map, Option, Some, None, is_some}
use Rattle.codes3270.specs.declared.size.Model.{Model}
use Rattle.codes3270.specs.Size.{ScreenSize, cells_in}
use Rattle.datastream.specs.Grammar.{CommandParts}
use Rattle.datastream.specs.InboundFields.{modified_data, buffer_data}
use Rattle.datastream.specs.Meaning.{after_command}
use Rattle.datastream.specs.Screen.{Screen, blank_screen}
use Rattle.datastream.specs.Wanted.{WantedScreen}
use Rattle.datastream.specs.declared.inbound_part.Form.TheVariants.{Modified}
use Rattle.keyboard.specs.Keys.{Outcome, pressed}
use Rattle.keyboard.specs.Leaves.{erases}
use Rattle.keyboard.specs.State.{Keyboard, fresh, freed}
use Rattle.keyboard.specs.declared.key.Key.{Key}
use Rattle.keyboard.specs.declared.key.Pressed.{Pressed}
use Rattle.keyboard.specs.declared.key.Pressed.TheVariants.{Done, Refused, Send}
use Rattle.shadow.specs.Painted.{plainly_painted}
use Rattle.tn3270e_msg.specs.Talk.{Talk, follow, NegotiationMessage, says, sayings, closing}
use Rattle.tn3270e_msg.specs.TermTable.{Term, term_start, term_transition}
use Rattle.tn3270e_msg.specs.declared.cause.Cause.{Cause}
use Rattle.tn3270e_msg.specs.declared.reply.Reply.{Reply}
use Rattle.tn3270e_msg.specs.declared.term_talk.TermState.{TermState}
use Rattle.tn3270e_msg.specs.declared.term_talk.TermState.TheVariants.{Waiting, Willing, TypeAsked, FunctionsAsked, Agreed, Refused as RefusedState, Closed}
use Rattle.host_core.specs.Messages.{ToTerminal, ToHost, Verdict}

-- A terminal's model, screen and keyboard; `size` is the present size of the screen, one that the model may have.
-- `last_restored`, `before_restored` and `erased` are history, which no step reads: the screens just after and just
-- before the last write that restored the keyboard on the latest connection, and whether Erase Input was done since.
pub record Display : Type 0 where
  pub model : Model
  pub size : ScreenSize
  pub screen : Screen
  pub keyboard : Keyboard
  pub last_restored : Screen
  pub before_restored : Screen
  pub erased : Bool

-- a blank screen of this size, with the keyboard locked until the host's first write
abbrev pub new_display : Model → ScreenSize → Display
new_display model size = record {
  model = model;
  size = size;
  screen = blank_screen (cells_in size);
  keyboard = fresh;
  last_restored = blank_screen (cells_in size);
  before_restored = blank_screen (cells_in size);
  erased = false;
}

-- The terminal's end of a connection. `waits`: an AID key locks the keyboard until a write restores it.
pub record TermEnd : Type 0 where
  pub waits : Bool
  pub talk : Term
  pub display : Display

-- the end of a terminal of this model at the begin of a connection, with a screen of this size; it will request the LU
-- `wanted`, if one
abbrev pub new_end : Model → ScreenSize → Option (List ℕ) → TermEnd
new_end model size wanted = record { waits = true; talk = term_start model wanted; display = new_display model size }

-- the LU that the terminal is bound to, if the negotiation is complete (RFC 1647, section 7)
abbrev pub bound_to : TermState → Option (List ℕ)
bound_to (Agreed lu) = Some lu
bound_to Waiting = None
bound_to Willing = None
bound_to TypeAsked = None
bound_to (FunctionsAsked lu) = None
bound_to (RefusedState reason) = None
bound_to (Closed cause) = None

abbrev pub is_bound : TermEnd → Bool
is_bound end = is_some (bound_to end.talk.talk.state)

-- the end after a message or a key, what it sends, and the cause by which it closes the connection, if it does
pub record TermStep : Type 0 where
  pub end : TermEnd
  pub sends : List ToHost
  pub closes : Option Cause

-- a step that changes nothing but the end
abbrev pub quiet : TermEnd → TermStep
quiet end = record { end = end; sends = []; closes = None }

-- ---- messages

abbrev pub with_talk : TermEnd → Talk TermState → TermEnd
with_talk end talk = record end { talk = record end.talk { talk = talk } }

abbrev pub replied : TermEnd → Talk TermState × Reply → TermStep
replied end talked =
    record { end = with_talk end talked.0; sends = map ToHost.TalksUp (sayings talked.1); closes = closing talked.1 }

abbrev pub talked : TermEnd → Term → NegotiationMessage → TermStep
talked end talk saying =
    replied end (follow Closed talk.talk (term_transition talk.model talk.wanted talk.talk.state (says saying)))

-- the display after a paint: the wanted screen in its size, with the keyboard restored
abbrev pub painted : WantedScreen → Display → Display
painted wanted display = record display {
  size = wanted.size;
  screen = plainly_painted wanted display.screen;
  keyboard = freed display.keyboard;
  last_restored = plainly_painted wanted display.screen;
  before_restored = display.screen;
  erased = false;
}

-- A paint is applied, and a positive response is sent.
abbrev pub paint_came : ℕ → WantedScreen → TermEnd → TermStep
paint_came number wanted end =
    record {
      end = record end { display = painted wanted end.display };
      sends = ToHost.Response number Verdict.Positive ∷ [];
      closes = None;
    }

-- A note is written on the screen, and a positive response is sent. Keyboard and history stay as they are.
abbrev pub note_came : ℕ → CommandParts → TermEnd → TermStep
note_came number command end =
    let screen = after_command command end.display.screen in
    record {
      end = record end { display = record end.display { screen = screen } };
      sends = ToHost.Response number Verdict.Positive ∷ [];
      closes = None;
    }

-- The answer to Read Buffer is the whole screen.
abbrev pub read_came : TermEnd → TermStep
read_came end =
    record { end = end; sends = ToHost.Data (buffer_data end.display.size end.display.screen) ∷ []; closes = None }

-- A terminal that isn't bound drops a record.
abbrev pub once_bound : Bool → TermStep → TermEnd → TermStep
once_bound true step end = step
once_bound false step end = quiet end

-- the terminal's step when it takes a message
abbrev pub took : TermEnd → ToTerminal → TermStep
took end (ToTerminal.TalksDown saying) = talked end end.talk saying
took end (ToTerminal.Paint number wanted over) = once_bound (is_bound end) (paint_came number wanted end) end
took end (ToTerminal.ReadBuffer number) = once_bound (is_bound end) (read_came end) end
took end (ToTerminal.Note number command) = once_bound (is_bound end) (note_came number command end) end

-- ---- keys

abbrev pub erases_if : Pressed → Key → Bool
erases_if Done key = erases key
erases_if (Refused why) key = false
erases_if (Send aid) key = false

abbrev pub outcome_of : Key → Display → Outcome
outcome_of key display = pressed display.size.columns key display.keyboard display.screen

abbrev pub after_key : Key → Display → Display
after_key key display =
    let outcome = outcome_of key display in
    record display {
      screen = outcome.screen;
      keyboard = outcome.keyboard;
      erased = display.erased || erases_if outcome.answer key;
    }

-- what is sent after a key: the modified fields, if the key sends and the terminal is bound; else nothing
abbrev pub data_of : Bool → Pressed → ScreenSize → Screen → List ToHost
data_of true (Send aid) size screen = ToHost.Data (modified_data Modified size screen) ∷ []
data_of false (Send aid) size screen = []
data_of bound Done size screen = []
data_of bound (Refused why) size screen = []

-- the terminal's step when its operator presses a key
abbrev pub key_came : Key → TermEnd → TermStep
key_came key end =
    let outcome = outcome_of key end.display in
    record {
      end = record end { display = after_key key end.display };
      sends = data_of (is_bound end) outcome.answer end.display.size outcome.screen;
      closes = None;
    }
