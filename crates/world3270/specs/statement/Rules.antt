-- The rules that a terminal must keep (GA23-0059-07; RFC 1647). It applies each write that it answers positively, whole
-- and in order, and answers Read Buffer with the whole screen: that is `took` of Terminal. How its operator edits, how
-- it sends and how it binds is said here.
use Rattle.std.specs.Prelude.{◌≡◌, ◌≢◌, ◌<◌, ◌||◌, ℕ, Bool, List, [], ◌∷◌, length, None}
use Rattle.codes3270.specs.declared.attention.Aid.{Aid}
use Rattle.codes3270.specs.declared.attention.Aid.TheVariants.{NoAid, Clear}
use Rattle.codes3270.specs.declared.attribute.Cell.{Cell}
use Rattle.datastream.specs.KeptByKeys.{KeptByKeys}
use Rattle.datastream.specs.Meaning.{cleared}
use Rattle.datastream.specs.Screen.{Screen}
use Rattle.keyboard.specs.State.{Keyboard}
use Rattle.keyboard.specs.declared.key.Pressed.TheVariants.{Send}
use Rattle.tn3270e_msg.specs.Talk.{NegotiationMessage}
use Rattle.tn3270e_msg.specs.declared.reply.OwnedMessage.TheVariants.{FunIs}
use Rattle.tn3270e_msg.specs.declared.term_talk.TermState.{TermState}
use Rattle.tn3270e_msg.specs.declared.term_talk.TermState.TheVariants.{FunctionsAsked, Agreed}
use Rattle.host_core.specs.Messages.{ToTerminal, ToHost}
use Rattle.world3270.specs.model.Terminal.{Display, TermEnd, TermStep, data_of, is_bound}

-- a step to this display and keyboard, with these messages; the terminal may lock its keyboard when it likes
abbrev pub shows : Keyboard → Display → List ToHost → TermEnd → TermStep
shows keyboard display sends end =
    record { end = record end { display = record display { keyboard = keyboard } }; sends = sends; closes = None }

-- the display with these cells and this cursor; `erases`: by Erase Input
abbrev pub edited : List Cell → ℕ → Bool → Display → Display
edited cells cursor erases display =
    record display {
      screen = record display.screen { cells = cells; cursor = cursor };
      erased = display.erased || erases;
    }

-- the screen with the AID of a key that was pressed; Clear also nulls it
abbrev pub with_aid : Aid → Screen → Screen
with_aid Clear screen = record (cleared (length screen.cells) screen) { aid = Clear }
with_aid aid screen = record screen { aid = aid }

abbrev pub after_sending : Aid → Display → Display
after_sending aid display = record display { screen = with_aid aid display.screen }

-- the inbound data of a key: its AID and, unless it is sent short, the cursor and exactly the modified fields
abbrev pub data_by : Aid → TermEnd → List ToHost
data_by aid end = data_of (is_bound end) (Send aid) end.display.size (after_sending aid end.display).screen

-- A step of the operator. Either he changes unprotected cells, their MDT and the cursor, and nothing else: a change
-- turns MDT on, but Erase Input nulls all input and turns MDT off. Or he presses a key that sends, whenever the
-- terminal allows it.
pub data Operates (end : TermEnd) (step : TermStep) : Type 0 where
  edits : (keyboard : Keyboard) (cells : List Cell) (cursor : ℕ) (erases : Bool)
      → KeptByKeys erases end.display.screen.cells cells → cursor < length cells
      → step ≡ shows keyboard (edited cells cursor erases end.display) [] end → Operates end step
  sends : (keyboard : Keyboard) (aid : Aid) → aid ≢ NoAid
      → step ≡ shows keyboard (after_sending aid end.display) (data_by aid end) end → Operates end step

-- The terminal is bound to the LU that the host granted, and nothing is under way to it; or FUNCTIONS IS is under way.
pub data Binds (granted : List ℕ) (state : TermState) (down : List ToTerminal) : Type 0 where
  bound : state ≡ Agreed granted → down ≡ [] → Binds granted state down
  about_to : state ≡ FunctionsAsked granted → down ≡ ToTerminal.TalksDown (NegotiationMessage.Sub FunIs) ∷ []
      → Binds granted state down
