-- A run of the example in which the application is asked, and answers: readers and proofs need it, and nothing rests on
-- it (our profile).
use Rattle.std.specs.Prelude.{◌≡◌, ◌==◌, drop, codes, Bool, true, false, List, [], ◌∷◌, ◌++◌, ℕ, Option, Some, None, if◌then◌else◌, replicate}
use Rattle.codes3270.specs.declared.attention.Aid.TheVariants.{Pf}
use Rattle.codes3270.specs.declared.attribute.Cell.{Cell}
use Rattle.datastream.specs.Screen.{Screen}
use Rattle.keyboard.specs.declared.key.Key.TheVariants as key
use Rattle.datastream.specs.Wanted.{WantedScreen}
use Rattle.panels.specs.MessageText.{message_of}
use Rattle.panels.specs.Screen.{Values, autoskip_attr, coded}
use Rattle.panels.specs.declared.message.Message.{Message}
use Rattle.host_core.specs.Application.{Application, message_place}
use Rattle.host_core.specs.Session.{Session}
use Rattle.host_core.specs.declared.question.Answer.{Answer}
use Rattle.host_core.specs.declared.question.Question.{Question}
use Rattle.world3270.specs.statement.AsLeft.{ProtectedIsAsLeft}
use Rattle.world3270.specs.statement.Asked.{IsPanelAsked, asked_by}
use Rattle.world3270.specs.statement.Observation.{TerminalSeen}
use Rattle.world3270.specs.examples.ExampleApplication.{example, fields_of, item, l1, name_field, letter_field, sign_on, small, tall}
use Rattle.world3270.specs.examples.ExampleEnds.{settle, presses, connected, after, end_on, bound_and_shows}
use Rattle.world3270.specs.examples.ExampleScreens.{fresh_sign_on, skipped, sign_on_seen, typed_into, greeting_seen}
use Rattle.world3270.specs.model.World.{World, Event, AreEvents}

-- `A` in the first field, then PF6, on which the application decides
abbrev pub asked_entry : List Event
asked_entry = connected ++ presses (key.Char 0x41 ∷ key.Pf 6 ∷ []) ++ settle 0

-- the answer that shows the same panel again, with a message
abbrev pub again : Answer
again = record { panel = None; values = []; message = record { characters = message_of (codes "OK") }; cursor = None }

abbrev pub answered_again : List Event
answered_again = asked_entry ++ Event.Answer 0 again ∷ settle 0

-- the answer that shows the second panel, with another name
abbrev pub renamed : Answer
renamed = record {
  panel = Some 1;
  values = (name_field.number, 0xC2 ∷ []) ∷ [];
  message = record { characters = message_of [] };
  cursor = None;
}

abbrev pub answered_on : List Event
answered_on = answered_again ++ presses (key.Pf 6 ∷ []) ++ settle 0 ++ Event.Answer 0 renamed ∷ settle 0

-- the open question on connection 0, in a session with this number
abbrev pub asked_in : ℕ → World → Option Question
asked_in session world = asked_by example session (world.link 0)

-- the question: both fields have the texts that the screen shows, and the cursor is after the `A`. The second field
-- wasn't returned, so the host has read the screen.
abbrev pub question : Question
question = record {
  ticket = record { session = 7; turn = 2 };
  lu = l1;
  panel = 0;
  aid = Pf 6;
  cursor = 7;
  values = (name_field.number, 0xC1 ∷ []) ∷ (letter_field.number, 0xE8 ∷ []) ∷ [];
}

-- `OK`
abbrev pub ok_seen : List ℕ
ok_seen = 0xD6 ∷ 0xD2 ∷ replicate 13 0

-- the fields keep what they had, and the message is shown
abbrev pub kept_sign_on : Screen
kept_sign_on = sign_on_seen (typed_into true (0xC1 ∷ 0 ∷ 0 ∷ [])) (typed_into false (0xE8 ∷ [])) ok_seen

-- the screen that the host's last restoring write left on connection 0
abbrev pub left_on : World → Screen
left_on world = (world.link 0).term.display.last_restored

-- the screen of another panel, with the same fields at the same addresses: `CODE` in place of `NAME`
abbrev pub another_sign_on : List Cell
another_sign_on = skipped (0xC3 ∷ 0xD6 ∷ 0xC4 ∷ 0xC5 ∷ []) ++ drop 5 fresh_sign_on.cells

-- what that panel asks for
abbrev pub other_sign_on : Values → Message → Bool → WantedScreen
other_sign_on values message keep =
    let wanted = sign_on false values message keep in
    record wanted { cells = item 5 (autoskip_attr false) (coded (codes "CODE")) ++ drop 5 wanted.cells }

-- an application with both: panel 0, and this one for each other number
abbrev pub two_sign_ons : Application
two_sign_ons = record example {
  fields = λ panel. fields_of false 0;
  screen = λ panel values message keep.
      if panel == 0 then sign_on false values message keep else other_sign_on values message keep;
}

-- A question isn't about that other panel if the screen that was left is the sign-on.
abbrev pub OtherSignOnIsNotAsked : Type 0
OtherSignOnIsNotAsked = (waits : Bool) (host : Session) (terminal : TerminalSeen)
    → terminal.last_restored ≡ fresh_sign_on
    → IsPanelAsked two_sign_ons waits host (record question { panel = 1 }) terminal → ⊥

-- The application is asked what the screen shows, on the panel that the host left and no other; the same panel, shown
-- again, keeps what was typed; and another panel shows what was answered.
pub record AskingRun : Type 0 where
  pub are_events : AreEvents answered_on
  pub asked : asked_in 7 (after asked_entry) ≡ Some question
  pub left : left_on (after asked_entry) ≡ fresh_sign_on
  pub no_other : ProtectedIsAsLeft (message_place small) fresh_sign_on.cells another_sign_on → ⊥
  pub no_other_panel : OtherSignOnIsNotAsked
  pub kept : end_on 0 (after answered_again) ≡ bound_and_shows small kept_sign_on
  pub answered : end_on 0 (after answered_on) ≡ bound_and_shows tall (greeting_seen (0xC2 ∷ 0 ∷ 0 ∷ []))
