-- Two runs of the example: the stored one and the reconnecting one. Readers and proofs need them, and nothing rests on
-- them (our profile).
use Rattle.std.specs.Prelude.{◌≡◌, true, false, List, [], ◌∷◌, ◌++◌}
use Rattle.codes3270.specs.declared.attention.Aid.TheVariants.{Enter}
use Rattle.datastream.specs.Wanted.{WantedScreen}
use Rattle.keyboard.specs.declared.key.Key.TheVariants as key
use Rattle.panels.specs.declared.message.Message.TheVariants.{Required}
use Rattle.shadow.specs.Belief.{Fact}
use Rattle.world3270.specs.examples.ExampleApplication.{name_field, letter_field, sign_on, small, tall}
use Rattle.world3270.specs.examples.ExampleEnds.{settle, connects, presses, connected, after, end_on, bound_and_shows, refused_l1, name_place, letter_place, Decides, wanted_of}
use Rattle.world3270.specs.examples.ExampleScreens.{fresh_sign_on, lettered_sign_on, greeting_seen, required_name}
use Rattle.world3270.specs.model.World.{Event, AreEvents}

-- ---- the stored run

-- Tab to the second field, `X`, Enter, which is delivered to the host
abbrev pub incomplete_entry : List Event
incomplete_entry = connected ++ presses (key.Tab ∷ key.Char 0x58 ∷ key.Enter ∷ []) ++ Event.Up 0 ∷ []

-- the host acts
abbrev pub asking_again : List Event
asking_again = incomplete_entry ++ Event.Act 0 ∷ []

abbrev pub answered_again : List Event
answered_again = incomplete_entry ++ settle 0

-- `ABC` in the first field, Enter
abbrev pub complete_entry : List Event
complete_entry = answered_again ++ presses (key.Char 0x41 ∷ key.Char 0x42 ∷ key.Char 0x43 ∷ key.Enter ∷ []) ++ settle 0

-- the sign-on that keeps what is in its fields, and asks for the name
abbrev pub kept_sign_on : WantedScreen
kept_sign_on = sign_on false ((letter_field.number, 0xE7 ∷ []) ∷ []) (Required name_field.number) true

-- The letter is kept, not written again, and the host asks for the name; then the name is stored, and shown.
pub record StoredRun : Type 0 where
  pub are_events : AreEvents complete_entry
  pub first : end_on 0 (after connected) ≡ bound_and_shows small fresh_sign_on
  pub decides : Decides (after incomplete_entry) Enter letter_place (Fact.Text (0xE7 ∷ []))
  pub kept : wanted_of (after asking_again) ≡ kept_sign_on ∷ []
  pub asked_again : end_on 0 (after answered_again) ≡ bound_and_shows small (lettered_sign_on required_name)
  pub stored : end_on 0 (after complete_entry) ≡ bound_and_shows tall (greeting_seen (0xC1 ∷ 0xC2 ∷ 0xC3 ∷ []))

-- ---- the reconnecting run

-- `A`, Enter; the connection is lost before this is delivered; the terminal sees the loss, and connects again
abbrev pub lost_entry : List Event
lost_entry =
    connected ++ presses (key.Char 0x41 ∷ key.Enter ∷ []) ++ Event.Lose 0 ∷ Event.TermSees 0 ∷ connects ++ settle 1

-- the host sees that connection 0 is lost; so is connection 1, which both see; and the terminal connects once more
abbrev pub connected_again : List Event
connected_again =
    lost_entry ++ Event.HostSees 0 ∷ Event.Lose 1 ∷ Event.TermSees 0 ∷ Event.HostSees 1 ∷ connects ++ settle 0

-- `B`, Enter, which is delivered to the host
abbrev pub entered_again : List Event
entered_again = connected_again ++ presses (key.Char 0x42 ∷ key.Enter ∷ []) ++ Event.Up 0 ∷ []

-- L1 is refused while the host holds the lost connection, and granted once it sees the loss; then
-- the first panel is shown again.
pub record ReconnectingRun : Type 0 where
  pub are_events : AreEvents entered_again
  pub refused : end_on 1 (after lost_entry) ≡ refused_l1
  pub granted : end_on 0 (after connected_again) ≡ bound_and_shows small fresh_sign_on
  pub decides : Decides (after entered_again) Enter name_place (Fact.Text (0xC2 ∷ []))
