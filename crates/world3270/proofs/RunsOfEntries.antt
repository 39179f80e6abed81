-- The stored run and the reconnecting run of the example, computed.
use Rattle.std.proofs.Common.{◌≡◌, List, [], ◌∷◌, ◌++◌, refl, ap, ◌∙◌, Some}
use Rattle.codes3270.specs.declared.attention.Aid.TheVariants.{Enter}
use Rattle.keyboard.specs.Places.{onward, backward}
use Rattle.keyboard.specs.declared.key.Key.TheVariants as key
use Rattle.shadow.specs.Belief.{Fact}
use Rattle.tn3270e_msg.specs.Device.{device_of}
use Rattle.world3270.specs.examples.ExampleApplication.{example, small, tall}
use Rattle.world3270.specs.examples.ExampleEnds.{rounds, settle, connects, presses, connected, after, end_on, bound_and_shows, refused_l1, name_place, letter_place, Decides, wanted_of}
use Rattle.world3270.specs.examples.ExampleRuns.{incomplete_entry, asking_again, answered_again, complete_entry, lost_entry, connected_again, entered_again, kept_sign_on, StoredRun, ReconnectingRun}
use Rattle.world3270.specs.examples.ExampleScreens.{fresh_sign_on, lettered_sign_on, greeting_seen, required_name}
use Rattle.world3270.specs.model.Steps.{run}
use Rattle.world3270.specs.model.World.{World, Event}
use Rattle.world3270.proofs.ExampleGiven.{is_well_formed, is_well_noted, are_events}
use Rattle.world3270.proofs.SignedOn.{request_taken, agreement_taken, acted_on, agree, IsRequested, IsAgreed, agreeing, start, asks, signed, is_signed, once_signed, facts, at_turn, decided}

-- ---- the stored run

shows_the_panel : end_on 0 (after connected) ≡ bound_and_shows small fresh_sign_on
unfolding start asks signed acted_on agree request_taken agreement_taken device_of
shows_the_panel = once_signed (end_on 0) [] (bound_and_shows small fresh_sign_on) refl

abbrev enters_letter : List Event
enters_letter = presses (key.Tab ∷ key.Char 0x58 ∷ key.Enter ∷ []) ++ Event.Up 0 ∷ []

decides_on_letter : Decides (after incomplete_entry) Enter letter_place (Fact.Text (0xE7 ∷ []))
unfolding start asks signed acted_on agree request_taken agreement_taken device_of onward backward
decides_on_letter =
    let fact = Fact.Text (0xE7 ∷ []) in
    decided (after incomplete_entry) Enter letter_place fact (once_signed (facts letter_place) enters_letter (at_turn Enter (Some fact)) refl)

keeps_the_letter : wanted_of (after asking_again) ≡ kept_sign_on ∷ []
unfolding start asks signed acted_on agree request_taken agreement_taken device_of onward backward
keeps_the_letter = once_signed wanted_of (enters_letter ++ (Event.Act 0 ∷ [])) (kept_sign_on ∷ []) refl

asks_for_the_name : end_on 0 (after answered_again) ≡ bound_and_shows small (lettered_sign_on required_name)
unfolding start asks signed acted_on agree request_taken agreement_taken device_of onward backward
asks_for_the_name = once_signed (end_on 0) (enters_letter ++ settle 0) (bound_and_shows small (lettered_sign_on required_name)) refl

abbrev enters_name : List Event
enters_name = presses (key.Char 0x41 ∷ key.Char 0x42 ∷ key.Char 0x43 ∷ key.Enter ∷ [])

shows_the_name : end_on 0 (after complete_entry) ≡ bound_and_shows tall (greeting_seen (0xC1 ∷ 0xC2 ∷ 0xC3 ∷ []))
unfolding start asks signed acted_on agree request_taken agreement_taken device_of onward backward
shows_the_name =
    once_signed (end_on 0) (enters_letter ++ (settle 0 ++ (enters_name ++ settle 0))) (bound_and_shows tall (greeting_seen (0xC1 ∷ 0xC2 ∷ 0xC3 ∷ []))) refl

-- ---- the reconnecting run

-- a letter and Enter are lost, and the terminal connects again
loses : List Event
loses = presses (key.Char 0x41 ∷ key.Enter ∷ []) ++ (Event.Lose 0 ∷ Event.TermSees 0 ∷ connects ++ settle 1)

is_refused : end_on 1 (after lost_entry) ≡ refused_l1
unfolding start asks signed acted_on agree request_taken agreement_taken device_of onward backward loses
is_refused = once_signed (end_on 1) loses refused_l1 refl

-- both ends see the losses, and the terminal connects once more
sees : List Event
sees = Event.HostSees 0 ∷ Event.Lose 1 ∷ Event.TermSees 0 ∷ Event.HostSees 1 ∷ connects

asks_again : List Event
asks_again = rounds 0 2 ++ (loses ++ (sees ++ rounds 0 3))

signed_again : World
signed_again = agree example (run example asks_again signed)

is_signed_again : (rest : List Event) → after (connected_again ++ rest) ≡ run example (rounds 0 2 ++ rest) signed_again
unfolding start asks signed acted_on agree request_taken agreement_taken device_of onward backward loses sees asks_again signed_again
is_signed_again rest =
    let is : IsRequested (run example asks_again signed) = record { here = refl; up = refl } in
    let after_it : IsAgreed (acted_on example (run example asks_again signed)) = record { here = refl; down = refl } in
    is_signed (loses ++ (sees ++ (settle 0 ++ rest))) ∙ agreeing example asks_again (rounds 0 2 ++ rest) signed is after_it

is_granted : end_on 0 (after connected_again) ≡ bound_and_shows small fresh_sign_on
unfolding start asks signed acted_on agree request_taken agreement_taken device_of onward backward loses sees asks_again signed_again
is_granted =
    let computed : end_on 0 (run example (rounds 0 2) signed_again) ≡ bound_and_shows small fresh_sign_on = refl in
    ap (end_on 0) (is_signed_again []) ∙ computed

enters_name_again : List Event
enters_name_again = presses (key.Char 0x42 ∷ key.Enter ∷ []) ++ Event.Up 0 ∷ []

decides_on_name : Decides (after entered_again) Enter name_place (Fact.Text (0xC2 ∷ []))
unfolding start asks signed acted_on agree request_taken agreement_taken device_of onward backward loses sees asks_again signed_again enters_name_again
decides_on_name =
    let fact = Fact.Text (0xC2 ∷ []) in
    let computed : facts name_place (run example (rounds 0 2 ++ enters_name_again) signed_again) ≡ at_turn Enter (Some fact) = refl in
    decided (after entered_again) Enter name_place fact (ap (facts name_place) (is_signed_again enters_name_again) ∙ computed)

-- ---- both

pub stored_run : StoredRun
unfolding is_well_formed is_well_noted
stored_run = record {
  are_events = are_events complete_entry refl;
  first = shows_the_panel;
  decides = decides_on_letter;
  kept = keeps_the_letter;
  asked_again = asks_for_the_name;
  stored = shows_the_name;
}

pub reconnecting_run : ReconnectingRun
unfolding is_well_formed is_well_noted
reconnecting_run = record {
  are_events = are_events entered_again refl;
  refused = is_refused;
  granted = is_granted;
  decides = decides_on_name;
}
