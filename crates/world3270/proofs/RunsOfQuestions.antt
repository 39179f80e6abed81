-- The run of the example in which the application is asked, computed.
use Rattle.std.proofs.Common.{◌≡◌, ◌==◌, lit≤, ap, sym, ◌∙◌, Bool, true, false, List, [], ◌∷◌, ◌++◌, Option, None, Some, refl}
use Rattle.std.specs.Prelude.{slice_get}
use Rattle.datastream.specs.Screen.{Screen}
use Rattle.codes3270.specs.declared.attribute.Cell.{Cell}
use Rattle.codes3270.specs.declared.attribute.Cell.TheVariants.{Char, Attr}
use Rattle.host_core.specs.Application.{message_place}
use Rattle.keyboard.specs.Places.{onward, backward}
use Rattle.keyboard.specs.declared.key.Key.TheVariants as key
use Rattle.tn3270e_msg.specs.Device.{device_of}
use Rattle.world3270.specs.statement.AsLeft.{ProtectedIsAsLeft}
use Rattle.world3270.specs.examples.ExampleApplication.{small, tall}
use Rattle.world3270.specs.examples.ExampleEnds.{settle, presses, after, end_on, bound_and_shows}
use Rattle.world3270.specs.examples.ExampleQuestions.{another_sign_on, asked_entry, again, answered_again, left_on, renamed, answered_on, asked_in, question, kept_sign_on, two_sign_ons, AskingRun, OtherSignOnIsNotAsked}
use Rattle.world3270.specs.examples.ExampleScreens.{fresh_sign_on, greeting_seen}
use Rattle.world3270.specs.model.World.{Event}
use Rattle.world3270.proofs.AskedPanels.{other_panels_are_not}
use Rattle.world3270.proofs.ExampleGiven.{is_well_formed, is_well_noted, are_events}
use Rattle.world3270.proofs.SignedOn.{request_taken, agreement_taken, acted_on, agree, start, asks, signed, once_signed}

abbrev enters : List Event
enters = presses (key.Char 0x41 ∷ key.Pf 6 ∷ []) ++ settle 0

abbrev keeps : List Event
keeps = enters ++ (Event.Answer 0 again ∷ settle 0)

abbrev renames : List Event
renames = keeps ++ (presses (key.Pf 6 ∷ []) ++ (settle 0 ++ (Event.Answer 0 renamed ∷ settle 0)))

asks_it : asked_in 7 (after asked_entry) ≡ Some question
unfolding start asks signed acted_on agree request_taken agreement_taken device_of onward backward
asks_it = once_signed (asked_in 7) enters (Some question) refl

left_it : left_on (after asked_entry) ≡ fresh_sign_on
unfolding start asks signed acted_on agree request_taken agreement_taken device_of onward backward
left_it = once_signed left_on enters fresh_sign_on refl

-- its first letter differs
abbrev is_c : Cell → Bool
is_c (Char byte) = byte == 0xC3
is_c (Attr attribute) = false

no_other : ProtectedIsAsLeft (message_place small) fresh_sign_on.cells another_sign_on → ⊥
no_other is = absurd (let same : true ≡ false = ap is_c (is.cells 1 (lit≤ tt) refl) in cc)

abbrev is_c_there : Option Cell → Bool
is_c_there None = false
is_c_there (Some cell) = is_c cell

no_other_panel : OtherSignOnIsNotAsked
no_other_panel waits host terminal left asked =
    other_panels_are_not two_sign_ons waits host (record question { panel = 1 }) terminal 1 0xC3 (λ values message keep. refl)
    (λ is. absurd (let same : false ≡ true = sym (ap (λ (s : Screen). is_c_there (slice_get s.cells 1)) left) ∙ ap is_c_there is in cc)) refl asked

keeps_it : end_on 0 (after answered_again) ≡ bound_and_shows small kept_sign_on
unfolding start asks signed acted_on agree request_taken agreement_taken device_of onward backward
keeps_it = once_signed (end_on 0) keeps (bound_and_shows small kept_sign_on) refl

shows_it : end_on 0 (after answered_on) ≡ bound_and_shows tall (greeting_seen (0xC2 ∷ 0 ∷ 0 ∷ []))
unfolding start asks signed acted_on agree request_taken agreement_taken device_of onward backward
shows_it = once_signed (end_on 0) renames (bound_and_shows tall (greeting_seen (0xC2 ∷ 0 ∷ 0 ∷ []))) refl

pub asking_run : AskingRun
unfolding is_well_formed is_well_noted
asking_run = record { are_events = are_events answered_on refl; asked = asks_it; left = left_it; no_other = no_other; no_other_panel = no_other_panel; kept = keeps_it; answered = shows_it }
