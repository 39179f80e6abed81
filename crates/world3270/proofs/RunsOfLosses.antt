-- The run of the example with a loss and a note under way, computed.
use Rattle.std.proofs.Common.{◌≡◌, List, [], ◌∷◌, ◌++◌, true, refl, Some}
use Rattle.keyboard.specs.Places.{onward, backward}
use Rattle.keyboard.specs.declared.key.Key.TheVariants as key
use Rattle.tn3270e_msg.specs.Device.{device_of}
use Rattle.world3270.specs.examples.ExampleApplication.{example, small}
use Rattle.world3270.specs.examples.ExampleEnds.{presses, after, end_on, bound_and_shows}
use Rattle.world3270.specs.examples.ExampleLosses.{noted_typing, noted_lost, left_typing, remains_in, waits_noted, LosingRun}
use Rattle.world3270.specs.examples.ExampleNotes.{hello, hello_seen}
use Rattle.world3270.specs.examples.ExampleScreens.{typing_sign_on}
use Rattle.world3270.specs.model.Enabled.{is_skipped}
use Rattle.world3270.specs.model.World.{Event}
use Rattle.world3270.proofs.ExampleGiven.{is_well_formed, is_well_noted, are_events}
use Rattle.world3270.proofs.SignedOn.{request_taken, agreement_taken, acted_on, agree, start, asks, signed, once_signed}

abbrev notes : List Event
notes = presses (key.Char 0x41 ∷ []) ++ (Event.Note 0 hello ∷ [])

abbrev loses : List Event
loses = notes ++ (Event.Lose 0 ∷ Event.Down 0 ∷ [])

sees_nothing : is_skipped example (Event.TermSees 0) (after noted_typing) ≡ true
unfolding start asks signed acted_on agree request_taken agreement_taken device_of onward backward
sees_nothing = once_signed (is_skipped example (Event.TermSees 0)) notes true refl

shows_the_note : end_on 0 (after noted_lost) ≡ bound_and_shows small (typing_sign_on hello_seen)
unfolding start asks signed acted_on agree request_taken agreement_taken device_of onward backward
shows_the_note = once_signed (end_on 0) loses (bound_and_shows small (typing_sign_on hello_seen)) refl

waits_alone : remains_in (after left_typing) ≡ Some waits_noted
unfolding start asks signed acted_on agree request_taken agreement_taken device_of onward backward
waits_alone = once_signed remains_in (loses ++ (Event.TermSees 0 ∷ [])) (Some waits_noted) refl

pub losing_run : LosingRun
unfolding is_well_formed is_well_noted
losing_run = record { are_events = are_events left_typing refl; nothing_seen = sees_nothing; came = shows_the_note; remains = waits_alone }
