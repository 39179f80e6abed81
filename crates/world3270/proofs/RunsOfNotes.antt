-- The run of the example with notes, computed.
use Rattle.std.proofs.Common.{◌≡◌, List, [], ◌∷◌, ◌++◌, true, refl, Some}
use Rattle.codes3270.specs.declared.attention.Aid.TheVariants.{Enter, Clear}
use Rattle.keyboard.specs.Places.{onward, backward}
use Rattle.keyboard.specs.declared.key.Key.TheVariants as key
use Rattle.shadow.specs.Belief.{Fact}
use Rattle.tn3270e_msg.specs.Device.{device_of}
use Rattle.world3270.specs.examples.ExampleApplication.{example, small, tall}
use Rattle.world3270.specs.examples.ExampleEnds.{settle, presses, after, end_on, bound_and_shows, name_place, shown_by, Decides}
use Rattle.world3270.specs.examples.ExampleNotes.{hello, bye, noted_entry, crossed_entry, crossed_heard, answered_entry, crossed_clear, answered_clear, hello_seen, entered_under_bye, greeted, NotesRun}
use Rattle.world3270.specs.examples.ExampleScreens.{fresh_sign_on, typing_sign_on, unformatted}
use Rattle.world3270.specs.model.Enabled.{is_skipped}
use Rattle.world3270.specs.model.World.{Event}
use Rattle.world3270.proofs.ExampleGiven.{is_well_formed, is_well_noted, are_events}
use Rattle.world3270.proofs.SignedOn.{request_taken, agreement_taken, acted_on, agree, start, asks, signed, once_signed, facts, at_turn, decided}

abbrev notes : List Event
notes = presses (key.Char 0x41 ∷ []) ++ (Event.Note 0 hello ∷ settle 0)

abbrev crosses : List Event
crosses = notes ++ (Event.Note 0 bye ∷ presses (key.Enter ∷ []) ++ (Event.Down 0 ∷ []))

abbrev hears : List Event
hears = crosses ++ (Event.Up 0 ∷ Event.Up 0 ∷ [])

abbrev crosses_clear : List Event
crosses_clear = hears ++ (settle 0 ++ (Event.Note 0 hello ∷ presses (key.Clear ∷ []) ++ (Event.Down 0 ∷ [])))

shows_the_note : end_on 0 (after noted_entry) ≡ bound_and_shows small (typing_sign_on hello_seen)
unfolding start asks signed acted_on agree request_taken agreement_taken device_of onward backward
shows_the_note = once_signed (end_on 0) notes (bound_and_shows small (typing_sign_on hello_seen)) refl

shows_the_other : shown_by (after crossed_entry) ≡ entered_under_bye
unfolding start asks signed acted_on agree request_taken agreement_taken device_of onward backward
shows_the_other = once_signed shown_by crosses entered_under_bye refl

decides_on_name : Decides (after crossed_heard) Enter name_place (Fact.Text (0xC1 ∷ []))
unfolding start asks signed acted_on agree request_taken agreement_taken device_of onward backward
decides_on_name =
    let fact = Fact.Text (0xC1 ∷ []) in
    decided (after crossed_heard) Enter name_place fact (once_signed (facts name_place) hears (at_turn Enter (Some fact)) refl)

notes_in_no_turn : is_skipped example (Event.Note 0 hello) (after crossed_heard) ≡ true
unfolding start asks signed acted_on agree request_taken agreement_taken device_of onward backward
notes_in_no_turn = once_signed (is_skipped example (Event.Note 0 hello)) hears true refl

greets : end_on 0 (after answered_entry) ≡ bound_and_shows tall greeted
unfolding start asks signed acted_on agree request_taken agreement_taken device_of onward backward
greets = once_signed (end_on 0) (hears ++ settle 0) (bound_and_shows tall greeted) refl

shows_it_cleared : shown_by (after crossed_clear) ≡ unformatted tall Clear hello_seen
unfolding start asks signed acted_on agree request_taken agreement_taken device_of onward backward
shows_it_cleared = once_signed shown_by crosses_clear (unformatted tall Clear hello_seen) refl

leads_back : end_on 0 (after answered_clear) ≡ bound_and_shows small fresh_sign_on
unfolding start asks signed acted_on agree request_taken agreement_taken device_of onward backward
leads_back = once_signed (end_on 0) (crosses_clear ++ settle 0) (bound_and_shows small fresh_sign_on) refl

pub notes_run : NotesRun
unfolding is_well_formed is_well_noted
notes_run = record {
  are_events = are_events answered_clear refl;
  noted = shows_the_note;
  crossed = shows_the_other;
  decides = decides_on_name;
  none_in_its_turn = notes_in_no_turn;
  answered = greets;
  cleared = shows_it_cleared;
  led_back = leads_back;
}
