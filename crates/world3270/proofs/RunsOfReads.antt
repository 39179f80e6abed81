-- The runs of the example in which the host reads the screen, computed.
use Rattle.std.proofs.Common.{◌≡◌, List, [], ◌∷◌, ◌++◌, refl, Some}
use Rattle.world3270.specs.examples.ExampleApplication.{small}
use Rattle.codes3270.specs.declared.attention.Aid.TheVariants.{Enter, Pa}
use Rattle.keyboard.specs.Places.{onward, backward}
use Rattle.keyboard.specs.declared.key.Key.TheVariants as key
use Rattle.shadow.specs.Belief.{Fact}
use Rattle.tn3270e_msg.specs.Device.{device_of}
use Rattle.host_core.specs.Messages.{ToTerminal}
use Rattle.world3270.specs.examples.ExampleEnds.{settle, presses, after, end_on, bound_and_shows, letter_place, Reads, Decides}
use Rattle.world3270.specs.examples.ExampleReads.{inactive_key, letter_read, answered_inactive, erased_letter, answered_erased, erased_entry, doubtful, nulls_read, answered_nulls, ReadingRun, DoubtingRun}
use Rattle.world3270.specs.examples.ExampleScreens.{lettered_sign_on, erased_sign_on, key_not_active}
use Rattle.world3270.specs.model.World.{Event}
use Rattle.world3270.proofs.ExampleGiven.{is_well_formed, is_well_noted, are_events}
use Rattle.world3270.proofs.SignedOn.{request_taken, agreement_taken, acted_on, agree, start, asks, signed, once_signed, facts, at_turn, decided}

-- ---- the reading run

abbrev presses_pa : List Event
presses_pa = presses (key.Tab ∷ key.Char 0x58 ∷ key.Pa 1 ∷ []) ++ (Event.Up 0 ∷ Event.Act 0 ∷ [])

abbrev reads_letter : List Event
reads_letter = presses_pa ++ (Event.Down 0 ∷ Event.Up 0 ∷ [])

abbrev erases_letter : List Event
erases_letter = reads_letter ++ (settle 0 ++ (presses (key.EraseInput ∷ key.Enter ∷ []) ++ (Event.Up 0 ∷ [])))

reads_after_pa : Reads (after inactive_key)
unfolding start asks signed acted_on agree request_taken agreement_taken device_of onward backward
reads_after_pa = once_signed (λ world. (world.link 0).down) presses_pa (ToTerminal.ReadBuffer 1 ∷ []) refl

decides_on_pa : Decides (after letter_read) (Pa 1) letter_place (Fact.Exact (0xE7 ∷ []))
unfolding start asks signed acted_on agree request_taken agreement_taken device_of onward backward
decides_on_pa =
    let fact = Fact.Exact (0xE7 ∷ []) in
    decided (after letter_read) (Pa 1) letter_place fact (once_signed (facts letter_place) reads_letter (at_turn (Pa 1) (Some fact)) refl)

tells : end_on 0 (after answered_inactive) ≡ bound_and_shows small (lettered_sign_on key_not_active)
unfolding start asks signed acted_on agree request_taken agreement_taken device_of onward backward
tells = once_signed (end_on 0) (reads_letter ++ settle 0) (bound_and_shows small (lettered_sign_on key_not_active)) refl

decides_on_the_erased : Decides (after erased_letter) Enter letter_place (Fact.Exact (0 ∷ []))
unfolding start asks signed acted_on agree request_taken agreement_taken device_of onward backward
decides_on_the_erased =
    let fact = Fact.Exact (0 ∷ []) in
    decided (after erased_letter) Enter letter_place fact (once_signed (facts letter_place) erases_letter (at_turn Enter (Some fact)) refl)

asks_after_the_erased : end_on 0 (after answered_erased) ≡ bound_and_shows small erased_sign_on
unfolding start asks signed acted_on agree request_taken agreement_taken device_of onward backward
asks_after_the_erased = once_signed (end_on 0) (erases_letter ++ settle 0) (bound_and_shows small erased_sign_on) refl

pub reading_run : ReadingRun
unfolding is_well_formed is_well_noted
reading_run = record {
  are_events = are_events answered_erased refl;
  reads = reads_after_pa;
  knows_letter = decides_on_pa;
  told = tells;
  knows_erased = decides_on_the_erased;
  asked = asks_after_the_erased;
}

-- ---- the doubting run

abbrev erases_input : List Event
erases_input = presses (key.EraseInput ∷ key.Enter ∷ []) ++ (Event.Up 0 ∷ [])

abbrev acts_in_doubt : List Event
acts_in_doubt = erases_input ++ (Event.Act 0 ∷ [])

abbrev reads_nulls : List Event
reads_nulls = acts_in_doubt ++ (Event.Down 0 ∷ Event.Up 0 ∷ [])

doubts_the_letter : Decides (after erased_entry) Enter letter_place (Fact.ExactOrNulls (0xE8 ∷ []))
unfolding start asks signed acted_on agree request_taken agreement_taken device_of onward backward
doubts_the_letter =
    let fact = Fact.ExactOrNulls (0xE8 ∷ []) in
    decided (after erased_entry) Enter letter_place fact (once_signed (facts letter_place) erases_input (at_turn Enter (Some fact)) refl)

reads_in_doubt : Reads (after doubtful)
unfolding start asks signed acted_on agree request_taken agreement_taken device_of onward backward
reads_in_doubt = once_signed (λ world. (world.link 0).down) acts_in_doubt (ToTerminal.ReadBuffer 1 ∷ []) refl

decides_on_nulls : Decides (after nulls_read) Enter letter_place (Fact.Exact (0 ∷ []))
unfolding start asks signed acted_on agree request_taken agreement_taken device_of onward backward
decides_on_nulls =
    let fact = Fact.Exact (0 ∷ []) in
    decided (after nulls_read) Enter letter_place fact (once_signed (facts letter_place) reads_nulls (at_turn Enter (Some fact)) refl)

asks_after_nulls : end_on 0 (after answered_nulls) ≡ bound_and_shows small erased_sign_on
unfolding start asks signed acted_on agree request_taken agreement_taken device_of onward backward
asks_after_nulls = once_signed (end_on 0) (reads_nulls ++ settle 0) (bound_and_shows small erased_sign_on) refl

pub doubting_run : DoubtingRun
unfolding is_well_formed is_well_noted
doubting_run = record {
  are_events = are_events answered_nulls refl;
  doubts = doubts_the_letter;
  reads = reads_in_doubt;
  knows = decides_on_nulls;
  asked = asks_after_nulls;
}
