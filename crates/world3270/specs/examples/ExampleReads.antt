-- Two runs of the example in which the host reads the screen: after a key that sends no fields, and when it is in doubt
-- about a field. Readers and proofs need them, and nothing rests on them (our profile).
use Rattle.std.specs.Prelude.{◌≡◌, List, [], ◌∷◌, ◌++◌}
use Rattle.world3270.specs.examples.ExampleApplication.{small}
use Rattle.codes3270.specs.declared.attention.Aid.TheVariants.{Enter, Pa}
use Rattle.keyboard.specs.declared.key.Key.TheVariants as key
use Rattle.shadow.specs.Belief.{Fact}
use Rattle.world3270.specs.examples.ExampleEnds.{settle, presses, connected, after, end_on, bound_and_shows, letter_place, Reads, Decides}
use Rattle.world3270.specs.examples.ExampleScreens.{lettered_sign_on, erased_sign_on, key_not_active}
use Rattle.world3270.specs.model.World.{Event, AreEvents}

-- ---- the reading run

-- `X` in the second field, PA1, which is delivered to the host; and the host acts
abbrev pub inactive_key : List Event
inactive_key = connected ++ presses (key.Tab ∷ key.Char 0x58 ∷ key.Pa 1 ∷ []) ++ Event.Up 0 ∷ Event.Act 0 ∷ []

-- the screen is delivered to the host
abbrev pub letter_read : List Event
letter_read = inactive_key ++ Event.Down 0 ∷ Event.Up 0 ∷ []

abbrev pub answered_inactive : List Event
answered_inactive = letter_read ++ settle 0

-- Erase Input, Enter, which is delivered to the host
abbrev pub erased_letter : List Event
erased_letter = answered_inactive ++ presses (key.EraseInput ∷ key.Enter ∷ []) ++ Event.Up 0 ∷ []

abbrev pub answered_erased : List Event
answered_erased = erased_letter ++ settle 0

-- After a key that leads to no panel the screen is read, and shown again with what was typed. After that a field that
-- was modified isn't returned: so the input was erased, and the screen need not be read.
pub record ReadingRun : Type 0 where
  pub are_events : AreEvents answered_erased
  pub reads : Reads (after inactive_key)
  pub knows_letter : Decides (after letter_read) (Pa 1) letter_place (Fact.Exact (0xE7 ∷ []))
  pub told : end_on 0 (after answered_inactive) ≡ bound_and_shows small (lettered_sign_on key_not_active)
  pub knows_erased : Decides (after erased_letter) Enter letter_place (Fact.Exact (0 ∷ []))
  pub asked : end_on 0 (after answered_erased) ≡ bound_and_shows small erased_sign_on

-- ---- the doubting run

-- Erase Input on the first panel, Enter, which is delivered to the host
abbrev pub erased_entry : List Event
erased_entry = connected ++ presses (key.EraseInput ∷ key.Enter ∷ []) ++ Event.Up 0 ∷ []

-- the host acts, and sends Read Buffer
abbrev pub doubtful : List Event
doubtful = erased_entry ++ Event.Act 0 ∷ []

abbrev pub nulls_read : List Event
nulls_read = doubtful ++ Event.Down 0 ∷ Event.Up 0 ∷ []

abbrev pub answered_nulls : List Event
answered_nulls = nulls_read ++ settle 0

-- A field that the host filled isn't returned: it has its text, or nulls after Erase Input. So the host reads the
-- screen.
pub record DoubtingRun : Type 0 where
  pub are_events : AreEvents answered_nulls
  pub doubts : Decides (after erased_entry) Enter letter_place (Fact.ExactOrNulls (0xE8 ∷ []))
  pub reads : Reads (after doubtful)
  pub knows : Decides (after nulls_read) Enter letter_place (Fact.Exact (0 ∷ []))
  pub asked : end_on 0 (after answered_nulls) ≡ bound_and_shows small erased_sign_on
