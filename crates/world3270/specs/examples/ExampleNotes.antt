-- A run of the example with notes: one arrives while the operator types, one crosses Enter, one crosses Clear. Readers
-- and proofs need it, and nothing rests on it (our profile).
use Rattle.std.specs.Prelude.{◌≡◌, ℕ, true, List, [], ◌∷◌, ◌++◌, replicate}
use Rattle.codes3270.specs.declared.attention.Aid.TheVariants.{Enter, Clear}
use Rattle.datastream.specs.Screen.{Screen}
use Rattle.keyboard.specs.declared.key.Key.TheVariants as key
use Rattle.shadow.specs.Belief.{Fact}
use Rattle.world3270.specs.examples.ExampleApplication.{example, small, tall}
use Rattle.world3270.specs.examples.ExampleEnds.{settle, presses, connected, after, end_on, bound_and_shows, shown_by, name_place, Decides}
use Rattle.world3270.specs.examples.ExampleScreens.{fresh_sign_on, typing_sign_on, greeting_seen, unformatted}
use Rattle.world3270.specs.model.Enabled.{is_skipped}
use Rattle.world3270.specs.model.World.{Event, AreEvents}

-- ---- what happens

-- `HELLO` and `BYE` in code page 037
abbrev pub hello : List ℕ
hello = 0xC8 ∷ 0xC5 ∷ 0xD3 ∷ 0xD3 ∷ 0xD6 ∷ []

abbrev pub bye : List ℕ
bye = 0xC2 ∷ 0xE8 ∷ 0xC5 ∷ []

-- `A` in the first field, a note
abbrev pub noted_entry : List Event
noted_entry = connected ++ presses (key.Char 0x41 ∷ []) ++ Event.Note 0 hello ∷ settle 0

-- another note, and Enter before it is delivered
abbrev pub crossed_entry : List Event
crossed_entry = noted_entry ++ Event.Note 0 bye ∷ presses (key.Enter ∷ []) ++ Event.Down 0 ∷ []

-- the data of Enter and the response to the note are delivered to the host
abbrev pub crossed_heard : List Event
crossed_heard = crossed_entry ++ Event.Up 0 ∷ Event.Up 0 ∷ []

abbrev pub answered_entry : List Event
answered_entry = crossed_heard ++ settle 0

-- one more note, and Clear before it is delivered
abbrev pub crossed_clear : List Event
crossed_clear = answered_entry ++ Event.Note 0 hello ∷ presses (key.Clear ∷ []) ++ Event.Down 0 ∷ []

abbrev pub answered_clear : List Event
answered_clear = crossed_clear ++ settle 0

-- ---- where it leads

-- the last row after its attribute
abbrev pub hello_seen : List ℕ
hello_seen = hello ++ replicate 10 0

abbrev pub bye_seen : List ℕ
bye_seen = bye ++ replicate 12 0

-- the screen after `A` and Enter, with the other note
abbrev pub entered_under_bye : Screen
entered_under_bye = record (typing_sign_on bye_seen) { aid = Enter }

-- the second panel, with the name `A`
abbrev pub greeted : Screen
greeted = greeting_seen (0xC1 ∷ 0 ∷ 0 ∷ [])

-- A note changes only the last row, also after a key was pressed; the host answers that key nevertheless. In its own
-- turn the host sends no note.
pub record NotesRun : Type 0 where
  pub are_events : AreEvents answered_clear
  pub noted : end_on 0 (after noted_entry) ≡ bound_and_shows small (typing_sign_on hello_seen)
  pub crossed : shown_by (after crossed_entry) ≡ entered_under_bye
  pub decides : Decides (after crossed_heard) Enter name_place (Fact.Text (0xC1 ∷ []))
  pub none_in_its_turn : is_skipped example (Event.Note 0 hello) (after crossed_heard) ≡ true
  pub answered : end_on 0 (after answered_entry) ≡ bound_and_shows tall greeted
  pub cleared : shown_by (after crossed_clear) ≡ unformatted tall Clear hello_seen
  pub led_back : end_on 0 (after answered_clear) ≡ bound_and_shows small fresh_sign_on
