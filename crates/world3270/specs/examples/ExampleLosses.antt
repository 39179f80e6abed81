-- A run of the example in which a connection is lost with a note under way. Readers and proofs need it, and nothing
-- rests on it (our profile).
use Rattle.std.specs.Prelude.{◌≡◌, true, List, [], ◌∷◌, ◌++◌, Option, None, Some}
use Rattle.datastream.specs.Screen.{Screen}
use Rattle.keyboard.specs.declared.key.Key.TheVariants as key
use Rattle.keyboard.specs.declared.key.Lock.{Lock}
use Rattle.keyboard.specs.declared.key.Lock.TheVariants.{Wait}
use Rattle.world3270.specs.examples.ExampleApplication.{example, small}
use Rattle.world3270.specs.examples.ExampleEnds.{presses, connected, after, end_on, bound_and_shows}
use Rattle.world3270.specs.examples.ExampleNotes.{hello, hello_seen}
use Rattle.world3270.specs.examples.ExampleScreens.{typing_sign_on}
use Rattle.world3270.specs.model.Enabled.{is_skipped}
use Rattle.world3270.specs.model.World.{Place, World, Event, AreEvents}

-- ---- what happens

-- `A` in the first field, and the host sends a note
abbrev pub noted_typing : List Event
noted_typing = connected ++ presses (key.Char 0x41 ∷ []) ++ Event.Note 0 hello ∷ []

-- the connection is lost, and the note is delivered nevertheless
abbrev pub noted_lost : List Event
noted_lost = noted_typing ++ Event.Lose 0 ∷ Event.Down 0 ∷ []

-- the terminal sees the loss
abbrev pub left_typing : List Event
left_typing = noted_lost ++ Event.TermSees 0 ∷ []

-- ---- where it leads

-- the screen of a terminal at no connection, and whether its keyboard is unlocked
pub record Remains : Type 0 where
  pub screen : Screen
  pub lock : Lock

abbrev pub remains_at : Place → Option Remains
remains_at (Place.At number) = None
remains_at (Place.Alone display) = Some (record { screen = display.screen; lock = display.keyboard.lock })

abbrev pub remains_in : World → Option Remains
remains_in world = remains_at (world.place 0)

abbrev pub waits_noted : Remains
waits_noted = record { screen = typing_sign_on hello_seen; lock = Wait }

-- While a connection is up, no terminal sees its loss. After a loss, what was under way is still delivered, and isn't
-- answered; then the terminal keeps its screen, with the keyboard locked.
pub record LosingRun : Type 0 where
  pub are_events : AreEvents left_typing
  pub nothing_seen : is_skipped example (Event.TermSees 0) (after noted_typing) ≡ true
  pub came : end_on 0 (after noted_lost) ≡ bound_and_shows small (typing_sign_on hello_seen)
  pub remains : remains_in (after left_typing) ≡ Some waits_noted
