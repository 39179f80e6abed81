-- A run of the example: the terminal's screen is cleared, then the terminal restarts, then the
-- host. Readers and proofs need it, and nothing rests on it (our profile).
use Rattle.std.specs.Prelude.{◌≡◌, true, false, List, [], ◌∷◌, ◌++◌, replicate, Some}
use Rattle.codes3270.specs.declared.size.Model.TheVariants.{M5}
use Rattle.codes3270.specs.declared.attention.Aid.TheVariants.{Clear}
use Rattle.keyboard.specs.declared.key.Key.TheVariants as key
use Rattle.shadow.specs.Belief.{Shadow}
use Rattle.world3270.specs.examples.ExampleApplication.{example, example_pool, small}
use Rattle.world3270.specs.examples.ExampleEnds.{settle, presses, connected, after, end_on, l1_held, bound_and_shows, shown_by, Apart, apart}
use Rattle.world3270.specs.examples.ExampleScreens.{fresh_sign_on, unformatted, no_message}
use Rattle.world3270.specs.statement.Headline.{IsHostsTurn}
use Rattle.world3270.specs.statement.Observation.{seen_link}
use Rattle.world3270.specs.model.Terminal.{new_display}
use Rattle.world3270.specs.model.World.{Place, Event, AreEvents}

-- ---- what happens

-- `X` in the second field, Clear, which is delivered to the host
abbrev pub cleared_entry : List Event
cleared_entry = connected ++ presses (key.Tab ∷ key.Char 0x58 ∷ key.Clear ∷ []) ++ Event.Up 0 ∷ []

abbrev pub answered_clear : List Event
answered_clear = cleared_entry ++ settle 0

-- the terminal restarts
abbrev pub terminal_anew : List Event
terminal_anew = answered_clear ++ Event.RestartTerm 0 ∷ []

-- the host sees that its connection is lost
abbrev pub loss_seen : List Event
loss_seen = terminal_anew ++ Event.HostSees 0 ∷ []

-- the terminal connects again
abbrev pub back_at_host : List Event
back_at_host = loss_seen ++ connected

-- the host restarts
abbrev pub host_anew : List Event
host_anew = back_at_host ++ Event.RestartHost ∷ []

-- the terminal sees that its connection is lost, and connects again
abbrev pub back_at_new_host : List Event
back_at_new_host = host_anew ++ Event.TermSees 0 ∷ connected

-- ---- where it leads

-- the terminal holds no connection, and its screen is blank
abbrev pub alone : Place
alone = Place.Alone (new_display M5 example.begins)

-- the host still holds its connection, which holds L1
abbrev pub host_waits : Apart
host_waits = record { place = alone; host_here = true; pool = l1_held }

-- the host has left the connection, and nobody holds an LU
abbrev pub host_left : Place → Apart
host_left place = record { place = place; host_here = false; pool = example_pool }

-- After Clear the host knows that each cell is null, and shows the panel again. If the terminal or the host restarts,
-- the LU is free once the host has left the connection; then the terminal gets the LU and the first panel again.
pub record RestartingRun : Type 0 where
  pub are_events : AreEvents back_at_new_host
  pub decides : IsHostsTurn (seen_link ((after cleared_entry).link 0))
  pub cleared : shown_by (after cleared_entry) ≡ unformatted small Clear no_message
  pub knows : ((after cleared_entry).link 0).host.shadow ≡ Shadow.Unformatted (replicate 32 (Some 0))
  pub shown_anew : end_on 0 (after answered_clear) ≡ bound_and_shows small fresh_sign_on
  pub released : apart (after terminal_anew) ≡ host_waits
  pub freed : apart (after loss_seen) ≡ host_left alone
  pub granted : end_on 0 (after back_at_host) ≡ bound_and_shows small fresh_sign_on
  pub restarted : apart (after host_anew) ≡ host_left (Place.At 0)
  pub granted_anew : end_on 0 (after back_at_new_host) ≡ bound_and_shows small fresh_sign_on
