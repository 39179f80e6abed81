-- A run of the example with keys that lead to another panel: a PF key, and Clear. Readers and proofs need it, and
-- nothing rests on it (our profile).
use Rattle.std.specs.Prelude.{◌≡◌, ℕ, Bool, true, false, List, [], ◌∷◌, ◌++◌}
use Rattle.codes3270.specs.declared.attention.Aid.{Aid}
use Rattle.codes3270.specs.declared.attention.Aid.TheVariants.{Enter, Pf}
use Rattle.codes3270.specs.declared.size.Model.TheVariants.{M5}
use Rattle.datastream.specs.Screen.{Screen}
use Rattle.keyboard.specs.declared.key.Key.TheVariants as key
use Rattle.panels.specs.declared.message.Message.{Message}
use Rattle.panels.specs.declared.message.Message.TheVariants.{Fresh, KeyNotActive, Required}
use Rattle.world3270.specs.statement.Leading.{IsLedTo}
use Rattle.world3270.specs.examples.ExampleApplication.{example, name_field, small, tall}
use Rattle.world3270.specs.examples.ExampleEnds.{settle, presses, connected, after, end_on, bound_and_shows}
use Rattle.world3270.specs.examples.ExampleScreens.{fresh_sign_on, greeting_seen, no_message, typing_sign_on}
use Rattle.world3270.specs.model.World.{Event, AreEvents}

-- PF5 on the first panel, with no name
abbrev pub skipped_entry : List Event
skipped_entry = connected ++ presses (key.Pf 5 ∷ []) ++ settle 0

-- Clear on the second panel
abbrev pub cleared_greeting : List Event
cleared_greeting = skipped_entry ++ presses (key.Clear ∷ []) ++ settle 0

-- ---- where keys lead from the sign-on

-- the screen on which a key with this AID was pressed
abbrev pub pressed : Aid → Screen → Screen
pressed aid screen = record screen { aid = aid }

-- Holds if the key that was pressed on this screen of the sign-on leads a model 5 to this panel with this message, and
-- nowhere else.
pub record LeadsAlone (screen : Screen) (panel : ℕ) (message : Message) (keep : Bool) : Type 0 where
  pub leads : IsLedTo example M5 0 screen panel message keep
  pub alone : (other : ℕ) (second : Message) (keeps : Bool) → IsLedTo example M5 0 screen other second keeps
      → (other ≡ panel) × (second ≡ message) × (keeps ≡ keep)

-- PF5 leads to the second panel, and so does Enter if the name is filled in; Enter without a name asks for it; PF1 isn't
-- active.
pub record KeysOfTheSignOn : Type 0 where
  pub pf5 : LeadsAlone (pressed (Pf 5) fresh_sign_on) 1 Fresh false
  pub named : LeadsAlone (pressed Enter (typing_sign_on no_message)) 1 Fresh false
  pub unnamed : LeadsAlone (pressed Enter fresh_sign_on) 0 (Required name_field.number) true
  pub pf1 : LeadsAlone (pressed (Pf 1) fresh_sign_on) 0 KeyNotActive true

-- ---- the run

-- A PF key leads to the second panel though a required field is empty, and Clear leads back.
pub record LeadingRun : Type 0 where
  pub are_events : AreEvents cleared_greeting
  pub led_on : end_on 0 (after skipped_entry) ≡ bound_and_shows tall (greeting_seen (0 ∷ 0 ∷ 0 ∷ []))
  pub keys : KeysOfTheSignOn
  pub led_back : end_on 0 (after cleared_greeting) ≡ bound_and_shows small fresh_sign_on
