-- A terminal over bytes with the history of its screen: how bytes, items and keys change both (our profile). term_core
-- says how they change the terminal; no step of it reads the history.
use Rattle.std.specs.Prelude.{◌≡◌, ◌||◌, ℕ, Bool, true, false, List, [], ◌∷◌, Option}
use Rattle.codes3270.specs.Size.{cells_in, model_2}
use Rattle.codes3270.specs.declared.size.Model.{Model}
use Rattle.datastream.specs.Screen.{Screen, blank_screen}
use Rattle.keyboard.specs.declared.key.Key.{Key}
use Rattle.telnet_wire.specs.Items.{WireItem}
use Rattle.tn3270e_msg.specs.TermTable.{Term}
use Rattle.tn3270e_msg.specs.declared.cause.Cause.{Cause}
use Rattle.term_core.specs.Bytes.{TakesByte, TakesBytes, before_byte}
use Rattle.term_core.specs.Items.{TakesItem}
use Rattle.term_core.specs.Presses.{after_key, answer_to_key}
use Rattle.term_core.specs.State.{Station, Terminal, connected}
use Rattle.world3270.specs.model.Terminal.{erases_if}

-- the screens just after and just before the last write that restored the keyboard on the latest connection, and
-- whether Erase Input was done since
pub record History : Type 0 where
  pub last_restored : Screen
  pub before_restored : Screen
  pub erased : Bool

pub record TrackedTerminal : Type 0 where
  pub terminal : Terminal
  pub history : History

-- a terminal of this model at the begin of a connection, on which it will request this LU, if one
abbrev pub newly_tracked : Model → Option (List ℕ) → TrackedTerminal
newly_tracked model wanted = record {
  terminal = connected model wanted;
  history = record {
    last_restored = blank_screen (cells_in model_2);
    before_restored = blank_screen (cells_in model_2);
    erased = false;
  };
}

-- ---- bytes

-- the history after a step; if it applied a write that restores the keyboard, `before` and `after` are the screens
-- around that write
abbrev pub restored_by : Bool → (before after : Screen) → History → History
restored_by true before after old = record { last_restored = after; before_restored = before; erased = false }
restored_by false before after old = old

-- the history after a byte, with the station before and after it: a byte that completes a write which
-- restores the keyboard updates it
abbrev pub marked : (before after : Station) → History → History
marked before after old = restored_by after.took_write before.screen.screen after.screen.screen old

pub record TrackedTakesByte (old : TrackedTerminal) (byte : ℕ) (new : TrackedTerminal) : Type 0 where
  pub takes : TakesByte old.terminal byte new.terminal
  pub history : new.history ≡ marked old.terminal.station new.terminal.station old.history

-- The terminal takes these bytes, one after another.
abbrev pub TrackedTakes : TrackedTerminal → List ℕ → TrackedTerminal → Type 0
TrackedTakes old [] new = new ≡ old
TrackedTakes old (byte ∷ bytes) new = (mid : TrackedTerminal) × TrackedTakesByte old byte mid
    × TrackedTakes mid bytes new

-- For any bytes that a terminal takes there is a history after them.
abbrev pub HistoryFollows : Type 0
HistoryFollows = (old : TrackedTerminal) (bytes : List ℕ) (new : Terminal)
    → TakesBytes old.terminal bytes new
    → (history : History) × TrackedTakes old bytes (record { terminal = new; history = history })

-- ---- keys

-- after a key is pressed: the history records an Erase Input that was done
abbrev pub tracked_after_key : Key → TrackedTerminal → TrackedTerminal
tracked_after_key key old = record {
  terminal = after_key key old.terminal;
  history = record {
    last_restored = old.history.last_restored;
    before_restored = old.history.before_restored;
    erased = old.history.erased || erases_if (answer_to_key key old.terminal) key;
  };
}

-- ---- items

-- the terminal's end of a connection: the negotiation, the screen and keyboard, and the history of the screen
pub record ByteEnd : Type 0 where
  pub talk : Term
  pub station : Station
  pub history : History

abbrev pub end_at : Term → TrackedTerminal → ByteEnd
end_at talk tracked = record { talk = talk; station = tracked.terminal.station; history = tracked.history }

-- a step of the end with an item: the end after it, the items that it sends, and the cause for which it closes the
-- connection, if it does
pub record ByteStep : Type 0 where
  pub end : ByteEnd
  pub says : List WireItem
  pub closes : Option Cause

-- The end takes an item, when the byte arrives that completes it.
pub record EndTakes (old : ByteEnd) (item : WireItem) (step : ByteStep) : Type 0 where
  pub takes : TakesItem old.talk (before_byte old.station) item step.says step.closes step.end.talk step.end.station
  pub history : step.end.history ≡ marked old.station step.end.station old.history
