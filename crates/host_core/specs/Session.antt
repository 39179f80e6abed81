-- An open connection as the host has it, apart from its stream (our profile).
use Rattle.std.specs.Prelude.{ℕ, Bool, true, false, [], unwrap_or}
use Rattle.codes3270.specs.Size.{ScreenSize}
use Rattle.codes3270.specs.declared.size.Model.{Model}
use Rattle.codes3270.specs.declared.size.Model.TheVariants.{M2}
use Rattle.datastream.specs.Grammar.{CommandParts}
use Rattle.shadow.specs.Belief.{Shadow}
use Rattle.panels.specs.declared.message.Message.{Message}
use Rattle.panels.specs.declared.message.Message.TheVariants.{Fresh}
use Rattle.panels.specs.Screen.{Values}
use Rattle.host_core.specs.Application.{Application}
use Rattle.host_core.specs.declared.terminals.Terminals.{Terminals}
use Rattle.host_core.specs.declared.terminals.Terminals.TheVariants.{Waiting, Any, Verified}
use Rattle.host_core.specs.declared.turn_reason.TurnReason.{TurnReason}
use Rattle.host_core.specs.declared.turn_reason.TurnReason.TheVariants.{Agreement}
use Rattle.host_core.specs.declared.turn.Turn.{Turn}
use Rattle.host_core.specs.declared.turn.Turn.TheVariants.{Host}
use Rattle.host_core.specs.declared.unheard.Unheard.{Unheard}
use Rattle.host_core.specs.declared.unheard.Unheard.TheVariants as unheards
use Rattle.tn3270e_msg.specs.Talk.{Talk}
use Rattle.tn3270e_msg.specs.HostTable.{host_start, model_asked}
pub use Rattle.tn3270e_msg.specs.HostTable.{agreed_lu, is_agreed}
use Rattle.tn3270e_msg.specs.declared.host_talk.HostState.{HostState}

-- the command that waits for its answer, with its sequence number: a paint, a Read Buffer, or a note
pub data Pending : Type 0 where
  Nothing : Pending
  Writing : ℕ → CommandParts → Pending
  Reading : ℕ → Pending
  Noting : ℕ → CommandParts → Pending

-- the session of an open connection: the negotiation, the screen and its belief, the turn, and what is shown
pub record Session : Type 0 where
  pub talk : Talk HostState
  pub size : ScreenSize  -- of the terminal's screen, as the host's last erase set it
  pub turn : Turn
  pub pending : Pending
  pub next_seq : ℕ  -- of the next command
  pub shadow : Shadow
  pub panel : ℕ  -- the one that is shown
  pub message : Message  -- its message
  pub values : Values  -- of the fields
  pub turn_reason : TurnReason
  pub cursor : ℕ  -- where the terminal's cursor was when its last data was sent; 0 before
  pub unheard : Unheard  -- what may have happened to the screen since the host heard of it
  pub verifies : Bool  -- the host reads the screen before it answers a key, to see that the terminal keeps the rules
  pub restored : ℕ  -- how many times in a row, without a key that was believed, the screen was painted over

-- what may happen to the screens of such terminals, unknown to the host
abbrev pub unheard_of : Terminals → Unheard
unheard_of Waiting = unheards.Nothing
unheard_of Any = unheards.Input
unheard_of Verified = unheards.Input

-- the host verifies that such terminals keep the rules
abbrev pub are_verified : Terminals → Bool
are_verified Waiting = false
are_verified Any = false
are_verified Verified = true

-- A connection at its beginning: TN3270E is offered, and the first panel will be shown, in the form for a model 2.
abbrev pub new_conn : Terminals → Application → Session
new_conn terminals app = record {
  talk = host_start;
  size = app.begins;
  turn = Host;
  pending = Pending.Nothing;
  next_seq = 0;
  shadow = Shadow.NothingKnown;
  panel = app.shown M2 app.start;
  message = Fresh;
  values = [];
  turn_reason = Agreement;
  cursor = 0;
  unheard = unheard_of terminals;
  verifies = are_verified terminals;
  restored = 0;
}

-- the terminal's model; model 2 before it has asked for a device type
abbrev pub model_in : Session → Model
model_in conn = unwrap_or (model_asked conn.talk.state) M2
