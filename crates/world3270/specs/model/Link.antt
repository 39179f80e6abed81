-- One connection over messages, with its two ends, and what may happen on it (our profile).
use Rattle.std.specs.Prelude.{◌||◌, not, ℕ, Bool, true, false, List, [], ◌∷◌, ◌++◌, Option, Some, None, if◌then◌else◌, is_some}
use Rattle.host_core.specs.Application.{Application}
use Rattle.codes3270.specs.declared.size.Model.TheVariants.{M2}
use Rattle.codes3270.specs.declared.size.Model.{Model}
use Rattle.telnet_wire.specs.declared.wire.Verb.TheVariants.{Do}
use Rattle.tn3270e_msg.specs.declared.cause.Cause.{Cause}
use Rattle.host_core.specs.declared.terminals.Terminals.{Terminals}
use Rattle.host_core.specs.Messages.{ToTerminal, ToHost}
use Rattle.tn3270e_msg.specs.Talk.{NegotiationMessage}
use Rattle.host_core.specs.Session.{Session, new_conn}
use Rattle.host_core.specs.Takes.{HostStep}
use Rattle.host_core.specs.Acts.{Sent}
use Rattle.world3270.specs.model.Terminal.{TermEnd, TermStep, new_end}

-- A connection: the messages under way to the terminal (`down`) and to the host (`up`), oldest first; the host's end,
-- and whether the host is attached; the terminal's end, and which terminal is attached, if one is. An end that was left
-- stays as it was; no step reads it.
pub record Link : Type 0 where
  pub lost : Bool
  pub down : List ToTerminal
  pub up : List ToHost
  pub host_here : Bool
  pub host : Session
  pub term_here : Option ℕ
  pub term : TermEnd

-- whether no end is attached, so that a new connection may use the number
abbrev pub is_free : Link → Bool
is_free link = not (link.host_here || is_some link.term_here)

-- whether the connection is up: an end is attached, and it isn't lost
abbrev pub is_up : Link → Bool
is_up link = not (link.lost || is_free link)

-- a connection that begins: the host has sent DO TN3270E (RFC 1647, section 7); terminal `terminal`, of this model,
-- will request the LU `wanted`, if one
abbrev pub begun : Application → Terminals → Model → ℕ → Option (List ℕ) → Link
begun app serves model terminal wanted = record {
  lost = false;
  down = ToTerminal.TalksDown (NegotiationMessage.Opt Do 40) ∷ [];
  up = [];
  host_here = true;
  host = new_conn serves app;
  term_here = Some terminal;
  term = new_end model app.begins wanted;
}

-- a connection that was never used: it is lost, nothing is under way, and no end is attached
abbrev pub unused : Application → Terminals → Link
unused app serves = record {
  lost = true;
  down = [];
  up = [];
  host_here = false;
  host = new_conn serves app;
  term_here = None;
  term = new_end M2 app.begins None;
}

-- the connection is lost
abbrev pub cut : Link → Link
cut link = record link { lost = true }

-- the queue after these messages are sent: on a lost connection they vanish
abbrev pub sent : {X : Type 0} → Bool → List X → List X → List X
sent lost queue messages = if lost then queue else queue ++ messages

-- ---- the host's end

-- the host leaves: the connection is lost
abbrev pub host_left : Link → Link
host_left link = record link { lost = true; host_here = false }

-- The host leaves if its step closes the connection.
abbrev pub host_left_if : Option Cause → Link → Link
host_left_if None link = link
host_left_if (Some cause) link = host_left link

-- after a step of the host that leaves the messages `rest` under way to it
abbrev pub host_stepped : HostStep → List ToHost → Link → Link
host_stepped step rest link =
    host_left_if step.closes (record link { up = rest; host = step.conn; down = sent link.lost link.down step.sends })

-- ---- the terminal's end

-- the terminal leaves: the connection is lost
abbrev pub term_left : Link → Link
term_left link = record link { lost = true; term_here = None }

abbrev pub term_left_if : Option Cause → Link → Link
term_left_if None link = link
term_left_if (Some cause) link = term_left link

-- after a step of the terminal that leaves the messages `rest` under way to it
abbrev pub term_stepped : TermStep → List ToTerminal → Link → Link
term_stepped step rest link =
    term_left_if step.closes (record link { down = rest; term = step.end; up = sent link.lost link.up step.sends })

-- ---- what the host sends

-- after the host sends a message, if it does
abbrev pub host_sent : Option Sent → Link → Link
host_sent None link = link
host_sent (Some sending) link =
    record link { host = sending.conn; down = sent link.lost link.down (sending.message ∷ []) }
