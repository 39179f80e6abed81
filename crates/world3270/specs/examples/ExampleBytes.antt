-- A begin of `EveryTerminalOverBytes`: a host for any terminal with one panel, and a bound terminal; and a world over
-- bytes that has both. Readers and proofs need them, and nothing rests on them (our profile).
use Rattle.std.specs.Prelude.{◌≡◌, codes, ℕ, Bool, true, false, List, [], ◌∷◌, Option, None, Some, drop, replicate}
use Rattle.codes3270.specs.Size.{cells_in, model_2}
use Rattle.codes3270.specs.declared.size.Model.TheVariants.{M2, M5}
use Rattle.datastream.specs.Screen.{blank_screen}
use Rattle.keyboard.specs.declared.key.Key.TheVariants.{Enter}
use Rattle.panels.specs.Panel.{AreSound, PanelParts, Panels}
use Rattle.presentation.specs.Sizes.{blank_of}
use Rattle.telnet_wire.specs.Items.{WireItem, Opt, Record, Sub, sent_bytes}
use Rattle.telnet_wire.specs.Reading.{nothing}
use Rattle.telnet_wire.specs.declared.wire.Verb.TheVariants.{Dont, Will}
use Rattle.term_core.specs.State.{Attached, waiting}
use Rattle.tn3270e_msg.specs.Device.{device_for}
use Rattle.tn3270e_msg.specs.Talk.{start_at}
use Rattle.tn3270e_msg.specs.TermTable.{Term}
use Rattle.tn3270e_msg.specs.declared.host_talk.HostState.TheVariants.{Agreed as HostAgreed}
use Rattle.tn3270e_msg.specs.declared.term_talk.TermState.TheVariants.{Agreed}
use Rattle.codes3270.specs.declared.attention.Aid.TheVariants.{NoAid}
use Rattle.host_core.specs.Application.{application_of}
use Rattle.host_core.specs.Reports.{no_reports}
use Rattle.host_core.specs.Session.{Session, agreed_lu, new_conn}
use Rattle.host_core.specs.State.{Host, Service, connection_at, no_sessions, unused, with_connection}
use Rattle.host_core.specs.Takes.{may_have_changed}
use Rattle.host_core.specs.declared.terminals.Terminals.TheVariants.{Any}
use Rattle.world3270.specs.declared.event.Event.TheVariants as event
use Rattle.world3270.specs.examples.ExampleApplication.{example, example_pool, l1}
use Rattle.world3270.specs.examples.ExampleEnds.{connected, l1_held}
use Rattle.world3270.specs.model.ByteWorld.{ByteWorld, begun_transits, slot_at, unused_transits, with_slot}
use Rattle.world3270.specs.model.Steps.{run}
use Rattle.world3270.specs.model.TrackedTerminals.{TrackedTerminal, tracked_after_key}
use Rattle.world3270.specs.model.World.{World, new_world}
use Rattle.world3270.specs.refinement.Refines.{IsReached}
use Rattle.world3270.specs.statement.EveryTerminalBytes.{BeginsOverBytes, IsHost, LeadTo, OverBytes}
use Rattle.world3270.specs.statement.Instances.{IsAgreedOn}
use Rattle.world3270.specs.statement.WorldMoves.{GoOnAt}

-- ---- the host

-- a panel without texts and fields, from which no key leads anywhere
abbrev pub empty_panel : PanelParts
empty_panel = record {
  name = codes "P";
  model = M2;
  otherwise = None;
  texts = [];
  fields = [];
  values = [];
  cursor = 0;
  targets = [];
  asked = [];
  asked_at_connect = false;
}

abbrev pub one_panel : Panels
one_panel = record { start = 0; lus = l1 ∷ []; panels = empty_panel ∷ [] }

-- a session for which the host has agreed on L1
abbrev pub agreed_session : Session
agreed_session = record (new_conn Any (application_of one_panel)) { talk = start_at (HostAgreed (device_for M2) l1) }

-- connection 0 is that session, and holds L1; the other numbers are free
abbrev pub agreed_host : Host
agreed_host = record {
  panels = one_panel;
  pool = l1_held;
  connections = record { service = Service.Open nothing agreed_session; out = []; reports = no_reports }
      ∷ replicate 63 unused;
  sessions = no_sessions;
  terminals = Any;
}

-- ---- the terminal

abbrev pub bound_talk : Term
bound_talk = record { model = M2; wanted = Some l1; talk = start_at (Agreed l1) }

-- a terminal that is bound to L1, with a blank screen
abbrev pub bound_terminal : TrackedTerminal
bound_terminal = record {
  terminal = record { link = Attached nothing bound_talk; station = waiting (blank_of M2); out = [] };
  history = record {
    last_restored = blank_screen (cells_in model_2);
    before_restored = blank_screen (cells_in model_2);
    erased = false;
  };
}

-- ---- the connection

-- nothing is under way
abbrev pub agreed_bytes : OverBytes
agreed_bytes = record {
  host = agreed_host;
  down = [];
  up = [];
  tracked = bound_terminal;
  pressed = record { waits = true; first = NoAid; cleared = false };
}

-- The client offers NAWS (option 31, RFC 1073), and sends a subnegotiation of TERMINAL-TYPE (24, RFC 1091) and a record of
-- NVT-DATA.
abbrev pub client_says : List WireItem
client_says = Opt Will 31 ∷ Sub (24 ∷ 0 ∷ []) ∷ Record (5 ∷ 0 ∷ 0 ∷ 0 ∷ 0 ∷ 65 ∷ []) ∷ []

-- all this is under way
abbrev pub client_said : OverBytes
client_said = record agreed_bytes { up = sent_bytes client_says }

-- what is under way behind the offer
abbrev pub behind_offer : List ℕ
behind_offer = drop 3 client_said.up

-- the host's refusal, DONT NAWS
abbrev pub refusal : List ℕ
refusal = sent_bytes (Opt Dont 31 ∷ [])

-- the host has taken the offer, and will send its refusal
abbrev pub offer_refused : OverBytes
offer_refused = record agreed_bytes {
  host = with_connection 0 (record (connection_at 0 agreed_host) { out = refusal }) agreed_host;
  up = behind_offer;
}

-- the refusal is under way
abbrev pub refusal_sent : OverBytes
refusal_sent = record agreed_bytes { down = refusal; up = behind_offer }

-- the terminal has taken these bytes of it
abbrev pub refusal_begun : (taken behind : List ℕ) → OverBytes
refusal_begun taken behind = record refusal_sent {
  down = behind;
  tracked = record bound_terminal {
    terminal = record bound_terminal.terminal {
      link = Attached (record { unfinished = []; partial = taken }) bound_talk;
    };
  };
}

-- it has taken the last one, and ignored the refusal
abbrev pub refusal_ignored : OverBytes
refusal_ignored = record agreed_bytes { up = behind_offer }

-- ---- a world

-- what `ConnectionsAreMoved` asks of a connection: whether it is lost, the LU on which the host agreed, and whether the
-- host doesn't rely on the terminal's wait
pub record AgreedSeen : Type 0 where
  pub lost : Bool
  pub lu : Option (List ℕ)
  pub any : Bool

abbrev pub agreed_seen : World → AgreedSeen
agreed_seen world = record {
  lost = (world.link 0).lost;
  lu = agreed_lu (world.link 0).host.talk.state;
  any = may_have_changed (world.link 0).host.unheard;
}

-- the example, with a host for any terminal: the terminal connects, and is shown the first panel
abbrev pub agreed_world : World
agreed_world = run example connected (new_world example Any example_pool (M5 ∷ []))

-- ---- a world over bytes

-- that host and that terminal, on connection 0, with nothing under way
abbrev pub agreed_byte_world : ByteWorld
agreed_byte_world = record {
  host = agreed_host;
  links = begun_transits ∷ replicate 63 unused_transits;
  slots = record { tracked = bound_terminal; at = Some 0 } ∷ [];
}

-- after Enter, which its keyboard refuses: it is locked until a panel is shown
abbrev pub enter_refused : ByteWorld
enter_refused =
    let slot = slot_at 0 agreed_byte_world in
    with_slot 0 (record slot { tracked = tracked_after_key Enter slot.tracked }) agreed_byte_world

-- ---- they are there

-- Holds if these bytes are a begin, of a host with sound panels, and if the host of that world has agreed: so the
-- premises of `EveryTerminalOverBytes` and of `ConnectionsAreMoved` can be met. And if moves lead on from there: the
-- client offers an option, the host is fed that, reports no event, and hands its refusal over, of which the terminal takes
-- the three bytes. And if that world over bytes, in which the host has just agreed, represents one over messages, and goes
-- on: so can those of `WorldsMoveOverBytes`.
pub record ABeginIsThere : Type 0 where
  pub panels : AreSound one_panel
  pub begins : BeginsOverBytes (application_of one_panel) 0 l1 agreed_bytes
  pub refuses : LeadTo (application_of one_panel) 0
      (client_said ∷ offer_refused ∷ offer_refused ∷ refusal_sent ∷ refusal_begun (255 ∷ []) (254 ∷ 31 ∷ [])
      ∷ refusal_begun (255 ∷ 254 ∷ []) (31 ∷ []) ∷ refusal_ignored ∷ []) agreed_bytes refusal_ignored
  pub agreed : agreed_seen agreed_world ≡ record { lost = false; lu = Some l1; any = true }
  pub reached : IsReached agreed_byte_world
  pub is_host : IsHost agreed_host
  pub just_agreed : IsAgreedOn 0 0 l1 agreed_byte_world
  pub goes_on : GoOnAt 0 (event.Key 0 Enter ∷ []) agreed_byte_world enter_refused
