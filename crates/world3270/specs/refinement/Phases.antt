-- The moments of a connection, for proofs: for each moment, what is under way and the state of both ends (RFC 1647,
-- sections 7 and 8.1; turns are our profile). At most one command is under way. A message that vanished on a lost
-- connection counts as under way for good.
use Rattle.std.specs.Prelude.{◌≡◌, ℕ, Bool, false, List, [], ◌∷◌, ◌++◌, Option}
use Rattle.tn3270e_msg.specs.Device.{device_for, model_of}
use Rattle.codes3270.specs.declared.size.Model.{Model}
use Rattle.datastream.specs.Grammar.{CommandParts}
use Rattle.datastream.specs.InboundText.{InboundParts}
use Rattle.datastream.specs.Wanted.{WantedScreen}
use Rattle.shadow.specs.Belief.{Shadow}
use Rattle.telnet_wire.specs.declared.wire.Verb.TheVariants.{Will, Do}
use Rattle.tn3270e_msg.specs.Talk.{Talk, start_at, NegotiationMessage}
use Rattle.tn3270e_msg.specs.TermTable.{Term}
use Rattle.tn3270e_msg.specs.declared.device.Device.{Device}
use Rattle.tn3270e_msg.specs.declared.host_talk.HostState.{HostState}
use Rattle.tn3270e_msg.specs.declared.host_talk.HostState.TheVariants.{Offered, Asked, Named, Agreed as HostAgreed}
use Rattle.tn3270e_msg.specs.declared.reply.Reason.{Reason}
use Rattle.tn3270e_msg.specs.declared.reply.OwnedMessage.TheVariants.{SendType, TypeRequest, TypeIs, TypeReject, FunRequest, FunIs}
use Rattle.tn3270e_msg.specs.declared.term_talk.TermState.{TermState}
use Rattle.tn3270e_msg.specs.declared.term_talk.TermState.TheVariants.{Waiting, Willing, TypeAsked, FunctionsAsked, Agreed, Refused}
use Rattle.host_core.specs.Messages.{ToTerminal, ToHost, Verdict}
use Rattle.host_core.specs.declared.turn.Turn.{Turn}
use Rattle.host_core.specs.declared.turn.Turn.TheVariants as whose
use Rattle.host_core.specs.Session.{Pending}
use Rattle.world3270.specs.refinement.View.{View}

-- a write that isn't answered yet: a paint, or a note
pub data Kind : Type 0 where
  APaint : Kind
  ANote : Kind

abbrev pub awaiting : Kind → ℕ → CommandParts → Pending
awaiting Kind.APaint number command = Pending.Writing number command
awaiting Kind.ANote number command = Pending.Noting number command

-- the moments of the negotiation, until both ends agree on an LU or the terminal's request is rejected
pub data NegotiationPhase : Type 0 where
  Offering : NegotiationPhase
  Accepting : NegotiationPhase
  AskingType : NegotiationPhase
  NamingType : NegotiationPhase
  Granting : List ℕ → NegotiationPhase
  AskingFunctions : List ℕ → NegotiationPhase
  Agreeing : List ℕ → NegotiationPhase
  Rejecting : Reason → NegotiationPhase
  Rejected : Reason → NegotiationPhase

-- The moments of a session. In the host's turn: it decides; a Read Buffer is under way, or its answer; a note is still
-- under way, or its response. In the terminal's turn: a paint is under way; the operator types, with the response to a
-- write, nothing, or a note under way; a key was pressed, and its data is under way alone, after the response to a
-- write, with a note in the other direction, or before the note's response.
pub data SessionPhase : Type 0 where
  Deciding : SessionPhase
  Reading : ℕ → SessionPhase
  BufferReturning : ℕ → InboundParts → SessionPhase
  DecidingNoteSent : ℕ → CommandParts → SessionPhase
  DecidingNoteAnswered : ℕ → CommandParts → SessionPhase
  Painting : ℕ → CommandParts → WantedScreen → Shadow → SessionPhase
  AwaitingWriteResponse : Kind → ℕ → CommandParts → SessionPhase
  OperatorTyping : SessionPhase
  Noting : ℕ → CommandParts → SessionPhase
  KeySent : InboundParts → SessionPhase
  KeySentAfterResponse : Kind → ℕ → CommandParts → InboundParts → SessionPhase
  KeyCrossingNote : ℕ → CommandParts → InboundParts → SessionPhase
  KeyBeforeNoteResponse : ℕ → CommandParts → InboundParts → SessionPhase

-- A moment of a connection: negotiation; a first paint before the terminal knows that both agreed; or a session of an
-- LU.
pub data LinkPhase : Type 0 where
  Negotiating : NegotiationPhase → LinkPhase
  FirstPaint : List ℕ → ℕ → CommandParts → WantedScreen → Shadow → LinkPhase
  InSession : List ℕ → SessionPhase → LinkPhase

-- ---- how far both ends are

-- the host's negotiation after one rejection: 7 rejections or counter-requests are left
abbrev pub rejected_once : Talk HostState
rejected_once = record { state = Asked; refusals_left = 7 }

-- `model`: the terminal's
abbrev pub host_in_talk : Model → NegotiationPhase → Talk HostState
host_in_talk model NegotiationPhase.Offering = start_at Offered
host_in_talk model NegotiationPhase.Accepting = start_at Offered
host_in_talk model NegotiationPhase.AskingType = start_at Asked
host_in_talk model NegotiationPhase.NamingType = start_at Asked
host_in_talk model (NegotiationPhase.Granting lu) = start_at (Named (device_for model) lu)
host_in_talk model (NegotiationPhase.AskingFunctions lu) = start_at (Named (device_for model) lu)
host_in_talk model (NegotiationPhase.Agreeing lu) = start_at (HostAgreed (device_for model) lu)
host_in_talk model (NegotiationPhase.Rejecting reason) = rejected_once
host_in_talk model (NegotiationPhase.Rejected reason) = rejected_once

abbrev pub term_in_talk : NegotiationPhase → TermState
term_in_talk NegotiationPhase.Offering = Waiting
term_in_talk NegotiationPhase.Accepting = Willing
term_in_talk NegotiationPhase.AskingType = Willing
term_in_talk NegotiationPhase.NamingType = TypeAsked
term_in_talk (NegotiationPhase.Granting lu) = TypeAsked
term_in_talk (NegotiationPhase.AskingFunctions lu) = FunctionsAsked lu
term_in_talk (NegotiationPhase.Agreeing lu) = FunctionsAsked lu
term_in_talk (NegotiationPhase.Rejecting reason) = TypeAsked
term_in_talk (NegotiationPhase.Rejected reason) = Refused reason

-- Holds if the host agreed on this LU, with a device type of this model, after any negotiation.
pub record IsAgreed (model : Model) (lu : List ℕ) (talk : Talk HostState) : Type 0 where
  pub device : Device
  pub state_is : talk.state ≡ HostAgreed device lu
  pub model_is : model_of device ≡ model

abbrev pub IsHostIn : Model → NegotiationPhase → Talk HostState → Type 0
IsHostIn model (NegotiationPhase.Agreeing lu) talk = IsAgreed model lu talk
IsHostIn model talking talk = talk ≡ host_in_talk model talking

-- the state of the host's negotiation at a moment
abbrev pub IsHostTalk : Model → LinkPhase → Talk HostState → Type 0
IsHostTalk model (LinkPhase.Negotiating talking) talk = IsHostIn model talking talk
IsHostTalk model (LinkPhase.FirstPaint lu number command wanted over) talk = IsAgreed model lu talk
IsHostTalk model (LinkPhase.InSession lu serving) talk = IsAgreed model lu talk

abbrev pub term_state_at : LinkPhase → TermState
term_state_at (LinkPhase.Negotiating talking) = term_in_talk talking
term_state_at (LinkPhase.FirstPaint lu number command wanted over) = FunctionsAsked lu
term_state_at (LinkPhase.InSession lu serving) = Agreed lu

-- the terminal's negotiation in this state, with no rejection so far
abbrev pub talk_in : Model → Option (List ℕ) → TermState → Term
talk_in model wanted state = record { model = model; wanted = wanted; talk = start_at state }

abbrev pub IsTermIn : Model → Option (List ℕ) → NegotiationPhase → Term → Type 0
IsTermIn model wanted (NegotiationPhase.Agreeing lu) term = term.talk.state ≡ FunctionsAsked lu
IsTermIn model wanted talking term = term ≡ talk_in model wanted (term_in_talk talking)

-- the state of the terminal's negotiation at a moment
abbrev pub IsTermTalk : Model → Option (List ℕ) → LinkPhase → Term → Type 0
IsTermTalk model wanted (LinkPhase.Negotiating talking) term = IsTermIn model wanted talking term
IsTermTalk model wanted (LinkPhase.FirstPaint lu number command paints over) term = term.talk.state ≡ FunctionsAsked lu
IsTermTalk model wanted (LinkPhase.InSession lu serving) term = term.talk.state ≡ Agreed lu

abbrev pub turn_in : SessionPhase → Turn
turn_in SessionPhase.Deciding = whose.Host
turn_in (SessionPhase.Reading number) = whose.Host
turn_in (SessionPhase.BufferReturning number parts) = whose.Host
turn_in (SessionPhase.DecidingNoteSent number command) = whose.Host
turn_in (SessionPhase.DecidingNoteAnswered number command) = whose.Host
turn_in _ = whose.Terminal

abbrev pub turn_at : LinkPhase → Turn
turn_at (LinkPhase.Negotiating talking) = whose.Host
turn_at (LinkPhase.FirstPaint lu number command wanted over) = whose.Terminal
turn_at (LinkPhase.InSession lu serving) = turn_in serving

abbrev pub pending_in : SessionPhase → Pending
pending_in SessionPhase.Deciding = Pending.Nothing
pending_in (SessionPhase.Reading number) = Pending.Reading number
pending_in (SessionPhase.BufferReturning number parts) = Pending.Reading number
pending_in (SessionPhase.DecidingNoteSent number command) = Pending.Noting number command
pending_in (SessionPhase.DecidingNoteAnswered number command) = Pending.Noting number command
pending_in (SessionPhase.Painting number command wanted over) = Pending.Writing number command
pending_in (SessionPhase.AwaitingWriteResponse kind number command) = awaiting kind number command
pending_in SessionPhase.OperatorTyping = Pending.Nothing
pending_in (SessionPhase.Noting number command) = Pending.Noting number command
pending_in (SessionPhase.KeySent parts) = Pending.Nothing
pending_in (SessionPhase.KeySentAfterResponse kind number command parts) = awaiting kind number command
pending_in (SessionPhase.KeyCrossingNote number command parts) = Pending.Noting number command
pending_in (SessionPhase.KeyBeforeNoteResponse number command parts) = Pending.Noting number command

abbrev pub pending_at : LinkPhase → Pending
pending_at (LinkPhase.Negotiating talking) = Pending.Nothing
pending_at (LinkPhase.FirstPaint lu number command wanted over) = Pending.Writing number command
pending_at (LinkPhase.InSession lu serving) = pending_in serving

-- ---- what is under way, oldest first

abbrev pub says_down : NegotiationMessage → List ToTerminal
says_down saying = ToTerminal.TalksDown saying ∷ []

abbrev pub says_up : NegotiationMessage → List ToHost
says_up saying = ToHost.TalksUp saying ∷ []

abbrev pub done_with : ℕ → ToHost
done_with number = ToHost.Response number Verdict.Positive

abbrev pub talk_down : Model → NegotiationPhase → List ToTerminal
talk_down model NegotiationPhase.Offering = says_down (NegotiationMessage.Opt Do 40)
talk_down model NegotiationPhase.AskingType = says_down (NegotiationMessage.Sub SendType)
talk_down model (NegotiationPhase.Granting lu) = says_down (NegotiationMessage.Sub (TypeIs (device_for model) lu))
talk_down model (NegotiationPhase.Agreeing lu) = says_down (NegotiationMessage.Sub FunIs)
talk_down model (NegotiationPhase.Rejecting reason) = says_down (NegotiationMessage.Sub (TypeReject reason))
talk_down model _ = []

-- `wanted`: the LU that the terminal wants, if one
abbrev pub talk_up : Model → Option (List ℕ) → NegotiationPhase → List ToHost
talk_up model wanted NegotiationPhase.Accepting = says_up (NegotiationMessage.Opt Will 40)
talk_up model wanted NegotiationPhase.NamingType = says_up (NegotiationMessage.Sub (TypeRequest model wanted))
talk_up model wanted (NegotiationPhase.AskingFunctions lu) = says_up (NegotiationMessage.Sub FunRequest)
talk_up model wanted _ = []

abbrev pub served_down : SessionPhase → List ToTerminal
served_down (SessionPhase.Reading number) = ToTerminal.ReadBuffer number ∷ []
served_down (SessionPhase.DecidingNoteSent number command) = ToTerminal.Note number command ∷ []
served_down (SessionPhase.Painting number command wanted over) = ToTerminal.Paint number wanted over ∷ []
served_down (SessionPhase.Noting number command) = ToTerminal.Note number command ∷ []
served_down (SessionPhase.KeyCrossingNote number command parts) = ToTerminal.Note number command ∷ []
served_down _ = []

abbrev pub served_up : SessionPhase → List ToHost
served_up (SessionPhase.BufferReturning number parts) = ToHost.Data parts ∷ []
served_up (SessionPhase.DecidingNoteAnswered number command) = done_with number ∷ []
served_up (SessionPhase.AwaitingWriteResponse kind number command) = done_with number ∷ []
served_up (SessionPhase.KeySent parts) = ToHost.Data parts ∷ []
served_up (SessionPhase.KeySentAfterResponse kind number command parts) = done_with number ∷ ToHost.Data parts ∷ []
served_up (SessionPhase.KeyCrossingNote number command parts) = ToHost.Data parts ∷ []
served_up (SessionPhase.KeyBeforeNoteResponse number command parts) = ToHost.Data parts ∷ done_with number ∷ []
served_up _ = []

abbrev pub down_at : Model → LinkPhase → List ToTerminal
down_at model (LinkPhase.Negotiating talking) = talk_down model talking
down_at model (LinkPhase.FirstPaint lu number command wanted over) = ToTerminal.TalksDown (NegotiationMessage.Sub FunIs)
    ∷ ToTerminal.Paint number wanted over ∷ []
down_at model (LinkPhase.InSession lu serving) = served_down serving

abbrev pub up_at : Model → Option (List ℕ) → LinkPhase → List ToHost
up_at model wanted (LinkPhase.Negotiating talking) = talk_up model wanted talking
up_at model wanted (LinkPhase.FirstPaint lu number command paints over) = []
up_at model wanted (LinkPhase.InSession lu serving) = served_up serving

-- Holds if the queue is the first of these messages, and all of them unless the connection is lost.
pub record IsInFlight {X : Type 0} (lost : Bool) (queue messages : List X) : Type 0 where
  pub vanished : List X
  pub whole : queue ++ vanished ≡ messages
  pub none : lost ≡ false → vanished ≡ []

-- Holds if a connection is at this moment.
pub record IsAt (v : View) (wanted : Option (List ℕ)) (moment : LinkPhase) : Type 0 where
  pub host_talk : IsHostTalk v.model moment v.host.talk
  pub term_talk : IsTermTalk v.model wanted moment v.talk
  pub turn : v.host.turn ≡ turn_at moment
  pub pending : v.host.pending ≡ pending_at moment
  pub goes_down : IsInFlight v.lost v.down (down_at v.model moment)
  pub goes_up : IsInFlight v.lost v.up (up_at v.model wanted moment)
