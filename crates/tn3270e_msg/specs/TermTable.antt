-- The terminal's talk (RFC 1647, section 7; the choice among replies is our profile): one
-- equation for each line of its table.
use Rattle.std.specs.Prelude.{◌≡◌, ℕ, Bool, true, false, List, Option, None, Some, if◌then◌else◌}
use Rattle.std.specs.Str.{bytes_eq}
use Rattle.codes3270.specs.declared.size.Model.{Model}
use Rattle.telnet_wire.specs.declared.wire.Verb.TheVariants.{Will as WillVerb, Wont as WontVerb, Dont as DontVerb}
use Rattle.telnet_wire.specs.Items.{WireItem}
use Rattle.tn3270e_msg.specs.declared.functions.FunctionsOffer.TheVariants.{ResponsesAlone, ResponsesAndMore, NoResponses}
use Rattle.tn3270e_msg.specs.declared.term_talk.TermState.{TermState}
use Rattle.tn3270e_msg.specs.declared.term_talk.TermState.TheVariants.{Waiting, Willing, TypeAsked, FunctionsAsked, Agreed, Refused, Closed}
use Rattle.tn3270e_msg.specs.declared.reply.After.TheVariants.{Going, Agreed as AgreedAfter}
use Rattle.tn3270e_msg.specs.declared.cause.Cause.TheVariants.{NoTn3270e, NoResponses as NoResponsesCause, BadTalk}
use Rattle.tn3270e_msg.specs.declared.reply.Reason.{Reason}
use Rattle.tn3270e_msg.specs.declared.reply.OwnedMessage.TheVariants.{TypeRequest, FunRequest, FunIs}
use Rattle.tn3270e_msg.specs.declared.reply.Reply.{Reply}
use Rattle.tn3270e_msg.specs.declared.reply.Reply.TheVariants.{Nothing, Opt, Sub, Agreed as AgreedReply, Refused as RefusedReply}
use Rattle.tn3270e_msg.specs.declared.hearing.Transition.{Transition}
use Rattle.tn3270e_msg.specs.declared.hearing.Transition.TheVariants.{Stays, Goes, Refuses, Closes}
use Rattle.tn3270e_msg.specs.Device.{device_for, has_text}
use Rattle.tn3270e_msg.specs.Lu.{lu_of}
use Rattle.tn3270e_msg.specs.Talk.{Comes, Will, Wont, Do, Dont, OtherWill, OtherDo, SendsType, IsType, RejectsType, RequestsFunctions, IsFunctions, NoTalk, Hears, Talk, start_at, follow}

-- The transition for a grant: it is accepted if it has the requested device type, and the wanted LU if one is wanted.
abbrev pub grant_transition : Option (List ℕ) → Bool → Option (List ℕ) → Transition TermState
grant_transition None true (Some lu) = Goes (FunctionsAsked lu) (Sub FunRequest Going)
grant_transition (Some wanted) true (Some lu) =
    if bytes_eq lu wanted then Goes (FunctionsAsked lu) (Sub FunRequest Going) else Closes BadTalk
grant_transition _ _ _ = Closes BadTalk

-- the transition for what an item means
abbrev pub term_transition : Model → Option (List ℕ) → TermState → Comes → Transition TermState
term_transition model wanted (Closed cause) _ = Closes cause
term_transition model wanted (Refused reason) _ = Stays Nothing
term_transition model wanted Waiting Do = Goes Willing (Opt WillVerb 40)
term_transition model wanted _ Do = Stays Nothing
term_transition model wanted _ Wont = Stays Nothing
term_transition model wanted _ Dont = Closes NoTn3270e
term_transition model wanted _ Will = Stays (Opt DontVerb 40)
term_transition model wanted _ (OtherDo code) = Stays (Opt WontVerb code)
term_transition model wanted _ (OtherWill code) = Stays (Opt DontVerb code)
term_transition model wanted _ NoTalk = Stays Nothing
term_transition model wanted Willing SendsType = Goes TypeAsked (Sub (TypeRequest model wanted) Going)
term_transition model wanted TypeAsked (IsType device name) =
    grant_transition wanted (has_text (device_for model) device) (lu_of name)
term_transition model wanted TypeAsked (RejectsType reason) = Goes (Refused reason) (RefusedReply reason)
term_transition model wanted (FunctionsAsked lu) (IsFunctions ResponsesAlone) = Goes (Agreed lu) AgreedReply
term_transition model wanted (FunctionsAsked lu) (IsFunctions _) = Closes NoResponsesCause
term_transition model wanted (FunctionsAsked lu) (RequestsFunctions ResponsesAlone) =
    Goes (Agreed lu) (Sub FunIs AgreedAfter)
term_transition model wanted (FunctionsAsked lu) (RequestsFunctions ResponsesAndMore) =
    Refuses (FunctionsAsked lu) FunRequest
term_transition model wanted (FunctionsAsked lu) (RequestsFunctions NoResponses) = Closes NoResponsesCause
term_transition model wanted _ _ = Closes BadTalk

-- a terminal's talk, its model and the LU that it wants
pub record Term : Type 0 where
  pub model : Model
  pub wanted : Option (List ℕ)
  pub talk : Talk TermState

-- the talk before the first item
abbrev pub term_start : Model → Option (List ℕ) → Term
term_start model wanted = record { model = model; wanted = wanted; talk = start_at Waiting }

-- holds if the talk gives this reply to this item, and is then `new`
pub record TermTakes (old : Term) (item : WireItem) (reply : Reply) (new : Term) : Type 0 where
  pub comes : Comes
  pub hears : Hears item comes
  pub gives : (new.talk, reply) ≡ follow Closed old.talk (term_transition old.model old.wanted old.talk.state comes)
  pub model : new.model ≡ old.model
  pub wanted : new.wanted ≡ old.wanted

-- whether both ends agreed
abbrev pub is_agreed : TermState → Bool
is_agreed (Agreed lu) = true
is_agreed Waiting = false
is_agreed Willing = false
is_agreed TypeAsked = false
is_agreed (FunctionsAsked lu) = false
is_agreed (Refused reason) = false
is_agreed (Closed cause) = false

-- the LU on which both ends agreed
abbrev pub agreed_lu : TermState → Option (List ℕ)
agreed_lu (Agreed lu) = Some lu
agreed_lu Waiting = None
agreed_lu Willing = None
agreed_lu TypeAsked = None
agreed_lu (FunctionsAsked lu) = None
agreed_lu (Refused reason) = None
agreed_lu (Closed cause) = None

-- why the host rejected the device request, if it did
abbrev pub reason_refused : TermState → Option Reason
reason_refused (Refused reason) = Some reason
reason_refused Waiting = None
reason_refused Willing = None
reason_refused TypeAsked = None
reason_refused (FunctionsAsked lu) = None
reason_refused (Agreed lu) = None
reason_refused (Closed cause) = None

-- the LU that was granted, if it was
abbrev pub bound : TermState → Option (List ℕ)
bound (FunctionsAsked lu) = Some lu
bound (Agreed lu) = Some lu
bound _ = None
