-- The host's talk (RFC 1647, section 7; the choice among replies is our profile): one
-- equation for each line of its table.
use Rattle.std.specs.Prelude.{◌≡◌, ℕ, Bool, true, false, List, Option, None, Some, option_map, Result, Ok, Err}
use Rattle.codes3270.specs.declared.size.Model.{Model}
use Rattle.telnet_wire.specs.declared.wire.Verb.TheVariants.{Wont as WontVerb, Do as DoVerb, Dont as DontVerb}
use Rattle.telnet_wire.specs.Items.{WireItem}
use Rattle.telnet_wire.specs.Token.{Token, Opt as OptToken}
use Rattle.tn3270e_msg.specs.declared.device.Device.{Device}
use Rattle.tn3270e_msg.specs.declared.functions.FunctionsOffer.TheVariants.{ResponsesAlone, ResponsesAndMore, NoResponses}
use Rattle.tn3270e_msg.specs.declared.host_talk.HostState.{HostState}
use Rattle.tn3270e_msg.specs.declared.host_talk.HostState.TheVariants.{Offered, Asked, Asking, Named, Countered, Agreed, Closed}
use Rattle.tn3270e_msg.specs.declared.reply.After.TheVariants.{Going, Agreed as AgreedAfter}
use Rattle.tn3270e_msg.specs.declared.cause.Cause.TheVariants.{NoTn3270e, NoResponses as NoResponsesCause, BadTalk}
use Rattle.tn3270e_msg.specs.declared.reply.Reason.{Reason}
use Rattle.tn3270e_msg.specs.declared.reply.OwnedMessage.TheVariants.{SendType, TypeIs, TypeReject, FunRequest, FunIs}
use Rattle.tn3270e_msg.specs.declared.reply.Reply.{Reply}
use Rattle.tn3270e_msg.specs.declared.reply.Reply.TheVariants.{Nothing, Opt, Sub, AskPool, Agreed as AgreedReply}
use Rattle.tn3270e_msg.specs.declared.hearing.Transition.{Transition}
use Rattle.tn3270e_msg.specs.declared.hearing.Transition.TheVariants.{Stays, Goes, Refuses, Closes}
use Rattle.tn3270e_msg.specs.Device.{device_of, model_of}
use Rattle.tn3270e_msg.specs.Lu.{lu_of}
use Rattle.tn3270e_msg.specs.Message.{Name, Connect, Associate}
use Rattle.tn3270e_msg.specs.Talk.{Comes, Will, Wont, Do, Dont, OtherWill, OtherDo, RequestsType, RequestsFunctions, IsFunctions, NoTalk, Hears, Talk, start_at, follow}

-- A request with CONNECT for this device type: the host asks the pool, unless the name can't be an LU name.
abbrev pub named_transition : Device → Option (List ℕ) → Transition HostState
named_transition device None = Refuses Asked (TypeReject (record { 0 = 3 }))
named_transition device (Some lu) = Goes (Asking device) (AskPool (Some lu))

-- A device request: the host rejects a type that it doesn't serve, and ASSOCIATE. With CONNECT or
-- no name it asks the pool.
abbrev pub request_transition : Option Device → Option Name → Transition HostState
request_transition None name = Refuses Asked (TypeReject (record { 0 = 4 }))
request_transition (Some device) (Some (Associate name)) = Refuses Asked (TypeReject (record { 0 = 7 }))
request_transition (Some device) None = Goes (Asking device) (AskPool None)
request_transition (Some device) (Some (Connect name)) = named_transition device (lu_of name)

-- the transition for what an item means
abbrev pub host_transition : HostState → Comes → Transition HostState
host_transition (Closed cause) _ = Closes cause
host_transition Offered Will = Goes Asked (Sub SendType Going)
host_transition _ Will = Stays Nothing
host_transition _ Wont = Closes NoTn3270e
host_transition _ Do = Stays (Opt WontVerb 40)
host_transition _ Dont = Stays Nothing
host_transition _ (OtherDo code) = Stays (Opt WontVerb code)
host_transition _ (OtherWill code) = Stays (Opt DontVerb code)
host_transition _ NoTalk = Stays Nothing
host_transition Asked (RequestsType device name) = request_transition (device_of device) name
host_transition (Named device lu) (RequestsFunctions ResponsesAlone) = Goes (Agreed device lu) (Sub FunIs AgreedAfter)
host_transition (Named device lu) (RequestsFunctions ResponsesAndMore) = Refuses (Countered device lu) FunRequest
host_transition (Named device lu) (RequestsFunctions NoResponses) = Closes NoResponsesCause
host_transition (Countered device lu) (RequestsFunctions ResponsesAlone) =
    Goes (Agreed device lu) (Sub FunIs AgreedAfter)
host_transition (Countered device lu) (RequestsFunctions ResponsesAndMore) = Refuses (Countered device lu) FunRequest
host_transition (Countered device lu) (RequestsFunctions NoResponses) = Closes NoResponsesCause
host_transition (Countered device lu) (IsFunctions ResponsesAlone) = Goes (Agreed device lu) AgreedReply
host_transition _ _ = Closes BadTalk

-- the transition for the pool's answer
abbrev pub answer_transition : Device → Result (List ℕ) Reason → Transition HostState
answer_transition device (Ok lu) = Goes (Named device lu) (Sub (TypeIs device lu) Going)
answer_transition device (Err reason) = Refuses Asked (TypeReject reason)

-- the talk after the offer
abbrev pub host_start : Talk HostState
host_start = start_at Offered

-- holds if the talk gives this reply to this item, and is then `new`
pub record HostTakes (old : Talk HostState) (item : WireItem) (reply : Reply) (new : Talk HostState) : Type 0 where
  pub comes : Comes
  pub hears : Hears item comes
  pub gives : (new, reply) ≡ follow Closed old (host_transition old.state comes)

-- holds if the talk, which waits for the pool, gives this reply to the pool's answer, and is then `new`
pub record HostAnswered (old : Talk HostState) (answer : Result (List ℕ) Reason) (reply : Reply)
    (new : Talk HostState) : Type 0 where
  pub device : Device
  pub asking : old.state ≡ Asking device
  pub gives : (new, reply) ≡ follow Closed old (answer_transition device answer)

-- the LU that was granted, if it was
abbrev pub granted : HostState → Option (List ℕ)
granted (Named device lu) = Some lu
granted (Countered device lu) = Some lu
granted (Agreed device lu) = Some lu
granted _ = None

-- the device type that the terminal requested and for which its LU was granted
abbrev pub device_granted : HostState → Option Device
device_granted (Named device lu) = Some device
device_granted (Countered device lu) = Some device
device_granted (Agreed device lu) = Some device
device_granted _ = None

-- the device type that the terminal requested, from its request on
abbrev pub device_asked : HostState → Option Device
device_asked (Asking device) = Some device
device_asked (Named device lu) = Some device
device_asked (Countered device lu) = Some device
device_asked (Agreed device lu) = Some device
device_asked _ = None

-- the model of the device type that the terminal requested, from its request on
abbrev pub model_asked : HostState → Option Model
model_asked state = option_map model_of (device_asked state)

-- whether both ends agreed
abbrev pub is_agreed : HostState → Bool
is_agreed (Agreed device lu) = true
is_agreed Offered = false
is_agreed Asked = false
is_agreed (Asking device) = false
is_agreed (Named device lu) = false
is_agreed (Countered device lu) = false
is_agreed (Closed cause) = false

-- the LU on which both ends agreed
abbrev pub agreed_lu : HostState → Option (List ℕ)
agreed_lu (Agreed device lu) = Some lu
agreed_lu Offered = None
agreed_lu Asked = None
agreed_lu (Asking device) = None
agreed_lu (Named device lu) = None
agreed_lu (Countered device lu) = None
agreed_lu (Closed cause) = None

-- the host's first item: DO TN3270E
abbrev pub offer_token : Token
offer_token = OptToken DoVerb 40

-- holds if the talk waits for the pool's answer
abbrev pub IsAsking : HostState → Type 0
IsAsking (Asking device) = Unit {0}
IsAsking _ = ⊥
