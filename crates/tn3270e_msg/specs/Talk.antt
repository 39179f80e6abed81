-- What both ends' talks have in common: what an item means to them, and what they send (RFC 1647, section 7). Other
-- options are refused as RFC 854 and 855 say. Our profile: a talk closes with the eighth rejection or counter-request.
use Rattle.std.specs.Prelude.{◌≡◌, ℕ, ◌-◌, ◌==◌, if◌then◌else◌, List, [], ◌∷◌, ◌++◌, map, Option, None, Some, option_map, IsTrue}
use Rattle.telnet_wire.specs.declared.wire.Verb.{Verb}
use Rattle.telnet_wire.specs.declared.wire.Verb.TheVariants.{Will as WillVerb, Wont as WontVerb, Do as DoVerb, Dont as DontVerb}
use Rattle.telnet_wire.specs.Items.{WireItem, Record, Opt as OptItem, Sub as SubItem, Other}
use Rattle.tn3270e_msg.specs.declared.cause.Cause.{Cause}
use Rattle.tn3270e_msg.specs.declared.cause.Cause.TheVariants.{TooMany}
use Rattle.tn3270e_msg.specs.declared.reply.Reason.{Reason}
use Rattle.tn3270e_msg.specs.declared.reply.After.TheVariants.{Close as CloseAfter, Going}
use Rattle.tn3270e_msg.specs.declared.reply.OwnedMessage.{OwnedMessage}
use Rattle.tn3270e_msg.specs.declared.reply.OwnedMessage.TheVariants as sent
use Rattle.tn3270e_msg.specs.declared.reply.Reply.{Reply}
use Rattle.tn3270e_msg.specs.declared.reply.Reply.TheVariants as reply
use Rattle.tn3270e_msg.specs.declared.hearing.Transition.{Transition}
use Rattle.tn3270e_msg.specs.declared.hearing.Transition.TheVariants.{Stays, Goes, Refuses, Closes}
use Rattle.tn3270e_msg.specs.declared.message.SubFault.TheVariants.{NotOurs, Malformed}
use Rattle.tn3270e_msg.specs.declared.functions.FunctionsOffer.{FunctionsOffer}
use Rattle.tn3270e_msg.specs.Functions.{offer, responses}
use Rattle.tn3270e_msg.specs.Device.{device_text, device_for}
use Rattle.tn3270e_msg.specs.Lu.{is_lu}
use Rattle.tn3270e_msg.specs.Message.{Message, Name, Connect, SendType, TypeRequest, TypeIs, TypeReject, FunRequest, FunIs, Says, HasFault, name_part}

-- what an item means, by the tables' names
pub data Comes : Type 0 where
  Will : Comes  -- WILL TN3270E, and so on
  Wont : Comes
  Do : Comes
  Dont : Comes
  OtherWill : ℕ → Comes  -- of another option
  OtherDo : ℕ → Comes
  SendsType : Comes
  RequestsType : List ℕ → Option Name → Comes
  IsType : List ℕ → List ℕ → Comes
  RejectsType : Reason → Comes
  RequestsFunctions : FunctionsOffer → Comes
  IsFunctions : FunctionsOffer → Comes
  BreaksForm : Comes
  NoTalk : Comes  -- a record, a command, WONT or DONT of another option, a message of another option

-- what an option's negotiation means
abbrev pub option_says : Verb → ℕ → Comes
option_says WillVerb code = if code == 40 then Will else OtherWill code
option_says WontVerb code = if code == 40 then Wont else NoTalk
option_says DoVerb code = if code == 40 then Do else OtherDo code
option_says DontVerb code = if code == 40 then Dont else NoTalk

-- what a message means
abbrev pub message_says : Message → Comes
message_says SendType = SendsType
message_says (TypeRequest device name) = RequestsType device name
message_says (TypeIs device name) = IsType device name
message_says (TypeReject reason) = RejectsType reason
message_says (FunRequest functions) = RequestsFunctions (offer functions)
message_says (FunIs functions) = IsFunctions (offer functions)

-- holds if a subnegotiation with this payload means this
pub data PayloadSays (bytes : List ℕ) (comes : Comes) : Type 0 where
  message_comes : (message : Message) → Says bytes message → comes ≡ message_says message → PayloadSays bytes comes
  others_message_comes : HasFault bytes NotOurs → comes ≡ NoTalk → PayloadSays bytes comes
  malformed_comes : HasFault bytes Malformed → comes ≡ BreaksForm → PayloadSays bytes comes

-- holds if an item means this
abbrev pub Hears : WireItem → Comes → Type 0
Hears (Record bytes) comes = comes ≡ NoTalk
Hears (OptItem verb code) comes = comes ≡ option_says verb code
Hears (SubItem bytes) comes = PayloadSays bytes comes
Hears (Other code) comes = comes ≡ NoTalk

-- the message that an end sends
abbrev pub message_sent : OwnedMessage → Message
message_sent sent.SendType = SendType
message_sent (sent.TypeRequest model lu) = TypeRequest (device_text (device_for model)) (option_map Connect lu)
message_sent (sent.TypeIs device lu) = TypeIs (device_text device) lu
message_sent (sent.TypeReject reason) = TypeReject reason
message_sent sent.FunRequest = FunRequest responses
message_sent sent.FunIs = FunIs responses

-- the payload of a message that an end sends
abbrev pub payload_sent : OwnedMessage → List ℕ
payload_sent sent.SendType = 0x28 ∷ 8 ∷ 2 ∷ []
payload_sent (sent.TypeRequest model lu) =
    0x28 ∷ 2 ∷ 7 ∷ (device_text (device_for model) ++ name_part (option_map Connect lu))
payload_sent (sent.TypeIs device lu) = 0x28 ∷ 2 ∷ 4 ∷ (device_text device ++ 1 ∷ lu)
payload_sent (sent.TypeReject reason) = 0x28 ∷ 2 ∷ 6 ∷ 5 ∷ reason.0 ∷ []
payload_sent sent.FunRequest = 0x28 ∷ 3 ∷ 7 ∷ 2 ∷ []
payload_sent sent.FunIs = 0x28 ∷ 3 ∷ 4 ∷ 2 ∷ []

-- holds if this is an LU name, or none
abbrev pub IsLuIfSome : Option (List ℕ) → Type 0
IsLuIfSome None = Unit {0}
IsLuIfSome (Some lu) = IsTrue (is_lu lu)

-- holds if the LUs in a message that an end sends are LU names
abbrev pub IsOwnedMessage : OwnedMessage → Type 0
IsOwnedMessage (sent.TypeRequest model lu) = IsLuIfSome lu
IsOwnedMessage (sent.TypeIs device lu) = IsTrue (is_lu lu)
IsOwnedMessage _ = Unit {0}

-- what an end sends: an option's negotiation, or a message
pub data NegotiationMessage : Type 0 where
  Opt : Verb → ℕ → NegotiationMessage
  Sub : OwnedMessage → NegotiationMessage

-- what it means to the other end
abbrev pub says : NegotiationMessage → Comes
says (NegotiationMessage.Opt verb code) = option_says verb code
says (NegotiationMessage.Sub sending) = message_says (message_sent sending)

-- the item that is sent
abbrev pub item_of : NegotiationMessage → WireItem
item_of (NegotiationMessage.Opt verb code) = OptItem verb code
item_of (NegotiationMessage.Sub sending) = SubItem (payload_sent sending)

-- what a reply sends
abbrev pub sayings : Reply → List NegotiationMessage
sayings (reply.Opt verb code) = NegotiationMessage.Opt verb code ∷ []
sayings (reply.Sub sending after) = NegotiationMessage.Sub sending ∷ []
sayings _ = []

-- the items that a reply sends
abbrev pub items_sent : Reply → List WireItem
items_sent answer = map item_of (sayings answer)

-- the cause with which a reply closes the connection, if it does
abbrev pub closing : Reply → Option Cause
closing (reply.Close cause) = Some cause
closing (reply.Sub sending (CloseAfter cause)) = Some cause
closing _ = None

-- the name for which a reply asks the pool, if it asks
abbrev pub names_asked : Reply → List (Option (List ℕ))
names_asked (reply.AskPool name) = name ∷ []
names_asked _ = []

-- a talk: its state, and how many rejections and counter-requests it may still send
pub record Talk (S : Type 0) : Type 0 where
  pub state : S
  pub refusals_left : ℕ

-- a talk at its start: it may send eight
abbrev pub start_at : {S : Type 0} → S → Talk S
start_at state = record { state = state; refusals_left = 8 }

-- the talk after a transition, and its reply; it closes with the last rejection or counter-request
abbrev pub follow : {S : Type 0} → (Cause → S) → Talk S → Transition S → Talk S × Reply
follow closed talk (Stays reply) = (talk, reply)
follow closed talk (Goes state reply) = (record { state = state; refusals_left = talk.refusals_left }, reply)
follow closed talk (Refuses state sending) =
    if talk.refusals_left - 1 == 0
    then (record { state = closed TooMany; refusals_left = 0 }, reply.Sub sending (CloseAfter TooMany))
    else (record { state = state; refusals_left = talk.refusals_left - 1 }, reply.Sub sending Going)
follow closed talk (Closes cause) =
    (record { state = closed cause; refusals_left = talk.refusals_left }, reply.Close cause)
