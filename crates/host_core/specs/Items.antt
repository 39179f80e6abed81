-- How a host takes the items of the stream: options and subnegotiations (RFC 1647, section 7), and records (sections
-- 8.1 and 10.4). That others are dropped, and the causes of closing, are our profile.
use Rattle.std.specs.Prelude.{◌≡◌, ◌==◌, ◌&&◌, not, ⊤, ℕ, Bool, true, false, List, [], ◌∷◌, is_some, if◌then◌else◌}
use Rattle.codes3270.specs.Aid.{aid_of, byte_of_aid}
use Rattle.codes3270.specs.Size.{ScreenSize, alternate_of}
use Rattle.codes3270.specs.declared.attention.Aid.TheVariants.{NoAid}
use Rattle.datastream.specs.Escapes.{has_escapes, without_escapes}
use Rattle.datastream.specs.InboundText.{InboundParts, IsInbound, IsNoInbound}
use Rattle.datastream.specs.declared.inbound_part.Form.TheVariants.{Modified}
use Rattle.datastream.specs.declared.inbound_part.InboundFault.{InboundFault}
use Rattle.telnet_wire.specs.Items.{WireItem, Record, Opt, Sub, Other}
use Rattle.tn3270e_msg.specs.Header.{Begins, HasFault, positive}
use Rattle.tn3270e_msg.specs.Talk.{Comes, Hears}
use Rattle.tn3270e_msg.specs.declared.cause.Cause.TheVariants.{BadRecord}
use Rattle.tn3270e_msg.specs.declared.header.Header.{Header}
use Rattle.tn3270e_msg.specs.declared.header.HeadFault.{HeadFault}
use Rattle.tn3270e_msg.specs.declared.header.DataType.{DataType}
use Rattle.tn3270e_msg.specs.declared.header.DataType.TheVariants.{Data3270, Response}
use Rattle.host_core.specs.Messages.{Verdict}
use Rattle.host_core.specs.declared.disbelief.Disbelief.TheVariants.{Unreadable}
use Rattle.host_core.specs.Session.{Session, Pending, is_agreed, model_in}
use Rattle.host_core.specs.Takes.{Answers, HostStep, quiet, closed_by, form_awaited, data_came, may_have_changed, other_key_came, response_came, second_key, talked, unbelieved}

-- the verdict in a response's RESPONSE-FLAG
abbrev pub verdict_of : ℕ → Verdict
verdict_of flag = if flag == positive then Verdict.Positive else Verdict.Negative

-- holds if the type is neither data nor a response
abbrev pub IsOther : DataType → Type 0
IsOther Data3270 = ⊥
IsOther Response = ⊥
IsOther _ = ⊤

-- While a paint or a read is pending, data in another form may be a second key's, unless the host relies on the wait.
abbrev pub is_paint_or_read : Pending → Bool
is_paint_or_read Pending.Nothing = false
is_paint_or_read (Pending.Writing number command) = true
is_paint_or_read (Pending.Reading number) = true
is_paint_or_read (Pending.Noting number command) = false

-- data in another form than the awaited one may be a second key's
abbrev pub may_be_second_key : Session → Bool
may_be_second_key conn = may_have_changed conn.unheard && is_paint_or_read conn.pending

-- The size by which a second key's data is read. While a paint is pending, the key may have been pressed on the screen
-- before it, of another size; the largest size of the terminal's model has the addresses of both. If none is pending,
-- the terminal has answered each erase before it sent the data, so its screen has the size of the last erase.
abbrev pub second_key_size : Session → Pending → ScreenSize
second_key_size conn (Pending.Writing number command) = alternate_of (model_in conn)
second_key_size conn Pending.Nothing = conn.size
second_key_size conn (Pending.Reading number) = conn.size
second_key_size conn (Pending.Noting number command) = conn.size

-- holds if the data can't be a second key's either
abbrev pub IsNoSecondKey : Bool → ScreenSize → List ℕ → Type 0
IsNoSecondKey false size body = ⊤
IsNoSecondKey true size body = (fault : InboundFault) × IsNoInbound size Modified fault body

-- Data is received. It is read in the awaited form, by the size of the terminal's screen; or else as a second key's,
-- of which only the AID counts; any other can't be believed.
pub data TakesData (conn : Session) (body : List ℕ) (step : HostStep) : Type 0 where
  hears : (parts : InboundParts) → parts.form ≡ form_awaited conn.pending → parts.size ≡ conn.size
      → IsInbound parts body
      → step ≡ data_came parts conn.turn conn.pending conn → TakesData conn body step
  is_second_key : (fault : InboundFault) (parts : InboundParts)
      → IsNoInbound conn.size (form_awaited conn.pending) fault body → may_be_second_key conn ≡ true
      → parts.form ≡ Modified → parts.size ≡ second_key_size conn conn.pending → IsInbound parts body
      → step ≡ second_key parts parts.aid conn.pending conn → TakesData conn body step
  no_data : (fault : InboundFault) → IsNoInbound conn.size (form_awaited conn.pending) fault body
      → IsNoSecondKey (may_be_second_key conn) (second_key_size conn conn.pending) body
      → step ≡ unbelieved Unreadable conn → TakesData conn body step

-- ---- what any client may send, to a host that doesn't rely on the wait

-- the first byte isn't the AID of a key that a panel can have a meaning for (Enter, Clear, PF, PA), nor `NoAid`
abbrev pub begins_with_other_aid : List ℕ → Bool
begins_with_other_aid [] = false
begins_with_other_aid (byte ∷ rest) = not (is_some (aid_of byte))

-- the data with `NoAid` in place of such an AID
abbrev pub with_known_aid : List ℕ → List ℕ
with_known_aid [] = []
with_known_aid (byte ∷ rest) = (if is_some (aid_of byte) then byte else byte_of_aid NoAid) ∷ rest

-- Data as it is read. A character that the client's code page lacks comes by Graphic Escape (GA23-0059-07), and is read
-- as SUB. A Read Buffer is answered with the AID of the last key, also if that has no meaning. Other data has neither
-- (`ReadAsItIs`).
abbrev pub plain_data : Session → List ℕ → List ℕ
plain_data conn body = if may_have_changed conn.unheard then with_known_aid (without_escapes body) else body

-- whether characters are replaced so
abbrev pub is_replacing : Session → List ℕ → Bool
is_replacing conn body = may_have_changed conn.unheard && has_escapes body

abbrev pub is_reading : Pending → Bool
is_reading Pending.Nothing = false
is_reading (Pending.Writing number command) = false
is_reading (Pending.Reading number) = true
is_reading (Pending.Noting number command) = false

-- whether the data is that of a key without a meaning; the answer to Read Buffer is none
abbrev pub is_other_key : Session → List ℕ → Bool
is_other_key conn body = may_have_changed conn.unheard && (not (is_reading conn.pending) && begins_with_other_aid body)

-- the given step; and characters were replaced, if they were
abbrev pub with_replaced : Bool → HostStep → HostStep
with_replaced true step = record step { replaces = true }
with_replaced false step = step

-- Data is received: that of a key without a meaning if `other`, else any other.
abbrev pub TakesAnyData : (other : Bool) → Session → List ℕ → HostStep → Type 0
TakesAnyData true conn body step = step ≡ other_key_came conn
TakesAnyData false conn body step = (plain : HostStep) × TakesData conn (plain_data conn body) plain
    × (step ≡ with_replaced (is_replacing conn body) plain)

-- A record is received after agreement. One without a header closes the connection; of a response only the header
-- counts; types other than data and responses are dropped.
pub data TakesRecord (conn : Session) (bytes : List ℕ) (step : HostStep) : Type 0 where
  no_header : (fault : HeadFault) → HasFault bytes fault → step ≡ closed_by BadRecord conn → TakesRecord conn bytes step
  dropped : (header : Header) (body : List ℕ) → Begins bytes header body → IsOther header.kind → step ≡ quiet conn
      → TakesRecord conn bytes step
  data_is : (header : Header) (body : List ℕ) → Begins bytes header body → header.kind ≡ Data3270
      → TakesAnyData (is_other_key conn body) conn body step → TakesRecord conn bytes step
  answered : (header : Header) (body : List ℕ) → Begins bytes header body → header.kind ≡ Response
      → step ≡ response_came header.seq (verdict_of header.flag) conn.pending conn → TakesRecord conn bytes step

-- a record is received; before agreement it is dropped
abbrev pub TakesRecordIf : Bool → Session → List ℕ → HostStep → Type 0
TakesRecordIf true conn bytes step = TakesRecord conn bytes step
TakesRecordIf false conn bytes step = step ≡ quiet conn

-- any other item is for the negotiation
abbrev pub Talks : Answers → Session → WireItem → HostStep → Type 0
Talks pool conn item step = (comes : Comes) × Hears item comes × (step ≡ talked pool conn conn.talk comes)

-- an item is received: a record, or one for the negotiation
abbrev pub TakesItem : Answers → Session → WireItem → HostStep → Type 0
TakesItem pool conn (Record bytes) step = TakesRecordIf (is_agreed conn.talk.state) conn bytes step
TakesItem pool conn (Opt verb code) step = Talks pool conn (Opt verb code) step
TakesItem pool conn (Sub bytes) step = Talks pool conn (Sub bytes) step
TakesItem pool conn (Other code) step = Talks pool conn (Other code) step
