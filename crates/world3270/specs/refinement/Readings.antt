-- Which items a host reads as which messages (RFC 1647, sections 8.1 and 10.4; that it reads no more of a record is our
-- profile), and what may come to it next.
use Rattle.std.specs.Prelude.{◌≡◌, ◌⊎◌, ◌<◌, ◌≤◌, ⊤, ℕ, suc, true, List, [], ◌∷◌}
use Rattle.codes3270.specs.Size.{cells_in}
use Rattle.datastream.specs.InboundText.{InboundParts, IsInbound}
use Rattle.datastream.specs.declared.inbound_part.Form.TheVariants.{Buffer, Modified}
use Rattle.datastream.specs.declared.inbound_part.Part.{Part}
use Rattle.datastream.specs.declared.inbound_part.Part.TheVariants.{At, Char, Attr}
use Rattle.telnet_wire.specs.Items.{WireItem, Record}
use Rattle.telnet_wire.specs.Reading.{nothing}
use Rattle.tn3270e_msg.specs.Header.{Begins}
use Rattle.tn3270e_msg.specs.Talk.{item_of}
use Rattle.tn3270e_msg.specs.declared.header.DataType.TheVariants.{Data3270, Response}
use Rattle.tn3270e_msg.specs.declared.header.Header.{Header}
use Rattle.host_core.specs.Items.{may_be_second_key, second_key_size, verdict_of}
use Rattle.host_core.specs.Messages.{ToHost, Verdict}
use Rattle.host_core.specs.Session.{Session}
use Rattle.host_core.specs.Takes.{form_awaited}
use Rattle.world3270.specs.statement.Forms.{IsAwaitedBy}
use Rattle.world3270.specs.refinement.Ignored.{without_ignored}
use Rattle.world3270.specs.refinement.Represents.{BytesRepresent}
use Rattle.world3270.specs.refinement.RepresentsEnds.{IsSaid}

-- ---- which items

-- Holds if the item is a 3270-DATA record with this inbound data. The host ignores its SEQ-NUMBER and response flag.
pub record IsData (item : WireItem) (parts : InboundParts) : Type 0 where
  pub bytes : List ℕ
  pub header : Header
  pub body : List ℕ
  pub is_record : item ≡ Record bytes
  pub begins : Begins bytes header body
  pub kind : header.kind ≡ Data3270
  pub inbound : IsInbound parts body

-- Holds if the item is a response to the command with this SEQ-NUMBER, with any status or sense bytes after its header.
pub record IsResponse (item : WireItem) (number : ℕ) (verdict : Verdict) : Type 0 where
  pub bytes : List ℕ
  pub header : Header
  pub body : List ℕ
  pub is_record : item ≡ Record bytes
  pub begins : Begins bytes header body
  pub kind : header.kind ≡ Response
  pub number_is : header.seq ≡ number
  pub verdict_is : verdict_of header.flag ≡ verdict

-- Holds if the host reads the item as this message.
abbrev pub IsReadAs : WireItem → ToHost → Type 0
IsReadAs item (ToHost.TalksUp saying) = item ≡ item_of saying
IsReadAs item (ToHost.Data parts) = IsData item parts
IsReadAs item (ToHost.Response number verdict) = IsResponse item number verdict

-- Holds if the bytes are whole items which the host reads as these messages, apart from items that it only answers, by
-- refusing an option, or ignores.
abbrev pub AreReadAs : List ℕ → List ToHost → Type 0
AreReadAs bytes messages = BytesRepresent without_ignored IsReadAs nothing bytes messages

-- ---- what may come next

-- how many characters precede the first address; none in data from a formatted screen
abbrev pub count_leading : List Part → ℕ
count_leading [] = 0
count_leading (At address ∷ parts) = 0
count_leading (Char char ∷ parts) = suc (count_leading parts)
count_leading (Attr attr ∷ parts) = 0

-- Holds if the data may be a second key's, while a paint or a Read Buffer is pending: it fits the screen by whose size
-- the host reads it, and can't be mistaken for the answer to the Read Buffer, which has as many characters as the screen.
pub record IsSecondKeyIn (conn : Session) (parts : InboundParts) : Type 0 where
  pub may_be : may_be_second_key conn ≡ true
  pub form : parts.form ≡ Modified
  pub size : cells_in parts.size ≤ cells_in (second_key_size conn conn.pending)
  pub few : form_awaited conn.pending ≡ Buffer → count_leading parts.parts < cells_in conn.size

-- Holds if the host may be sent this message now: LUs are named; data is as it awaits it, or is a second key's.
abbrev pub MayBeSent : Session → ToHost → Type 0
MayBeSent conn (ToHost.TalksUp saying) = IsSaid saying
MayBeSent conn (ToHost.Data parts) = IsAwaitedBy conn parts ⊎ IsSecondKeyIn conn parts
MayBeSent conn (ToHost.Response number verdict) = ⊤
