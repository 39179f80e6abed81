-- Bytes are read in one way: laws about headers, messages and talks (RFC 1647, sections 3, 7 and
-- 8.1), as the other modules define them.
use Rattle.std.specs.Prelude.{◌≡◌, ℕ, List, Some, IsTrue}
use Rattle.telnet_wire.specs.Items.{WireItem}
use Rattle.tn3270e_msg.specs.declared.header.HeadFault.{HeadFault}
use Rattle.tn3270e_msg.specs.declared.header.Header.{Header}
use Rattle.tn3270e_msg.specs.declared.message.SubFault.{SubFault}
use Rattle.tn3270e_msg.specs.Header.{Begins, HasFault as HeadHasFault}
use Rattle.tn3270e_msg.specs.Lu.{is_lu, lu_of}
use Rattle.tn3270e_msg.specs.Message.{Message, Says, HasFault as SubHasFault}
use Rattle.tn3270e_msg.specs.Talk.{Comes, Hears}

-- bytes begin with at most one header
abbrev pub OneHeader : Type 0
OneHeader = (bytes : List ℕ) (header other : Header) (body rest : List ℕ) → Begins bytes header body
    → Begins bytes other rest → (header ≡ other) × (body ≡ rest)

-- bytes that begin with a header have no fault
abbrev pub FaultIsNoHeader : Type 0
FaultIsNoHeader = (bytes : List ℕ) (fault : HeadFault) (header : Header) (body : List ℕ) → HeadHasFault bytes fault
    → Begins bytes header body → ⊥

-- bytes have at most one fault as a header
abbrev pub OneHeadFault : Type 0
OneHeadFault = (bytes : List ℕ) (fault other : HeadFault) → HeadHasFault bytes fault → HeadHasFault bytes other
    → fault ≡ other

-- bytes are at most one message
abbrev pub OneMessage : Type 0
OneMessage = (bytes : List ℕ) (message other : Message) → Says bytes message → Says bytes other → message ≡ other

-- bytes that are a message have no fault as a message
abbrev pub FaultIsNoMessage : Type 0
FaultIsNoMessage = (bytes : List ℕ) (fault : SubFault) (message : Message) → SubHasFault bytes fault
    → Says bytes message → ⊥

-- bytes have at most one fault as a message
abbrev pub OneSubFault : Type 0
OneSubFault = (bytes : List ℕ) (fault other : SubFault) → SubHasFault bytes fault → SubHasFault bytes other
    → fault ≡ other

-- an item means one thing to a talk
abbrev pub OneHearing : Type 0
OneHearing = (item : WireItem) (comes other : Comes) → Hears item comes → Hears item other → comes ≡ other

-- a name of an LU is read as itself
abbrev pub NameIsReadAsItself : Type 0
NameIsReadAsItself = (name : List ℕ) → IsTrue (is_lu name) → lu_of name ≡ Some name
