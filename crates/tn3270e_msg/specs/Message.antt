-- Messages of TN3270E (RFC 1647, sections 3 and 7), and their payloads in a subnegotiation.
use Rattle.std.specs.Prelude.{◌≡◌, ◌≢◌, ℕ, List, [], ◌∷◌, ◌++◌, Option, None, Some, IsTrue}
use Rattle.tn3270e_msg.specs.Text.{is_text}
use Rattle.tn3270e_msg.specs.Functions.{Functions, functions_of}
use Rattle.tn3270e_msg.specs.declared.reply.Reason.{Reason}
use Rattle.tn3270e_msg.specs.declared.message.SubFault.{SubFault}
use Rattle.tn3270e_msg.specs.declared.message.SubFault.TheVariants.{NotOurs, Malformed}

-- the requested LU, or the one with which a printer is to be associated
pub data Name : Type 0 where
  Connect : List ℕ → Name
  Associate : List ℕ → Name

-- a message
pub data Message : Type 0 where
  SendType : Message  -- SEND DEVICE-TYPE
  TypeRequest : List ℕ → Option Name → Message  -- DEVICE-TYPE REQUEST, a type and a name
  TypeIs : List ℕ → List ℕ → Message  -- DEVICE-TYPE IS, a type and a name
  TypeReject : Reason → Message  -- DEVICE-TYPE REJECT REASON
  FunRequest : Functions → Message  -- FUNCTIONS REQUEST
  FunIs : Functions → Message  -- FUNCTIONS IS

-- holds if a name is a text
abbrev pub IsName : Option Name → Type 0
IsName None = Unit {0}
IsName (Some (Connect name)) = IsTrue (is_text name)
IsName (Some (Associate name)) = IsTrue (is_text name)

-- holds if the device types and names in a message are texts
abbrev pub IsMessage : Message → Type 0
IsMessage (TypeRequest device name) = IsTrue (is_text device) × IsName name
IsMessage (TypeIs device name) = IsTrue (is_text device) × IsTrue (is_text name)
IsMessage _ = Unit {0}

-- the bytes of a name in a message
abbrev pub name_part : Option Name → List ℕ
name_part None = []
name_part (Some (Connect name)) = 1 ∷ name
name_part (Some (Associate name)) = 0 ∷ name

-- holds if these bytes encode this message; functions can be in any order and repeat
abbrev pub Spells : Message → List ℕ → Type 0
Spells SendType bytes = bytes ≡ 0x28 ∷ 8 ∷ 2 ∷ []
Spells (TypeRequest device name) bytes = bytes ≡ 0x28 ∷ 2 ∷ 7 ∷ (device ++ name_part name)
Spells (TypeIs device name) bytes = bytes ≡ 0x28 ∷ 2 ∷ 4 ∷ (device ++ 1 ∷ name)
Spells (TypeReject reason) bytes = bytes ≡ 0x28 ∷ 2 ∷ 6 ∷ 5 ∷ reason.0 ∷ []
Spells (FunRequest functions) bytes = (list : List ℕ) × (functions_of list ≡ functions) × (bytes ≡ 0x28 ∷ 3 ∷ 7 ∷ list)
Spells (FunIs functions) bytes = (list : List ℕ) × (functions_of list ≡ functions) × (bytes ≡ 0x28 ∷ 3 ∷ 4 ∷ list)

-- holds if these bytes are this message's payload
pub record Says (bytes : List ℕ) (message : Message) : Type 0 where
  pub is_message : IsMessage message
  pub encoded : Spells message bytes

-- holds if these bytes are no message: they belong to another option, or they are malformed
abbrev pub HasFault : List ℕ → SubFault → Type 0
HasFault bytes NotOurs = (rest : List ℕ) → bytes ≢ 0x28 ∷ rest
HasFault bytes Malformed = ((rest : List ℕ) × (bytes ≡ 0x28 ∷ rest)) × ((message : Message) → ¬ Says bytes message)
