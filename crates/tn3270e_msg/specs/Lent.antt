-- Messages as the code borrows them: their meaning, and the payload from which they are read and as
-- which they are written (RFC 1647, sections 3 and 7).
use Rattle.std.specs.Prelude.{◌≡◌, ℕ, List, [], ◌∷◌, ◌++◌, Option, None, Some}
use Rattle.tn3270e_msg.specs.Functions.{functions_of}
use Rattle.tn3270e_msg.specs.Message.{Message, Name, Connect, Associate, SendType, TypeRequest, TypeIs, TypeReject, FunRequest, FunIs, IsMessage, name_part}
use Rattle.tn3270e_msg.specs.declared.message.SubMessage.{SubMessage}
use Rattle.tn3270e_msg.specs.declared.message.SubMessage.TheVariants as lent
use Rattle.tn3270e_msg.specs.declared.message.Name.{Name as LentName}
use Rattle.tn3270e_msg.specs.declared.message.Name.TheVariants as lent_name

-- the meaning of a borrowed name
abbrev pub name_of : Option LentName → Option Name
name_of None = None
name_of (Some (lent_name.Connect name)) = Some (Connect name.now)
name_of (Some (lent_name.Associate name)) = Some (Associate name.now)

-- the meaning of a borrowed message
abbrev pub message_of : SubMessage → Message
message_of lent.SendType = SendType
message_of (lent.TypeRequest device name) = TypeRequest device.now (name_of name)
message_of (lent.TypeIs device name) = TypeIs device.now name.now
message_of (lent.TypeReject reason) = TypeReject reason
message_of (lent.FunRequest list) = FunRequest (functions_of list.now)
message_of (lent.FunIs list) = FunIs (functions_of list.now)

-- the payload of a borrowed message: the codes, and the borrowed texts and lists
abbrev pub payload : SubMessage → List ℕ
payload lent.SendType = 0x28 ∷ 8 ∷ 2 ∷ []
payload (lent.TypeRequest device name) = 0x28 ∷ 2 ∷ 7 ∷ (device.now ++ name_part (name_of name))
payload (lent.TypeIs device name) = 0x28 ∷ 2 ∷ 4 ∷ (device.now ++ 1 ∷ name.now)
payload (lent.TypeReject reason) = 0x28 ∷ 2 ∷ 6 ∷ 5 ∷ reason.0 ∷ []
payload (lent.FunRequest list) = 0x28 ∷ 3 ∷ 7 ∷ list.now
payload (lent.FunIs list) = 0x28 ∷ 3 ∷ 4 ∷ list.now

-- holds if these bytes are the payload of this message
pub record LiesIn (bytes : List ℕ) (message : SubMessage) : Type 0 where
  pub is_message : IsMessage (message_of message)
  pub encoded : bytes ≡ payload message
