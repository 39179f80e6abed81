-- What an item says, and what is sent.
use Rattle.std.proofs.Common.{◌≡◌, ℕ, List, [], ◌∷◌, refl, sym, ap, ◌∙◌, None, Some}
use Rattle.telnet_wire.specs.Items.{Record, Opt, Sub, Other}
use Rattle.tn3270e_msg.specs.declared.reply.OwnedMessage.{OwnedMessage}
use Rattle.tn3270e_msg.specs.declared.reply.OwnedMessage.TheVariants as sent
use Rattle.tn3270e_msg.specs.declared.message.SubFault.TheVariants.{NotOurs, Malformed}
use Rattle.tn3270e_msg.specs.Device.{device_for}
use Rattle.tn3270e_msg.specs.Laws.{OneHearing}
use Rattle.tn3270e_msg.specs.Message.{Says}
use Rattle.tn3270e_msg.specs.Talk.{Comes, PayloadSays, message_comes, others_message_comes, malformed_comes, message_says, message_sent, payload_sent, IsOwnedMessage}
use Rattle.tn3270e_msg.proofs.Texts.{one_message, one_sub_fault, fault_is_no_message, lu_is_text, device_is_text}

one_payload : (bytes : List ℕ) (comes other : Comes) → PayloadSays bytes comes → PayloadSays bytes other → comes ≡ other
one_payload bytes comes other (message_comes m s e) (message_comes n t k) = e ∙ ap message_says (one_message bytes m n s t) ∙ sym k
one_payload bytes comes other (message_comes m s e) (others_message_comes f k) = absurd (fault_is_no_message bytes NotOurs m f s)
one_payload bytes comes other (message_comes m s e) (malformed_comes f k) = absurd (fault_is_no_message bytes Malformed m f s)
one_payload bytes comes other (others_message_comes f e) (message_comes n t k) = absurd (fault_is_no_message bytes NotOurs n f t)
one_payload bytes comes other (others_message_comes f e) (others_message_comes g k) = e ∙ sym k
one_payload bytes comes other (others_message_comes f e) (malformed_comes g k) = let same = one_sub_fault bytes NotOurs Malformed f g in absurd (cc)
one_payload bytes comes other (malformed_comes f e) (message_comes n t k) = absurd (fault_is_no_message bytes Malformed n f t)
one_payload bytes comes other (malformed_comes f e) (others_message_comes g k) = let same = one_sub_fault bytes Malformed NotOurs f g in absurd (cc)
one_payload bytes comes other (malformed_comes f e) (malformed_comes g k) = e ∙ sym k

-- an item says one thing
pub one_hearing : OneHearing
one_hearing (Record bytes) comes other h k = h ∙ sym k
one_hearing (Opt verb code) comes other h k = h ∙ sym k
one_hearing (Sub bytes) comes other h k = one_payload bytes comes other h k
one_hearing (Other code) comes other h k = h ∙ sym k

-- what is sent says the message that is meant
pub sent_says : (sending : OwnedMessage) → IsOwnedMessage sending → Says (payload_sent sending) (message_sent sending)
sent_says sent.SendType h = record { is_message = tt; encoded = refl }
sent_says (sent.TypeRequest model None) h = record { is_message = (device_is_text (device_for model), tt); encoded = refl }
sent_says (sent.TypeRequest model (Some lu)) h = record { is_message = (device_is_text (device_for model), lu_is_text lu h); encoded = refl }
sent_says (sent.TypeIs device lu) h = record { is_message = (device_is_text device, lu_is_text lu h); encoded = refl }
sent_says (sent.TypeReject reason) h = record { is_message = tt; encoded = refl }
sent_says sent.FunRequest h = record { is_message = tt; encoded = (2 ∷ [], refl, refl) }
sent_says sent.FunIs h = record { is_message = tt; encoded = (2 ∷ [], refl, refl) }

-- and is heard as it
pub sent_is_heard : (sending : OwnedMessage) → IsOwnedMessage sending → (comes : Comes) → PayloadSays (payload_sent sending) comes → comes ≡ message_says (message_sent sending)
sent_is_heard sending h comes k = one_payload (payload_sent sending) comes _ k (message_comes (message_sent sending) (sent_says sending h) refl)
