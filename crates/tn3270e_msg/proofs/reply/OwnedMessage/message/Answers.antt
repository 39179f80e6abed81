use Rattle.tn3270e_msg.proofs.Texts.{lu_is_text, device_is_text}
use Rattle.tn3270e_msg.proofs.reply.OwnedMessage.message.Goals.{in-Some, in-None}
use Rattle.tn3270e_msg.proofs.reply.OwnedMessage.message.Goals as goal

pub returns-after-lu-clause-is_message : goal.returns-after-lu-clause-is_message
returns-after-lu-clause-is_message c = elim c.match-lu.branch [
  | in-Some w ↦ rw (c.in-TypeRequest.is, w.in-Some.is) (device_is_text _, lu_is_text w.in-Some.lu w.as_bytes.ensures.is_lu)
  | in-None w ↦ rw (c.in-TypeRequest.is, w.in-None.is) (device_is_text _, tt)
]

pub returns-in-TypeIs-clause-is_message : goal.returns-in-TypeIs-clause-is_message
returns-in-TypeIs-clause-is_message c =
    rw c.in-TypeIs.is (device_is_text c.in-TypeIs.device, lu_is_text c.in-TypeIs.lu c.as_bytes-in-TypeIs.ensures.is_lu)
