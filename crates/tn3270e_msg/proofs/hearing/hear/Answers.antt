use Rattle.std.proofs.Common.{refl, inl, inr}
use Rattle.tn3270e_msg.specs.Talk.{message_comes, others_message_comes, malformed_comes}
use Rattle.tn3270e_msg.proofs.Texts.{said}
use Rattle.tn3270e_msg.proofs.hearing.hear.Goals as goal

pub returns-in-Opt : goal.returns-in-Opt
returns-in-Opt c = rw c.in-Opt.is c.option_heard.ensures

pub returns-in-Ok : goal.returns-in-Ok
returns-in-Ok c = rw c.in-Sub.is (message_comes _ (said _ _ c.in-Ok.ensures.found) refl)

pub returns-in-Err-NotOurs : goal.returns-in-Err-NotOurs
returns-in-Err-NotOurs c = rw c.in-Sub.is (others_message_comes (rw c.in-Err-NotOurs.field-0-is at c.in-Err-NotOurs.ensures.fault) refl)

pub returns-in-Err-Malformed : goal.returns-in-Err-Malformed
returns-in-Err-Malformed c = rw c.in-Sub.is (malformed_comes (rw c.in-Err-Malformed.field-0-is at c.in-Err-Malformed.ensures.fault) refl)

pub returns-in-Record : goal.returns-in-Record
returns-in-Record c = elim c.in-Record.is [ inl p ↦ rw p.1 refl | inr p ↦ rw p.1 refl ]
