use Rattle.tn3270e_msg.proofs.Headers.{one_header, fault_is_no_header, one_head_fault}
use Rattle.tn3270e_msg.proofs.Hearings.{one_hearing}
use Rattle.tn3270e_msg.proofs.Letters.{name_is_read_as_itself}
use Rattle.tn3270e_msg.proofs.Texts.{one_message, fault_is_no_message, one_sub_fault}
use Rattle.tn3270e_msg.proofs.laws.one_reading.Goals as goal

pub returns : goal.returns
returns c = record {
  header = one_header;
  header_or_fault = fault_is_no_header;
  head_fault = one_head_fault;
  message = one_message;
  message_or_fault = fault_is_no_message;
  sub_fault = one_sub_fault;
  hearing = one_hearing;
  name = name_is_read_as_itself;
}
