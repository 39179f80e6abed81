use Rattle.tn3270e_msg.proofs.Texts.{all_found, each_refused}
use Rattle.tn3270e_msg.proofs.reading.read_sub.Goals as goal

pub returns-clause-all : goal.returns-clause-all
returns-clause-all c = all_found c.args.bytes.now c.find_message.result c.find_message.ensures.found c.find_message.ensures.fault

pub returns-clause-refused : goal.returns-clause-refused
returns-clause-refused c = each_refused c.args.bytes.now c.find_message.result c.find_message.ensures.found c.find_message.ensures.fault
