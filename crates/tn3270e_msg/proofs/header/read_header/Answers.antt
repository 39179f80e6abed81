use Rattle.tn3270e_msg.proofs.Headers.{all_found, each_refused}
use Rattle.tn3270e_msg.proofs.header.read_header.Goals as goal

pub returns-clause-all : goal.returns-clause-all
returns-clause-all c = all_found c.args.bytes.now (λ found. found.0) (λ found. found.1.now) c.find_header.result c.find_header.ensures.found c.find_header.ensures.fault

pub returns-clause-refused : goal.returns-clause-refused
returns-clause-refused c = each_refused c.args.bytes.now (λ found. found.0) (λ found. found.1.now) c.find_header.result c.find_header.ensures.found c.find_header.ensures.fault
