use Rattle.std.proofs.Common.{rules}
use Rattle.service_wire.proofs.line_buffer.LineBuffer.line.Goals as goal

pub returns-in-Err-clause-fault : goal.returns-in-Err-clause-fault
returns-in-Err-clause-fault c = (c.in-Some.line.now, search rules, search rules)
