use Rattle.std.proofs.Common.{take}
use Rattle.service_wire.proofs.Readers.{refused_here}
use Rattle.service_wire.proofs.header_reader.HeaderReader.push.Goals as goal

pub returns-2-clause-refused : goal.returns-2-clause-refused
returns-2-clause-refused c = rw (← c.self.view_is) (refused_here (take c.self.inside.size c.self.inside.bytes) c.args.bytes.now _ _ c.put.ensures.added c.read_header-answer.ensures.refused)
