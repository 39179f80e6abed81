use Rattle.service_wire.proofs.Headers.{block_behind}
use Rattle.service_wire.proofs.header.read_header.Goals as goal

pub returns-in-Some-after-clause-found : goal.returns-in-Some-after-clause-found
returns-in-Some-after-clause-found c = block_behind _ _ _ c.in-Some-after.ensures c.read_block.ensures.found
