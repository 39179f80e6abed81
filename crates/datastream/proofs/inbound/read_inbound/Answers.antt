use Rattle.datastream.proofs.InboundData.{only_inbound, first_inbound_fault}
use Rattle.datastream.proofs.inbound.read_inbound.Goals as goal

pub returns-clause-only : goal.returns-clause-only
returns-clause-only c = only_inbound _ _ _ _ c.inbound_of.ensures

pub returns-clause-first : goal.returns-clause-first
returns-clause-first c = first_inbound_fault _ _ _ _ c.inbound_of.ensures
