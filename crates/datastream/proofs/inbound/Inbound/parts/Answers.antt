use Rattle.std.proofs.Common.{arith}
use Rattle.codes3270.specs.Size.{cells_in}
use Rattle.datastream.proofs.InboundSequences.{length-parts_in}
use Rattle.datastream.proofs.InboundData.{inbound_proper, buffer_whole, nothing_if_alone}
use Rattle.datastream.proofs.inbound.Inbound.parts.Goals as goal

pub returns-clause-sent : goal.returns-clause-sent
returns-clause-sent c = rw (← c.self.view_is) c.self.invariant.0

pub returns-clause-proper : goal.returns-clause-proper
returns-clause-proper c = rw (← c.self.view_is) (inbound_proper _ c.self.invariant.0)

pub returns-clause-whole : goal.returns-clause-whole
returns-clause-whole c = rw (← c.self.view_is) (buffer_whole _ c.self.invariant.0)

pub returns-clause-few : goal.returns-clause-few
returns-clause-few c = omega (arith, length-parts_in (cells_in c.self.inside.size) c.self.inside.form c.self.inside.text.now)

pub returns-clause-alone : goal.returns-clause-alone
returns-clause-alone c = rw (← c.self.view_is) (nothing_if_alone _ c.self.invariant.0)
