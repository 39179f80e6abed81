use Rattle.datastream.proofs.InboundData.{cursor_in_range, cursor_unless_alone}
use Rattle.datastream.proofs.inbound.Inbound.cursor.Goals as goal

pub returns-clause-sent : goal.returns-clause-sent
returns-clause-sent c = rw (← c.self.view_is) c.self.invariant.0

pub returns-clause-in_range : goal.returns-clause-in_range
returns-clause-in_range c = rw (← c.self.view_is) (cursor_in_range _ c.self.invariant.0)

pub returns-clause-alone : goal.returns-clause-alone
returns-clause-alone c = rw (← c.self.view_is) (cursor_unless_alone _ c.self.invariant.0)
