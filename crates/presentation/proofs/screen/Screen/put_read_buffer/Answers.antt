use Rattle.datastream.proofs.InboundSent.{sent_is_read}
use Rattle.presentation.proofs.screen.Screen.put_read_buffer.Goals as goal

pub returns-then-is_err-clause-inbound : goal.returns-then-is_err-clause-inbound
returns-then-is_err-clause-inbound c = rw (← c.self.view_is) (sent_is_read.buffer _ _ c.put_buffer-put.ensures.sized.cells c.put_buffer-put.ensures.sized.sendable)

pub returns-else-is_err-clause-inbound : goal.returns-else-is_err-clause-inbound
returns-else-is_err-clause-inbound c = rw (← c.self.view_is) (sent_is_read.buffer _ _ c.put_buffer-put.ensures.sized.cells c.put_buffer-put.ensures.sized.sendable)
