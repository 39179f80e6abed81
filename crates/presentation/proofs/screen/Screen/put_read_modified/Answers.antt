use Rattle.presentation.proofs.Sent.{modified_is_read}
use Rattle.presentation.proofs.screen.Screen.put_read_modified.Goals as goal

pub returns-then-is_err-clause-inbound : goal.returns-then-is_err-clause-inbound
returns-then-is_err-clause-inbound c = rw (← c.self.view_is) (modified_is_read _ _ _ c.put_modified-put.ensures.sized.cells c.put_modified-put.ensures.sized.sendable)

pub returns-else-is_err-clause-inbound : goal.returns-else-is_err-clause-inbound
returns-else-is_err-clause-inbound c = rw (← c.self.view_is) (modified_is_read _ _ _ c.put_modified-put.ensures.sized.cells c.put_modified-put.ensures.sized.sendable)
