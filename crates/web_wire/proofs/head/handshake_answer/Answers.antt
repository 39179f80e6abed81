use Rattle.web_wire.proofs.HeadLemmas.{handshake_failed}
use Rattle.web_wire.proofs.head.handshake_answer.Goals as goal

pub returns-in-Err : goal.returns-in-Err
returns-in-Err c = rw c.failed_status.ensures (handshake_failed _ c.in-Err.fault c.in-Err.ensures)
