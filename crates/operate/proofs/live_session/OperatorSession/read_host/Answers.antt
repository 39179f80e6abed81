use Rattle.std.proofs.lemmas.Result.{err_from_is_err_and}
use Rattle.operate.proofs.LiveReads.{host_lost, host_read}
use Rattle.operate.proofs.live_session.OperatorSession.read_host.Goals as goal

pub returns-clause-reads : goal.returns-clause-reads
returns-clause-reads g c =
    rw (c.got_count.ensures, ← c.self.view_is)
    (host_read _ _ _ c.read_socket-answer.new.socket c.read_socket-answer.result c.read_socket-answer.new.came c.read_socket-answer.ensures.gives c.in_ok-follow.ensures.after)

pub returns-in_err-follow-clause-fails : goal.returns-in_err-follow-clause-fails
returns-in_err-follow-clause-fails g c =
    let p = err_from_is_err_and c.from_residual.result c.from_residual.ensures.1 in
    rw (p.1, p.2, ← c.self.view_is)
    (host_lost _ _ _ c.read_socket-answer.new.socket c.read_socket-answer.result c.read_socket-answer.new.came _ c.read_socket-answer.ensures.gives c.in_err-follow.ensures.result c.in_err-follow.ensures.after)
