use Rattle.std.proofs.Common.{refl}
use Rattle.std.proofs.lemmas.Result.{err_from_is_err_and}
use Rattle.server.specs.Control.{failed}
use Rattle.server.proofs.Control.{reload_is}
use Rattle.server.proofs.server.Server.reload.Goals as goal

pub returns-in_err-end_talking : goal.returns-in_err-end_talking
returns-in_err-end_talking g c =
    let p = err_from_is_err_and c.from_residual.result c.from_residual.ensures.1 in
    rw (p.1, p.2) (failed c.in_err-end_talking.field-0.0 c.in_err-end_talking.ensures.ends refl)

pub returns : goal.returns
returns g c =
    reload_is g.W.Watcher.noticed g.W.Watcher.showed c.args.host c.args.self.now c.end_talking.new.self c.args.watcher.now c.end_talking.new.watcher c.in_ok-end_talking.field-0
    c.reload.result c.reload.new.self c.in_ok-end_talking.ensures.ends c.reload.ensures.reloaded c.reload.ensures.unchanged c.reload.ensures.too_many
