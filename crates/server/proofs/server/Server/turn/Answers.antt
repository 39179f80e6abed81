use Rattle.std.proofs.Common.{◌||◌, ap, refl}
use Rattle.std.proofs.lemmas.Result.{err_from_is_err_and}
use Rattle.server.specs.Accepting.{door}
use Rattle.server.specs.ServerTurns.{accepting, serving}
use Rattle.server.proofs.server.Server.turn.Goals as goal

pub returns-in_err-accept_all : goal.returns-in_err-accept_all
returns-in_err-accept_all g c =
    let p = err_from_is_err_and c.from_residual.result c.from_residual.ensures.1 in rw (p.1, p.2) (accepting c.in_err-accept_all.ensures)

pub returns-in_err-acted : goal.returns-in_err-acted
returns-in_err-acted g c =
    let p = err_from_is_err_and c.from_residual-in_err-acted.result c.from_residual-in_err-acted.ensures.1 in
    rw (p.1, p.2) (serving (door c.accept_all.new.listener c.accept_all.new.self c.accept_all.new.watcher) c.in_ok-accept_all.ensures c.in_err-acted.ensures refl)

pub returns : goal.returns
returns g c = record {
  accepted = door c.accept_all.new.listener c.accept_all.new.self c.accept_all.new.watcher;
  served = c.serve_each.new.self;
  acted = c.in_ok-acted.acted;
  accepts_all = c.in_ok-accept_all.ensures;
  serves_each = c.in_ok-acted.ensures;
  listener_stays = refl;
  becomes = ap (λ it. record c.serve_each.new.self { sockets = it }) c.take_progress.ensures.taken;
  did_is = ap (λ it. it || c.in_ok-acted.acted) c.take_progress.ensures.moved;
}
