use Rattle.std.proofs.lemmas.Result.{err_from_is_err_and}
use Rattle.server.specs.Control.{StopsAt}
use Rattle.server.proofs.Visits.{none_yet, one_more}
use Rattle.server.proofs.server.Server.stop_each.Goals as goal

pub loop-conn-init : goal.loop-conn-init
loop-conn-init g c = none_yet (StopsAt g.W.Watcher.noticed g.W.Watcher.showed) c.args.self.now c.args.watcher.now

pub returns-in_err-stopped : goal.returns-in_err-stopped
returns-in_err-stopped g c =
    let p = err_from_is_err_and c.from_residual.result c.from_residual.ensures.1 in
    rw (p.1, p.2) (record {
      conn = c.loop-conn.conn;
      is_number = c.loop-conn-test.true;
      before = c.loop-conn.stopped;
      mid = c.loop-conn.self;
      hearing = c.loop-conn.watcher;
      visits = c.loop-conn.invariant;
      fails = c.in_err-stopped.ensures;
    })

pub loop-conn-preserved : goal.loop-conn-preserved
loop-conn-preserved g c =
    one_more (StopsAt g.W.Watcher.noticed g.W.Watcher.showed) c.loop-conn.conn c.args.self.now c.loop-conn.self
    c.stop_if_open.new.self c.args.watcher.now c.loop-conn.watcher c.stop_if_open.new.watcher c.loop-conn.stopped c.in_ok-stopped.field-0
    c.loop-conn.invariant c.in_ok-stopped.ensures
