use Rattle.std.proofs.lemmas.Result.{err_from_is_err_and}
use Rattle.server.specs.NumberTurns.{ServesAt}
use Rattle.server.proofs.Visits.{none_yet, one_more}
use Rattle.server.proofs.server.Server.serve_each.Goals as goal

pub loop-conn-init : goal.loop-conn-init
loop-conn-init g c = none_yet (ServesAt g.S.RawRead.read_gave g.S.RawWrite.write_took g.W.Watcher.noticed g.W.Watcher.showed) c.args.self.now c.args.watcher.now

pub returns-in_err-acted : goal.returns-in_err-acted
returns-in_err-acted g c =
    let p = err_from_is_err_and c.from_residual.result c.from_residual.ensures.1 in
    rw (p.1, p.2) (record {
      conn = c.loop-conn.conn;
      is_number = c.loop-conn-test.true;
      before = c.loop-conn.acted;
      mid = c.loop-conn.self;
      hearing = c.loop-conn.watcher;
      visits = c.loop-conn.invariant;
      fails = c.in_err-acted.ensures;
    })

pub loop-conn-preserved : goal.loop-conn-preserved
loop-conn-preserved g c =
    one_more (ServesAt g.S.RawRead.read_gave g.S.RawWrite.write_took g.W.Watcher.noticed g.W.Watcher.showed) c.loop-conn.conn c.args.self.now c.loop-conn.self
    c.serve_if_open.new.self c.args.watcher.now c.loop-conn.watcher c.serve_if_open.new.watcher c.loop-conn.acted c.in_ok-acted.field-0
    c.loop-conn.invariant c.in_ok-acted.ensures
