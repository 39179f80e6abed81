use Rattle.std.proofs.lemmas.Result.{err_from_is_err_and}
use Rattle.server.specs.Control.{EndsTalkingAt}
use Rattle.server.proofs.Control.{none_settled, one_settled}
use Rattle.server.proofs.Visits.{none_yet, one_more}
use Rattle.server.proofs.server.Server.end_talking.Goals as goal

pub loop-conn-init : goal.loop-conn-init
loop-conn-init g c = (none_yet (EndsTalkingAt g.W.Watcher.noticed g.W.Watcher.showed) c.args.self.now c.args.watcher.now, none_settled c.args.self.now.hosts)

pub returns-in_err-ended-clause-ends : goal.returns-in_err-ended-clause-ends
returns-in_err-ended-clause-ends g c =
    let p = err_from_is_err_and c.from_residual.result c.from_residual.ensures.1 in
    rw (p.1, p.2) (record {
      conn = c.loop-conn.conn;
      is_number = c.loop-conn-test.true;
      before = c.loop-conn.ended;
      mid = c.loop-conn.self;
      hearing = c.loop-conn.watcher;
      visits = c.loop-conn.invariant.0;
      fails = c.in_err-ended.ensures.ends;
    })

pub loop-conn-preserved : goal.loop-conn-preserved
loop-conn-preserved g c = (
  one_more (EndsTalkingAt g.W.Watcher.noticed g.W.Watcher.showed) c.loop-conn.conn c.args.self.now c.loop-conn.self
      c.end_if_talking.new.self c.args.watcher.now c.loop-conn.watcher c.end_if_talking.new.watcher c.loop-conn.ended c.in_ok-ended.field-0
      c.loop-conn.invariant.0 c.in_ok-ended.ensures.ends,
  one_settled c.loop-conn.conn c.loop-conn.self.hosts c.end_if_talking.new.self.hosts c.loop-conn.invariant.1 c.in_ok-ended.ensures.settled c.in_ok-ended.ensures.others,
)
