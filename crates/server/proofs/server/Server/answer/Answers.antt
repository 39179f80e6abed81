use Rattle.std.proofs.Common.{Ok, Err, None, refl, slice_index_or}
use Rattle.std.proofs.lemmas.Result.{err_from_is_err_and}
use Rattle.server.specs.Hosts.{host_at}
use Rattle.server.proofs.Handing.{reports_moved}
use Rattle.server.proofs.server.Server.answer.Goals as goal

pub returns-in_err-report_on : goal.returns-in_err-report_on
returns-in_err-report_on g c =
    let p = err_from_is_err_and c.from_residual.result c.from_residual.ensures.1 in
    rw (p.1, p.2) (record {
      acted = c.answer-acted.result;
      host = host_at c.args.conn c.answer-acted.new.self;
      heard = Err c.in_err-report_on.field-0.0;
      takes = record { does = c.answer-acted.ensures.answered; others = c.answer-acted.ensures.host };
      reports = reports_moved g.W.Watcher.noticed g.W.Watcher.showed c.args.conn c.args.self.now c.answer-acted.new.self c.answer-acted.ensures.others
          (slice_index_or c.args.self.now.infos c.args.conn None) c.args.watcher.now (Err c.in_err-report_on.field-0.0) c.report_on.new.self c.report_on.new.watcher c.in_err-report_on.ensures;
      result_is = refl;
    })

pub returns : goal.returns
returns g c = record {
  acted = c.answer-acted.result;
  host = host_at c.args.conn c.answer-acted.new.self;
  heard = Ok c.in_ok-report_on.field-0;
  takes = record { does = c.answer-acted.ensures.answered; others = c.answer-acted.ensures.host };
  reports = reports_moved g.W.Watcher.noticed g.W.Watcher.showed c.args.conn c.args.self.now c.answer-acted.new.self c.answer-acted.ensures.others
      (slice_index_or c.args.self.now.infos c.args.conn None) c.args.watcher.now (Ok c.in_ok-report_on.field-0) c.report_on.new.self c.report_on.new.watcher c.in_ok-report_on.ensures;
  result_is = refl;
}
