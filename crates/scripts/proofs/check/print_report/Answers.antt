use Rattle.scripts.proofs.Checking.{in_part, whole}
use Rattle.scripts.proofs.check.print_report.Goals as goal

pub returns-in-Ok : goal.returns-in-Ok
returns-in-Ok g c =
    whole c.args.name.now c.args.input.now c.as_bytes.result.now _ c.in_ok-report.report (g.O.Sink.seen c.args.out.now) (g.O.Sink.seen c.write_all.new.self)
    c.in_ok-report.ensures.faults c.in_ok-report.ensures.faultless c.in_ok-report.ensures.reason c.in_ok-report.ensures.order
    c.as_bytes.ensures.value c.in_ok-page.ensures c.faults.result c.faults.ensures c.in-Ok.ensures.counts

pub returns : goal.returns
returns g c =
    in_part c.args.name.now c.args.input.now c.as_bytes.result.now _ c.in_ok-report.report (g.O.Sink.seen c.args.out.now) (g.O.Sink.seen c.write_all.new.self)
    c.in_ok-report.ensures.faults c.in_ok-report.ensures.faultless c.in_ok-report.ensures.reason c.in_ok-report.ensures.order
    c.as_bytes.ensures.value c.in_ok-page.ensures c.in-Err.ensures.counts
