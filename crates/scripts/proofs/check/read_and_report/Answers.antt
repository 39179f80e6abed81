use Rattle.std.proofs.Common.{sym, subst}
use Rattle.jobs.specs.Runs.{InPieces, IsInput}
use Rattle.scripts.proofs.Checking.{reported, unread}
use Rattle.scripts.proofs.check.read_and_report.Goals as goal

pub returns-in-Ok : goal.returns-in-Ok
returns-in-Ok g c =
    let old = g.I.Source.seen c.args.input.now in
    let new = g.I.Source.seen c.read_whole.new.input in
    let Came = InPieces g.I.Source.gave c.args.input.now c.read_whole.new.input in
    reported Came c.print_report.result c.args.name.now old new (g.O.Sink.seen c.args.out.now) (g.O.Sink.seen c.print_report.new.out) c.as_str.result.now
    (subst (IsInput old new) (sym c.as_str.ensures.value) c.in-Ok.ensures.whole) (subst Came (sym c.as_str.ensures.value) c.in-Ok.ensures.pieces) c.print_report.ensures

pub returns-in-Err : goal.returns-in-Err
returns-in-Err g c =
    unread (InPieces g.I.Source.gave c.args.input.now c.read_whole.new.input) c.in-Err.fault c.args.name.now
    (g.I.Source.seen c.args.input.now) (g.I.Source.seen c.read_whole.new.input) (g.O.Sink.seen c.args.out.now)
    c.in-Err.ensures.fault c.in-Err.ensures.refused_in_pieces
