use Rattle.std.proofs.Common.{◌≡◌, slice_index_or, rules}
use Rattle.panel_check.proofs.telling.is_reported.Goals as goal

pub returns-then-is_same : goal.returns-then-is_same
returns-then-is_same c = λ is.
    let there : slice_index_or c.args.findings.now c.loop-finding.finding-index c.finding-item.result ≡ c.finding-item.result = search rules in
    (c.finding-item.result, (c.loop-finding.finding-index, c.loop-finding-test.true, there), c.is_same.ensures c.if-is_same.true)
