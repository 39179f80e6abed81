use Rattle.std.proofs.Common.{◌≡◌, [], refl, rules}
use Rattle.panel_check.proofs.Reporting.{no_toml_pushed}
use Rattle.panel_check.proofs.telling.report_no_toml.Goals as goal

pub returns : goal.returns
returns c =
    let empty : c.new-findings.result.items ≡ [] = search rules in
    no_toml_pushed c.args.text.now c.new-findings.result.items _ _ c.in_ok-push.ensures.items empty refl
