use Rattle.std.proofs.Common.{◌≤◌, ◌+◌, sym, subst, refl, arith}
use Rattle.panel_check.specs.Listed.{AddsOf}
use Rattle.panel_check.specs.Report.{HasCause}
use Rattle.panel_check.proofs.Reporting.{adds_one, has_pushed}
use Rattle.panel_check.proofs.telling.add_all.Goals as goal

pub loop-said-preserved : goal.loop-said-preserved
loop-said-preserved c =
    subst (λ all. AddsOf c.args.cause c.args.findings.now.items all × (1 ≤ c.loop-said.said-index + 1 → HasCause c.args.cause all)) (sym c.in_ok-push.ensures.items) (
      adds_one c.args.cause c.args.findings.now.items c.loop-said.findings.items _ refl c.loop-said.invariant.0,
      λ some. has_pushed c.args.cause c.loop-said.findings.items _ refl,
    )

pub returns-clause-told : goal.returns-clause-told
returns-clause-told c = λ some. c.loop-said.invariant.1 (omega (arith, some, c.loop-said-test.false))
