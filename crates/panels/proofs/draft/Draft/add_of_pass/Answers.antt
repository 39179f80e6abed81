use Rattle.std.proofs.Common.{◌≡◌, length, ap, arith}
use Rattle.panels.specs.Draft.{DraftText}
use Rattle.panels.proofs.Turning.{panels_found}
use Rattle.panels.proofs.draft.Draft.add_of_pass.Goals as goal

pub returns : goal.returns
returns c =
    let seen = ap (λ (draft : DraftText). length draft.panels) c.self.view_is in
    let whole : c.loop-panel.panel ≡ length c.args.self.now.panels = omega (arith, seen) in
    panels_found c.args.pass c.loop-panel.panel c.args.self.now _ whole c.loop-panel.invariant
