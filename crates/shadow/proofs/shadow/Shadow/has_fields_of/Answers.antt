use Rattle.std.proofs.Common.{◌∙◌, ap, sym, ℕ, Bool, length, ◌&&◌}
use Rattle.std.specs.Prelude.{◌==◌}
use Rattle.shadow.specs.InPlace.{has_fields}
use Rattle.shadow.specs.Paint.{writes_over}
use Rattle.shadow.proofs.Whole.{over_is}
use Rattle.shadow.proofs.shadow.Shadow.has_fields_of.Goals as goal

pub returns : goal.returns
returns c =
    let i = c.self.inside in
    let formatted = c.is_formatted.result in
    c.is_filled.ensures
    ∙ ap (λ (n : ℕ). formatted && n == c.args.cells) c.len.ensures.len
    ∙ ap (λ (t : Bool). t && length i.beliefs == c.args.cells) (c.is_formatted.ensures ∙ ap has_fields (sym c.self.view_is))
    ∙ over_is c.args.cells i.knows i.beliefs ∙ ap (writes_over c.args.cells) c.self.view_is
