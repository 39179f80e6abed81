use Rattle.std.proofs.Common.{◌∙◌, ap, sym, Bool}
use Rattle.shadow.specs.InPlace.{shadow_held, has_fields}
use Rattle.shadow.proofs.Placed.{has_held}
use Rattle.shadow.proofs.shadow.Shadow.is_formatted.Goals as goal

pub returns-then-self : goal.returns-then-self
returns-then-self c =
    let places = c.self.inside.beliefs in
    c.has_attribute.ensures ∙ sym (has_held places) ∙ ap (λ (k : Bool). has_fields (shadow_held k places)) (sym c.if-self.true) ∙ ap has_fields c.self.view_is
