use Rattle.std.proofs.Common.{◌∙◌, ap, sym, ℕ, Some}
use Rattle.shadow.specs.Belief.{cells_believed}
use Rattle.shadow.proofs.Placed.{size_held}
use Rattle.shadow.proofs.shadow.Shadow.size.Goals as goal

pub returns-in-Some : goal.returns-in-Some
returns-in-Some c =
    ap (λ (n : ℕ). Some n) c.size.ensures.cells ∙ sym (size_held c.in-Some.beliefs.now) ∙ ap cells_believed (sym c.in-Some.ensures.0)

pub returns-in-None : goal.returns-in-None
returns-in-None c = ap cells_believed (sym c.in-None.ensures)
