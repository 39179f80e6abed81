use Rattle.std.proofs.Common.{◌∙◌, ap, sym, subst, true}
use Rattle.codes3270.specs.Size.{cells_in}
use Rattle.shadow.specs.InPlace.{shadow_held, IsHeld}
use Rattle.shadow.proofs.Blanks.{held_nulls, unformatted_nulls}
use Rattle.shadow.proofs.shadow.Shadow.hear_clear.Goals as goal

pub returns : goal.returns
returns c = ap (shadow_held true) c.clear.ensures.nulls ∙ unformatted_nulls (cells_in c.args.size)

pub invariant_of-self : goal.invariant_of-self
invariant_of-self c = subst IsHeld (sym c.clear.ensures.nulls) (held_nulls (cells_in c.args.size))
