use Rattle.std.proofs.Common.{sym, subst}
use Rattle.codes3270.specs.Size.{cells_in}
use Rattle.shadow.specs.InPlace.{IsHeld}
use Rattle.shadow.proofs.Blanks.{held_unknown}
use Rattle.shadow.proofs.shadow.Shadow.blank.Goals as goal

pub invariant_of-result : goal.invariant_of-result
invariant_of-result c = subst IsHeld (sym c.unknown.ensures) (held_unknown (cells_in c.base.result))
