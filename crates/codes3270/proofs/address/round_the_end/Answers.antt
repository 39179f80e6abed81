use Rattle.std.proofs.Common.{◌-◌, arith, sym, ◌∙◌}
use Rattle.std.proofs.Math.Nat.{mod-eq_of_lt, mod-eq-sub-mod}
use Rattle.codes3270.proofs.address.round_the_end.Goals as goal

pub returns-then-position-cells-clause-value : goal.returns-then-position-cells-clause-value
returns-then-position-cells-clause-value c = sym (mod-eq_of_lt {n = c.args.position} {m = c.args.cells} (omega arith))

pub returns-else-position-cells-clause-value : goal.returns-else-position-cells-clause-value
returns-else-position-cells-clause-value c =
    sym (mod-eq-sub-mod {n = c.args.position} {m = c.args.cells} (omega arith)
    ∙ mod-eq_of_lt {n = c.args.position - c.args.cells} {m = c.args.cells} (omega (arith, c.requires)))
