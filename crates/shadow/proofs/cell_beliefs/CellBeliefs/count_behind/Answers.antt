use Rattle.std.proofs.Common.{arith, ◌+◌, drop}
use Rattle.std.proofs.lemmas.List.{length-drop}
use Rattle.shadow.proofs.Stretches.{count_inner, count_round}
use Rattle.shadow.proofs.cell_beliefs.CellBeliefs.count_behind.Goals as goal

pub returns-then-next-cells : goal.returns-then-next-cells
returns-then-next-cells c =
    let ps = c.args.self.now in
    let rest = drop (c.args.place + 1) ps in
    let shorter = length-drop (c.args.place + 1) ps in
    omega (arith, c.requires.next, count_inner rest ps (omega (arith, c.requires.next, c.len-cells.ensures.len, shorter)))

pub returns-else-next-cells : goal.returns-else-next-cells
returns-else-next-cells c =
    let ps = c.args.self.now in
    let rest = drop (c.args.place + 1) ps in
    let shorter = length-drop (c.args.place + 1) ps in
    omega (arith, c.requires.next, shorter, c.len-cells.ensures.len, count_round rest ps (omega (arith, c.requires.next, c.len-cells.ensures.len, shorter)))
