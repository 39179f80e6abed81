use Rattle.std.proofs.Common.{◌≤◌, ◌∙◌, ℕ, take, replicate, ap, arith}
use Rattle.std.proofs.lemmas.List.{take-replicate}
use Rattle.codes3270.specs.Size.{cells_in, most_cells}
use Rattle.datastream.proofs.cell_store.packed_cells.PackedCells.filled.Goals as goal

pub returns-clause-codes : goal.returns-clause-codes
returns-clause-codes c =
    let n : ℕ = cells_in c.args.size in
    let few : n ≤ most_cells = omega (arith, c.cells-cells.ensures.value, c.cells-cells.ensures.few) in
    ap (take n) c.same_codes.ensures ∙ take-replicate n most_cells c.code.result few ∙ ap (λ (code : ℕ). replicate n code) c.code.ensures
