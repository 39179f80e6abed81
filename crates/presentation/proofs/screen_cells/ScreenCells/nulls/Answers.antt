use Rattle.std.proofs.Common.{◌≤◌, ◌∙◌, ℕ, not, replicate, length, ap, sym, subst, arith}
use Rattle.std.proofs.lemmas.List.{length-replicate}
use Rattle.codes3270.specs.Size.{ScreenSize, cells_in, most_cells}
use Rattle.codes3270.specs.declared.attribute.Cell.{Cell}
use Rattle.datastream.specs.CellCodes.{code_in}
use Rattle.datastream.specs.Screen.{is_char}
use Rattle.presentation.proofs.KeptCells.{nulls_kept, nulls_coded}
use Rattle.presentation.proofs.screen_cells.ScreenCells.nulls.Goals as goal

pub returns : goal.returns
returns c =
    let n : ℕ = cells_in c.args.size in
    let few = c.filled.ensures.few in
    nulls_kept n c.filled.result.attributes c.filled.result.codes
    (c.filled.ensures.codes ∙ ap (λ (null : Cell). replicate n (code_in null)) c.character.ensures)
    (λ at low. c.filled.ensures.attributes at (omega (arith, low, few)) ∙ ap (λ (null : Cell). not (is_char null)) c.character.ensures)

pub invariant_of-result : goal.invariant_of-result
invariant_of-result c =
    let n : ℕ = cells_in c.args.size in
    let few = c.filled.ensures.few in
    let are = c.filled.ensures.codes ∙ ap (λ (null : Cell). replicate n (code_in null)) c.character.ensures in
    let shape = ap (λ (size : ScreenSize). cells_in size) c.filled.ensures.size in
    record {
      size = ap length are ∙ length-replicate {A = ℕ} n 0 ∙ sym shape;
      few = subst (λ (count : ℕ). count ≤ most_cells) (sym shape) few;
      codes = nulls_coded n c.filled.result.attributes c.filled.result.codes are (λ at low. c.filled.ensures.attributes at (omega (arith, low, few)) ∙ ap (λ (null : Cell). not (is_char null)) c.character.ensures);
    }
