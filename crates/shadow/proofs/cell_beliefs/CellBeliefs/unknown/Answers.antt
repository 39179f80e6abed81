use Rattle.std.proofs.Common.{◌∙◌, ℕ, false, not, sym, ap, arith, length, replicate}
use Rattle.std.proofs.lemmas.List.{length-replicate}
use Rattle.codes3270.specs.Size.{ScreenSize, cells_in}
use Rattle.codes3270.specs.declared.attribute.Cell.{Cell}
use Rattle.datastream.specs.CellCodes.{code_in}
use Rattle.datastream.specs.Screen.{is_char}
use Rattle.shadow.proofs.Keeping.{all_blank, blank_marked}
use Rattle.shadow.proofs.cell_beliefs.CellBeliefs.unknown.Goals as goal

pub returns : goal.returns
returns c =
    let n : ℕ = cells_in c.args.size in
    let few = c.filled.ensures.few in
    all_blank n c.no_heads.result c.filled.result.attributes c.all.result c.all-2.result c.filled.result.codes false
    (λ cell low. c.filled.ensures.attributes cell (omega (arith, low, few)) ∙ ap (λ (null : Cell). not (is_char null)) c.character.ensures)
    (λ cell low. c.all.ensures cell (omega (arith, low, few))) (λ cell low. c.all-2.ensures cell (omega (arith, low, few)))
    (c.filled.ensures.codes ∙ ap (λ (null : Cell). replicate n (code_in null)) c.character.ensures)

pub invariant_of-result : goal.invariant_of-result
invariant_of-result c =
    let n : ℕ = cells_in c.args.size in
    let few = c.filled.ensures.few in
    let nulls = c.filled.ensures.codes ∙ ap (λ (null : Cell). replicate n (code_in null)) c.character.ensures in (
      c.no_heads.ensures,
      ap length nulls ∙ length-replicate {A = ℕ} n 0 ∙ ap (λ (size : ScreenSize). cells_in size) (sym c.filled.ensures.size),
      rw c.filled.ensures.size few,
      blank_marked n c.no_heads.result c.filled.result.attributes c.all.result c.all-2.result c.filled.result.codes false
          (λ cell low. c.filled.ensures.attributes cell (omega (arith, low, few)) ∙ ap (λ (null : Cell). not (is_char null)) c.character.ensures)
          (λ cell low. c.all.ensures cell (omega (arith, low, few))) (λ cell low. c.all-2.ensures cell (omega (arith, low, few)))
          nulls,
    )
