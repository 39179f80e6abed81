use Rattle.std.proofs.Common.{◌∙◌, ℕ, true, ap, arith, sym, length}
use Rattle.std.proofs.lemmas.List.{length-replicate}
use Rattle.codes3270.specs.Size.{ScreenSize, cells_in}
use Rattle.shadow.proofs.Keeping.{blank, all_blank, blank_marked}
use Rattle.shadow.proofs.cell_beliefs.CellBeliefs.clear.Goals as goal

pub returns-clause-nulls : goal.returns-clause-nulls
returns-clause-nulls c =
    let few = c.clear.ensures.few in
    all_blank (cells_in c.args.size) c.self.inside.heads c.clear.new.self.attributes c.all-self-inside.result c.all-self-inside-2.result c.clear.new.self.codes true
    (λ cell low. c.clear.ensures.attributes cell (omega (arith, low, few)))
    (λ cell low. c.all-self-inside.ensures cell (omega (arith, low, few))) (λ cell low. c.all-self-inside-2.ensures cell (omega (arith, low, few)))
    c.clear.ensures.codes

pub returns-clause-size : goal.returns-clause-size
returns-clause-size c = ap length (returns-clause-nulls c) ∙ length-replicate (cells_in c.args.size) (blank true)

pub invariant_of-self : goal.invariant_of-self
invariant_of-self c =
    let n : ℕ = cells_in c.args.size in
    let few = c.clear.ensures.few in (
      c.self.invariant.0,
      ap length c.clear.ensures.codes ∙ length-replicate {A = ℕ} n 0 ∙ ap (λ (size : ScreenSize). cells_in size) (sym c.clear.ensures.size),
      rw c.clear.ensures.size few,
      blank_marked n c.self.inside.heads c.clear.new.self.attributes c.all-self-inside.result c.all-self-inside-2.result c.clear.new.self.codes true
          (λ cell low. c.clear.ensures.attributes cell (omega (arith, low, few)))
          (λ cell low. c.all-self-inside.ensures cell (omega (arith, low, few))) (λ cell low. c.all-self-inside-2.ensures cell (omega (arith, low, few)))
          c.clear.ensures.codes,
    )
