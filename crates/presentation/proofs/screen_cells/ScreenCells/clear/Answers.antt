use Rattle.std.proofs.Common.{◌≤◌, ◌∙◌, ℕ, length, ap, sym, subst, arith}
use Rattle.std.proofs.lemmas.List.{length-replicate}
use Rattle.codes3270.specs.Size.{ScreenSize, cells_in, most_cells}
use Rattle.presentation.proofs.KeptCells.{nulls_kept, nulls_coded}
use Rattle.presentation.proofs.screen_cells.ScreenCells.clear.Goals as goal

pub returns : goal.returns
returns c =
    let few = c.clear.ensures.few in
    nulls_kept (cells_in c.args.size) c.clear.new.self.attributes c.clear.new.self.codes c.clear.ensures.codes (λ at low. c.clear.ensures.attributes at (omega (arith, low, few)))

pub invariant_of-self : goal.invariant_of-self
invariant_of-self c =
    let few = c.clear.ensures.few in
    let shape = ap (λ (size : ScreenSize). cells_in size) c.clear.ensures.size in
    record {
      size = ap length c.clear.ensures.codes ∙ length-replicate {A = ℕ} (cells_in c.args.size) 0 ∙ sym shape;
      few = subst (λ (count : ℕ). count ≤ most_cells) (sym shape) few;
      codes = nulls_coded (cells_in c.args.size) c.clear.new.self.attributes c.clear.new.self.codes c.clear.ensures.codes (λ at low. c.clear.ensures.attributes at (omega (arith, low, few)));
    }
