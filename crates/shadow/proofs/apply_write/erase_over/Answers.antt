use Rattle.std.proofs.Common.{◌∙◌, ap, ℕ, replicate}
use Rattle.std.proofs.lemmas.List.{take-replicate}
use Rattle.codes3270.specs.Size.{ScreenSize, cells_in, most_cells}
use Rattle.shadow.specs.Since.{stored_past}
use Rattle.shadow.proofs.apply_write.erase_over.Goals as goal

pub write_on_nulls-requires-clause-pasts : goal.write_on_nulls-requires-clause-pasts
write_on_nulls-requires-clause-pasts c =
    take-replicate c.len-cells.result most_cells stored_past c.len-cells.ensures.few
    ∙ ap (λ (n : ℕ). replicate n stored_past) (c.len-cells.ensures.len ∙ c.clear.ensures.size ∙ ap (λ (size : ScreenSize). cells_in size) c.size.ensures.size)
