use Rattle.std.proofs.Common.{◌∙◌, ap, ℕ, replicate}
use Rattle.std.proofs.lemmas.List.{take-replicate}
use Rattle.codes3270.specs.Size.{most_cells}
use Rattle.shadow.specs.Since.{never}
use Rattle.shadow.proofs.apply_write.write_over.Goals as goal

pub write_noting-requires-clause-pasts : goal.write_noting-requires-clause-pasts
write_noting-requires-clause-pasts c =
    take-replicate c.len-cells.result most_cells never c.len-cells.ensures.few ∙ ap (λ (n : ℕ). replicate n never) c.len-cells.ensures.len
