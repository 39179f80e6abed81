use Rattle.std.proofs.Common.{◌≡◌, ◌+◌, ◌++◌, drop}
use Rattle.shadow.specs.Since.{cells_written, is_touched}
use Rattle.shadow.proofs.apply_write.is_field_touched.Given as goal

abbrev pub invariant-loop-at : goal.invariant-loop-at
invariant-loop-at l =
    is_touched (drop (l.place + 1) (cells_written l.beliefs l.pasts) ++ cells_written l.beliefs l.pasts) (drop (l.place + 1) l.pasts ++ l.pasts)
    ≡ is_touched (drop l.at (cells_written l.beliefs l.pasts) ++ cells_written l.beliefs l.pasts) (drop l.at l.pasts ++ l.pasts)

abbrev pub invariant-loop-at-2 : goal.invariant-loop-at-2
invariant-loop-at-2 l =
    is_touched (drop (l.place + 1) (cells_written l.beliefs l.pasts) ++ cells_written l.beliefs l.pasts) (drop (l.place + 1) l.pasts ++ l.pasts)
    ≡ is_touched (drop l.at (cells_written l.beliefs l.pasts)) (drop l.at l.pasts)
