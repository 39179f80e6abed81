use Rattle.std.proofs.Common.{◌<◌, ℕ, Some, true, ◌≡◌}
use Rattle.panels.specs.Draft.{DraftItem}
use Rattle.panels.specs.Faults.{Overlaps, item_at}
use Rattle.panels.specs.Items.{IsExtentOf, is_on_screen}
use Rattle.panels.specs.Walk.{nth}
use Rattle.panels.proofs.draft.Draft.overlaps_any.Given as goal

abbrev pub invariant-loop-index : goal.invariant-loop-index
invariant-loop-index l = (j : ℕ) → j < l.index → (item other : DraftItem) → (is_on_screen l.size item ≡ true) × IsExtentOf l.size item l.extent → item_at (nth l.array j) l.self.panels ≡ Some other → ¬ Overlaps l.size item other
