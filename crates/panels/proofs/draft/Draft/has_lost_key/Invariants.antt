use Rattle.std.proofs.Common.{◌≡◌, ◌<◌, ℕ, List, Some, slice_get, Bor}
use Rattle.panels.specs.Faults.{NamesPanel}
use Rattle.panels.proofs.draft.Draft.has_lost_key.Given as goal

abbrev pub invariant-loop-key : goal.invariant-loop-key
invariant-loop-key l = (j : ℕ) → j < l.key-index → (key : Bor (List ℕ) × Bor (List ℕ)) → slice_get l.key-items j ≡ Some key → ¬ ¬ NamesPanel key.1.now l.self.panels
