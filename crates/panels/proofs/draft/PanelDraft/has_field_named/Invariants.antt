use Rattle.std.proofs.Common.{◌≡◌, ◌<◌, ℕ, Some, slice_get}
use Rattle.panels.specs.Draft.{DraftItem}
use Rattle.panels.proofs.draft.PanelDraft.has_field_named.Given as goal

abbrev pub invariant-loop-field : goal.invariant-loop-field
invariant-loop-field l = (j : ℕ) → j < l.field-index → (field : DraftItem) → slice_get l.field-items j ≡ Some field → ¬ (field.name ≡ l.name)
