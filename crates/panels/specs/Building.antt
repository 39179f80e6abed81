-- What is built from a faultless draft (our profile; only for the contracts of private functions).
use Rattle.std.specs.Prelude.{◌≡◌, ℕ, List, length, Option, Some, option_and_then, slice_get}
use Rattle.panels.specs.declared.fault.Location.TheVariants as part
use Rattle.panels.specs.Draft.{DraftItem, DraftPanel}
use Rattle.panels.specs.Faults.{item_at}
use Rattle.panels.specs.Defines.{IsTargetBy, text_at_key}

-- holds if the item is a text of some panel
abbrev pub IsTextIn : List DraftPanel → DraftItem → Type 0
IsTextIn panels item = (p : ℕ) × (i : ℕ) × (item_at (part.Text p i) panels ≡ Some item)

-- the index of the panel that each key of a list of names leads to, if any
pub record AreTargetsOf (panels : List DraftPanel) (panel : DraftPanel) (names : List (List ℕ))
    (targets : List (Option ℕ)) : Type 0 where
  pub size : length targets ≡ length names
  pub are : (k : ℕ) (target : Option ℕ) → slice_get targets k ≡ Some target
      → IsTargetBy panels (option_and_then (λ name. text_at_key name panel.keys) (slice_get names k)) target
