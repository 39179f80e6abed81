-- What a search for faults has found so far (our profile; only for the contracts of private functions).
use Rattle.std.specs.Prelude.{◌≡◌, ◌⊎◌, ℕ, Bool, List, [], ◌∷◌, ◌++◌, length, All, Contains}
use Rattle.std.specs.List.{AllPairs}
use Rattle.panels.specs.Draft.{DraftText}
use Rattle.panels.specs.declared.fault.TreeFault.{TreeFault}
use Rattle.panels.specs.declared.fault.LocatedFault.{LocatedFault}
use Rattle.panels.specs.declared.fault.Location.{Location}
use Rattle.panels.specs.declared.fault.Location.TheVariants.{Panel, Text, Field}
use Rattle.panels.specs.Faults.{HasFault, IsFaulty, faults_of}
use Rattle.panels.specs.Items.{is_panel_letter, is_field_letter}
use Rattle.panels.specs.Turns.{panel_turn, kind_turn, item_turn, turn_of, IsSooner}
use Rattle.panels.specs.Listing.{IsBefore}

-- the turn before a pass looks for anything in a table
abbrev pub turn_at : ℕ → Location → List ℕ
turn_at pass part = pass ∷ panel_turn part ∷ kind_turn part ∷ item_turn part ∷ 0 ∷ []

-- the turn at which a pass looks in a table for the fault with a number among those that it looks for
abbrev pub turn_in : ℕ → Location → ℕ → List ℕ
turn_in pass part number = pass ∷ panel_turn part ∷ kind_turn part ∷ item_turn part ∷ number ∷ []

-- the turn after all that a pass looks for in a table
abbrev pub turn_behind : ℕ → Location → List ℕ
turn_behind pass part = turn_in pass part (length (faults_of pass))

-- what is found are the faults of the draft whose turn is sooner, and no others
pub record AreFoundTo (turn : List ℕ) (draft : DraftText) (found : List LocatedFault) : Type 0 where
  pub stand : All (λ at. IsFaulty at.fault at.part draft) found
  pub each : (fault : TreeFault) (part : Location) → IsSooner (turn_of fault part) turn → IsFaulty fault part draft
      → Contains found (record { fault = fault; part = part })
  pub sooner : All (λ at. IsSooner (turn_of at.fault at.part) turn) found
  pub in_order : AllPairs IsBefore found

-- holds if a fault is added when a table has it, and nothing when it doesn't
abbrev pub IsAdded : TreeFault → Location → DraftText → (old new : List LocatedFault) → Type 0
IsAdded fault part draft old new =
    (HasFault fault part draft × (new ≡ old ++ record { fault = fault; part = part } ∷ []))
    ⊎ ((¬ HasFault fault part draft) × (new ≡ old))

-- the item at another index of the same array
abbrev pub nth : Location → ℕ → Location
nth (Text p i) j = Text p j
nth (Field p i) j = Field p j
nth part j = part

-- whether the name of a panel, or of a field, may have the letter
abbrev pub is_letter_of : Location → ℕ → Bool
is_letter_of (Panel p) letter = is_panel_letter letter
is_letter_of _ letter = is_field_letter letter
