-- All faults of a panel text (our profile).
use Rattle.std.specs.Prelude.{List, [], ◌∷◌, All, Contains}
use Rattle.std.specs.List.{AllPairs}
use Rattle.panels.specs.declared.fault.TreeFault.{TreeFault}
use Rattle.panels.specs.declared.fault.Location.{Location}
use Rattle.panels.specs.declared.fault.LocatedFault.{LocatedFault}
use Rattle.panels.specs.Draft.{DraftText}
use Rattle.panels.specs.Faults.{IsFaulty, place_of, table_of}
use Rattle.panels.specs.Passes.{IsFaultless}
use Rattle.panels.specs.Turns.{turn_of, IsFirstFault, IsSooner}

-- holds if one fault is looked for before another
abbrev pub IsBefore : LocatedFault → LocatedFault → Type 0
IsBefore one other = IsSooner (turn_of one.fault one.part) (turn_of other.fault other.part)

-- the list has the faults of a draft, each once, in the order in which they are looked for
pub record AreFaultsOf (draft : DraftText) (found : List LocatedFault) : Type 0 where
  pub stand : All (λ at. IsFaulty at.fault at.part draft) found
  pub each : (fault : TreeFault) (part : Location) → IsFaulty fault part draft
      → Contains found (record { fault = fault; part = part })
  pub in_order : AllPairs IsBefore found

-- The head of that list is the draft's first fault; a draft with an empty list is faultless.
abbrev pub FaultsBeginWithTheFirst : Type 0
FaultsBeginWithTheFirst =
    (draft : DraftText) (first : LocatedFault) (more : List LocatedFault) → AreFaultsOf draft (first ∷ more)
    → IsFirstFault first.fault (place_of (table_of first.part draft.panels)) draft

abbrev pub NoFaultsAreFaultless : Type 0
NoFaultsAreFaultless = (draft : DraftText) → AreFaultsOf draft [] → IsFaultless draft
