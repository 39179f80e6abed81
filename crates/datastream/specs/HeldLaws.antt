-- What operator keys keep (our profile): two equal definitions, and how several keys compose.
use Rattle.std.specs.Prelude.{◌↔◌, ◌||◌, Bool, true, false, List}
use Rattle.codes3270.specs.declared.attribute.Cell.{Cell}
use Rattle.datastream.specs.KeptByKeys.{KeptByKeys, erased_input}
use Rattle.datastream.specs.HeldRound.{HeldRound}

-- The definition by address equals the one by a walk from address 0.
abbrev pub HeldIsRound : Type 0
HeldIsRound = (erased : Bool) (left now : List Cell) → KeptByKeys erased left now ↔ HeldRound erased left now

-- Before any key, the screen is the one that the write left.
abbrev pub HeldAtFirst : Type 0
HeldAtFirst = (cells : List Cell) → KeptByKeys false cells cells

-- If some keys kept a screen and others kept the result, then all of them together kept the first screen.
abbrev pub HeldComposes : Type 0
HeldComposes = (erased more : Bool) (left mid now : List Cell) → KeptByKeys erased left mid → KeptByKeys more mid now
    → KeptByKeys (erased || more) left now

-- Erase Input makes only the changes that `KeptByKeys true` allows.
abbrev pub EraseInputHolds : Type 0
EraseInputHolds = (cells : List Cell) → KeptByKeys true cells (erased_input cells)
