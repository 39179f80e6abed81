-- What a key keeps of the cells (our profile).
use Rattle.std.specs.Prelude.{◌≡◌, ◌||◌, Bool, true, false, List, length, replicate}
use Rattle.codes3270.specs.declared.attention.Aid.{Aid}
use Rattle.codes3270.specs.declared.attention.Aid.TheVariants.{NoAid, Enter as EnterAid, Pf as PfAid, Pa as PaAid, Clear as ClearAid}
use Rattle.codes3270.specs.declared.attribute.Cell.{Cell}
use Rattle.codes3270.specs.declared.attribute.Cell.TheVariants.{Char}
use Rattle.datastream.specs.KeptByKeys.{KeptByKeys, erased_input}
use Rattle.keyboard.specs.declared.key.Key.{Key}
use Rattle.keyboard.specs.declared.key.Key.TheVariants.{EraseInput}
use Rattle.keyboard.specs.declared.key.Pressed.{Pressed}
use Rattle.keyboard.specs.declared.key.Pressed.TheVariants.{Done, Refused, Send}

-- ---- of the cells that it found: those before it are `left`, those after it `now`

-- holds if these are the cells before and after a key that was done and sends nothing
abbrev pub LeavesDone : Key → List Cell → List Cell → Type 0
LeavesDone EraseInput left now = now ≡ erased_input left
LeavesDone _ left now = KeptByKeys false left now

-- holds if these are the cells before and after a key that sends this AID
abbrev pub LeavesSent : Aid → List Cell → List Cell → Type 0
LeavesSent ClearAid left now = now ≡ replicate (length left) (Char 0)
LeavesSent NoAid left now = ⊥
LeavesSent EnterAid left now = now ≡ left
LeavesSent (PfAid key) left now = now ≡ left
LeavesSent (PaAid key) left now = now ≡ left

-- holds if these are the cells before and after a key with this result
abbrev pub Leaves : Key → Pressed → List Cell → List Cell → Type 0
Leaves key Done left now = LeavesDone key left now
Leaves key (Refused why) left now = now ≡ left
Leaves key (Send aid) left now = LeavesSent aid left now

-- ---- of the cells that the last write left: those are `left`, and `erased` says whether Erase Input was pressed since

-- whether a key is Erase Input
abbrev pub erases : Key → Bool
erases EraseInput = true
erases _ = false

-- holds if, after a key that sends this AID, the cells are what keys can make of those that the write left
abbrev pub KeepsSent : Bool → Aid → List Cell → List Cell → Type 0
KeepsSent erased ClearAid left now = now ≡ replicate (length left) (Char 0)
KeepsSent erased NoAid left now = ⊥
KeepsSent erased EnterAid left now = KeptByKeys erased left now
KeepsSent erased (PfAid key) left now = KeptByKeys erased left now
KeepsSent erased (PaAid key) left now = KeptByKeys erased left now

-- holds if, after a key with this result, the cells are what keys can make of those that the write left
abbrev pub Keeps : Bool → Key → Pressed → List Cell → List Cell → Type 0
Keeps erased key Done left now = KeptByKeys (erased || erases key) left now
Keeps erased key (Refused why) left now = KeptByKeys erased left now
Keeps erased key (Send aid) left now = KeepsSent erased aid left now
