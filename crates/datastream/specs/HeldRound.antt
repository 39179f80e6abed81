-- What operator keys keep (our profile), cell after cell, on a walk from address 0.
use Rattle.std.specs.Prelude.{⊤, Bool, false, if◌then◌else◌, List, [], ◌∷◌}
use Rattle.codes3270.specs.declared.attribute.Cell.{Cell}
use Rattle.codes3270.specs.declared.attribute.Cell.TheVariants.{Char, Attr}
use Rattle.datastream.specs.Screen.{last_attribute, protects}
use Rattle.datastream.specs.KeptByKeys.{Hold, hold_of, hold_under, CharHeld, AttrHeld}

-- holds if keys keep these cells; `hold` is for the field to which the first of them belong
abbrev pub HeldFrom : Bool → Hold → List Cell → List Cell → Type 0
HeldFrom erased hold [] [] = ⊤
HeldFrom erased hold [] (now ∷ nows) = ⊥
HeldFrom erased hold (left ∷ lefts) [] = ⊥
HeldFrom erased hold (Char left ∷ lefts) (Char now ∷ nows) = CharHeld hold left now × HeldFrom erased hold lefts nows
HeldFrom erased hold (Char left ∷ lefts) (Attr now ∷ nows) = ⊥
HeldFrom erased hold (Attr left ∷ lefts) (Char now ∷ nows) = ⊥
HeldFrom erased hold (Attr left ∷ lefts) (Attr now ∷ nows) = AttrHeld erased left now
    × HeldFrom erased (hold_of erased now) lefts nows

-- holds if keys keep the whole screen; the cells before the first attribute belong to the field of the last one
abbrev pub HeldRound : Bool → List Cell → List Cell → Type 0
HeldRound erased left now = HeldFrom erased (hold_under erased (last_attribute now)) left now

-- the cells after Erase Input; `protected` says whether the first of them belong to a protected field
abbrev pub erased_from : Bool → List Cell → List Cell
erased_from protected [] = []
erased_from protected (Char byte ∷ cells) = Char (if protected then byte else 0) ∷ erased_from protected cells
erased_from protected (Attr attribute ∷ cells) =
    Attr (record attribute { mdt = if attribute.protected then attribute.mdt else false })
    ∷ erased_from attribute.protected cells

-- the whole screen after Erase Input
abbrev pub erased_round : List Cell → List Cell
erased_round cells = erased_from (protects (last_attribute cells)) cells
