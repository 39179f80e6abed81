-- The screen after a wanted screen has been painted on it (our profile).
use Rattle.std.specs.Prelude.{◌==◌, suc, ℕ, Bool, true, false, List, [], ◌∷◌, ◌++◌, length, replicate, if◌then◌else◌}
use Rattle.codes3270.specs.declared.attention.Aid.TheVariants.{NoAid}
use Rattle.codes3270.specs.declared.attribute.Attr.{Attr as Attribute}
use Rattle.codes3270.specs.declared.attribute.Cell.{Cell}
use Rattle.codes3270.specs.declared.attribute.Cell.TheVariants.{Char, Attr}
use Rattle.datastream.specs.Screen.{Screen}
use Rattle.datastream.specs.Wanted.{WantedScreen}
use Rattle.datastream.specs.Meaning.{unmodified}
use Rattle.datastream.specs.declared.wanted.Want.{Want}
use Rattle.datastream.specs.declared.wanted.Want.TheVariants.{Char as WantChar, Attr as WantAttr, Keep}

-- whether a Keep comes before the first attribute
abbrev pub keeps_ahead : List Want → Bool
keeps_ahead [] = false
keeps_ahead (WantChar byte ∷ wants) = keeps_ahead wants
keeps_ahead (Keep ∷ wants) = true
keeps_ahead (WantAttr attribute ∷ wants) = false

-- how many cells come before the first attribute
abbrev pub count_ahead : List Want → ℕ
count_ahead [] = 0
count_ahead (WantChar byte ∷ wants) = suc (count_ahead wants)
count_ahead (Keep ∷ wants) = suc (count_ahead wants)
count_ahead (WantAttr attribute ∷ wants) = 0

-- the attribute of a field on the painted screen: the one that is there, with MDT off if it is reset, if the field is
-- kept; else the wanted one
abbrev pub attr_or_kept : Bool → Bool → Attribute → Cell → Cell
attr_or_kept keeps reset attribute there = if keeps then (if reset then unmodified there else there) else Attr attribute

-- the painted cells: each is the wanted one, or the one that is there; `rest`: the part of `whole` that is wanted here
abbrev pub painted_from : Bool → List Want → List Want → List Cell → List Cell
painted_from reset whole [] cells = []
painted_from reset whole (want ∷ rest) [] = []
painted_from reset whole (WantChar byte ∷ rest) (there ∷ cells) = Char byte ∷ painted_from reset whole rest cells
painted_from reset whole (Keep ∷ rest) (there ∷ cells) = there ∷ painted_from reset whole rest cells
painted_from reset whole (WantAttr attribute ∷ rest) (there ∷ cells) =
    attr_or_kept (keeps_ahead (rest ++ whole)) reset attribute there ∷ painted_from reset whole rest cells

-- the cells that a paint of `size` cells writes on: those that are there if they are as many, else nulls
abbrev pub cells_under : ℕ → List Cell → List Cell
cells_under size cells = if length cells == size then cells else replicate size (Char 0)

-- the wanted screen, painted on a screen of any size
abbrev pub plainly_painted : WantedScreen → Screen → Screen
plainly_painted wanted screen = record {
  cells = painted_from wanted.reset wanted.cells wanted.cells (cells_under (length wanted.cells) screen.cells);
  cursor = wanted.cursor;
  aid = NoAid;
}
