-- Which changes operator keys can make to the screen since the last write (our profile). `left` is the cells as the
-- write left them, `now` the cells after the keys.
use Rattle.std.specs.Prelude.{◌≡◌, ⊤, ◌<◌, ℕ, Bool, true, false, if◌then◌else◌, List, length, map, slice_index_or, Option, Some, None}
use Rattle.codes3270.specs.declared.attribute.Cell.{Cell}
use Rattle.codes3270.specs.declared.attribute.Cell.TheVariants.{Char, Attr}
use Rattle.codes3270.specs.declared.attribute.Attr.{Attr as Attribute}
use Rattle.datastream.specs.Screen.{attribute_over}
use Rattle.datastream.specs.Meaning.{opened, open_unmodified}

-- what a cell's character can be: the one that the write left, a null, or any
pub data Hold : Type 0 where
  Same : Hold
  Null : Hold
  Free : Hold

-- Fields that are protected, or unprotected with MDT off, have the characters that the write left; the latter have
-- nulls instead if `erased`: Erase Input was pressed. Unprotected fields with MDT on can have any characters.
abbrev pub hold_of : Bool → Attribute → Hold
hold_of erased attribute =
    if attribute.protected then Hold.Same else if attribute.mdt then Hold.Free else if erased then Hold.Null
    else Hold.Same

-- what a cell's character can be, by the attribute that governs the cell; without one, any character
abbrev pub hold_under : Bool → Option Attribute → Hold
hold_under erased None = Hold.Free
hold_under erased (Some attribute) = hold_of erased attribute

-- holds if a character is one that the cell can have
abbrev pub CharHeld : Hold → ℕ → ℕ → Type 0
CharHeld Hold.Same left now = now ≡ left
CharHeld Hold.Null left now = now ≡ 0
CharHeld Hold.Free left now = ⊤

-- an attribute with MDT off
abbrev pub without_mdt : Attribute → Attribute
without_mdt attribute = record attribute { mdt = false }

-- holds if keys keep an attribute; MDT of unprotected fields can be set by keys, and reset by Erase Input only
abbrev pub AttrHeld : Bool → Attribute → Attribute → Type 0
AttrHeld erased left now =
    (without_mdt now ≡ without_mdt left) × (now.protected ≡ true → now.mdt ≡ left.mdt)
    × (now.protected ≡ false → now.mdt ≡ false → erased ≡ false → left.mdt ≡ false)

-- holds if keys keep a cell; `over` is the attribute that governs it
abbrev pub CellHeld : Bool → Option Attribute → Cell → Cell → Type 0
CellHeld erased over (Char left) (Char now) = CharHeld (hold_under erased over) left now
CellHeld erased over (Char left) (Attr now) = ⊥
CellHeld erased over (Attr left) (Char now) = ⊥
CellHeld erased over (Attr left) (Attr now) = AttrHeld erased left now

-- holds if keys keep every cell; `erased` says whether Erase Input was pressed
pub record KeptByKeys (erased : Bool) (left now : List Cell) : Type 0 where
  pub same_length : length now ≡ length left
  pub each : (place : ℕ) → place < length now → CellHeld erased (attribute_over now place)
      (slice_index_or left place (Char 0)) (slice_index_or now place (Char 0))

-- the cells after Erase Input: nulls in the unprotected cells, and MDT off in their attributes
abbrev pub erased_input : List Cell → List Cell
erased_input cells = map open_unmodified (opened 0 (length cells) cells)
