-- The fields of a screen as a list (GA23-0059-07 on fields), in the order of their attributes' addresses.
use Rattle.std.specs.Prelude.{◌≡◌, ℕ, ◌+◌, List, [], ◌∷◌}
use Rattle.codes3270.specs.declared.attribute.Cell.{Cell}
use Rattle.codes3270.specs.declared.attribute.Cell.TheVariants.{Char, Attr}
use Rattle.codes3270.specs.declared.attribute.Attr.{Attr as Attribute}
use Rattle.datastream.specs.Screen.{field_text}

-- a field: the address of its attribute, the attribute, and its characters
pub record Field : Type 0 where
  pub place : ℕ
  pub attr : Attribute
  pub text : List ℕ

-- the fields of `cells` whose attributes are in `rest`, which is the cells from address `at` on
abbrev pub fields_from : List Cell → ℕ → List Cell → List Field
fields_from cells at [] = []
fields_from cells at (Char byte ∷ rest) = fields_from cells (at + 1) rest
fields_from cells at (Attr attribute ∷ rest) =
    record { place = at; attr = attribute; text = field_text cells at } ∷ fields_from cells (at + 1) rest

-- all fields of a screen with these cells
abbrev pub fields : List Cell → List Field
fields cells = fields_from cells 0 cells

-- holds if the screen has a field
abbrev pub IsFormatted : List Cell → Type 0
IsFormatted cells = fields cells ≡ [] → ⊥

-- holds if the screen has no field
abbrev pub IsUnformatted : List Cell → Type 0
IsUnformatted cells = fields cells ≡ []
