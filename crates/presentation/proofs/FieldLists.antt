-- The list of fields as a walk over the cells finds it, and the screen that has none.
use Rattle.std.proofs.Common.{◌≡◌, ℕ, ◌+◌, ◌&&◌, not, Bool, true, false, List, [], ◌∷◌, ◌++◌, take, drop, map, None, sym, ◌∙◌, ap, refl}
use Rattle.std.specs.List.{list_all}
use Rattle.std.proofs.lemmas.List.{take-append-drop}
use Rattle.std.proofs.lemmas.List.Folds.{list_all-append}
use Rattle.codes3270.specs.declared.attribute.Cell.{Cell}
use Rattle.codes3270.specs.declared.attribute.Cell.TheVariants.{Char, Attr}
use Rattle.datastream.specs.Screen.{attribute_over, last_attribute, is_char, places_from}
use Rattle.datastream.specs.Fields as found
use Rattle.presentation.specs.Fields.{listed, listed_fields, field_of, fields_from}

-- ---- a screen without fields

pub last_attribute-none : (cells : List Cell) → list_all is_char cells ≡ true → last_attribute cells ≡ None
last_attribute-none [] e = refl
last_attribute-none (Char byte ∷ cells) e = rw (last_attribute-none cells e)
last_attribute-none (Attr attribute ∷ cells) e = cc

pub attribute_over-none : (cells : List Cell) (at : ℕ) → list_all is_char cells ≡ true → attribute_over cells at ≡ None
attribute_over-none cells at e =
    let whole : list_all is_char (take (at + 1) cells ++ drop (at + 1) cells) ≡ true = rw (take-append-drop (at + 1) cells) e in
    let parts : (list_all is_char (take (at + 1) cells) && list_all is_char (drop (at + 1) cells)) ≡ true =
    sym (list_all-append is_char (take (at + 1) cells) (drop (at + 1) cells)) ∙ whole in
    let round : list_all is_char (drop (at + 1) cells ++ take (at + 1) cells) ≡ true =
    list_all-append is_char (drop (at + 1) cells) (take (at + 1) cells) ∙ other_order (list_all is_char (take (at + 1) cells)) (list_all is_char (drop (at + 1) cells)) parts in
    last_attribute-none (drop (at + 1) cells ++ take (at + 1) cells) round
  where
    other_order : (p q : Bool) → (p && q) ≡ true → (q && p) ≡ true
    other_order true true e = refl
    other_order true false e = e
    other_order false q e = cc

-- ---- the list of fields

fields_listed_from : (cells : List Cell) (at : ℕ) (rest : List Cell) → map listed (found.fields_from cells at rest) ≡ map (field_of cells) (places_from (λ cell. not (is_char cell)) at rest)
fields_listed_from cells at [] = refl
fields_listed_from cells at (Char byte ∷ rest) = fields_listed_from cells (at + 1) rest
fields_listed_from cells at (Attr attribute ∷ rest) = ap (λ others. field_of cells at ∷ others) (fields_listed_from cells (at + 1) rest)

pub fields_listed : (cells : List Cell) → listed_fields cells ≡ fields_from cells 0
fields_listed cells = fields_listed_from cells 0 cells
