-- The attribute carried along in a walk over the cells, and whether a cell is free under it.
use Rattle.std.proofs.Common.{◌≡◌, ℕ, ◌+◌, ◌%◌, ◌<◌, ◌&&◌, not, List, length, get_or, Option, sym, ◌∙◌}
use Rattle.std.specs.Option.{option_or}
use Rattle.codes3270.specs.declared.attribute.Cell.{Cell}
use Rattle.codes3270.specs.declared.attribute.Cell.TheVariants.{Char}
use Rattle.codes3270.specs.declared.attribute.Attr.{Attr as Attribute}
use Rattle.datastream.specs.Screen.{attribute_in, attribute_over, last_attribute, ring, is_char, protects}
use Rattle.datastream.proofs.Fields.{attribute_over_is, attribute_before_next}
use Rattle.keyboard.specs.Places.{is_free_at}

-- the attribute over the cells before a cell, that cell, and the attribute over it
pub record IsCarried (cells : List Cell) (place : ℕ) (cell : Cell) (over : Option Attribute) : Type 0 where
  pub free : (is_char cell && not (protects over)) ≡ is_free_at cells place
  pub next : over ≡ last_attribute (ring ((place + 1) % length cells) cells)

pub carried : (cells : List Cell) (place : ℕ) (cell : Cell) (before over : Option Attribute) → place < length cells → cell ≡ get_or cells place (Char 0)
    → before ≡ last_attribute (ring place cells) → over ≡ option_or (attribute_in cell) before → IsCarried cells place cell over
carried cells place cell before over below read behind is =
    let here : over ≡ attribute_over cells place = is ∙ rw (read, behind) (sym (attribute_over_is cells place (Char 0) below)) in
    record {
      free = rw (read, here);
      next = here ∙ sym (attribute_before_next cells place below);
    }
