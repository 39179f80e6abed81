-- The protected part of a screen is as the host's last restoring write left it, but for the message row (our profile).
use Rattle.std.specs.Prelude.{◌≡◌, ◌≤◌, ℕ, true, List, length, Option, option_map, slice_index_or}
use Rattle.codes3270.specs.declared.attribute.Attr.{Attr as Attribute}
use Rattle.codes3270.specs.declared.attribute.Cell.{Cell}
use Rattle.codes3270.specs.declared.attribute.Cell.TheVariants.{Char}
use Rattle.datastream.specs.KeptByKeys.{without_mdt}
use Rattle.datastream.specs.Screen.{attribute_in, is_protected}

-- the attribute at an address (0-based), with MDT off; None if a character is there
abbrev pub attribute_at : List Cell → ℕ → Option Attribute
attribute_at cells place = option_map without_mdt (attribute_in (slice_index_or cells place (Char 0)))

-- Holds if `now` has attributes at the addresses of `left`, equal but for MDT; and if each protected cell up to address
-- `row`, where the row of messages begins with an attribute, is equal on both (a protected attribute with its MDT).
pub record ProtectedIsAsLeft (row : ℕ) (left now : List Cell) : Type 0 where
  pub size : length now ≡ length left
  pub attributes : (place : ℕ) → attribute_at now place ≡ attribute_at left place
  pub cells : (place : ℕ) → place ≤ row → is_protected now place ≡ true
      → slice_index_or now place (Char 0) ≡ slice_index_or left place (Char 0)
