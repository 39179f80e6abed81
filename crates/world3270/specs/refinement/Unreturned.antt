-- Fields that Enter and PF keys don't return, cell by cell (our profile). Part (d) of the headline says it field by
-- field; the invariant that proves it uses this form.
use Rattle.std.specs.Prelude.{◌≡◌, ◌⊎◌, ◌<◌, ◌≤◌, ⊤, ℕ, Bool, if◌then◌else◌, List, length, slice_index_or, Option, Some, None}
use Rattle.codes3270.specs.declared.attribute.Attr.{Attr as Attribute}
use Rattle.codes3270.specs.declared.attribute.Cell.{Cell}
use Rattle.codes3270.specs.declared.attribute.Cell.TheVariants.{Char, Attr}
use Rattle.datastream.specs.Note.{IsProtectedChar}
use Rattle.datastream.specs.Screen.{attribute_over, is_char_at}
use Rattle.world3270.specs.statement.Headline.{IsUnmodified}

-- Holds if two screens have the same size, and attributes at the same addresses.
pub record SamePlaces (left now : List Cell) : Type 0 where
  pub size : length now ≡ length left
  pub kinds : (place : ℕ) → is_char_at now place ≡ is_char_at left place

-- Holds if the attribute that governs a cell, if one does, is that of an unmodified input field.
abbrev pub IsInUnmodified : Option Attribute → Type 0
IsInUnmodified None = ⊥
IsInUnmodified (Some attribute) = IsUnmodified attribute

-- Holds if the cell `now` is an attribute, or the character that was left, or a null if Erase Input was pressed.
abbrev pub IsKept : Bool → Cell → Cell → Type 0
IsKept erased left (Attr now) = ⊤
IsKept erased (Attr left) (Char now) = ⊥
IsKept erased (Char left) (Char now) = now ≡ (if erased then 0 else left)

-- Holds if each character of an unprotected field with MDT off is as it was left, or null if Erase Input was pressed.
pub record UnmodifiedIsKept (erased : Bool) (left now : List Cell) : Type 0 where
  pub places : SamePlaces left now
  pub each : (place : ℕ) → place < length now → IsInUnmodified (attribute_over now place)
      → IsKept erased (slice_index_or left place (Char 0)) (slice_index_or now place (Char 0))

-- Holds if notes were written over protected characters only, all at addresses after `row`, where the row of messages
-- begins; each other cell is as it was left.
pub record NotedSince (row : ℕ) (left shown : List Cell) : Type 0 where
  pub places : SamePlaces left shown
  pub each : (place : ℕ) → IsProtectedChar shown place
      ⊎ (slice_index_or shown place (Char 0) ≡ slice_index_or left place (Char 0))
  pub above : (place : ℕ) → place ≤ row → slice_index_or shown place (Char 0) ≡ slice_index_or left place (Char 0)
