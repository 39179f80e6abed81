-- What notes keep (our profile): attributes, other cells, and what keys kept; and that other notes can follow.
use Rattle.std.specs.Prelude.{◌≡◌, ℕ, Bool, false, List, length, map, slice_index_or, All}
use Rattle.std.specs.List.{Contains}
use Rattle.codes3270.specs.declared.attribute.Cell.{Cell}
use Rattle.codes3270.specs.declared.attribute.Cell.TheVariants.{Char}
use Rattle.datastream.specs.Grammar.{CommandParts, IsProper}
use Rattle.datastream.specs.Screen.{Screen, attribute_in, attribute_over, is_protected}
use Rattle.datastream.specs.FieldLaws.{attribute_places}
use Rattle.datastream.specs.Meaning.{after_command}
use Rattle.datastream.specs.KeptByKeys.{KeptByKeys}
use Rattle.datastream.specs.InboundFields.{IsSendable}
use Rattle.datastream.specs.Note.{IsNote, OverCharacters, WritesProtected, places_noted}

-- holds if `after` has the attributes of `before`, and the characters too, except at the places that the note writes
pub record SameForm (command : CommandParts) (before after : Screen) : Type 0 where
  pub attributes : map attribute_in after.cells ≡ map attribute_in before.cells
  pub places : attribute_places after.cells ≡ attribute_places before.cells
  pub over : (at : ℕ) → attribute_over after.cells at ≡ attribute_over before.cells at
  pub elsewhere : (at : ℕ) → (Contains (places_noted (length before.cells) command) at → ⊥)
      → slice_index_or after.cells at (Char 0) ≡ slice_index_or before.cells at (Char 0)

-- holds if two screens have the same size, cursor and AID
pub record SameBounds (before after : Screen) : Type 0 where
  pub size : length after.cells ≡ length before.cells
  pub cursor : after.cursor ≡ before.cursor
  pub aid : after.aid ≡ before.aid

-- A note keeps the size, the cursor and the AID of any screen.
abbrev pub NoteKeepsBounds : Type 0
NoteKeepsBounds = (command : CommandParts) (screen : Screen) → IsNote command
    → SameBounds screen (after_command command screen)

-- A note over characters keeps all attributes, and all cells that it doesn't write.
abbrev pub NoteKeepsForm : Type 0
NoteKeepsForm = (command : CommandParts) (screen : Screen) → OverCharacters command screen.cells
    → SameForm command screen (after_command command screen)

-- A note over characters of protected fields keeps all unprotected cells.
abbrev pub NoteLeavesUnprotected : Type 0
NoteLeavesUnprotected = (command : CommandParts) (screen : Screen) → WritesProtected command screen.cells
    → (at : ℕ) → is_protected screen.cells at ≡ false
    → slice_index_or (after_command command screen).cells at (Char 0) ≡ slice_index_or screen.cells at (Char 0)

-- A note keeps a screen sendable.
abbrev pub NoteKeepsSendable : Type 0
NoteKeepsSendable = (command : CommandParts) (screen : Screen) → IsNote command
    → All (IsProper (length screen.cells)) command.orders → IsSendable screen
    → IsSendable (after_command command screen)

-- If keys kept what a write left, and a note over characters of protected fields is written on both screens, then the
-- keys' screen still differs only by what keys can change.
abbrev pub NoteKeepsHeld : Type 0
NoteKeepsHeld = (erased : Bool) (command : CommandParts) (left now : Screen) → WritesProtected command left.cells
    → KeptByKeys erased left.cells now.cells
    → KeptByKeys erased (after_command command left).cells (after_command command now).cells

-- If a note is over characters of protected fields on the screen that was left, it is so after the keys.
abbrev pub HeldStaysProtected : Type 0
HeldStaysProtected = (erased : Bool) (command : CommandParts) (left now : List Cell) → WritesProtected command left
    → KeptByKeys erased left now
    → WritesProtected command now

-- A note over characters of protected fields is a note over characters.
abbrev pub ProtectedAreCharacters : Type 0
ProtectedAreCharacters = (command : CommandParts) (cells : List Cell) → WritesProtected command cells
    → OverCharacters command cells

-- Notes compose: if a note can be written over a screen's characters, it can also be after another note or itself.
abbrev pub NotesCompose : Type 0
NotesCompose = (note other : CommandParts) (screen : Screen) → OverCharacters note screen.cells
    → (WritesProtected other screen.cells → WritesProtected other (after_command note screen).cells)
    × (OverCharacters other screen.cells → OverCharacters other (after_command note screen).cells)
