-- Laws of notes, for proofs in other crates (our profile): which screens take notes, and what preserves that.
use Rattle.std.specs.Prelude.{◌≡◌, ℕ, Bool, true, List, [], ◌∷◌, length, drop, map, All}
use Rattle.std.specs.List.{list_all}
use Rattle.codes3270.specs.Size.{ScreenSize, cells_in}
use Rattle.codes3270.specs.declared.attribute.Cell.{Cell}
use Rattle.codes3270.specs.declared.attribute.Cell.TheVariants.{Char, Attr}
use Rattle.datastream.specs.Grammar.{CommandParts, IsProper}
use Rattle.datastream.specs.KeptByKeys.{KeptByKeys}
use Rattle.datastream.specs.Note.{IsNote, OverCharacters, WritesProtected}
use Rattle.datastream.specs.Screen.{Screen, attribute_in, is_char}
use Rattle.datastream.specs.Wanted.{WantedScreen}
use Rattle.shadow.specs.Belief.{Shadow}
use Rattle.shadow.specs.Notes.{OverwritesProtected}
use Rattle.shadow.specs.Painted.{plainly_painted}
use Rattle.host_core.specs.Application.{IsValidSize, message_place}
use Rattle.host_core.specs.Laws.{IsPaintable}
use Rattle.host_core.specs.Notes.{IsNoteText, note_command}

-- holds for a protected field: its attribute, then characters to the end
abbrev pub IsProtectedRow : List Cell → Type 0
IsProtectedRow [] = ⊥
IsProtectedRow (Char byte ∷ cells) = ⊥
IsProtectedRow (Attr attribute ∷ cells) = (attribute.protected ≡ true) × (list_all is_char cells ≡ true)

-- holds if the last row is such a field
abbrev pub HasMessageRow : ScreenSize → List Cell → Type 0
HasMessageRow size cells = IsProtectedRow (drop (message_place size) cells)

-- holds if there is no field at all, as after Clear
abbrev pub HasNoFields : List Cell → Type 0
HasNoFields cells = list_all is_char cells ≡ true

-- holds for a screen of the size that notes may be written on
pub data TakesNotes (size : ScreenSize) (cells : List Cell) : Type 0 where
  formatted : HasMessageRow size cells → TakesNotes size cells
  unformatted : HasNoFields cells → TakesNotes size cells

-- holds for the command of a note with some text, on a screen of this size
pub record IsNoteOf (size : ScreenSize) (command : CommandParts) : Type 0 where
  pub text : List ℕ
  pub is_text : IsNoteText text
  pub is : command ≡ note_command size text

-- ---- what notes are

-- Holds for a command that is a note, with characters that a cell can hold.
pub record IsProperNote (command : CommandParts) : Type 0 where
  pub note : IsNote command
  pub proper : All (IsProper (cells_in command.size)) command.orders

-- holds if the command of each text's note is such a note
abbrev pub NotesAreNotes : Type 0
NotesAreNotes = (size : ScreenSize) (command : CommandParts) → IsValidSize size → IsNoteOf size command
    → IsProperNote command

-- Holds if on a screen that takes notes a note writes over characters of protected fields or of none.
abbrev pub NotesOverwrite : Type 0
NotesOverwrite = (size : ScreenSize) (command : CommandParts) (screen : Screen) → IsValidSize size
    → IsNoteOf size command
    → length screen.cells ≡ cells_in size
    → TakesNotes size screen.cells → OverwritesProtected command screen

-- holds if on a screen that takes notes a note writes over characters only
abbrev pub NotesAreOverCharacters : Type 0
NotesAreOverCharacters = (size : ScreenSize) (command : CommandParts) (cells : List Cell) → IsValidSize size
    → IsNoteOf size command → length cells ≡ cells_in size
    → TakesNotes size cells → OverCharacters command cells

-- Holds if a note writes only over characters of the last row's protected field, if the last row is for messages.
abbrev pub NotesWriteProtected : Type 0
NotesWriteProtected = (size : ScreenSize) (command : CommandParts) (cells : List Cell) → IsValidSize size
    → IsNoteOf size command
    → length cells ≡ cells_in size
    → HasMessageRow size cells → WritesProtected command cells

-- ---- which screens take notes

-- Holds if a painted screen has its last row for messages, whatever was there before.
abbrev pub PaintsTakeNotes : Type 0
PaintsTakeNotes = (size : ScreenSize) (shadow : Shadow) (wanted : WantedScreen) (screen : Screen)
    → IsPaintable size shadow wanted
    → HasMessageRow size (plainly_painted wanted screen).cells

-- holds if what keys leave of such a screen has it too
abbrev pub HeldTakesNotes : Type 0
HeldTakesNotes = (size : ScreenSize) (erased : Bool) (left now : List Cell) → KeptByKeys erased left now
    → HasMessageRow size left
    → HasMessageRow size now

-- holds if a screen with the same attributes in the same places has it too
abbrev pub SameAttributesTakeNotes : Type 0
SameAttributesTakeNotes = (size : ScreenSize) (before after : List Cell)
    → map attribute_in after ≡ map attribute_in before
    → HasMessageRow size before → HasMessageRow size after
