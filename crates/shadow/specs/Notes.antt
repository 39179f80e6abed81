-- What is believed after a note (our profile): a plain Write over characters of protected fields, or of no field.
use Rattle.std.specs.Prelude.{◌≡◌, ⊤, ℕ, true, false, List, [], length, map, Option, Some, None, All}
use Rattle.codes3270.specs.declared.attribute.Attr.{Attr as Attribute}
use Rattle.codes3270.specs.declared.attribute.Cell.{Cell}
use Rattle.datastream.specs.declared.command_code.CommandCode.TheVariants.{Write}
use Rattle.datastream.specs.Fields.{fields}
use Rattle.datastream.specs.Grammar.{CommandParts, IsSpelt}
use Rattle.datastream.specs.Meaning.{after_command}
use Rattle.datastream.specs.Note.{OverCharacters, WritesProtected}
use Rattle.datastream.specs.Screen.{Screen, attribute_over}
use Rattle.shadow.specs.Belief.{Shadow}
use Rattle.shadow.specs.Exactness.{IsOverCharacter, KnownIsExact, ProtectedIsExact}
use Rattle.shadow.specs.Meets.{Meets, Knows, ListsFields, IsTold}
use Rattle.shadow.specs.TextUnknown.{NothingIsOpen}
use Rattle.shadow.specs.Stores.{Store, stores, stores_unplaced, is_plain}
use Rattle.shadow.specs.Taken.{taken, resets}

-- holds if a cell that this attribute governs is in a protected field, or in no field
abbrev pub IsOutsideInput : Option Attribute → Type 0
IsOutsideInput None = ⊤
IsOutsideInput (Some attribute) = attribute.protected ≡ true

-- holds if a character is stored over a character of a protected field, or of no field
abbrev pub IsOverProtected : List Cell → Store → Type 0
IsOverProtected cells store = IsOverCharacter cells store × IsOutsideInput (attribute_over cells store.at)

-- holds if the command is a Write that stores only characters, all over characters of protected fields or of no field,
-- leaves each MDT as it is, and has its first SBA before its first character
pub record OverwritesProtected (command : CommandParts) (screen : Screen) : Type 0 where
  pub encoded : IsSpelt command
  pub plain : is_plain command ≡ true
  pub writes : command.code ≡ Write
  pub keeps_mdt : resets command.wcc ≡ false
  pub placed : stores_unplaced command.orders ≡ false
  pub over : All (IsOverProtected screen.cells) (stores (length screen.cells) 0 command.orders)

-- ---- what a note preserves

-- A note over protected characters is such a Write, and so is a note over characters of a screen without fields.
abbrev pub NoteOverwritesProtected : Type 0
NoteOverwritesProtected = (command : CommandParts) (screen : Screen) → IsSpelt command
    → WritesProtected command screen.cells → OverwritesProtected command screen

abbrev pub NoteOverwritesBare : Type 0
NoteOverwritesBare = (command : CommandParts) (screen : Screen) → IsSpelt command → fields screen.cells ≡ []
    → OverCharacters command screen.cells → OverwritesProtected command screen

-- A Write whose first SBA comes before its first cell preserves that something is known.
abbrev pub PlacedStaysKnown : Type 0
PlacedStaysKnown = (size : ℕ) (command : CommandParts) (shadow : Shadow) → command.code ≡ Write
    → stores_unplaced command.orders ≡ false
    → Knows shadow → Knows (taken size command shadow)

-- A note preserves that the belief lists the screen's fields.
abbrev pub NoteStaysListed : Type 0
NoteStaysListed = (command : CommandParts) (shadow : Shadow) (screen : Screen) → OverwritesProtected command screen
    → Meets shadow screen
    → ListsFields shadow screen
    → ListsFields (taken (length screen.cells) command shadow) (after_command command screen)

-- A note preserves that the texts of unprotected fields with MDT on are known.
abbrev pub NoteStaysTold : Type 0
NoteStaysTold = (command : CommandParts) (shadow : Shadow) (screen : Screen) → OverwritesProtected command screen
    → Meets shadow screen
    → IsTold shadow screen → IsTold (taken (length screen.cells) command shadow) (after_command command screen)

-- A note preserves that fields whose characters are all known, and protected fields, have exact facts.
abbrev pub NoteStaysExact : Type 0
NoteStaysExact = (command : CommandParts) (shadow : Shadow) (screen : Screen) → OverwritesProtected command screen
    → Meets shadow screen
    → KnownIsExact shadow → ProtectedIsExact shadow
    → KnownIsExact (taken (length screen.cells) command shadow)
    × ProtectedIsExact (taken (length screen.cells) command shadow)

-- A note preserves that no field is open.
abbrev pub NoteOpensNothing : Type 0
NoteOpensNothing = (command : CommandParts) (shadow : Shadow) (screen : Screen) → OverwritesProtected command screen
    → Meets shadow screen
    → NothingIsOpen shadow → NothingIsOpen (taken (length screen.cells) command shadow)

-- After a note on an unformatted screen that was wholly known, each cell is known.
abbrev pub NoteStaysWhole : Type 0
NoteStaysWhole = (command : CommandParts) (screen : Screen) (text : List ℕ) → OverwritesProtected command screen
    → Meets (Shadow.Unformatted (map Some text)) screen
    → (now : List ℕ)
    × (taken (length screen.cells) command (Shadow.Unformatted (map Some text)) ≡ Shadow.Unformatted (map Some now))
