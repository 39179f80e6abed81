-- The laws of beliefs (our profile): after inbound data, writes and paints the belief is true of the screen. That Clear
-- leaves nulls, and other keys what was typed, is GA23-0059-07 on attention keys.
use Rattle.std.specs.Prelude.{◌≡◌, ◌⊎◌, ◌≤◌, ◌+◌, ◌*◌, ℕ, Bool, true, false, List, length, replicate, Some, slice_get, IsOkAnd}
use Rattle.codes3270.specs.declared.attention.Aid.{Aid}
use Rattle.codes3270.specs.declared.attention.Aid.TheVariants.{NoAid, Enter, Clear, Pf, Pa}
use Rattle.codes3270.specs.declared.attribute.Cell.{Cell}
use Rattle.codes3270.specs.declared.attribute.Attr.{Attr as Attribute}
use Rattle.codes3270.specs.declared.attribute.Cell.TheVariants.{Char, Attr}
use Rattle.codes3270.specs.Aid.{is_short_aid}
use Rattle.codes3270.specs.Size.{ScreenSize, cells_in, model_2}
use Rattle.datastream.specs.Screen.{Screen}
use Rattle.datastream.specs.KeptByKeys.{KeptByKeys, without_mdt}
use Rattle.datastream.specs.InboundFields.{modified_data, buffer_data}
use Rattle.datastream.specs.declared.inbound_part.Form.TheVariants.{Modified, All as AllModified}
use Rattle.shadow.specs.Belief.{Shadow}
use Rattle.shadow.specs.Meets.{Meets, Knows, ListsFields, IsTold}
use Rattle.datastream.specs.Grammar.{CommandParts, IsCommand, IsSpelt}
use Rattle.datastream.specs.Meaning.{after_command}
use Rattle.shadow.specs.Queries.{known_at}
use Rattle.shadow.specs.Heard.{heard}
use Rattle.shadow.specs.Stores.{is_plain}
use Rattle.shadow.specs.Taken.{taken}
use Rattle.datastream.specs.Wanted.{WantedScreen, IsScreen}
use Rattle.shadow.specs.Painted.{plainly_painted}
use Rattle.shadow.specs.Fits.{is_paintable}
use Rattle.shadow.specs.Paint.{paint_code, paint, paint_bytes}
use Rattle.datastream.specs.declared.command_code.CommandCode.TheVariants.{Write}

-- holds if the cells are as many as before, all nulls
abbrev pub IsCleared : List Cell → List Cell → Type 0
IsCleared left now = now ≡ replicate (length left) (Char 0)

-- holds if a terminal can have the cells `now` when a key has just sent this AID; `left`: its cells after the last
-- write, `erased`: Erase Input was pressed since then
abbrev pub IsSentFrom : Bool → List Cell → List Cell → Aid → Type 0
IsSentFrom erased left now Clear = IsCleared left now
IsSentFrom erased left now (Pa key) = KeptByKeys erased left now
IsSentFrom erased left now Enter = KeptByKeys erased left now
IsSentFrom erased left now (Pf key) = KeptByKeys erased left now
IsSentFrom erased left now NoAid = KeptByKeys erased left now

-- holds if the belief is true of the screen, lists its fields, and knows the returned texts if fields were sent;
-- `sent`: the AID was sent alone
abbrev pub Believed : Bool → Screen → Shadow → Type 0
Believed sent screen shadow = Meets shadow screen × ListsFields shadow screen × (sent ≡ false → IsTold shadow screen)

-- A key's data isn't rejected, and the belief then is true. (A host that knows nothing rejects any field.)
abbrev pub HearsModified : Type 0
HearsModified = (size : ScreenSize) (erased : Bool) (shadow : Shadow) (left now : Screen) → Knows shadow
    → Meets shadow left
    → IsSentFrom erased left.cells now.cells now.aid
    → IsOkAnd (heard (length now.cells) shadow (modified_data Modified size now)) (Believed (is_short_aid now.aid) now)

-- The answer to Read Modified All isn't rejected, and the belief then is true.
abbrev pub HearsAll : Type 0
HearsAll = (size : ScreenSize) (erased : Bool) (shadow : Shadow) (left now : Screen) → Knows shadow → Meets shadow left
    → KeptByKeys erased left.cells now.cells
    → IsOkAnd (heard (length now.cells) shadow (modified_data AllModified size now)) (Believed false now)

-- The answer to Read Buffer isn't rejected if the screen meets the belief, and the belief then is true.
abbrev pub HearsBuffer : Type 0
HearsBuffer = (size : ScreenSize) (shadow : Shadow) (now : Screen) → Meets shadow now
    → IsOkAnd (heard (length now.cells) shadow (buffer_data size now)) (Believed false now)

-- If a screen meets the belief, then after a plain write it meets the new belief. A Write must have been read for the
-- size of that screen; an erase sets its own.
abbrev pub WrittenIsTaken : Type 0
WrittenIsTaken = (command : CommandParts) (shadow : Shadow) (screen : Screen) → IsSpelt command
    → is_plain command ≡ true
    → (command.code ≡ Write → length screen.cells ≡ cells_in command.size) → Meets shadow screen
    → Meets (taken (cells_in command.size) command shadow) (after_command command screen)

-- A paint turns every screen that meets the belief, whatever its size, into the wanted screen.
abbrev pub WantedIsPainted : Type 0
WantedIsPainted = (shadow : Shadow) (wanted : WantedScreen) (screen : Screen)
    → length wanted.cells ≡ cells_in wanted.size → is_paintable shadow wanted ≡ true → Meets shadow screen
    → after_command (paint (cells_in wanted.size) shadow wanted) screen ≡ plainly_painted wanted screen

-- The wanted screen then meets the belief after the paint.
abbrev pub PaintIsTaken : Type 0
PaintIsTaken = (shadow : Shadow) (wanted : WantedScreen) (screen : Screen) → length wanted.cells ≡ cells_in wanted.size
    → is_paintable shadow wanted ≡ true → Meets shadow screen
    → Meets (taken (cells_in wanted.size) (paint (cells_in wanted.size) shadow wanted) shadow)
    (plainly_painted wanted screen)

-- After a paint something is known.
abbrev pub PaintedIsKnown : Type 0
PaintedIsKnown = (size : ℕ) (shadow : Shadow) (wanted : WantedScreen)
    → Knows (taken size (paint size shadow wanted) shadow)

-- A paint is a plain write.
abbrev pub PaintIsPlain : Type 0
PaintIsPlain = (size : ℕ) (shadow : Shadow) (wanted : WantedScreen) → is_plain (paint size shadow wanted) ≡ true

-- A paint has at most nine bytes and three for each cell: an SBA comes only after a cell that isn't stored.
abbrev pub PaintIsBounded : Type 0
PaintIsBounded = (size : ℕ) (shadow : Shadow) (wanted : WantedScreen) → length wanted.cells ≤ size
    → length (paint_bytes size shadow wanted) ≤ 9 + 3 * length wanted.cells

-- If the wanted screen is one of the profile, the bytes of its paint spell that command, whatever is believed, for a
-- terminal that can have the wanted size, and has it already if the paint is a Write.
abbrev pub PaintIsEncoded : Type 0
PaintIsEncoded = (now alternate : ScreenSize) (shadow : Shadow) (wanted : WantedScreen) → IsScreen wanted
    → (wanted.size ≡ model_2) ⊎ (wanted.size ≡ alternate)
    → (paint_code (cells_in wanted.size) shadow wanted ≡ Write → wanted.size ≡ now)
    → IsCommand now alternate (paint (cells_in wanted.size) shadow wanted)
    (paint_bytes (cells_in wanted.size) shadow wanted)

-- holds if the two cells are equal but for the MDT of an attribute
abbrev pub IsSameCell : Cell → Cell → Type 0
IsSameCell (Char byte) there = there ≡ Char byte
IsSameCell (Attr attribute) (Char byte) = ⊥
IsSameCell (Attr attribute) (Attr other) = without_mdt other ≡ without_mdt attribute

-- A known cell is the cell at its address, on every screen that meets the belief.
abbrev pub KnownIsThere : Type 0
KnownIsThere = (shadow : Shadow) (screen : Screen) (at : ℕ) (cell : Cell) → Meets shadow screen
    → known_at shadow at ≡ Some cell
    → (there : Cell) × (slice_get screen.cells at ≡ Some there) × IsSameCell cell there

-- If anything is known, each attribute of the screen is.
abbrev pub AttributesAreKnown : Type 0
AttributesAreKnown = (shadow : Shadow) (screen : Screen) (at : ℕ) (attribute : Attribute) → Knows shadow
    → Meets shadow screen → slice_get screen.cells at ≡ Some (Attr attribute)
    → (cell : Cell) × (known_at shadow at ≡ Some cell)
