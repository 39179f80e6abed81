-- When the fact of a field is exact (our profile): if all its characters are known, and if it is protected.
use Rattle.std.specs.Prelude.{◌≡◌, ℕ, Bool, true, false, List, length, map, Some, All, IfOk}
use Rattle.datastream.specs.Fields.{Field, fields, IsUnformatted}
use Rattle.datastream.specs.Inbound.{without_nulls}
use Rattle.datastream.specs.InboundText.{InboundParts}
use Rattle.datastream.specs.Grammar.{CommandParts}
use Rattle.codes3270.specs.declared.attribute.Cell.{Cell}
use Rattle.datastream.specs.Screen.{Screen, is_char, is_char_at}
use Rattle.datastream.specs.declared.command_code.CommandCode.{CommandCode}
use Rattle.datastream.specs.declared.command_code.CommandCode.TheVariants.{Write, EraseWrite, EraseWriteAlternate, ReadBuffer, ReadModified, ReadModifiedAll, EraseAllUnprotected}
use Rattle.datastream.specs.Wanted.{WantedScreen}
use Rattle.shadow.specs.Pairs.{Pairwise}
use Rattle.shadow.specs.Belief.{Fact, Belief, Shadow, fields_of}
use Rattle.shadow.specs.Meets.{Meets, ListsFields, told, IsTold}
use Rattle.shadow.specs.Heard.{heard}
use Rattle.shadow.specs.AfterReadBuffer.{known_chars}
use Rattle.shadow.specs.Stores.{Store, stores}
use Rattle.shadow.specs.Taken.{taken}
use Rattle.codes3270.specs.Size.{cells_in}
use Rattle.shadow.specs.Fits.{is_paintable}
use Rattle.shadow.specs.Paint.{paint}

-- holds if the fact is Exact
abbrev pub IsExact : Fact → Type 0
IsExact fact = (text : List ℕ) × (fact ≡ Fact.Exact text)

-- holds if the fact is of `count` characters, and is Exact if all of them are known
pub record IsExactWhereKnown (count : ℕ) (fact : Fact) : Type 0 where
  pub whole : length (known_chars count fact) ≡ count
  pub exact : (text : List ℕ) → known_chars count fact ≡ map Some text → fact ≡ Fact.Exact text

abbrev pub FieldIsExact : Belief → Type 0
FieldIsExact belief = IsExactWhereKnown belief.length belief.fact

-- holds if the field is unprotected or its fact is Exact
abbrev pub IsExactIfProtected : Belief → Type 0
IsExactIfProtected belief = belief.attr.protected ≡ true → IsExact belief.fact

-- holds if each field whose characters are all known has an Exact fact
abbrev pub KnownIsExact : Shadow → Type 0
KnownIsExact shadow = All FieldIsExact (fields_of shadow)

abbrev pub ProtectedIsExact : Shadow → Type 0
ProtectedIsExact shadow = All IsExactIfProtected (fields_of shadow)

-- ---- exact facts stay exact

-- A belief of nothing lists no field, so both hold.
abbrev pub NothingIsExact : Type 0
NothingIsExact = KnownIsExact Shadow.NothingKnown × ProtectedIsExact Shadow.NothingKnown

-- Inbound data that isn't rejected preserves both.
abbrev pub HeardStaysExact : Type 0
HeardStaysExact = (size : ℕ) (shadow : Shadow) (inbound : InboundParts) → KnownIsExact shadow
    → IfOk (heard size shadow inbound) KnownIsExact

abbrev pub HeardStaysProtected : Type 0
HeardStaysProtected = (size : ℕ) (shadow : Shadow) (inbound : InboundParts) → ProtectedIsExact shadow
    → IfOk (heard size shadow inbound) ProtectedIsExact

-- Each write preserves the first.
abbrev pub TakenStaysExact : Type 0
TakenStaysExact = (size : ℕ) (command : CommandParts) (shadow : Shadow) → KnownIsExact shadow
    → KnownIsExact (taken size command shadow)

abbrev pub is_erase : CommandCode → Bool
is_erase Write = false
is_erase EraseWrite = true
is_erase EraseWriteAlternate = true
is_erase ReadBuffer = false
is_erase ReadModified = false
is_erase ReadModifiedAll = false
is_erase EraseAllUnprotected = false

-- After an erase the fact of each protected field is Exact.
abbrev pub ErasedIsExact : Type 0
ErasedIsExact = (size : ℕ) (command : CommandParts) (shadow : Shadow) → is_erase command.code ≡ true
    → ProtectedIsExact (taken size command shadow)

-- After a paint the fact of each protected field is Exact, if some screen meets the belief.
abbrev pub PaintedIsExact : Type 0
PaintedIsExact = (shadow : Shadow) (wanted : WantedScreen) (screen : Screen)
    → length wanted.cells ≡ cells_in wanted.size → is_paintable shadow wanted ≡ true → Meets shadow screen
    → KnownIsExact shadow
    → ProtectedIsExact (taken (cells_in wanted.size) (paint (cells_in wanted.size) shadow wanted) shadow)

-- holds if a character is stored over a character
abbrev pub IsOverCharacter : List Cell → Store → Type 0
IsOverCharacter cells store = (is_char store.cell ≡ true) × (is_char_at cells store.at ≡ true)

-- A Write that stores only characters, none over an attribute, leaves the facts of protected fields Exact. (A Write
-- that stores an attribute need not: the field after it may have characters that aren't known.)
abbrev pub WrittenStaysProtected : Type 0
WrittenStaysProtected = (command : CommandParts) (shadow : Shadow) (screen : Screen) → command.code ≡ Write
    → All (IsOverCharacter screen.cells) (stores (length screen.cells) 0 command.orders) → Meets shadow screen
    → KnownIsExact shadow → ProtectedIsExact shadow → ProtectedIsExact (taken (length screen.cells) command shadow)

-- ---- what exact facts say of the screen

-- holds if the field is unprotected or the host knows exactly its text
abbrev pub ProtectedSeen : Belief → Field → Type 0
ProtectedSeen belief field = field.attr.protected ≡ true → belief.fact ≡ Fact.Exact field.text

-- holds if the belief lists the fields of the screen, and `R` relates each believed field to the screen's; a belief
-- that lists none must be of an unformatted screen
abbrev pub EachField : (Belief → Field → Type 0) → Shadow → Screen → Type 0
EachField R Shadow.NothingKnown screen = IsUnformatted screen.cells
EachField R (Shadow.Unformatted known) screen = IsUnformatted screen.cells
EachField R (Shadow.Formatted beliefs) screen = Pairwise R beliefs (fields screen.cells)

abbrev pub ProtectedIsSeen : Type 0
ProtectedIsSeen = (shadow : Shadow) (screen : Screen) → Meets shadow screen → ListsFields shadow screen
    → ProtectedIsExact shadow
    → EachField ProtectedSeen shadow screen

-- holds if the field has MDT off, or its text without nulls follows from its fact, protected or not
abbrev pub ReturnedTold : Belief → Field → Type 0
ReturnedTold belief field = field.attr.mdt ≡ true → told belief.fact ≡ Some (without_nulls field.text)

-- If the facts of protected fields are Exact and the host knows the texts of unprotected fields with MDT on, it knows
-- the texts of all fields with MDT on.
abbrev pub ReturnedIsTold : Type 0
ReturnedIsTold = (shadow : Shadow) (screen : Screen) → Meets shadow screen → ListsFields shadow screen
    → ProtectedIsExact shadow → IsTold shadow screen
    → EachField ReturnedTold shadow screen
