-- What a host believes can be stored (our profile): a cell can hold each character that it knows, and the texts that it
-- knows without their nulls have none.
use Rattle.std.specs.Prelude.{◌≡◌, ⊤, ℕ, true, List, Option, Some, Ok, IfSome, All}
use Rattle.codes3270.specs.Storable.{is_storable}
use Rattle.datastream.specs.Grammar.{CommandParts, IsSpelt}
use Rattle.datastream.specs.InboundText.{InboundParts, IsSent, is_text_char}
use Rattle.shadow.specs.Queries.{field_at}
use Rattle.shadow.specs.Belief.{Fact, Belief, Shadow}
use Rattle.shadow.specs.Heard.{heard}
use Rattle.shadow.specs.Meets.{told}
use Rattle.shadow.specs.Taken.{taken}

-- holds if a cell can hold the character; it can hold a null
abbrev pub IsStorable : ℕ → Type 0
IsStorable byte = is_storable byte ≡ true

-- holds if a cell can hold the character and it isn't a null
abbrev pub IsTextChar : ℕ → Type 0
IsTextChar byte = is_text_char byte ≡ true

-- holds if the character isn't known, or a cell can hold it
abbrev pub IsStorableIfKnown : Option ℕ → Type 0
IsStorableIfKnown known = IfSome known IsStorable

-- holds if a cell can hold each character in the fact, and a text without nulls has none
abbrev pub FactCanBeStored : Fact → Type 0
FactCanBeStored (Fact.Exact value) = All IsStorable value
FactCanBeStored (Fact.ExactOrNulls value) = All IsStorable value
FactCanBeStored (Fact.Text value) = All IsTextChar value
FactCanBeStored (Fact.TextOrNulls value) = All IsTextChar value
FactCanBeStored (Fact.Any known) = All IsStorableIfKnown known

-- holds if that is so of a field's fact
abbrev pub FieldCanBeStored : Belief → Type 0
FieldCanBeStored belief = FactCanBeStored belief.fact

-- holds if that is so of all that is believed of a screen
abbrev pub CanBeStored : Shadow → Type 0
CanBeStored Shadow.NothingKnown = ⊤
CanBeStored (Shadow.Unformatted known) = All IsStorableIfKnown known
CanBeStored (Shadow.Formatted beliefs) = All FieldCanBeStored beliefs

-- Inbound data that isn't rejected preserves this.
abbrev pub HeardCanBeStored : Type 0
HeardCanBeStored = (size : ℕ) (shadow new : Shadow) (inbound : InboundParts) → CanBeStored shadow → IsSent inbound
    → heard size shadow inbound ≡ Ok new → CanBeStored new

-- Each write preserves it.
abbrev pub TakenCanBeStored : Type 0
TakenCanBeStored = (size : ℕ) (command : CommandParts) (shadow : Shadow) → CanBeStored shadow → IsSpelt command
    → CanBeStored (taken size command shadow)

-- The text without nulls that the host knows of a field has only characters that a cell can hold, and no nulls.
abbrev pub ToldCanBeStored : Type 0
ToldCanBeStored = (shadow : Shadow) (at : ℕ) (belief : Belief) (text : List ℕ) → CanBeStored shadow
    → field_at at shadow ≡ Some belief → told belief.fact ≡ Some text
    → All IsTextChar text
