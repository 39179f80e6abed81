-- The screens that a belief allows (our profile).
use Rattle.std.specs.Prelude.{◌≡◌, ◌⊎◌, ⊤, ℕ, Bool, true, false, List, length, Option, Some, None}
use Rattle.datastream.specs.Screen.{Screen, text_before_attribute}
use Rattle.datastream.specs.Fields.{Field, fields, IsFormatted as IsFormattedScreen, IsUnformatted}
use Rattle.datastream.specs.KeptByKeys.{without_mdt}
use Rattle.datastream.specs.Inbound.{without_nulls}
use Rattle.shadow.specs.declared.mdt_state.MdtState.{MdtState}
use Rattle.shadow.specs.declared.mdt_state.MdtState.TheVariants.{On, Off, Unknown}
use Rattle.shadow.specs.Pairs.{Pairwise}
use Rattle.shadow.specs.Belief.{Fact, Belief, Shadow, nulls}

abbrev pub IsNull : List ℕ → Type 0
IsNull text = text ≡ nulls (length text)

-- holds if the character on the screen isn't known, or is the known one
abbrev pub KnownIs : Option ℕ → ℕ → Type 0
KnownIs None char = ⊤
KnownIs (Some known) char = char ≡ known

abbrev pub MarkIs : MdtState → Bool → Type 0
MarkIs On mdt = mdt ≡ true
MarkIs Off mdt = mdt ≡ false
MarkIs Unknown mdt = ⊤

-- holds if the field's characters are as the fact says
abbrev pub Holds : Fact → List ℕ → Type 0
Holds (Fact.Exact value) text = text ≡ value
Holds (Fact.ExactOrNulls value) text = (text ≡ value) ⊎ IsNull text
Holds (Fact.Text value) text = without_nulls text ≡ value
Holds (Fact.TextOrNulls value) text = (without_nulls text ≡ value) ⊎ IsNull text
Holds (Fact.Any known) text = Pairwise KnownIs known text

-- holds if the field is as it is believed: address, attribute, length, MDT and characters
pub record FieldMeets (belief : Belief) (field : Field) : Type 0 where
  pub same_place : field.place ≡ belief.place
  pub same_attr : without_mdt field.attr ≡ belief.attr
  pub same_length : length field.text ≡ belief.length
  pub mark_is : MarkIs belief.mdt field.attr.mdt
  pub holds : Holds belief.fact field.text

-- holds if the belief allows the screen
abbrev pub Meets : Shadow → Screen → Type 0
Meets Shadow.NothingKnown screen = ⊤
Meets (Shadow.Unformatted known) screen = IsUnformatted screen.cells
    × Pairwise KnownIs known (text_before_attribute screen.cells)
Meets (Shadow.Formatted beliefs) screen = IsFormattedScreen screen.cells
    × Pairwise FieldMeets beliefs (fields screen.cells)

-- holds if the host knows anything of the screen
abbrev pub Knows : Shadow → Type 0
Knows Shadow.NothingKnown = ⊥
Knows (Shadow.Unformatted known) = ⊤
Knows (Shadow.Formatted beliefs) = ⊤

-- holds if the belief has fields
abbrev pub IsFormatted : Shadow → Type 0
IsFormatted Shadow.NothingKnown = ⊥
IsFormatted (Shadow.Unformatted known) = ⊥
IsFormatted (Shadow.Formatted beliefs) = ⊤

-- holds if the belief is formatted whenever the screen is (that the fields are the same then follows from `Meets`)
abbrev pub ListsFields : Shadow → Screen → Type 0
ListsFields shadow screen = IsFormattedScreen screen.cells → IsFormatted shadow

-- a field's characters without nulls, if they follow from its fact
abbrev pub told : Fact → Option (List ℕ)
told (Fact.Exact value) = Some (without_nulls value)
told (Fact.ExactOrNulls value) = None
told (Fact.Text value) = Some value
told (Fact.TextOrNulls value) = None
told (Fact.Any known) = None

-- holds if the field is protected, has MDT off, or its text without nulls follows from its fact
abbrev pub FieldTold : Belief → Field → Type 0
FieldTold belief field = field.attr.protected ≡ false → field.attr.mdt ≡ true
    → told belief.fact ≡ Some (without_nulls field.text)

-- holds if the host knows the text, without nulls, of each unprotected field with MDT on that it lists
abbrev pub IsTold : Shadow → Screen → Type 0
IsTold Shadow.NothingKnown screen = ⊤
IsTold (Shadow.Unformatted known) screen = ⊤
IsTold (Shadow.Formatted beliefs) screen = Pairwise FieldTold beliefs (fields screen.cells)
