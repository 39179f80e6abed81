-- When the text of each field is known (our profile): after a key that returns each input field, and after an answer to
-- Read Buffer. And after which writes MDT is on in each input field, so that Enter and PF keys return each.
use Rattle.std.specs.Prelude.{◌≡◌, ℕ, Bool, true, false, List, length, slice_get, Some, All, IfOk}
use Rattle.std.specs.List.{list_all, list_any}
use Rattle.codes3270.specs.Aid.{is_short_aid}
use Rattle.codes3270.specs.Size.{cells_in}
use Rattle.codes3270.specs.declared.attribute.Attr.{Attr as Attribute}
use Rattle.datastream.specs.Grammar.{CommandParts}
use Rattle.datastream.specs.InboundText.{InboundParts}
use Rattle.datastream.specs.Screen.{Screen}
use Rattle.datastream.specs.Wanted.{WantedScreen}
use Rattle.datastream.specs.declared.inbound_part.Form.TheVariants.{Modified, Buffer}
use Rattle.datastream.specs.declared.wanted.Want.TheVariants.{Attr as WantAttr}
use Rattle.shadow.specs.declared.mdt_state.MdtState.TheVariants.{On}
use Rattle.shadow.specs.Belief.{Fact, Belief, Shadow, fields_of}
use Rattle.shadow.specs.Exactness.{KnownIsExact, ProtectedIsExact}
use Rattle.shadow.specs.Fits.{is_keep, is_paintable}
use Rattle.shadow.specs.Heard.{heard}
use Rattle.shadow.specs.Meets.{Meets}
use Rattle.shadow.specs.Notes.{OverwritesProtected}
use Rattle.shadow.specs.Paint.{paint}
use Rattle.shadow.specs.Taken.{taken}

-- ---- known texts

-- whether the fact says what the field's text is, but for its nulls
abbrev pub is_settled_fact : Fact → Bool
is_settled_fact (Fact.Exact value) = true
is_settled_fact (Fact.ExactOrNulls value) = false
is_settled_fact (Fact.Text value) = true
is_settled_fact (Fact.TextOrNulls value) = false
is_settled_fact (Fact.Any known) = false

-- whether the text of each of these fields is known, but for its nulls
abbrev pub are_settled : List Belief → Bool
are_settled beliefs = list_all (λ belief. is_settled_fact belief.fact) beliefs

-- whether the text of each field is known, but for its nulls
abbrev pub is_settled : Shadow → Bool
is_settled shadow = are_settled (fields_of shadow)

-- holds if the field's text is known, but for its nulls
abbrev pub IsSettledField : Belief → Type 0
IsSettledField belief = is_settled_fact belief.fact ≡ true

-- holds if the text of each field is known, but for its nulls
abbrev pub IsSettled : Shadow → Type 0
IsSettled shadow = All IsSettledField (fields_of shadow)

-- `is_settled` decides `IsSettled`.
abbrev pub SettledIsDecided : Type 0
SettledIsDecided = (shadow : Shadow) → (is_settled shadow ≡ true → IsSettled shadow)
    × (IsSettled shadow → is_settled shadow ≡ true)

-- ---- input fields that each key returns

-- holds if the field is protected, or its MDT is known to be on
abbrev pub IsReturned : Belief → Type 0
IsReturned belief = belief.attr.protected ≡ false → belief.mdt ≡ On

-- holds if MDT of each input field is known to be on, so that a key that sends fields returns each
abbrev pub ReturnsInput : Shadow → Type 0
ReturnsInput shadow = All IsReturned (fields_of shadow)

-- holds if each input field is wanted with MDT on
abbrev pub WantsInputReturned : WantedScreen → Type 0
WantsInputReturned wanted = (at : ℕ) (attribute : Attribute) → slice_get wanted.cells at ≡ Some (WantAttr attribute)
    → attribute.protected ≡ false → attribute.mdt ≡ true

-- ---- what settles the texts, and what preserves this

-- If MDT of each input field is on and protected fields are exactly known, the texts are known after data of Enter or a
-- PF key. (An input field that isn't returned shows that the operator has pressed Erase Input: then it holds nulls.)
abbrev pub ReturnedIsSettled : Type 0
ReturnedIsSettled = (size : ℕ) (shadow : Shadow) (inbound : InboundParts) → inbound.form ≡ Modified
    → is_short_aid inbound.aid ≡ false → ReturnsInput shadow → ProtectedIsExact shadow
    → IfOk (heard size shadow inbound) IsSettled

-- After the answer to Read Buffer the texts are known, whatever was before.
abbrev pub ReadIsSettled : Type 0
ReadIsSettled = (size : ℕ) (shadow : Shadow) (inbound : InboundParts) → inbound.form ≡ Buffer
    → IfOk (heard size shadow inbound) IsSettled

-- After a paint without Keep that wants MDT on in each input field, it is known to be on in each.
abbrev pub PaintReturnsInput : Type 0
PaintReturnsInput = (shadow : Shadow) (wanted : WantedScreen) (screen : Screen)
    → length wanted.cells ≡ cells_in wanted.size → is_paintable shadow wanted ≡ true
    → list_any is_keep wanted.cells ≡ false → WantsInputReturned wanted → Meets shadow screen
    → ReturnsInput (taken (cells_in wanted.size) (paint (cells_in wanted.size) shadow wanted) shadow)

-- A note preserves that MDT of each input field is known to be on.
abbrev pub NoteReturnsInput : Type 0
NoteReturnsInput = (command : CommandParts) (shadow : Shadow) (screen : Screen) → OverwritesProtected command screen
    → Meets shadow screen
    → ReturnsInput shadow → ReturnsInput (taken (length screen.cells) command shadow)

-- A note preserves that the texts are known, if protected fields are exactly known.
abbrev pub NoteStaysSettled : Type 0
NoteStaysSettled = (command : CommandParts) (shadow : Shadow) (screen : Screen) → OverwritesProtected command screen
    → Meets shadow screen
    → KnownIsExact shadow → ProtectedIsExact shadow
    → IsSettled shadow → IsSettled (taken (length screen.cells) command shadow)
