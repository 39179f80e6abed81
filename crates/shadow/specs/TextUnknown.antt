-- Which fields are open (our profile): the unprotected ones whose fact is Any. And which data and writes open none.
use Rattle.std.specs.Prelude.{◌≡◌, ⊤, ◌&&◌, ◌||◌, not, ℕ, Bool, true, false, List, [], ◌∷◌, ◌++◌, length, replicate, Some, All, IfOk, IsOkAnd}
use Rattle.codes3270.specs.Aid.{is_short_aid}
use Rattle.codes3270.specs.declared.attention.Aid.{Aid}
use Rattle.codes3270.specs.declared.attention.Aid.TheVariants.{Clear}
use Rattle.datastream.specs.Grammar.{CommandParts}
use Rattle.datastream.specs.InboundText.{InboundParts}
use Rattle.datastream.specs.Screen.{Screen}
use Rattle.datastream.specs.Wanted.{WantedScreen}
use Rattle.datastream.specs.declared.inbound_part.Form.{Form}
use Rattle.datastream.specs.declared.inbound_part.Form.TheVariants.{Modified, All as AllModified, Buffer}
use Rattle.datastream.specs.declared.wanted.Want.{Want}
use Rattle.datastream.specs.declared.wanted.Want.TheVariants.{Char as WantChar, Attr as WantAttr, Keep}
use Rattle.shadow.specs.Belief.{Fact, Belief, Shadow, fields_of}
use Rattle.shadow.specs.Exactness.{is_erase, KnownIsExact}
use Rattle.codes3270.specs.Size.{cells_in}
use Rattle.shadow.specs.Fits.{is_paintable}
use Rattle.shadow.specs.Heard.{heard}
use Rattle.shadow.specs.Meets.{Meets}
use Rattle.shadow.specs.Paint.{paint}
use Rattle.shadow.specs.Painted.{keeps_ahead}
use Rattle.shadow.specs.Taken.{taken}

abbrev pub is_any : Fact → Bool
is_any (Fact.Exact value) = false
is_any (Fact.ExactOrNulls value) = false
is_any (Fact.Text value) = false
is_any (Fact.TextOrNulls value) = false
is_any (Fact.Any known) = true

-- holds if the field is protected, or the host knows its text, or knows that it is either a text or all nulls
abbrev pub IsNotOpen : Belief → Type 0
IsNotOpen belief = belief.attr.protected ≡ false → is_any belief.fact ≡ false

-- holds if no field is open
abbrev pub NothingIsOpen : Shadow → Type 0
NothingIsOpen shadow = All IsNotOpen (fields_of shadow)

-- holds if data has more than an AID: that of Enter or a PF key, and answers to Read Modified All and Read Buffer
abbrev pub IsLong : Form → Aid → Type 0
IsLong Modified aid = is_short_aid aid ≡ false
IsLong AllModified aid = ⊤
IsLong Buffer aid = ⊤

-- Such data opens no field, if it isn't rejected.
abbrev pub LongOpensNothing : Type 0
LongOpensNothing = (size : ℕ) (shadow : Shadow) (inbound : InboundParts) → IsLong inbound.form inbound.aid
    → NothingIsOpen shadow → IfOk (heard size shadow inbound) NothingIsOpen

-- After the answer to Read Buffer no field is open, whatever was before.
abbrev pub ReadLeavesNothingOpen : Type 0
ReadLeavesNothingOpen = (size : ℕ) (shadow : Shadow) (inbound : InboundParts) → inbound.form ≡ Buffer
    → IfOk (heard size shadow inbound) NothingIsOpen

-- After an erase no field is open, whatever was before.
abbrev pub EraseLeavesNothingOpen : Type 0
EraseLeavesNothingOpen = (size : ℕ) (command : CommandParts) (shadow : Shadow) → is_erase command.code ≡ true
    → NothingIsOpen (taken size command shadow)

-- holds if the belief is of an unformatted screen, each cell a known null
abbrev pub IsClearedBelief : ℕ → Shadow → Type 0
IsClearedBelief size shadow = shadow ≡ Shadow.Unformatted (replicate size (Some 0))

-- Clear is never rejected, and leaves that belief.
abbrev pub ClearIsHeard : Type 0
ClearIsHeard = (size : ℕ) (shadow : Shadow) (inbound : InboundParts) → inbound.form ≡ Modified → inbound.aid ≡ Clear
    → IsOkAnd (heard size shadow inbound) (IsClearedBelief size)

-- ---- paints

-- whether only Keep comes before the first attribute
abbrev pub keeps_alone : List Want → Bool
keeps_alone [] = true
keeps_alone (WantChar byte ∷ wants) = false
keeps_alone (Keep ∷ wants) = keeps_alone wants
keeps_alone (WantAttr attribute ∷ wants) = true

-- whether each wanted field whose attribute is in `rest` has only Keep, or none
abbrev pub keeps_whole : List Want → List Want → Bool
keeps_whole whole [] = true
keeps_whole whole (WantChar byte ∷ rest) = keeps_whole whole rest
keeps_whole whole (Keep ∷ rest) = keeps_whole whole rest
keeps_whole whole (WantAttr attribute ∷ rest) = (not (keeps_ahead (rest ++ whole)) || keeps_alone (rest ++ whole))
    && keeps_whole whole rest

abbrev pub keeps_whole_fields : WantedScreen → Bool
keeps_whole_fields wanted = keeps_whole wanted.cells wanted.cells

-- A paint that keeps only whole fields opens none. (One that stores characters in a field that it keeps may: then
-- nothing is known of the field's other characters.)
abbrev pub PaintOpensNothing : Type 0
PaintOpensNothing = (shadow : Shadow) (wanted : WantedScreen) (screen : Screen)
    → length wanted.cells ≡ cells_in wanted.size → is_paintable shadow wanted ≡ true → keeps_whole_fields wanted ≡ true
    → Meets shadow screen → KnownIsExact shadow → NothingIsOpen shadow
    → NothingIsOpen (taken (cells_in wanted.size) (paint (cells_in wanted.size) shadow wanted) shadow)
