-- What leaves no unprotected field open.
use Rattle.std.proofs.Common.{◌≡◌, ℕ, Bool, true, false, List, [], ◌∷◌, length, Option, Some, None, Ok, Err, refl, sym, subst, if◌then◌else◌}
use Rattle.std.specs.Prelude.{IfOk, IsOkAnd, bytes_eq}
use Rattle.codes3270.specs.declared.attribute.Cell.{Cell}
use Rattle.datastream.specs.Fields.{Field}
use Rattle.datastream.specs.InboundFields.{leading_text, returned, cells_sent}
use Rattle.datastream.specs.InboundText.{InboundParts}
use Rattle.datastream.specs.Meaning.{after_command}
use Rattle.codes3270.specs.Size.{cells_in}
use Rattle.datastream.specs.Screen.{blank_screen}
use Rattle.datastream.specs.declared.command_code.CommandCode.{CommandCode}
use Rattle.datastream.specs.declared.command_code.CommandCode.TheVariants.{Write, EraseWrite, EraseWriteAlternate, ReadBuffer, ReadModified, ReadModifiedAll, EraseAllUnprotected}
use Rattle.datastream.specs.declared.inbound_part.Form.{Form}
use Rattle.datastream.specs.declared.inbound_part.Form.TheVariants.{Modified, All as AllModified, Buffer}
use Rattle.shadow.specs.declared.fault.HeardFault.TheVariants.{Contradiction}
use Rattle.shadow.specs.Belief.{Fact, Shadow, nulls}
use Rattle.shadow.specs.Exactness.{is_erase}
use Rattle.shadow.specs.Heard.{Answer, contradicts, text_fact, or_nulls, unprotected_fact, after_long, heard_short, heard_parts, heard}
use Rattle.shadow.specs.AfterReadBuffer.{belief_seen, seen, denies_buffer}
use Rattle.shadow.specs.TextUnknown.{is_any, IsNotOpen, NothingIsOpen, IsLong, LongOpensNothing, ReadLeavesNothingOpen, EraseLeavesNothingOpen, IsClearedBelief, ClearIsHeard}
use Rattle.shadow.specs.Taken.{taken}
use Rattle.shadow.proofs.ExactHeard.{long_keeps, seen_has}

text_told : (n : ℕ) (text : List ℕ) → is_any (text_fact n text) ≡ false
text_told n [] = refl
text_told n (c ∷ text) = refl

or_nulls_any : (fact : Fact) → is_any fact ≡ false → is_any (or_nulls fact) ≡ false
or_nulls_any (Fact.Exact value) e = cases (bytes_eq value (nulls (length value)))
  where
    cases : (t : Bool) → is_any (if t then Fact.Exact value else Fact.ExactOrNulls value) ≡ false
    cases true = refl
    cases false = refl
or_nulls_any (Fact.ExactOrNulls value) e = refl
or_nulls_any (Fact.Text value) e = refl
or_nulls_any (Fact.TextOrNulls value) e = refl
or_nulls_any (Fact.Any known) e = absurd (cc)

long_open : (erased : Bool) (a : Answer) → contradicts a ≡ false → IsNotOpen a.field → IsNotOpen (after_long erased a)
long_open erased a none h free = cases a.field.attr.protected free
  where
    unreturned : (t : Bool) → is_any (if t then Fact.Exact (nulls a.field.length) else or_nulls a.field.fact) ≡ false
    unreturned true = refl
    unreturned false = or_nulls_any a.field.fact (h free)

    heard_of : (text : Option (List ℕ)) → is_any (unprotected_fact erased a.field text) ≡ false
    heard_of (Some text) = text_told a.field.length text
    heard_of None = unreturned erased

    cases : (p : Bool) → p ≡ false → is_any (if p then a.field.fact else unprotected_fact erased a.field a.text) ≡ false
    cases true e = absurd (cc)
    cases false e = heard_of a.text

read_open : (f : Field) → IsNotOpen (belief_seen f)
read_open f free = refl

pub seen_open : (cells : List Cell) → NothingIsOpen (seen cells)
seen_open = seen_has IsNotOpen read_open

read_leaves : (shadow : Shadow) (cells : List Cell) → IfOk (if denies_buffer shadow cells then Err Contradiction else Ok (seen cells)) NothingIsOpen
read_leaves shadow cells = cases (denies_buffer shadow cells)
  where
    cases : (t : Bool) → IfOk (if t then Err Contradiction else Ok (seen cells)) NothingIsOpen
    cases true = tt
    cases false = seen_open cells

pub long_opens_nothing : LongOpensNothing
long_opens_nothing size shadow inbound long h = cases inbound.form long
  where
    fields_heard : IfOk (heard_parts size shadow inbound.parts) NothingIsOpen
    fields_heard = long_keeps IsNotOpen long_open size shadow (leading_text inbound.parts) (returned inbound.parts) h

    cases : (form : Form) → IsLong form inbound.aid → IfOk (heard size shadow (record inbound { form = form })) NothingIsOpen
    cases Modified e =
        subst (λ (t : Bool). IfOk (if t then Ok (heard_short size inbound.aid shadow) else heard_parts size shadow inbound.parts) NothingIsOpen) (sym e) fields_heard
    cases AllModified e = fields_heard
    cases Buffer e = read_leaves shadow (cells_sent inbound.parts)

pub read_leaves_nothing_open : ReadLeavesNothingOpen
read_leaves_nothing_open size shadow inbound is = cases inbound.form is
  where
    cases : (form : Form) → form ≡ Buffer → IfOk (heard size shadow (record inbound { form = form })) NothingIsOpen
    cases Modified e = absurd (cc)
    cases AllModified e = absurd (cc)
    cases Buffer e = read_leaves shadow (cells_sent inbound.parts)

pub erase_leaves_nothing_open : EraseLeavesNothingOpen
erase_leaves_nothing_open size command shadow = cases command.code
  where
    cases : (code : CommandCode) → is_erase code ≡ true → NothingIsOpen (taken size (record command { code = code }) shadow)
    cases Write e = absurd (cc)
    cases EraseWrite e = seen_open (after_command (record command { code = EraseWrite }) (blank_screen (cells_in command.size))).cells
    cases EraseWriteAlternate e = seen_open (after_command (record command { code = EraseWriteAlternate }) (blank_screen (cells_in command.size))).cells
    cases ReadBuffer e = absurd (cc)
    cases ReadModified e = absurd (cc)
    cases ReadModifiedAll e = absurd (cc)
    cases EraseAllUnprotected e = absurd (cc)

pub clear_is_heard : ClearIsHeard
clear_is_heard size shadow inbound form aid =
    subst (λ (x : InboundParts). IsOkAnd (heard size shadow x) (IsClearedBelief size)) (λ i. record inbound { form = sym form i; aid = sym aid i }) refl
