-- What a host believes after inbound data, and which data contradicts its belief (our profile). What a terminal sends,
-- and after which keys an AID alone, is GA23-0059-07 on read commands.
use Rattle.std.specs.Prelude.{◌==◌, nat_lt, ◌&&◌, ◌||◌, not, ℕ, Bool, true, false, List, [], ◌∷◌, length, map, replicate, Option, Some, None, option_map, Result, Ok, Err, if◌then◌else◌, bytes_eq}
use Rattle.std.specs.List.{list_any}
use Rattle.codes3270.specs.declared.attention.Aid.{Aid}
use Rattle.codes3270.specs.declared.attention.Aid.TheVariants.{NoAid, Enter, Clear, Pf, Pa}
use Rattle.codes3270.specs.Aid.{is_short_aid}
use Rattle.datastream.specs.Inbound.{without_nulls}
use Rattle.shadow.specs.declared.mdt_state.MdtState.{MdtState}
use Rattle.shadow.specs.declared.mdt_state.MdtState.TheVariants.{On, Off, Unknown}
use Rattle.shadow.specs.declared.fault.HeardFault.{HeardFault}
use Rattle.shadow.specs.declared.fault.HeardFault.TheVariants.{NoSuchField, Contradiction}
use Rattle.datastream.specs.InboundText.{InboundParts}
use Rattle.datastream.specs.InboundFields.{Returned, leading_text, returned, cells_sent}
use Rattle.datastream.specs.declared.inbound_part.Form.{Form}
use Rattle.datastream.specs.declared.inbound_part.Form.TheVariants.{Modified, All as AllModified, Buffer}
use Rattle.datastream.specs.declared.inbound_part.Part.{Part}
use Rattle.shadow.specs.Belief.{Fact, Belief, Shadow, nulls, next_address}
use Rattle.shadow.specs.AfterReadBuffer.{heard_buffer}

-- ---- which field each text is returned for

-- a believed field, and the text that was returned for it, if one was
pub record Answer : Type 0 where
  pub field : Belief
  pub text : Option (List ℕ)

abbrev pub starts_at : ℕ → Belief → ℕ → Bool
starts_at size belief address = next_address size belief.place == address

-- whether the returned field's address is that of no believed field's first cell
abbrev pub is_nowhere : ℕ → List Belief → Returned → Bool
is_nowhere size beliefs came = not (list_any (λ belief. starts_at size belief came.first) beliefs)

abbrev pub answer_and : Belief → Option (List ℕ) → Option (List Answer) → Option (List Answer)
answer_and belief text others = option_map (λ answers. record { field = belief; text = text } ∷ answers) others

-- Each field with the text that was returned for it. None if a text isn't for any field that is left: the texts are out
-- of the fields' order, or a field is returned twice.
abbrev pub answers : ℕ → List Belief → List Returned → Option (List Answer)
answers size [] [] = Some []
answers size [] (came ∷ more) = None
answers size (belief ∷ beliefs) [] = answer_and belief None (answers size beliefs [])
answers size (belief ∷ beliefs) (came ∷ more) =
    if starts_at size belief came.first
    then answer_and belief (Some came.text) (answers size beliefs more)
    else answer_and belief None (answers size beliefs (came ∷ more))

-- ---- data that returns fields

abbrev pub is_on : MdtState → Bool
is_on On = true
is_on Off = false
is_on Unknown = false

abbrev pub is_off : MdtState → Bool
is_off On = false
is_off Off = true
is_off Unknown = false

-- whether the fact is exact, and its text without nulls isn't this one
abbrev pub denies : Fact → List ℕ → Bool
denies (Fact.Exact value) text = not (bytes_eq (without_nulls value) text)
denies (Fact.ExactOrNulls value) text = false
denies (Fact.Text value) text = false
denies (Fact.TextOrNulls value) text = false
denies (Fact.Any known) text = false

-- Whether the belief contradicts what was returned for a field: a protected field must be returned if its MDT is on,
-- must not be if it is off, and only with its text if that is known; no text may be longer than its field.
abbrev pub contradicts_text : Belief → Option (List ℕ) → Bool
contradicts_text belief None = belief.attr.protected && is_on belief.mdt
contradicts_text belief (Some text) =
    nat_lt belief.length (length text) || (belief.attr.protected && (is_off belief.mdt || denies belief.fact text))

abbrev pub contradicts : Answer → Bool
contradicts answer = contradicts_text answer.field answer.text

-- whether an unprotected field had MDT on and isn't returned: the operator has pressed Erase Input
abbrev pub lost_text : Belief → Option (List ℕ) → Bool
lost_text belief None = not belief.attr.protected && is_on belief.mdt
lost_text belief (Some text) = false

abbrev pub was_erased : Answer → Bool
was_erased answer = lost_text answer.field answer.text

-- what is believed of a field of `count` characters for which a text is returned: all nulls if the text is empty
abbrev pub text_fact : ℕ → List ℕ → Fact
text_fact count [] = Fact.Exact (nulls count)
text_fact count (char ∷ chars) = Fact.Text (char ∷ chars)

-- what is believed of an unprotected field that isn't returned: it is as it was, or all nulls
abbrev pub or_nulls : Fact → Fact
or_nulls (Fact.Exact value) = if bytes_eq value (nulls (length value)) then Fact.Exact value
    else Fact.ExactOrNulls value
or_nulls (Fact.ExactOrNulls value) = Fact.ExactOrNulls value
or_nulls (Fact.Text value) = Fact.TextOrNulls value
or_nulls (Fact.TextOrNulls value) = Fact.TextOrNulls value
or_nulls (Fact.Any known) = Fact.Any (map (λ _. None) known)

abbrev pub mark_of : Option (List ℕ) → MdtState
mark_of (Some text) = On
mark_of None = Off

abbrev pub unprotected_fact : Bool → Belief → Option (List ℕ) → Fact
unprotected_fact erased belief (Some text) = text_fact belief.length text
unprotected_fact erased belief None = if erased then Fact.Exact (nulls belief.length) else or_nulls belief.fact

-- what is believed of a field after data that returns fields; `erased`: the operator has pressed Erase Input
abbrev pub after_long : Bool → Answer → Belief
after_long erased answer = record answer.field {
  mdt = mark_of answer.text;
  fact = if answer.field.attr.protected then answer.field.fact else unprotected_fact erased answer.field answer.text;
}

-- the belief of a formatted screen after these answers, or Contradiction
abbrev pub settled : Option (List Answer) → Result Shadow HeardFault
settled None = Err Contradiction
settled (Some found) =
    if list_any contradicts found then Err Contradiction
    else Ok (Shadow.Formatted (map (after_long (list_any was_erased found)) found))

-- the belief, or the fault, after data with this text before the first address and these returned fields
abbrev pub heard_long : ℕ → Shadow → List ℕ → List Returned → Result Shadow HeardFault
heard_long size Shadow.NothingKnown leading_text [] = Ok Shadow.NothingKnown
heard_long size Shadow.NothingKnown leading_text (came ∷ more) = Err NoSuchField
heard_long size (Shadow.Unformatted known) leading_text [] =
    if nat_lt (length known) (length leading_text) then Err Contradiction else Ok Shadow.NothingKnown
heard_long size (Shadow.Unformatted known) leading_text (came ∷ more) = Err NoSuchField
heard_long size (Shadow.Formatted beliefs) leading_text returned =
    if list_any (is_nowhere size beliefs) returned then Err NoSuchField
    else if nat_lt 0 (length leading_text) then Err Contradiction
    else settled (answers size beliefs returned)

-- ---- a key that sends its AID alone

-- the fact of a field of whose characters nothing is known; if it has none, the fact is exact
abbrev pub unknown_fact : ℕ → Fact
unknown_fact count = if count == 0 then Fact.Exact [] else Fact.Any (replicate count None)

abbrev pub after_attention : Belief → Belief
after_attention belief =
    if belief.attr.protected then belief else record belief { mdt = Unknown; fact = unknown_fact belief.length }

abbrev pub heard_attention : Shadow → Shadow
heard_attention Shadow.NothingKnown = Shadow.NothingKnown
heard_attention (Shadow.Unformatted known) = Shadow.NothingKnown
heard_attention (Shadow.Formatted beliefs) = Shadow.Formatted (map after_attention beliefs)

-- the belief after a key that sends its AID alone: Clear leaves nulls, a PA key leaves input in doubt
abbrev pub heard_short : ℕ → Aid → Shadow → Shadow
heard_short size Clear shadow = Shadow.Unformatted (replicate size (Some 0))
heard_short size (Pa key) shadow = heard_attention shadow
heard_short size NoAid shadow = heard_attention shadow
heard_short size Enter shadow = heard_attention shadow
heard_short size (Pf key) shadow = heard_attention shadow

-- ---- any form of data

abbrev pub heard_parts : ℕ → Shadow → List Part → Result Shadow HeardFault
heard_parts size shadow parts = heard_long size shadow (leading_text parts) (returned parts)

-- the belief, or the fault, after data of this form; Read Modified is answered by the AID alone after Clear or a PA key
abbrev pub heard_form : Form → ℕ → Shadow → Aid → List Part → Result Shadow HeardFault
heard_form Modified size shadow aid parts = if is_short_aid aid then Ok (heard_short size aid shadow)
    else heard_parts size shadow parts
heard_form AllModified size shadow aid parts = heard_parts size shadow parts
heard_form Buffer size shadow aid parts = heard_buffer shadow (cells_sent parts)

-- the belief, or the fault, after inbound data; `size`: the number of cells that it was read for
abbrev pub heard : ℕ → Shadow → InboundParts → Result Shadow HeardFault
heard size shadow inbound = heard_form inbound.form size shadow inbound.aid inbound.parts
