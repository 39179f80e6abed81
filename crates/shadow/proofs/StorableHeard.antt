-- What is believed can be stored, whatever is heard; and so can each text that the host is told.
use Rattle.std.proofs.Common.{◌≡◌, ◌==◌, ℕ, ◌+◌, Bool, true, false, not, List, [], ◌∷◌, length, map, replicate, Option, Some, None, Ok, Err, refl, ap, subst, if◌then◌else◌, nat_eq, nat_lt, All}
use Rattle.std.specs.Prelude.{IfOk, IfSome, bytes_eq}
use Rattle.std.specs.List.{list_any}
use Rattle.std.proofs.lemmas.Bool.{and_from}
use Rattle.std.proofs.lemmas.List.Elements.{All-head, All-tail, All-nil, All-cons, All-map, All-replicate}
use Rattle.codes3270.specs.declared.attention.Aid.{Aid}
use Rattle.codes3270.specs.declared.attention.Aid.TheVariants.{NoAid, Enter, Clear, Pf, Pa}
use Rattle.codes3270.specs.Size.{cells_in}
use Rattle.codes3270.specs.declared.attribute.Cell.{Cell}
use Rattle.codes3270.specs.declared.attribute.Cell.TheVariants.{Char, Attr}
use Rattle.codes3270.specs.Aid.{is_short_aid}
use Rattle.codes3270.specs.Storable.{is_storable}
use Rattle.datastream.specs.Fields.{Field, fields, fields_from}
use Rattle.datastream.specs.Inbound.{without_nulls}
use Rattle.datastream.specs.InboundFields.{Returned, IsProperReturned, IsStorableCell, leading_text, returned, cells_sent}
use Rattle.datastream.specs.InboundText.{InboundParts, IsProperPart}
use Rattle.datastream.specs.Screen.{ring, field_text, text_before_attribute}
use Rattle.datastream.specs.declared.inbound_part.Form.{Form}
use Rattle.datastream.specs.declared.inbound_part.Form.TheVariants.{Modified, All as AllModified, Buffer}
use Rattle.datastream.proofs.InboundData.{inbound_proper}
use Rattle.datastream.proofs.InboundSlices.{cells_proper}
use Rattle.datastream.proofs.InboundViews.{any_returned_proper}
use Rattle.datastream.proofs.Texts.{All-ring}
use Rattle.shadow.specs.declared.fault.HeardFault.TheVariants.{NoSuchField, Contradiction}
use Rattle.shadow.specs.declared.mdt_state.MdtState.TheVariants.{Unknown}
use Rattle.shadow.specs.Queries.{belief_with}
use Rattle.shadow.specs.Belief.{Fact, Belief, Shadow, nulls}
use Rattle.shadow.specs.Doubt.{DoubtCanBeStored}
use Rattle.shadow.specs.Heard.{Answer, starts_at, is_nowhere, answer_and, answers, contradicts, was_erased, text_fact, or_nulls, unprotected_fact, after_long, settled, heard_long, unknown_fact, after_attention, heard_attention, heard_short, heard_parts, heard}
use Rattle.shadow.specs.Meets.{told}
use Rattle.shadow.specs.AfterReadBuffer.{belief_seen, formatted_or, seen, denies_buffer}
use Rattle.shadow.specs.Storable.{IsStorable, IsTextChar, IsStorableIfKnown, FactCanBeStored, FieldCanBeStored, CanBeStored, HeardCanBeStored, ToldCanBeStored}

-- ---- a screen that is wholly known

text_storable : (cells : List Cell) → All IsStorableCell cells → All IsStorable (text_before_attribute cells)
text_storable [] h = All-nil IsStorable
text_storable (Char c ∷ cells) h = All-cons IsStorable c (text_before_attribute cells) (All-head IsStorableCell (Char c) cells h) (text_storable cells (All-tail IsStorableCell (Char c) cells h))
text_storable (Attr a ∷ cells) h = All-nil IsStorable

fields_storable : (whole : List Cell) (n : ℕ) (rest : List Cell) → All IsStorableCell whole → All FieldCanBeStored (map belief_seen (fields_from whole n rest))
fields_storable whole n [] h = All-nil FieldCanBeStored
fields_storable whole n (Char c ∷ rest) h = fields_storable whole (n + 1) rest h
fields_storable whole n (Attr a ∷ rest) h =
    All-cons FieldCanBeStored (belief_seen (record { place = n; attr = a; text = field_text whole n })) (map belief_seen (fields_from whole (n + 1) rest))
    (text_storable (ring (n + 1) whole) (All-ring IsStorableCell (n + 1) whole h))
    (fields_storable whole (n + 1) rest h)

pub seen_storable : (cells : List Cell) → All IsStorableCell cells → CanBeStored (seen cells)
seen_storable cells h = cases (fields cells) (fields_storable cells 0 cells h)
  where
    cases : (fs : List Field) → All FieldCanBeStored (map belief_seen fs) → CanBeStored (formatted_or fs (text_before_attribute cells))
    cases [] each = All-map IsStorableIfKnown Some (text_before_attribute cells) (text_storable cells h)
    cases (f ∷ fs) each = each

-- ---- one field

nulls_storable : (n : ℕ) → All IsStorable (nulls n)
nulls_storable n = All-replicate IsStorable n 0 refl

text_fact_storable : (n : ℕ) (text : List ℕ) → All IsTextChar text → FactCanBeStored (text_fact n text)
text_fact_storable n [] h = nulls_storable n
text_fact_storable n (c ∷ text) h = h

or_nulls_storable : (fact : Fact) → FactCanBeStored fact → FactCanBeStored (or_nulls fact)
or_nulls_storable (Fact.Exact value) h = cases (bytes_eq value (nulls (length value)))
  where
    cases : (t : Bool) → FactCanBeStored (if t then Fact.Exact value else Fact.ExactOrNulls value)
    cases true = h
    cases false = h
or_nulls_storable (Fact.ExactOrNulls value) h = h
or_nulls_storable (Fact.Text value) h = h
or_nulls_storable (Fact.TextOrNulls value) h = h
or_nulls_storable (Fact.Any known) h = All-map IsStorableIfKnown (λ _. None) known (λ k d lt. tt)

unknown_storable : (n : ℕ) → FactCanBeStored (unknown_fact n)
unknown_storable n = cases (nat_eq n 0)
  where
    cases : (t : Bool) → FactCanBeStored (if t then Fact.Exact [] else Fact.Any (replicate n None))
    cases true = All-nil IsStorable
    cases false = All-replicate IsStorableIfKnown n None tt

long_storable : (erased : Bool) (b : Belief) (text : Option (List ℕ)) → FieldCanBeStored b → IfSome text (All IsTextChar) → FieldCanBeStored (after_long erased (record { field = b; text = text }))
long_storable erased b text h came = cases b.attr.protected text came
  where
    unreturned : (t : Bool) → FactCanBeStored (if t then Fact.Exact (nulls b.length) else or_nulls b.fact)
    unreturned true = nulls_storable b.length
    unreturned false = or_nulls_storable b.fact h

    cases : (p : Bool) (text : Option (List ℕ)) → IfSome text (All IsTextChar) → FactCanBeStored (if p then b.fact else unprotected_fact erased b text)
    cases true text came = h
    cases false None came = unreturned erased
    cases false (Some text) came = text_fact_storable b.length text came

attention_storable : (b : Belief) → FieldCanBeStored b → FieldCanBeStored (after_attention b)
attention_storable b h = cases b.attr.protected
  where
    cases : (p : Bool) → FieldCanBeStored (if p then b else record b { mdt = Unknown; fact = unknown_fact b.length })
    cases true = h
    cases false = unknown_storable b.length

-- ---- the fields of a long text

abbrev AfterLong : Bool → List Answer → Type 0
AfterLong erased ans = All FieldCanBeStored (map (after_long erased) ans)

one_answer : (erased : Bool) (b : Belief) (text : Option (List ℕ)) (others : Option (List Answer)) (found : List Answer) → answer_and b text others ≡ Some found
    → FieldCanBeStored b → IfSome text (All IsTextChar) → ((more : List Answer) → others ≡ Some more → AfterLong erased more) → AfterLong erased found
one_answer erased b text None found e h came rest = absurd (cc)
one_answer erased b text (Some more) found e h came rest =
    let same : record { field = b; text = text } ∷ more ≡ found = cc in
    subst (AfterLong erased) same
    (All-cons FieldCanBeStored (after_long erased (record { field = b; text = text })) (map (after_long erased) more) (long_storable erased b text h came) (rest more refl))

-- `n` is the number of cells of the screen for which the data was read
module _ (n : ℕ) where
  each_answer : (erased : Bool) (size : ℕ) (bs : List Belief) (rs : List Returned) (found : List Answer) → answers size bs rs ≡ Some found
      → All FieldCanBeStored bs → All (IsProperReturned n) rs → AfterLong erased found
  each_answer erased size [] [] found e h came = let same : [] ≡ found = cc in subst (AfterLong erased) same (All-nil FieldCanBeStored)
  each_answer erased size [] (r ∷ rs) found e h came = absurd (cc)
  each_answer erased size (b ∷ bs) [] found e h came =
      one_answer erased b None (answers size bs []) found e (All-head FieldCanBeStored b bs h) tt (λ more is. each_answer erased size bs [] more is (All-tail FieldCanBeStored b bs h) came)
  each_answer erased size (b ∷ bs) (r ∷ rs) found e h came =
      let others : All FieldCanBeStored bs = All-tail FieldCanBeStored b bs h in
      cases (starts_at size b r.first) e (λ more is. each_answer erased size bs rs more is others (All-tail (IsProperReturned n) r rs came)) (λ more is. each_answer erased size bs (r ∷ rs) more is others came)
    where
      cases : (t : Bool) → (if t then answer_and b (Some r.text) (answers size bs rs) else answer_and b None (answers size bs (r ∷ rs))) ≡ Some found
          → ((more : List Answer) → answers size bs rs ≡ Some more → AfterLong erased more) → ((more : List Answer) → answers size bs (r ∷ rs) ≡ Some more → AfterLong erased more) → AfterLong erased found
      cases true e there later = one_answer erased b (Some r.text) (answers size bs rs) found e (All-head FieldCanBeStored b bs h) (All-head (IsProperReturned n) r rs came).text there
      cases false e there later = one_answer erased b None (answers size bs (r ∷ rs)) found e (All-head FieldCanBeStored b bs h) tt later

  settled_storable : (found : Option (List Answer)) → ((erased : Bool) (ans : List Answer) → found ≡ Some ans → AfterLong erased ans) → IfOk (settled found) CanBeStored
  settled_storable None each = tt
  settled_storable (Some ans) each = cases (list_any contradicts ans)
    where
      cases : (t : Bool) → IfOk (if t then Err Contradiction else Ok (Shadow.Formatted (map (after_long (list_any was_erased ans)) ans))) CanBeStored
      cases true = tt
      cases false = each (list_any was_erased ans) ans refl

  fields_heard : (size : ℕ) (shadow : Shadow) (ahead : List ℕ) (rs : List Returned) → CanBeStored shadow → All (IsProperReturned n) rs → IfOk (heard_long size shadow ahead rs) CanBeStored
  fields_heard size Shadow.NothingKnown ahead [] h came = tt
  fields_heard size Shadow.NothingKnown ahead (r ∷ rs) h came = tt
  fields_heard size (Shadow.Unformatted known) ahead [] h came = cases (nat_lt (length known) (length ahead))
    where
      cases : (t : Bool) → IfOk (if t then Err Contradiction else Ok Shadow.NothingKnown) CanBeStored
      cases true = tt
      cases false = tt
  fields_heard size (Shadow.Unformatted known) ahead (r ∷ rs) h came = tt
  fields_heard size (Shadow.Formatted bs) ahead rs h came = cases (list_any (is_nowhere size bs) rs) (nat_lt 0 (length ahead))
    where
      cases : (t u : Bool) → IfOk (if t then Err NoSuchField else if u then Err Contradiction else settled (answers size bs rs)) CanBeStored
      cases true u = tt
      cases false true = tt
      cases false false = settled_storable (answers size bs rs) (λ erased ans e. each_answer erased size bs rs ans e h came)

  -- ---- a key alone

  each_attention : (bs : List Belief) → All FieldCanBeStored bs → All FieldCanBeStored (map after_attention bs)
  each_attention [] h = All-nil FieldCanBeStored
  each_attention (b ∷ bs) h =
      All-cons FieldCanBeStored (after_attention b) (map after_attention bs) (attention_storable b (All-head FieldCanBeStored b bs h)) (each_attention bs (All-tail FieldCanBeStored b bs h))

  attention_heard : (shadow : Shadow) → CanBeStored shadow → CanBeStored (heard_attention shadow)
  attention_heard Shadow.NothingKnown h = tt
  attention_heard (Shadow.Unformatted known) h = tt
  attention_heard (Shadow.Formatted bs) h = each_attention bs h

  short_heard : (size : ℕ) (aid : Aid) (shadow : Shadow) → CanBeStored shadow → CanBeStored (heard_short size aid shadow)
  short_heard size Clear shadow h = All-replicate IsStorableIfKnown size (Some 0) refl
  short_heard size (Pa key) shadow h = attention_heard shadow h
  short_heard size NoAid shadow h = attention_heard shadow h
  short_heard size Enter shadow h = attention_heard shadow h
  short_heard size (Pf key) shadow h = attention_heard shadow h

  -- ---- any of the three

  parts_heard : (size : ℕ) (shadow : Shadow) (inbound : InboundParts) → CanBeStored shadow → All (IsProperPart n inbound.form) inbound.parts → IfOk (heard size shadow inbound) CanBeStored
  parts_heard size shadow inbound h proper = cases inbound.form proper
    where
      long : (form : Form) → All (IsProperPart n form) inbound.parts → IfOk (heard_parts size shadow inbound.parts) CanBeStored
      long form proper = fields_heard size shadow (leading_text inbound.parts) (returned inbound.parts) h (any_returned_proper n form inbound.parts proper)

      short : (t : Bool) → All (IsProperPart n Modified) inbound.parts → IfOk (if t then Ok (heard_short size inbound.aid shadow) else heard_parts size shadow inbound.parts) CanBeStored
      short true proper = short_heard size inbound.aid shadow h
      short false proper = long Modified proper

      read : (t : Bool) → All (IsProperPart n Buffer) inbound.parts → IfOk (if t then Err Contradiction else Ok (seen (cells_sent inbound.parts))) CanBeStored
      read true proper = tt
      read false proper = seen_storable (cells_sent inbound.parts) (cells_proper n inbound.parts proper)

      cases : (form : Form) → All (IsProperPart n form) inbound.parts → IfOk (heard size shadow (record inbound { form = form })) CanBeStored
      cases Modified proper = short (is_short_aid inbound.aid) proper
      cases AllModified proper = long AllModified proper
      cases Buffer proper = read (denies_buffer shadow (cells_sent inbound.parts)) proper

pub doubt_stored : DoubtCanBeStored
doubt_stored = attention_heard 0

pub heard_stored : HeardCanBeStored
heard_stored size shadow new inbound h sent e = subst (λ r. IfOk r CanBeStored) e (parts_heard (cells_in inbound.size) size shadow inbound h (inbound_proper inbound sent))

-- ---- what is told

without_nulls_text : (value : List ℕ) → All IsStorable value → All IsTextChar (without_nulls value)
without_nulls_text [] h = All-nil IsTextChar
without_nulls_text (c ∷ value) h = cases (c == 0) refl (without_nulls_text value (All-tail IsStorable c value h))
  where
    cases : (t : Bool) → (c == 0) ≡ t → All IsTextChar (without_nulls value) → All IsTextChar (if not t then c ∷ without_nulls value else without_nulls value)
    cases true e rest = rest
    cases false e rest = All-cons IsTextChar c (without_nulls value) (and_from (is_storable c) (not (c == 0)) (All-head IsStorable c value h) (ap not e)) rest

told_text : (fact : Fact) (text : List ℕ) → FactCanBeStored fact → told fact ≡ Some text → All IsTextChar text
told_text (Fact.Exact value) text h e = let same : without_nulls value ≡ text = cc in subst (All IsTextChar) same (without_nulls_text value h)
told_text (Fact.ExactOrNulls value) text h e = absurd (cc)
told_text (Fact.Text value) text h e = let same : value ≡ text = cc in subst (All IsTextChar) same h
told_text (Fact.TextOrNulls value) text h e = absurd (cc)
told_text (Fact.Any known) text h e = absurd (cc)

found_storable : (at : ℕ) (bs : List Belief) (b : Belief) → belief_with at bs ≡ Some b → All FieldCanBeStored bs → FieldCanBeStored b
found_storable at [] b e h = absurd (cc)
found_storable at (first ∷ bs) b e h = cases (nat_eq first.place at) e (λ is. found_storable at bs b is (All-tail FieldCanBeStored first bs h))
  where
    cases : (t : Bool) → (if t then Some first else belief_with at bs) ≡ Some b → (belief_with at bs ≡ Some b → FieldCanBeStored b) → FieldCanBeStored b
    cases true is later = let same : first ≡ b = cc in subst FieldCanBeStored same (All-head FieldCanBeStored first bs h)
    cases false is later = later is

pub told_stored : ToldCanBeStored
told_stored Shadow.NothingKnown at b text h found e = absurd (cc)
told_stored (Shadow.Unformatted known) at b text h found e = absurd (cc)
told_stored (Shadow.Formatted bs) at b text h found e = told_text b.fact text (found_storable at bs b found h) e
