-- What is exact stays so, whatever is heard; and where protected fields are exact each returned field is told.
use Rattle.std.proofs.Common.{◌≡◌, ℕ, zero, suc, Bool, true, false, List, [], ◌∷◌, length, map, replicate, Option, Some, None, Result, Ok, Err, refl, ap, sym, subst, arith, ◌∙◌, if◌then◌else◌, nat_eq, nat_lt, eqb-true, All}
use Rattle.std.specs.Prelude.{IfOk, bytes_eq}
use Rattle.std.specs.List.{list_any}
use Rattle.std.proofs.lemmas.List.{length-map, length-replicate}
use Rattle.std.proofs.lemmas.List.Elements.{All-head, All-tail, All-nil, All-cons}
use Rattle.std.proofs.lemmas.Bool.{ltb-false}
use Rattle.codes3270.specs.declared.attention.Aid.{Aid}
use Rattle.codes3270.specs.declared.attention.Aid.TheVariants.{NoAid, Enter, Clear, Pf, Pa}
use Rattle.codes3270.specs.declared.attribute.Attr.{Attr as Attribute}
use Rattle.codes3270.specs.declared.attribute.Cell.{Cell}
use Rattle.codes3270.specs.Aid.{is_short_aid}
use Rattle.datastream.specs.Screen.{text_before_attribute}
use Rattle.datastream.specs.Fields.{Field, fields, IsFormatted, IsUnformatted}
use Rattle.datastream.specs.Inbound.{without_nulls}
use Rattle.datastream.specs.InboundFields.{Returned, leading_text, returned, cells_sent}
use Rattle.datastream.specs.InboundText.{InboundParts}
use Rattle.datastream.specs.declared.inbound_part.Form.{Form}
use Rattle.datastream.specs.declared.inbound_part.Form.TheVariants.{Modified, All as AllModified, Buffer}
use Rattle.shadow.specs.declared.fault.HeardFault.{HeardFault}
use Rattle.shadow.specs.declared.fault.HeardFault.TheVariants.{NoSuchField, Contradiction}
use Rattle.shadow.specs.declared.mdt_state.MdtState.TheVariants.{Unknown}
use Rattle.shadow.specs.Pairs.{Pairwise}
use Rattle.shadow.specs.Belief.{Fact, Belief, Shadow, nulls, fields_of}
use Rattle.shadow.specs.Meets.{FieldMeets, Holds, told, FieldTold}
use Rattle.shadow.specs.Heard.{Answer, starts_at, is_nowhere, answer_and, answers, contradicts, was_erased, text_fact, or_nulls, unprotected_fact, after_long, settled, heard_long, unknown_fact, after_attention, heard_attention, heard_short, heard_parts, heard}
use Rattle.shadow.specs.AfterReadBuffer.{belief_seen, formatted_or, seen, known_chars, denies_buffer}
use Rattle.shadow.specs.Doubt.{DoubtStaysExact, DoubtStaysProtected}
use Rattle.shadow.specs.Exactness.{IsExact, IsExactWhereKnown, FieldIsExact, IsExactIfProtected, HeardStaysExact, HeardStaysProtected, NothingIsExact, ProtectedSeen, ProtectedIsSeen, ReturnedTold, ReturnedIsTold}
use Rattle.shadow.proofs.FieldPlaces.{both_false}

-- ---- whatever is kept by one field is kept by all

module _ (P : Belief → Type 0) (read : (f : Field) → P (belief_seen f)) where
  each_read : (fs : List Field) → All P (map belief_seen fs)
  each_read [] = All-nil P
  each_read (f ∷ fs) = All-cons P (belief_seen f) (map belief_seen fs) (read f) (each_read fs)

  pub seen_has : (cells : List Cell) → All P (fields_of (seen cells))
  seen_has cells = cases (fields cells) (text_before_attribute cells)
    where
      cases : (fs : List Field) (chars : List ℕ) → All P (fields_of (formatted_or fs chars))
      cases [] chars = All-nil P
      cases (f ∷ fs) chars = each_read (f ∷ fs)

-- what holds of the field of each answer
abbrev pub Each : (Belief → Type 0) → List Answer → Type 0
Each P = All (λ (a : Answer). P a.field)

module _ (P : Belief → Type 0) where
  one_answer : (b : Belief) (text : Option (List ℕ)) (others : Option (List Answer)) (found : List Answer) → answer_and b text others ≡ Some found → P b → ((more : List Answer) → others ≡ Some more → Each P more) → Each P found
  one_answer b text None found e p h = absurd (cc)
  one_answer b text (Some more) found e p h =
      let same : record { field = b; text = text } ∷ more ≡ found = cc in
      subst (Each P) same (All-cons (λ (a : Answer). P a.field) (record { field = b; text = text }) more p (h more refl))

  each_answer : (size : ℕ) (bs : List Belief) (rs : List Returned) (found : List Answer) → answers size bs rs ≡ Some found → All P bs → Each P found
  each_answer size [] [] found e h = let same : [] ≡ found = cc in subst (Each P) same (All-nil (λ (a : Answer). P a.field))
  each_answer size [] (r ∷ rs) found e h = absurd (cc)
  each_answer size (b ∷ bs) [] found e h = one_answer b None (answers size bs []) found e (All-head P b bs h) (λ more is. each_answer size bs [] more is (All-tail P b bs h))
  each_answer size (b ∷ bs) (r ∷ rs) found e h =
      cases (starts_at size b r.first) e (λ more is. each_answer size bs rs more is (All-tail P b bs h)) (λ more is. each_answer size bs (r ∷ rs) more is (All-tail P b bs h))
    where
      cases : (t : Bool) → (if t then answer_and b (Some r.text) (answers size bs rs) else answer_and b None (answers size bs (r ∷ rs))) ≡ Some found
          → ((more : List Answer) → answers size bs rs ≡ Some more → Each P more) → ((more : List Answer) → answers size bs (r ∷ rs) ≡ Some more → Each P more) → Each P found
      cases true e there later = one_answer b (Some r.text) (answers size bs rs) found e (All-head P b bs h) there
      cases false e there later = one_answer b None (answers size bs (r ∷ rs)) found e (All-head P b bs h) later

-- data that returns fields: what holds of each field before gives what holds of each one after
module _ (P Q : Belief → Type 0)
    (long : (ans : List Answer) → list_any contradicts ans ≡ false → Each P ans → All Q (map (after_long (list_any was_erased ans)) ans)) where
  abbrev Given : Result Shadow HeardFault → Type 0
  Given result = IfOk result (λ (new : Shadow). All Q (fields_of new))

  settled_gives : (found : Option (List Answer)) → ((ans : List Answer) → found ≡ Some ans → Each P ans) → Given (settled found)
  settled_gives None h = tt
  settled_gives (Some ans) h = cases (list_any contradicts ans) refl
    where
      cases : (t : Bool) → list_any contradicts ans ≡ t → Given (if t then Err Contradiction else Ok (Shadow.Formatted (map (after_long (list_any was_erased ans)) ans)))
      cases true e = tt
      cases false e = long ans e (h ans refl)

  pub long_gives : (size : ℕ) (shadow : Shadow) (ahead : List ℕ) (rs : List Returned) → All P (fields_of shadow) → Given (heard_long size shadow ahead rs)
  long_gives size Shadow.NothingKnown ahead [] h = All-nil Q
  long_gives size Shadow.NothingKnown ahead (r ∷ rs) h = tt
  long_gives size (Shadow.Unformatted known) ahead [] h = cases (nat_lt (length known) (length ahead))
    where
      cases : (t : Bool) → Given (if t then Err Contradiction else Ok Shadow.NothingKnown)
      cases true = tt
      cases false = All-nil Q
  long_gives size (Shadow.Unformatted known) ahead (r ∷ rs) h = tt
  long_gives size (Shadow.Formatted bs) ahead rs h = cases (list_any (is_nowhere size bs) rs) (nat_lt 0 (length ahead))
    where
      cases : (t u : Bool) → Given (if t then Err NoSuchField else if u then Err Contradiction else settled (answers size bs rs))
      cases true u = tt
      cases false true = tt
      cases false false = settled_gives (answers size bs rs) (λ ans e. each_answer P size bs rs ans e h)

module _ (P : Belief → Type 0) (long : (erased : Bool) (a : Answer) → contradicts a ≡ false → P a.field → P (after_long erased a)) where
  abbrev Kept : Result Shadow HeardFault → Type 0
  Kept result = IfOk result (λ (new : Shadow). All P (fields_of new))

  each_long : (erased : Bool) (ans : List Answer) → list_any contradicts ans ≡ false → Each P ans → All P (map (after_long erased) ans)
  each_long erased [] none h = All-nil P
  each_long erased (a ∷ ans) none h =
      let parts = both_false _ _ none in
      All-cons P (after_long erased a) (map (after_long erased) ans) (long erased a parts.0 (All-head (λ (x : Answer). P x.field) a ans h)) (each_long erased ans parts.1 (All-tail (λ (x : Answer). P x.field) a ans h))

  pub long_keeps : (size : ℕ) (shadow : Shadow) (ahead : List ℕ) (rs : List Returned) → All P (fields_of shadow) → Kept (heard_long size shadow ahead rs)
  long_keeps = long_gives P P (λ ans. each_long (list_any was_erased ans) ans)

  module _ (attention : (b : Belief) → P b → P (after_attention b)) (read : (f : Field) → P (belief_seen f)) where
    each_attention : (bs : List Belief) → All P bs → All P (map after_attention bs)
    each_attention [] h = All-nil P
    each_attention (b ∷ bs) h = All-cons P (after_attention b) (map after_attention bs) (attention b (All-head P b bs h)) (each_attention bs (All-tail P b bs h))

    attention_keeps : (shadow : Shadow) → All P (fields_of shadow) → All P (fields_of (heard_attention shadow))
    attention_keeps Shadow.NothingKnown h = All-nil P
    attention_keeps (Shadow.Unformatted known) h = All-nil P
    attention_keeps (Shadow.Formatted bs) h = each_attention bs h

    short_keeps : (size : ℕ) (aid : Aid) (shadow : Shadow) → All P (fields_of shadow) → All P (fields_of (heard_short size aid shadow))
    short_keeps size Clear shadow h = All-nil P
    short_keeps size (Pa key) shadow h = attention_keeps shadow h
    short_keeps size NoAid shadow h = attention_keeps shadow h
    short_keeps size Enter shadow h = attention_keeps shadow h
    short_keeps size (Pf key) shadow h = attention_keeps shadow h

    pub heard_keeps : (size : ℕ) (shadow : Shadow) (inbound : InboundParts) → All P (fields_of shadow) → Kept (heard size shadow inbound)
    heard_keeps size shadow inbound h = cases inbound.form
      where
        short : (t : Bool) → Kept (if t then Ok (heard_short size inbound.aid shadow) else heard_parts size shadow inbound.parts)
        short true = short_keeps size inbound.aid shadow h
        short false = long_keeps size shadow (leading_text inbound.parts) (returned inbound.parts) h

        read_keeps : (t : Bool) → Kept (if t then Err Contradiction else Ok (seen (cells_sent inbound.parts)))
        read_keeps true = tt
        read_keeps false = seen_has P read (cells_sent inbound.parts)

        cases : (form : Form) → Kept (heard size shadow (record inbound { form = form }))
        cases Modified = short (is_short_aid inbound.aid)
        cases AllModified = long_keeps size shadow (leading_text inbound.parts) (returned inbound.parts) h
        cases Buffer = read_keeps (denies_buffer shadow (cells_sent inbound.parts))

-- ---- where all characters are known

pub some_injective : (xs ys : List ℕ) → map Some xs ≡ map Some ys → xs ≡ ys
some_injective [] [] e = refl
some_injective [] (y ∷ ys) e = absurd (cc)
some_injective (x ∷ xs) [] e = absurd (cc)
some_injective (x ∷ xs) (y ∷ ys) e = let ih = some_injective xs ys (cc) in let head : Some x ≡ Some y = (cc) in let same : x ≡ y = (cc) in (cc)

pub exact_fact : (n : ℕ) (v : List ℕ) → length v ≡ n → IsExactWhereKnown n (Fact.Exact v)
exact_fact n v e = record { whole = length-map v Some ∙ e; exact = λ text is. ap Fact.Exact (some_injective v text is) }

-- nothing is a text where there are no characters alone
none_text : (n : ℕ) (text : List ℕ) → replicate n None ≡ map Some text → n ≡ 0
none_text zero text e = refl
none_text (suc n) [] e = absurd (cc)
none_text (suc n) (c ∷ cs) e = absurd (cc)

nulls_exact : (n : ℕ) → IsExactWhereKnown n (Fact.Exact (nulls n))
nulls_exact n = exact_fact n (nulls n) (length-replicate n 0)

unknown_whole : (n : ℕ) → length (known_chars n (Fact.Text [])) ≡ n
unknown_whole n = length-replicate n None

text_exact : (n : ℕ) (text : List ℕ) → nat_lt n (length text) ≡ false → IsExactWhereKnown n (text_fact n text)
text_exact n [] fits = nulls_exact n
text_exact zero (c ∷ cs) fits = absurd (let le = ltb-false zero (length (c ∷ cs)) fits in omega arith)
text_exact (suc n) (c ∷ cs) fits = record { whole = unknown_whole (suc n); exact = λ text e. absurd (let zero_ = none_text (suc n) text e in omega arith) }

all_open : (known : List (Option ℕ)) (text : List ℕ) → map (λ _. None) known ≡ map Some text → known ≡ []
all_open [] text e = refl
all_open (k ∷ known) [] e = absurd (cc)
all_open (k ∷ known) (c ∷ cs) e = absurd (cc)

or_nulls_exact : (n : ℕ) (fact : Fact) → IsExactWhereKnown n fact → IsExactWhereKnown n (or_nulls fact)
or_nulls_exact n (Fact.Exact v) h = cases (bytes_eq v (nulls (length v))) refl
  where
    null_empty : (v : List ℕ) → length v ≡ 0 → bytes_eq v (nulls (length v)) ≡ true
    null_empty [] e = refl
    null_empty (c ∷ cs) e = absurd (omega arith)

    cases : (t : Bool) → bytes_eq v (nulls (length v)) ≡ t → IsExactWhereKnown n (if t then Fact.Exact v else Fact.ExactOrNulls v)
    cases true e = h
    cases false e = record {
      whole = unknown_whole n;
      exact = λ text is. absurd (let none = null_empty v (sym (length-map v Some) ∙ h.whole ∙ none_text n text is) in cc);
    }
or_nulls_exact n (Fact.ExactOrNulls v) h = h
or_nulls_exact n (Fact.Text t) h = record { whole = unknown_whole n; exact = λ text e. absurd (let is = h.exact text e in cc) }
or_nulls_exact n (Fact.TextOrNulls t) h = h
or_nulls_exact n (Fact.Any known) h = record {
  whole = length-map known (λ _. None) ∙ h.whole;
  exact = λ text e. absurd (let is = h.exact [] (all_open known text e) in cc);
}

unknown_exact : (n : ℕ) → IsExactWhereKnown n (unknown_fact n)
unknown_exact n = cases (nat_eq n 0) refl
  where
    eq_zero : (n : ℕ) → n ≡ 0 → nat_eq n 0 ≡ true
    eq_zero zero e = refl
    eq_zero (suc n) e = absurd (omega arith)

    cases : (t : Bool) → nat_eq n 0 ≡ t → IsExactWhereKnown n (if t then Fact.Exact [] else Fact.Any (replicate n None))
    cases true e = exact_fact n [] (sym (eqb-true n 0 e))
    cases false e = record { whole = unknown_whole n; exact = λ text is. absurd (let zero_ = eq_zero n (none_text n text is) in cc) }

long_exact : (erased : Bool) (a : Answer) → contradicts a ≡ false → FieldIsExact a.field → FieldIsExact (after_long erased a)
long_exact erased a none h = cases a.field.attr.protected a.text none
  where
    or_else : (t : Bool) → IsExactWhereKnown a.field.length (if t then Fact.Exact (nulls a.field.length) else or_nulls a.field.fact)
    or_else true = nulls_exact a.field.length
    or_else false = or_nulls_exact a.field.length a.field.fact h

    cases : (p : Bool) (text : Option (List ℕ)) → contradicts (record { field = a.field; text = text }) ≡ false
        → IsExactWhereKnown a.field.length (if p then a.field.fact else unprotected_fact erased a.field text)
    cases true text none = h
    cases false None none = or_else erased
    cases false (Some text) none = text_exact a.field.length text (both_false _ _ none).0

attention_exact : (b : Belief) → FieldIsExact b → FieldIsExact (after_attention b)
attention_exact b h = cases b.attr.protected
  where
    cases : (p : Bool) → FieldIsExact (if p then b else record b { mdt = Unknown; fact = unknown_fact b.length })
    cases true = h
    cases false = unknown_exact b.length

read_exact : (f : Field) → FieldIsExact (belief_seen f)
read_exact f = exact_fact (length f.text) f.text refl

pub seen_exact : (cells : List Cell) → All FieldIsExact (fields_of (seen cells))
seen_exact = seen_has FieldIsExact read_exact

pub doubt_exact : DoubtStaysExact
doubt_exact = attention_keeps FieldIsExact long_exact attention_exact read_exact

pub heard_exact : HeardStaysExact
heard_exact = heard_keeps FieldIsExact long_exact attention_exact read_exact

-- ---- protected fields

long_protected : (erased : Bool) (a : Answer) → contradicts a ≡ false → IsExactIfProtected a.field → IsExactIfProtected (after_long erased a)
long_protected erased a none h p = cases a.field.attr.protected p (h p)
  where
    cases : (q : Bool) → q ≡ true → IsExact a.field.fact → IsExact (if q then a.field.fact else unprotected_fact erased a.field a.text)
    cases true e is = is
    cases false e is = absurd (cc)

attention_protected : (b : Belief) → IsExactIfProtected b → IsExactIfProtected (after_attention b)
attention_protected b h = cases b.attr.protected refl
  where
    cases : (q : Bool) → b.attr.protected ≡ q → IsExactIfProtected (if q then b else record b { mdt = Unknown; fact = unknown_fact b.length })
    cases true e = h
    cases false e = λ p. absurd (cc)

read_protected : (f : Field) → IsExactIfProtected (belief_seen f)
read_protected f p = (f.text, refl)

pub seen_protected : (cells : List Cell) → All IsExactIfProtected (fields_of (seen cells))
seen_protected = seen_has IsExactIfProtected read_protected

pub doubt_protected : DoubtStaysProtected
doubt_protected = attention_keeps IsExactIfProtected long_protected attention_protected read_protected

pub heard_protected : HeardStaysProtected
heard_protected = heard_keeps IsExactIfProtected long_protected attention_protected read_protected

-- ---- returned fields

exact_seen : (fact : Fact) (text : List ℕ) → IsExact fact → Holds fact text → fact ≡ Fact.Exact text
exact_seen (Fact.Exact v) text is holds = ap Fact.Exact (sym holds)
exact_seen (Fact.ExactOrNulls v) text is holds = absurd (let e = is.1 in cc)
exact_seen (Fact.Text v) text is holds = absurd (let e = is.1 in cc)
exact_seen (Fact.TextOrNulls v) text is holds = absurd (let e = is.1 in cc)
exact_seen (Fact.Any known) text is holds = absurd (let e = is.1 in cc)

each_seen : (bs : List Belief) (fs : List Field) → Pairwise FieldMeets bs fs → All IsExactIfProtected bs → Pairwise ProtectedSeen bs fs
each_seen [] [] meets exact = tt
each_seen [] (f ∷ fs) meets exact = meets
each_seen (b ∷ bs) [] meets exact = meets
each_seen (b ∷ bs) (f ∷ fs) meets exact = (one, each_seen bs fs meets.1 (All-tail IsExactIfProtected b bs exact))
  where
    one : ProtectedSeen b f
    one e =
        let protected : b.attr.protected ≡ true = ap (λ (a : Attribute). a.protected) (sym meets.0.same_attr) ∙ e in
        exact_seen b.fact f.text (All-head IsExactIfProtected b bs exact protected) meets.0.holds

-- a screen of which nothing is known has no fields, if all are listed
none_listed : (cells : List Cell) → (IsFormatted cells → ⊥) → IsUnformatted cells
none_listed cells none = by_fields (fields cells) refl
  where
    by_fields : (fs : List Field) → fields cells ≡ fs → IsUnformatted cells
    by_fields [] e = e
    by_fields (f ∷ fs) e = absurd (none (λ empty. absurd (let both = sym e ∙ empty in cc)))

pub protected_seen : ProtectedIsSeen
protected_seen Shadow.NothingKnown s meets lists exact = none_listed s.cells lists
protected_seen (Shadow.Unformatted known) s meets lists exact = meets.0
protected_seen (Shadow.Formatted bs) s meets lists exact = each_seen bs (fields s.cells) meets.1 exact

pub nothing_exact : NothingIsExact
nothing_exact = (All-nil FieldIsExact, All-nil IsExactIfProtected)

each_told : (bs : List Belief) (fs : List Field) → Pairwise FieldMeets bs fs → All IsExactIfProtected bs → Pairwise FieldTold bs fs → Pairwise ReturnedTold bs fs
each_told [] [] meets exact told_free = tt
each_told [] (f ∷ fs) meets exact told_free = meets
each_told (b ∷ bs) [] meets exact told_free = meets
each_told (b ∷ bs) (f ∷ fs) meets exact told_free = (one, each_told bs fs meets.1 (All-tail IsExactIfProtected b bs exact) told_free.1)
  where
    cases : (p : Bool) → f.attr.protected ≡ p → f.attr.mdt ≡ true → told b.fact ≡ Some (without_nulls f.text)
    cases true e on =
        let protected : b.attr.protected ≡ true = ap (λ (a : Attribute). a.protected) (sym meets.0.same_attr) ∙ e in
        ap told (exact_seen b.fact f.text (All-head IsExactIfProtected b bs exact protected) meets.0.holds)
    cases false e on = told_free.0 e on

    one : ReturnedTold b f
    one on = cases f.attr.protected refl on

pub returned_told : ReturnedIsTold
returned_told Shadow.NothingKnown s meets lists exact told_free = none_listed s.cells lists
returned_told (Shadow.Unformatted known) s meets lists exact told_free = meets.0
returned_told (Shadow.Formatted bs) s meets lists exact told_free = each_told bs (fields s.cells) meets.1 exact told_free
