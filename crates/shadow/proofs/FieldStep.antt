-- One field: what the host believed of it after its write, how the operator left it, and what is heard of it.
use Rattle.std.proofs.Common.{◌≡◌, ℕ, Bool, true, false, not, ◌&&◌, List, [], ◌∷◌, length, Some, None, refl, ap, sym, subst, inl, inr, arith, ◌∙◌, le-ltb, nat_lt, if◌then◌else◌, true≢false}
use Rattle.std.specs.Prelude.{bytes_eq}
use Rattle.std.proofs.lemmas.Bool.{and_parts}
use Rattle.codes3270.specs.declared.attribute.Attr.{Attr as Attribute}
use Rattle.datastream.specs.Fields.{Field}
use Rattle.datastream.specs.Inbound.{without_nulls}
use Rattle.shadow.specs.declared.mdt_state.MdtState.{MdtState}
use Rattle.shadow.specs.declared.mdt_state.MdtState.TheVariants.{On, Off, Unknown}
use Rattle.shadow.specs.Belief.{Fact, Belief, nulls}
use Rattle.shadow.specs.Meets.{FieldMeets, MarkIs, Holds, IsNull}
use Rattle.shadow.specs.Heard.{is_on, is_off, denies, contradicts_text, lost_text, text_fact, or_nulls, unprotected_fact, mark_of, after_long}
use Rattle.shadow.proofs.Keyed.{FieldKeyed, Untouched}
use Rattle.shadow.proofs.FieldPlaces.{answer_of, or_neither}
use Rattle.shadow.proofs.Pairs.{length-without_nulls, null_without, bytes_eq-refl, bytes_eq_true, forgotten}

-- the field was believed so when it was left, and is so now
pub record Followed (erased : Bool) (b : Belief) (now : Field) : Type 0 where
  pub left : Field
  pub meets : FieldMeets b left
  pub keyed : FieldKeyed erased left now

pub and_if : (p q : Bool) → (p ≡ true → q ≡ false) → (p && q) ≡ false
and_if true q h = h refl
and_if false q h = refl

not_off : (m : MdtState) (mdt : Bool) → MarkIs m mdt → mdt ≡ true → is_off m ≡ false
not_off On mdt h e = refl
not_off Off mdt h e = absurd (cc)
not_off Unknown mdt h e = refl

pub not_on : (m : MdtState) (mdt : Bool) → MarkIs m mdt → mdt ≡ false → is_on m ≡ false
not_on On mdt h e = absurd (cc)
not_on Off mdt h e = refl
not_on Unknown mdt h e = refl

on_is_on : (m : MdtState) (mdt : Bool) → MarkIs m mdt → is_on m ≡ true → mdt ≡ true
on_is_on On mdt h e = h
on_is_on Off mdt h e = absurd (cc)
on_is_on Unknown mdt h e = absurd (cc)

not_denied : (fact : Fact) (text : List ℕ) → Holds fact text → denies fact (without_nulls text) ≡ false
not_denied (Fact.Exact v) text h = subst (λ w. not (bytes_eq (without_nulls w) (without_nulls text)) ≡ false) h (ap not (bytes_eq-refl (without_nulls text)))
not_denied (Fact.ExactOrNulls v) text h = refl
not_denied (Fact.Text t) text h = refl
not_denied (Fact.TextOrNulls t) text h = refl
not_denied (Fact.Any known) text h = refl

-- neither its text nor its absence is refused
pub accepted : (erased : Bool) (b : Belief) (f : Field) → Followed erased b f → contradicts_text b (answer_of f) ≡ false
accepted erased b f h = cases f.attr.mdt refl
  where
    protected_left : b.attr.protected ≡ true → (f.attr.mdt ≡ h.left.attr.mdt) × (f.text ≡ h.left.text)
    protected_left e = h.keyed.protected (ap (λ (a : Attribute). a.protected) (h.keyed.same_attr ∙ h.meets.same_attr) ∙ e)

    fits : nat_lt b.length (length (without_nulls f.text)) ≡ false
    fits = le-ltb _ _ (let a = length-without_nulls f.text in let s = h.meets.same_length in let t = h.keyed.same_length in omega arith)

    cases : (m : Bool) → f.attr.mdt ≡ m → contradicts_text b (if m then Some (without_nulls f.text) else None) ≡ false
    cases true e =
        or_neither _ _ fits
        (and_if _ _ λ p. or_neither _ _
        (not_off b.mdt h.left.attr.mdt h.meets.mark_is (sym (protected_left p).0 ∙ e))
        (not_denied b.fact f.text (subst (Holds b.fact) (sym (protected_left p).1) h.meets.holds)))
    cases false e = and_if _ _ λ p. not_on b.mdt h.left.attr.mdt h.meets.mark_is (sym (protected_left p).0 ∙ e)

-- a lost text shows that Erase Input was done
not_true : (p : Bool) → not p ≡ true → p ≡ false
not_true true e = absurd (cc)
not_true false e = refl

touched : (erased : Bool) (l f : Field) → Untouched erased l f → l.attr.mdt ≡ true → erased ≡ true
touched true l f h e = refl
touched false l f h e = absurd (true≢false (sym e ∙ h.0))

pub lost_shows : (erased : Bool) (b : Belief) (f : Field) → Followed erased b f → lost_text b (answer_of f) ≡ true → erased ≡ true
lost_shows erased b f h = cases f.attr.mdt refl
  where
    is : b.attr.protected ≡ f.attr.protected
    is = ap (λ (a : Attribute). a.protected) (sym (h.keyed.same_attr ∙ h.meets.same_attr))

    cases : (m : Bool) → f.attr.mdt ≡ m → lost_text b (if m then Some (without_nulls f.text) else None) ≡ true → erased ≡ true
    cases true m e = absurd (cc)
    cases false m e =
        let parts = and_parts _ _ e in
        touched erased h.left f (h.keyed.unprotected (sym is ∙ not_true _ parts.0) m) (on_is_on b.mdt h.left.attr.mdt h.meets.mark_is parts.1)

text_fact_holds : (n : ℕ) (text t : List ℕ) → length text ≡ n → without_nulls text ≡ t → Holds (text_fact n t) text
text_fact_holds n text [] e w = null_without text w ∙ ap nulls e
text_fact_holds n text (c ∷ cs) e w = w

-- still as it was left
or_nulls_same : (fact : Fact) (text : List ℕ) → Holds fact text → Holds (or_nulls fact) text
or_nulls_same (Fact.Exact v) text h = cases (bytes_eq v (nulls (length v)))
  where
    cases : (t : Bool) → Holds (if t then Fact.Exact v else Fact.ExactOrNulls v) text
    cases true = h
    cases false = inl h
or_nulls_same (Fact.ExactOrNulls v) text h = h
or_nulls_same (Fact.Text t) text h = inl h
or_nulls_same (Fact.TextOrNulls t) text h = h
or_nulls_same (Fact.Any known) text h = forgotten known text text refl h

-- or null
or_nulls_null : (fact : Fact) (left text : List ℕ) → Holds fact left → length text ≡ length left → IsNull text → Holds (or_nulls fact) text
or_nulls_null (Fact.Exact v) left text h e null = cases (bytes_eq v (nulls (length v))) refl
  where
    cases : (t : Bool) → bytes_eq v (nulls (length v)) ≡ t → Holds (if t then Fact.Exact v else Fact.ExactOrNulls v) text
    cases true same = null ∙ ap nulls (e ∙ ap length h) ∙ sym (bytes_eq_true _ _ same)
    cases false same = inr null
or_nulls_null (Fact.ExactOrNulls v) left text h e null = inr null
or_nulls_null (Fact.Text t) left text h e null = inr null
or_nulls_null (Fact.TextOrNulls t) left text h e null = inr null
or_nulls_null (Fact.Any known) left text h e null = forgotten known left text e h

-- unreturned
unreturned : (erased e : Bool) → (e ≡ true → erased ≡ true) → (b : Belief) (l f : Field) → FieldMeets b l → length f.text ≡ length l.text → Untouched erased l f
    → Holds (if e then Fact.Exact (nulls b.length) else or_nulls b.fact) f.text
unreturned true true shows b l f h len u = u ∙ ap nulls (len ∙ h.same_length)
unreturned true false shows b l f h len u = or_nulls_null b.fact l.text f.text h.holds len u
unreturned false true shows b l f h len u = absurd (true≢false (sym (shows refl)))
unreturned false false shows b l f h len u = or_nulls_same b.fact f.text (subst (Holds b.fact) (sym u.1) h.holds)

marked : (m mdt : Bool) (text : List ℕ) → mdt ≡ m → MarkIs (mark_of (if m then Some text else None)) mdt
marked true mdt text e = e
marked false mdt text e = e

-- the new belief is true
pub heard_field : (erased e : Bool) → (e ≡ true → erased ≡ true) → (b : Belief) (f : Field) → Followed erased b f → FieldMeets (after_long e (record { field = b; text = answer_of f })) f
heard_field erased e shows b f h = record {
  same_place = h.keyed.same_place ∙ h.meets.same_place;
  same_attr = h.keyed.same_attr ∙ h.meets.same_attr;
  same_length = same_length;
  mark_is = marked f.attr.mdt f.attr.mdt (without_nulls f.text) refl;
  holds = cases b.attr.protected refl f.attr.mdt refl;
}
  where
    is : b.attr.protected ≡ f.attr.protected
    is = ap (λ (a : Attribute). a.protected) (sym (h.keyed.same_attr ∙ h.meets.same_attr))

    same_length : length f.text ≡ b.length
    same_length = h.keyed.same_length ∙ h.meets.same_length

    cases : (p : Bool) → b.attr.protected ≡ p → (m : Bool) → f.attr.mdt ≡ m
        → Holds (if p then b.fact else unprotected_fact e b (if m then Some (without_nulls f.text) else None)) f.text
    cases true p m mdt = subst (Holds b.fact) (sym (h.keyed.protected (sym is ∙ p)).1) h.meets.holds
    cases false p true mdt = text_fact_holds b.length f.text _ same_length refl
    cases false p false mdt = unreturned erased e shows b h.left f h.meets h.keyed.same_length (h.keyed.unprotected (sym is ∙ p) mdt)
