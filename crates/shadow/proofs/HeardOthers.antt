-- What is heard after PA, after Clear and of Read Buffer.
use Rattle.std.proofs.Common.{◌≡◌, ℕ, zero, suc, ◌+◌, Bool, true, false, not, List, [], ◌∷◌, length, map, replicate, Option, Some, None, refl, ap, sym, subst, arith, ◌∙◌, if◌then◌else◌, nat_eq, eq-eqb, eqb-true}
use Rattle.codes3270.specs.declared.attribute.Attr.{Attr as Attribute}
use Rattle.codes3270.specs.declared.attribute.Cell.{Cell}
use Rattle.codes3270.specs.declared.attribute.Cell.TheVariants.{Char}
use Rattle.codes3270.specs.Attribute.{attr_byte}
use Rattle.datastream.specs.Screen.{Screen, text_before_attribute}
use Rattle.datastream.specs.Fields.{Field, fields, fields_from}
use Rattle.datastream.specs.KeptByKeys.{without_mdt}
use Rattle.shadow.specs.declared.mdt_state.MdtState.TheVariants.{Unknown}
use Rattle.shadow.specs.Pairs.{Pairwise}
use Rattle.shadow.specs.Belief.{Fact, Belief, Shadow}
use Rattle.shadow.specs.Meets.{FieldMeets, MarkIs, Holds, KnownIs, Meets, Knows, ListsFields, IsFormatted, FieldTold, IsTold}
use Rattle.shadow.specs.Heard.{heard_attention, after_attention, unknown_fact}
use Rattle.shadow.specs.AfterReadBuffer.{mark_seen, belief_seen, formatted_or, seen, same_attr, misses, differs, known_chars, is_other, others, denies_buffer}
use Rattle.shadow.proofs.Keyed.{Keyed, FieldKeyed}
use Rattle.shadow.proofs.Pairs.{nothing_known, all_known}
use Rattle.shadow.proofs.FieldPlaces.{or_neither}
use Rattle.shadow.proofs.FieldStep.{Followed, and_if}
use Rattle.shadow.proofs.HeardMeets.{followed, none_left, none_now}

unknown_holds : (n : ℕ) (text : List ℕ) → length text ≡ n → Holds (unknown_fact n) text
unknown_holds n text e = cases (nat_eq n 0) refl
  where
    empty : (text : List ℕ) → length text ≡ 0 → text ≡ []
    empty [] e = refl
    empty (c ∷ cs) e = absurd (omega arith)

    cases : (t : Bool) → nat_eq n 0 ≡ t → Holds (if t then Fact.Exact [] else Fact.Any (replicate n None)) text
    cases true is = empty text (e ∙ eqb-true _ _ is)
    cases false is = rw (← e) (nothing_known text)

attention_field : (erased : Bool) (b : Belief) (f : Field) → Followed erased b f → FieldMeets (after_attention b) f
attention_field erased b f h = cases b.attr.protected refl
  where
    same : without_mdt f.attr ≡ b.attr
    same = h.keyed.same_attr ∙ h.meets.same_attr

    is : b.attr.protected ≡ f.attr.protected
    is = ap (λ (a : Attribute). a.protected) (sym same)

    same_length : length f.text ≡ b.length
    same_length = h.keyed.same_length ∙ h.meets.same_length

    cases : (p : Bool) → b.attr.protected ≡ p → FieldMeets (if p then b else record b { mdt = Unknown; fact = unknown_fact b.length }) f
    cases true p = record {
      same_place = h.keyed.same_place ∙ h.meets.same_place;
      same_attr = same;
      same_length = same_length;
      mark_is = subst (MarkIs b.mdt) (sym (h.keyed.protected (sym is ∙ p)).0) h.meets.mark_is;
      holds = subst (Holds b.fact) (sym (h.keyed.protected (sym is ∙ p)).1) h.meets.holds;
    }
    cases false p = record { same_place = h.keyed.same_place ∙ h.meets.same_place; same_attr = same; same_length = same_length; mark_is = tt; holds = unknown_holds b.length f.text same_length }

attention_fields : (erased : Bool) (bs : List Belief) (fs : List Field) → Pairwise (Followed erased) bs fs → Pairwise FieldMeets (map after_attention bs) fs
attention_fields erased [] [] h = tt
attention_fields erased [] (f ∷ fs) h = h
attention_fields erased (b ∷ bs) [] h = h
attention_fields erased (b ∷ bs) (f ∷ fs) h = (attention_field erased b f h.0, attention_fields erased bs fs h.1)

pub attention_meets : (erased : Bool) (shadow : Shadow) (left now : Screen) → Meets shadow left → Keyed erased left.cells now.cells → Meets (heard_attention shadow) now
attention_meets erased Shadow.NothingKnown left now meets keyed = tt
attention_meets erased (Shadow.Unformatted known) left now meets keyed = tt
attention_meets erased (Shadow.Formatted bs) left now meets keyed =
    ((λ e. meets.0 (none_left (FieldKeyed erased) (fields left.cells) (fields now.cells) keyed.1 e)), attention_fields erased bs (fields now.cells) (followed erased bs (fields left.cells) (fields now.cells) meets.1 keyed.1))

pub attention_lists : (erased : Bool) (shadow : Shadow) (left now : Screen) → Knows shadow → Meets shadow left → Keyed erased left.cells now.cells → ListsFields (heard_attention shadow) now
attention_lists erased Shadow.NothingKnown left now knows meets keyed = absurd knows
attention_lists erased (Shadow.Unformatted known) left now knows meets keyed =
    λ some. absurd (some (none_now (FieldKeyed erased) (fields left.cells) (fields now.cells) keyed.1 meets.0))
attention_lists erased (Shadow.Formatted bs) left now knows meets keyed = λ _. tt

-- a screen of nulls
pub no_field : (whole : List Cell) (n size : ℕ) → fields_from whole n (replicate size (Char 0)) ≡ []
no_field whole n zero = refl
no_field whole n (suc size) = no_field whole (n + 1) size

all_null : (size : ℕ) → Pairwise KnownIs (replicate size (Some 0)) (text_before_attribute (replicate size (Char 0)))
all_null zero = tt
all_null (suc size) = (refl, all_null size)

pub cleared_meets : (size : ℕ) (now : Screen) → now.cells ≡ replicate size (Char 0) → Meets (Shadow.Unformatted (replicate size (Some 0))) now
cleared_meets size now e = rw e (no_field (replicate size (Char 0)) 0 size, all_null size)

-- the whole screen, as it was read
seen_fields : (fs : List Field) → Pairwise FieldMeets (map belief_seen fs) fs
seen_fields [] = tt
seen_fields (f ∷ fs) = (record { same_place = refl; same_attr = refl; same_length = refl; mark_is = seen_mark f.attr.mdt; holds = refl }, seen_fields fs)
  where
    seen_mark : (mdt : Bool) → MarkIs (mark_seen mdt) mdt
    seen_mark true = refl
    seen_mark false = refl

pub seen_meets : (s : Screen) → Meets (seen s.cells) s
seen_meets s = cases (fields s.cells) refl
  where
    cases : (fs : List Field) → fields s.cells ≡ fs → Meets (formatted_or fs (text_before_attribute s.cells)) s
    cases [] e = (e, all_known (text_before_attribute s.cells))
    cases (f ∷ fs) e = ((λ none. absurd (cc)), subst (Pairwise FieldMeets (map belief_seen (f ∷ fs))) (sym e) (seen_fields (f ∷ fs)))

pub seen_lists : (s : Screen) → ListsFields (seen s.cells) s
seen_lists s = cases (fields s.cells) refl
  where
    cases : (fs : List Field) → fields s.cells ≡ fs → (fields s.cells ≡ [] → ⊥) → IsFormatted (formatted_or fs (text_before_attribute s.cells))
    cases [] e some = absurd (some e)
    cases (f ∷ fs) e some = tt

pub same_attr-refl : (one other : Attribute) → without_mdt one ≡ other → same_attr one other ≡ true
same_attr-refl one other e = eq-eqb _ _ (ap attr_byte (ap without_mdt e))

pub none_differs : (ks : List (Option ℕ)) (text : List ℕ) → Pairwise KnownIs ks text → differs ks text ≡ false
none_differs [] [] h = refl
none_differs [] (c ∷ cs) h = absurd h
none_differs (k ∷ ks) [] h = absurd h
none_differs (k ∷ ks) (c ∷ cs) h = or_neither _ _ (one k h.0) (none_differs ks cs h.1)
  where
    one : (k : Option ℕ) → KnownIs k c → misses k c ≡ false
    one None h = refl
    one (Some known) h = ap not (eq-eqb _ _ h)

pub chars_known : (n : ℕ) (fact : Fact) (text : List ℕ) → length text ≡ n → Holds fact text → Pairwise KnownIs (known_chars n fact) text
chars_known n (Fact.Exact v) text e h = rw (← h) (all_known text)
chars_known n (Fact.ExactOrNulls v) text e h = rw (← e) (nothing_known text)
chars_known n (Fact.Text t) text e h = rw (← e) (nothing_known text)
chars_known n (Fact.TextOrNulls t) text e h = rw (← e) (nothing_known text)
chars_known n (Fact.Any known) text e h = h

not_other : (b : Belief) (f : Field) → FieldMeets b f → is_other b f ≡ false
not_other b f h =
    or_neither _ _ (or_neither _ _ (ap not (eq-eqb _ _ h.same_place)) (ap not (same_attr-refl f.attr b.attr h.same_attr)))
    (and_if _ _ λ p. none_differs _ f.text (chars_known b.length b.fact f.text h.same_length h.holds))

no_others : (bs : List Belief) (fs : List Field) → Pairwise FieldMeets bs fs → others bs fs ≡ false
no_others [] [] h = refl
no_others [] (f ∷ fs) h = absurd h
no_others (b ∷ bs) [] h = absurd h
no_others (b ∷ bs) (f ∷ fs) h = or_neither _ _ (not_other b f h.0) (no_others bs fs h.1)

pub not_denied : (shadow : Shadow) (now : Screen) → Meets shadow now → denies_buffer shadow now.cells ≡ false
not_denied Shadow.NothingKnown now h = refl
not_denied (Shadow.Unformatted known) now h = rw h.0
not_denied (Shadow.Formatted bs) now h = no_others bs (fields now.cells) h.1

fields_told : (fs : List Field) → Pairwise FieldTold (map belief_seen fs) fs
fields_told [] = tt
fields_told (f ∷ fs) = ((λ _ _. refl), fields_told fs)

pub seen_told : (s : Screen) → IsTold (seen s.cells) s
seen_told s = cases (fields s.cells) refl
  where
    cases : (fs : List Field) → fields s.cells ≡ fs → IsTold (formatted_or fs (text_before_attribute s.cells)) s
    cases [] e = tt
    cases (f ∷ fs) e = subst (Pairwise FieldTold (map belief_seen (f ∷ fs))) (sym e) (fields_told (f ∷ fs))
