-- What a terminal sends is heard, and what was heard is so.
use Rattle.std.proofs.Common.{◌≡◌, ℕ, zero, suc, Bool, true, false, ◌||◌, List, [], ◌∷◌, length, map, Some, None, Ok, IsOkAnd, refl, ap, sym, arith, ◌∙◌, if◌then◌else◌, le-ltb, nat_lt}
use Rattle.std.specs.List.{list_any}
use Rattle.codes3270.specs.declared.attribute.Attr.{Attr as Attribute}
use Rattle.codes3270.specs.declared.attribute.Cell.{Cell}
use Rattle.datastream.specs.Screen.{Screen, text_before_attribute}
use Rattle.datastream.specs.Fields.{Field, fields}
use Rattle.datastream.specs.Inbound.{without_nulls}
use Rattle.shadow.specs.Pairs.{Pairwise}
use Rattle.shadow.specs.Belief.{Belief, Shadow, nulls}
use Rattle.shadow.specs.Meets.{FieldMeets, KnownIs, Meets, Knows, told, FieldTold, IsTold, ListsFields}
use Rattle.datastream.specs.InboundFields.{leading_text_of, returned_of}
use Rattle.shadow.specs.Heard.{contradicts, was_erased, after_long, unprotected_fact, text_fact, heard_long}
use Rattle.shadow.proofs.Keyed.{Keyed, FieldKeyed}
use Rattle.shadow.proofs.Pairs.{pairwise_compose, pairwise_weaken, pairwise-length, length-without_nulls}
use Rattle.shadow.proofs.FieldPlaces.{answer_of, returned, returned_is, no_fields_all, fields_not_all, or_neither, IsAscending, SamePlace, given, ascending, answers_given, none_nowhere, length-text_before_attribute, unformatted-length}
use Rattle.shadow.proofs.FieldStep.{Followed, accepted, lost_shows, heard_field}

none_contradicts : (erased : Bool) (bs : List Belief) (fs : List Field) → Pairwise (Followed erased) bs fs → list_any contradicts (given bs fs) ≡ false
none_contradicts erased [] fs h = refl
none_contradicts erased (b ∷ bs) [] h = refl
none_contradicts erased (b ∷ bs) (f ∷ fs) h = or_neither _ _ (accepted erased b f h.0) (none_contradicts erased bs fs h.1)

either : {A : Type 0} (p q : Bool) → (p ≡ true → A) → (q ≡ true → A) → (p || q) ≡ true → A
either true q f g e = f e
either false q f g e = g e

loss_shows : (erased : Bool) (bs : List Belief) (fs : List Field) → Pairwise (Followed erased) bs fs → list_any was_erased (given bs fs) ≡ true → erased ≡ true
loss_shows erased [] fs h e = absurd (cc)
loss_shows erased (b ∷ bs) [] h e = absurd (cc)
loss_shows erased (b ∷ bs) (f ∷ fs) h e = either _ _ (lost_shows erased b f h.0) (loss_shows erased bs fs h.1) e

all_meet : (erased e : Bool) → (e ≡ true → erased ≡ true) → (bs : List Belief) (fs : List Field) → Pairwise (Followed erased) bs fs → Pairwise FieldMeets (map (after_long e) (given bs fs)) fs
all_meet erased e shows [] [] h = tt
all_meet erased e shows [] (f ∷ fs) h = h
all_meet erased e shows (b ∷ bs) [] h = absurd h
all_meet erased e shows (b ∷ bs) (f ∷ fs) h = (heard_field erased e shows b f h.0, all_meet erased e shows bs fs h.1)

same_places : (erased : Bool) (bs : List Belief) (fs : List Field) → Pairwise (Followed erased) bs fs → Pairwise SamePlace bs fs
same_places erased = pairwise_weaken (Followed erased) SamePlace (λ b f h. h.keyed.same_place ∙ h.meets.same_place)

pub followed : (erased : Bool) (bs : List Belief) (ls fs : List Field) → Pairwise FieldMeets bs ls → Pairwise (FieldKeyed erased) ls fs → Pairwise (Followed erased) bs fs
followed erased bs ls fs h k = pairwise_weaken _ (Followed erased) (λ b f p. record { left = p.0; meets = p.1; keyed = p.2 }) bs fs (pairwise_compose FieldMeets (FieldKeyed erased) bs ls fs h k)

pub none_left : {X Y : Type 0} (R : X → Y → Type 0) (xs : List X) (ys : List Y) → Pairwise R xs ys → ys ≡ [] → xs ≡ []
none_left R [] ys h e = refl
none_left R (x ∷ xs) [] h e = absurd h
none_left R (x ∷ xs) (y ∷ ys) h e = absurd (cc)

pub none_now : {X Y : Type 0} (R : X → Y → Type 0) (xs : List X) (ys : List Y) → Pairwise R xs ys → xs ≡ [] → ys ≡ []
none_now R [] [] h e = refl
none_now R [] (y ∷ ys) h e = absurd h
none_now R (x ∷ xs) ys h e = absurd (cc)

no_lead : (cells : List Cell) → (fields cells ≡ [] → ⊥) → leading_text_of cells ≡ []
no_lead cells h = rw (fields_not_all cells 0 cells h)

all_lead : (cells : List Cell) → fields cells ≡ [] → leading_text_of cells ≡ without_nulls (text_before_attribute cells)
all_lead cells e = rw (no_fields_all cells 0 cells e)

new_beliefs : List Belief → List Field → List Belief
new_beliefs bs fs = map (after_long (list_any was_erased (given bs fs))) (given bs fs)

heard_formatted : (size n : ℕ) (erased : Bool) (bs : List Belief) (fs : List Field) (ahead : List ℕ) → ahead ≡ [] → Pairwise (Followed erased) bs fs → IsAscending size n fs
    → heard_long size (Shadow.Formatted bs) ahead (returned size fs) ≡ Ok (Shadow.Formatted (new_beliefs bs fs))
unfolding new_beliefs
heard_formatted size n erased bs fs ahead none h up =
    rw (none_nowhere size bs fs (same_places erased bs fs h), none, answers_given size n bs fs (same_places erased bs fs h) up, none_contradicts erased bs fs h)

meet : (erased : Bool) (bs : List Belief) (fs : List Field) → Pairwise (Followed erased) bs fs → Pairwise FieldMeets (new_beliefs bs fs) fs
unfolding new_beliefs
meet erased bs fs h = all_meet erased (list_any was_erased (given bs fs)) (loss_shows erased bs fs h) bs fs h

null_told : (n : ℕ) → without_nulls (nulls n) ≡ []
null_told zero = refl
null_told (suc n) = null_told n

text_told : (n : ℕ) (text : List ℕ) → told (text_fact n text) ≡ Some text
text_told n [] = ap Some (null_told n)
text_told n (c ∷ cs) = refl

field_told : (e : Bool) (b : Belief) (f : Field) → FieldMeets (after_long e (record { field = b; text = answer_of f })) f → FieldTold (after_long e (record { field = b; text = answer_of f })) f
field_told e b f h free on = cases b.attr.protected is f.attr.mdt on
  where
    is : b.attr.protected ≡ false
    is = ap (λ (a : Attribute). a.protected) (sym h.same_attr) ∙ free

    cases : (p : Bool) → p ≡ false → (m : Bool) → m ≡ true → told (if p then b.fact else unprotected_fact e b (if m then Some (without_nulls f.text) else None)) ≡ Some (without_nulls f.text)
    cases true wrong m on = absurd (cc)
    cases false _ true on = text_told b.length (without_nulls f.text)
    cases false _ false on = absurd (cc)

all_told : (e : Bool) (bs : List Belief) (fs : List Field) → Pairwise FieldMeets (map (after_long e) (given bs fs)) fs → Pairwise FieldTold (map (after_long e) (given bs fs)) fs
all_told e [] [] h = tt
all_told e [] (f ∷ fs) h = h
all_told e (b ∷ bs) [] h = h
all_told e (b ∷ bs) (f ∷ fs) h = (field_told e b f h.0, all_told e bs fs h.1)

tell : (erased : Bool) (bs : List Belief) (fs : List Field) → Pairwise (Followed erased) bs fs → Pairwise FieldTold (new_beliefs bs fs) fs
unfolding new_beliefs
tell erased bs fs h = all_told (list_any was_erased (given bs fs)) bs fs (all_meet erased (list_any was_erased (given bs fs)) (loss_shows erased bs fs h) bs fs h)

pub heard_meets : (size : ℕ) (erased : Bool) (shadow : Shadow) (left now : Screen) → Knows shadow → length now.cells ≡ size → Meets shadow left → Keyed erased left.cells now.cells
    → IsOkAnd (heard_long size shadow (leading_text_of now.cells) (returned_of now.cells)) (λ new. Meets new now × ListsFields new now × IsTold new now)
heard_meets size erased Shadow.NothingKnown left now knows whole meets keyed = absurd knows
heard_meets size erased (Shadow.Unformatted known) left now knows whole meets keyed =
    let none : fields now.cells ≡ [] = none_now (FieldKeyed erased) (fields left.cells) (fields now.cells) keyed.1 meets.0 in
    let fits : nat_lt (length known) (length (without_nulls (text_before_attribute now.cells))) ≡ false =
    le-ltb _ _ (omega (arith, length-without_nulls (text_before_attribute now.cells), length-text_before_attribute now.cells, unformatted-length left.cells 0 left.cells meets.0, pairwise-length KnownIs known (text_before_attribute left.cells) meets.1, keyed.0)) in
    rw (all_lead now.cells none, returned_is (length now.cells) (fields now.cells), none, fits) (tt, (λ some. absurd (some refl)), tt)
heard_meets size erased (Shadow.Formatted bs) left now knows whole meets keyed =
    let h = followed erased bs (fields left.cells) (fields now.cells) meets.1 keyed.1 in
    let some : fields now.cells ≡ [] → ⊥ = λ e. meets.0 (none_left (FieldKeyed erased) (fields left.cells) (fields now.cells) keyed.1 e) in
    let came : returned_of now.cells ≡ returned size (fields now.cells) = returned_is (length now.cells) (fields now.cells) ∙ ap (λ n. returned n (fields now.cells)) whole in
    rw (came, heard_formatted size 0 erased bs (fields now.cells) (leading_text_of now.cells) (no_lead now.cells some) h (ascending now.cells size 0 now.cells (omega arith)))
    ((some, meet erased bs (fields now.cells) h), (λ _. tt), tell erased bs (fields now.cells) h)
