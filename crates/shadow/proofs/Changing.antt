-- What each change makes of what is believed of a field.
use Rattle.std.proofs.Common.{◌≡◌, ℕ, zero, suc, ◌+◌, ◌≤◌, Bool, true, false, not, ◌&&◌, List, [], ◌∷◌, ◌++◌, length, map, replicate, Option, Some, None, refl, ap, sym, subst, arith, ◌∙◌, if◌then◌else◌, append-nil, option_map}
use Rattle.std.specs.Prelude.{⊤, nat_eq, nat_lt, bytes_eq}
use Rattle.std.proofs.lemmas.List.{length-replicate}
use Rattle.std.proofs.lemmas.Bool.{ltb-false}
use Rattle.std.proofs.lemmas.Bool.Decides.{nat_tests}
use Rattle.codes3270.specs.declared.attribute.Attr.{Attr as Attribute}
use Rattle.datastream.specs.InboundFields.{Returned}
use Rattle.shadow.specs.declared.apply_inbound.Unreturned.{Unreturned}
use Rattle.shadow.specs.declared.apply_inbound.Unreturned.TheVariants.{Stays, IsTold, IsForgotten}
use Rattle.shadow.specs.declared.mdt_state.MdtState.{MdtState}
use Rattle.shadow.specs.declared.mdt_state.MdtState.TheVariants.{Unknown as UnknownMark}
use Rattle.shadow.specs.declared.cell_belief.TextKnowledge.{TextKnowledge}
use Rattle.shadow.specs.declared.cell_belief.TextKnowledge.TheVariants.{Cells, ExactOrNulls, Text, TextOrNulls}
use Rattle.shadow.specs.declared.cell_belief.CellBelief.{CellBelief}
use Rattle.shadow.specs.declared.cell_belief.CellBelief.TheVariants.{Attr, Known, Unplaced, Unknown}
use Rattle.shadow.specs.Belief.{Fact, Belief, nulls, next_address}
use Rattle.shadow.specs.Came.{text_at, came_past}
use Rattle.shadow.specs.Filled.{Fill, Change, filled, fill_next, came_behind, key_changes, after_key, unreturned_by, unreturned_from, unreturned_change, input_change, field_change, long_changes, is_possible, long_after, all_changed, last_fill, front_filled}
use Rattle.shadow.specs.Heard.{after_attention, after_long, or_nulls, text_fact, unknown_fact, contradicts_text, mark_of}
use Rattle.shadow.specs.Borrowed.{answer}
use Rattle.shadow.specs.InPlace.{chars_known, text_told, fact_told, fact_held, belief_held, beliefs_held, SaysCells, AreHeld, IsHeld, is_whole, known_text}
use Rattle.shadow.specs.AfterReadBuffer.{known_chars}
use Rattle.shadow.specs.Taken.{fact_known, exact_or_any, whole_text}
use Rattle.shadow.proofs.Passing.{Alike, still_char, still_held, fills, walk_alike, front_walk, last_again, fills_same, fills_unknown, fills_null, fills_chars, fills_text, fills_told, fills_known}
use Rattle.shadow.proofs.Placed.{exact_held, any_held, no_attribute}
use Rattle.shadow.proofs.Settling.{says_known}

-- what becomes of a field: as many characters, the fact, and that it says its cells
abbrev pub Becomes : TextKnowledge → List CellBelief → ℕ → Fact → Type 0
Becomes knowledge ring count fact = (length (chars_known ring) ≡ count) × (fact_held knowledge ring ≡ fact) × SaysCells knowledge ring

-- it does so where it begins alike
pub becomes_alike : (t : TextKnowledge) (ring filled : List CellBelief) (n : ℕ) (fact : Fact) → Alike ring filled → Becomes t filled n fact → Becomes t ring n fact
becomes_alike t ring filled n fact same h =
    subst (λ (ts : List ℕ). (length (chars_known ring) ≡ n) × (fact_told t (chars_known ring) ts ≡ fact) × (known_chars (length (chars_known ring)) (fact_told t (chars_known ring) ts) ≡ chars_known ring)) (sym same.1)
    (subst (λ (ks : List (Option ℕ)). (length ks ≡ n) × (fact_told t ks (text_told filled) ≡ fact) × (known_chars (length ks) (fact_told t ks (text_told filled)) ≡ ks)) (sym same.0) h)

-- told one by one
by_cells : (ring : List CellBelief) (ks : List (Option ℕ)) (n : ℕ) (fact : Fact) → chars_known ring ≡ ks → length ks ≡ n → fact_known ks ≡ fact → Becomes Cells ring n fact
by_cells ring ks n fact is count means = (ap length is ∙ count, ap fact_known is ∙ means, says_known (chars_known ring))

-- told by a text
by_text : (t : TextKnowledge) (ring : List CellBelief) (n : ℕ) (fact : Fact) → chars_known ring ≡ replicate n None → fact_held t ring ≡ fact → ((m : ℕ) → known_chars m fact ≡ replicate m None) → Becomes t ring n fact
by_text t ring n fact is means says =
    let count : length (chars_known ring) ≡ n = ap length is ∙ length-replicate n None in
    (count, means, ap (known_chars (length (chars_known ring))) means ∙ says (length (chars_known ring)) ∙ ap (λ (m : ℕ). replicate m None) count ∙ sym is)

nulls_whole : (n : ℕ) → whole_text (replicate n (Some 0)) ≡ Some (nulls n)
nulls_whole zero = refl
nulls_whole (suc n) = ap (λ (o : Option (List ℕ)). option_map (λ cs. 0 ∷ cs) o) (nulls_whole n)

becomes_null : (ring : List CellBelief) → Becomes Cells (fills Fill.Null ring) (length (chars_known ring)) (Fact.Exact (nulls (length (chars_known ring))))
becomes_null ring =
    let n = length (chars_known ring) in
    by_cells (fills Fill.Null ring) (replicate n (Some 0)) n (Fact.Exact (nulls n)) (fills_null ring) (length-replicate n (Some 0)) (ap (λ (o : Option (List ℕ)). exact_or_any o (replicate n (Some 0))) (nulls_whole n))

unknown_is : (n : ℕ) → fact_known (replicate n None) ≡ unknown_fact n
unknown_is zero = refl
unknown_is (suc n) = sym (ap (λ (t : Bool). if t then Fact.Exact [] else Fact.Any (replicate (suc n) None)) (not_zero n))
  where
    not_zero : (n : ℕ) → nat_eq (suc n) 0 ≡ false
    not_zero n = grind (arith, nat_tests)

becomes_unknown : (ring : List CellBelief) → Becomes Cells (fills Fill.Unknown ring) (length (chars_known ring)) (unknown_fact (length (chars_known ring)))
becomes_unknown ring =
    let n = length (chars_known ring) in
    by_cells (fills Fill.Unknown ring) (replicate n None) n (unknown_fact n) (fills_unknown ring) (length-replicate n None) (unknown_is n)

becomes_same : (t : TextKnowledge) (ring : List CellBelief) → SaysCells t ring → Becomes t (fills Fill.Same ring) (length (chars_known ring)) (fact_held t ring)
becomes_same t ring says = becomes_alike t (fills Fill.Same ring) ring (length (chars_known ring)) (fact_held t ring) (fills_same ring) (refl, refl, says)

becomes_text : (text : List ℕ) (ring : List CellBelief) → length text ≤ length (chars_known ring) → Becomes Text (fills (Fill.Chars text) ring) (length (chars_known ring)) (Fact.Text text)
becomes_text text ring few =
    by_text Text (fills (Fill.Chars text) ring) (length (chars_known ring)) (Fact.Text text) (fills_chars text ring) (ap Fact.Text (fills_text text ring few)) (λ m. refl)

becomes_told : (ring : List CellBelief) → is_whole (chars_known ring) ≡ true → Becomes ExactOrNulls (fills Fill.Unplaced ring) (length (chars_known ring)) (Fact.ExactOrNulls (known_text (chars_known ring)))
becomes_told ring whole =
    by_text ExactOrNulls (fills Fill.Unplaced ring) (length (chars_known ring)) (Fact.ExactOrNulls (known_text (chars_known ring))) (fills_told ring) (ap Fact.ExactOrNulls (fills_known ring whole)) (λ m. refl)

-- ---- what isn't returned

forgotten : (ks : List (Option ℕ)) → map {B = Option ℕ} (λ _. None) ks ≡ replicate (length ks) None
forgotten [] = refl
forgotten (k ∷ ks) = ap (λ (ms : List (Option ℕ)). None ∷ ms) (forgotten ks)

partly_some : (ks : List (Option ℕ)) → is_whole ks ≡ false → (n : ℕ) × (length ks ≡ suc n)
partly_some [] e = absurd (cc)
partly_some (k ∷ ks) e = (length ks, refl)

any_is : (n m : ℕ) → n ≡ suc m → unknown_fact n ≡ Fact.Any (replicate n None)
any_is n m e = subst (λ (k : ℕ). unknown_fact k ≡ Fact.Any (replicate k None)) (sym e) (sym (unknown_is (suc m)))

becomes_to : (t : TextKnowledge) (ring : List CellBelief) (n : ℕ) (fact other : Fact) → fact ≡ other → Becomes t ring n fact → Becomes t ring n other
becomes_to t ring n fact other e h = (h.0, h.1 ∙ e, h.2)

abbrev ByUnreturned : List CellBelief → Unreturned → Type 0
ByUnreturned ring one = Becomes (unreturned_change one Cells).knowledge (fills (unreturned_change one Cells).fill ring) (length (chars_known ring)) (or_nulls (fact_held Cells ring))

unreturned_cells : (ring : List CellBelief) → SaysCells Cells ring → (whole : Bool) → is_whole (chars_known ring) ≡ whole → (null : Bool) → bytes_eq (known_text (chars_known ring)) (nulls (length (known_text (chars_known ring)))) ≡ null
    → ByUnreturned ring (if whole then (if null then Stays else IsTold) else IsForgotten)
unreturned_cells ring says true is true same =
    let text = known_text (chars_known ring) in
    let exact = exact_held ring is in
    becomes_to Cells (fills Fill.Same ring) (length (chars_known ring)) (fact_held Cells ring) (or_nulls (fact_held Cells ring))
    (exact ∙ sym (ap or_nulls exact ∙ ap (λ (t : Bool). if t then Fact.Exact text else Fact.ExactOrNulls text) same))
    (becomes_same Cells ring says)
unreturned_cells ring says true is false same =
    let text = known_text (chars_known ring) in
    becomes_to ExactOrNulls (fills Fill.Unplaced ring) (length (chars_known ring)) (Fact.ExactOrNulls text) (or_nulls (fact_held Cells ring))
    (sym (ap or_nulls (exact_held ring is) ∙ ap (λ (t : Bool). if t then Fact.Exact text else Fact.ExactOrNulls text) same))
    (becomes_told ring is)
unreturned_cells ring says false is null same =
    let n = length (chars_known ring) in
    let some = partly_some (chars_known ring) is in
    becomes_to Cells (fills Fill.Unknown ring) n (unknown_fact n) (or_nulls (fact_held Cells ring))
    (any_is n some.0 some.1 ∙ sym (ap or_nulls (any_held ring is) ∙ ap Fact.Any (forgotten (chars_known ring))))
    (becomes_unknown ring)

unreturned_becomes : (t : TextKnowledge) (ring : List CellBelief) → SaysCells t ring
    → Becomes (unreturned_change (unreturned_by t ring) t).knowledge (fills (unreturned_change (unreturned_by t ring) t).fill ring) (length (chars_known ring)) (or_nulls (fact_held t ring))
unreturned_becomes Cells ring says = unreturned_cells ring says (is_whole (chars_known ring)) refl (bytes_eq (known_text (chars_known ring)) (nulls (length (known_text (chars_known ring))))) refl
unreturned_becomes ExactOrNulls ring says = becomes_same ExactOrNulls ring says
unreturned_becomes Text ring says = becomes_same TextOrNulls ring says
unreturned_becomes TextOrNulls ring says = becomes_same TextOrNulls ring says

-- ---- an unprotected field, and any field, after data

-- a text that came fits the field
abbrev Fits : Option (List ℕ) → ℕ → Type 0
Fits None count = ⊤
Fits (Some text) count = length text ≤ count

abbrev InputFact : Bool → ℕ → Fact → Option (List ℕ) → Fact
InputFact erased count fact (Some text) = text_fact count text
InputFact erased count fact None = if erased then Fact.Exact (nulls count) else or_nulls fact

input_becomes : (erased : Bool) (t : TextKnowledge) (ring : List CellBelief) (text : Option (List ℕ)) → SaysCells t ring → Fits text (length (chars_known ring))
    → Becomes (input_change erased t (unreturned_by t ring) text).knowledge (fills (input_change erased t (unreturned_by t ring) text).fill ring) (length (chars_known ring)) (InputFact erased (length (chars_known ring)) (fact_held t ring) text)
input_becomes erased t ring (Some []) says few = becomes_null ring
input_becomes erased t ring (Some (c ∷ text)) says few = becomes_text (c ∷ text) ring few
input_becomes true t ring None says few = becomes_null ring
input_becomes false t ring None says few = unreturned_becomes t ring says

abbrev FieldFact : Bool → Bool → ℕ → Fact → Option (List ℕ) → Fact
FieldFact protected erased count fact text = if protected then fact else InputFact erased count fact text

field_becomes : (protected erased : Bool) (t : TextKnowledge) (ring : List CellBelief) (text : Option (List ℕ)) → SaysCells t ring → Fits text (length (chars_known ring))
    → Becomes (field_change protected erased t (unreturned_by t ring) text).knowledge (fills (field_change protected erased t (unreturned_by t ring) text).fill ring) (length (chars_known ring))
    (FieldFact protected erased (length (chars_known ring)) (fact_held t ring) text)
field_becomes true erased t ring text says few = becomes_same t ring says
field_becomes false erased t ring text says few = input_becomes erased t ring text says few

field_mark : (protected erased : Bool) (t : TextKnowledge) (one : Unreturned) (text : Option (List ℕ)) → (field_change protected erased t one text).mdt ≡ mark_of text
field_mark true erased t one text = refl
field_mark false erased t one (Some []) = refl
field_mark false erased t one (Some (c ∷ text)) = refl
field_mark false true t one None = refl
field_mark false false t Stays None = refl
field_mark false false t IsTold None = refl
field_mark false false t IsForgotten None = refl

abbrev made : ℕ → Attribute → MdtState → ℕ → Fact → Belief
made place attribute mark count fact = record { place = place; attr = attribute; mdt = mark; length = count; fact = fact }

long_fact : (erased : Bool) (b : Belief) (text : Option (List ℕ)) → FieldFact b.attr.protected erased b.length b.fact text ≡ (after_long erased (answer b text)).fact
long_fact erased b (Some text) = refl
long_fact erased b None = refl

belief_long : (erased : Bool) (n : ℕ) (a : Attribute) (m : MdtState) (t : TextKnowledge) (old ring : List CellBelief) (text : Option (List ℕ))
    → Becomes (field_change a.protected erased t (unreturned_by t old) text).knowledge ring (length (chars_known old)) (FieldFact a.protected erased (length (chars_known old)) (fact_held t old) text)
    → belief_held n a (field_change a.protected erased t (unreturned_by t old) text).mdt (field_change a.protected erased t (unreturned_by t old) text).knowledge ring ≡ after_long erased (answer (belief_held n a m t old) text)
belief_long erased n a m t old ring text h =
    let change = field_change a.protected erased t (unreturned_by t old) text in
    ap (λ (k : MdtState). made n a k (length (chars_known ring)) (fact_held change.knowledge ring)) (field_mark a.protected erased t (unreturned_by t old) text)
    ∙ ap (λ (l : ℕ). made n a (mark_of text) l (fact_held change.knowledge ring)) h.0
    ∙ ap (λ (f : Fact). made n a (mark_of text) (length (chars_known old)) f) (h.1 ∙ long_fact erased (belief_held n a m t old) text)

-- ---- what is possible fits

possible_parts : (size : ℕ) (b : Belief) (bs : List Belief) (rs : List Returned) → is_possible size (b ∷ bs) rs ≡ true
    → (contradicts_text b (text_at (next_address size b.place) rs) ≡ false) × (is_possible size bs (came_past (next_address size b.place) rs) ≡ true)
possible_parts size b bs rs e = parts (contradicts_text b (text_at (next_address size b.place) rs)) (is_possible size bs (came_past (next_address size b.place) rs)) (by_list rs e)
  where
    by_list : (rs : List Returned) → is_possible size (b ∷ bs) rs ≡ true → (not (contradicts_text b (text_at (next_address size b.place) rs)) && is_possible size bs (came_past (next_address size b.place) rs)) ≡ true
    by_list [] h = h
    by_list (r ∷ rs) h = h

    parts : (p q : Bool) → (not p && q) ≡ true → (p ≡ false) × (q ≡ true)
    parts true q h = absurd (cc)
    parts false q h = (refl, h)

text_fits : (b : Belief) (text : Option (List ℕ)) → contradicts_text b text ≡ false → Fits text b.length
text_fits b None e = tt
text_fits b (Some text) e = cases (nat_lt b.length (length text)) refl e
  where
    cases : (t : Bool) → nat_lt b.length (length text) ≡ t → contradicts_text b (Some text) ≡ false → length text ≤ b.length
    cases true is e = absurd (let bad : true ≡ false = rw is at e in cc)
    cases false is e = ltb-false b.length (length text) is

-- ---- all fields

pub length-long : (size : ℕ) (erased : Bool) (n : ℕ) (rs : List Returned) (whole ps : List CellBelief) → length (long_changes size erased n rs ps (unreturned_from whole ps)) ≡ length ps
length-long size erased n rs whole [] = refl
length-long size erased n rs whole (p ∷ ps) = ap suc (length-long size erased (n + 1) (came_behind size p n rs) whole ps)

module _ (erased : Bool) (whole after : List CellBelief) (g : Fill) (goes_on : Alike after (fills g whole)) where
  long_each : (n : ℕ) (rs : List Returned) (f : Fill) (ps : List CellBelief) → AreHeld whole ps → is_possible (length whole) (beliefs_held whole n ps) rs ≡ true → last_fill f (long_changes (length whole) erased n rs ps (unreturned_from whole ps)) ps ≡ g
      → (beliefs_held after n (all_changed f (long_changes (length whole) erased n rs ps (unreturned_from whole ps)) ps) ≡ long_after (length whole) erased (beliefs_held whole n ps) rs)
      × AreHeld after (all_changed f (long_changes (length whole) erased n rs ps (unreturned_from whole ps)) ps)
  long_each n rs f [] held possible last = (refl, tt)
  long_each n rs f (Known c ∷ ps) held possible last =
      let more = long_each (n + 1) rs (fill_next f) ps held possible last in
      (no_attribute after n (filled f (Known c)) _ (still_char f (Known c) refl) ∙ more.0, still_held after (filled f (Known c)) _ (still_char f (Known c) refl) more.1)
  long_each n rs f (Unplaced c ∷ ps) held possible last =
      let more = long_each (n + 1) rs (fill_next f) ps held possible last in
      (no_attribute after n (filled f (Unplaced c)) _ (still_char f (Unplaced c) refl) ∙ more.0, still_held after (filled f (Unplaced c)) _ (still_char f (Unplaced c) refl) more.1)
  long_each n rs f (Unknown ∷ ps) held possible last =
      let more = long_each (n + 1) rs (fill_next f) ps held possible last in
      (no_attribute after n (filled f Unknown) _ (still_char f Unknown refl) ∙ more.0, still_held after (filled f Unknown) _ (still_char f Unknown refl) more.1)
  long_each n rs f (Attr a m t ∷ ps) held possible last =
      let old : List CellBelief = ps ++ whole in
      let b = belief_held n a m t old in
      let text = text_at (next_address (length whole) n) rs in
      let rest = came_past (next_address (length whole) n) rs in
      let parts = possible_parts (length whole) b (beliefs_held whole (n + 1) ps) rs possible in
      let change = field_change a.protected erased t (unreturned_by t old) text in
      let changes = long_changes (length whole) erased (n + 1) rest ps (unreturned_from whole ps) in
      let more = long_each (n + 1) rest change.fill ps held.1 parts.1 last in
      let ring : List CellBelief = all_changed change.fill changes ps ++ after in
      let alike = walk_alike change.fill changes ps whole after (length-long (length whole) erased (n + 1) rest whole ps) (subst (λ (h : Fill). Alike after (fills h whole)) (sym last) goes_on) in
      let becomes = becomes_alike change.knowledge ring (fills change.fill old) (length (chars_known old)) (FieldFact a.protected erased (length (chars_known old)) (fact_held t old) text) alike
      (field_becomes a.protected erased t old text held.0 (text_fits b text parts.0)) in (
        ap (λ (x : Belief). x ∷ beliefs_held after (n + 1) (all_changed change.fill changes ps)) (belief_long erased n a m t old ring text becomes)
            ∙ ap (λ (bs : List Belief). after_long erased (answer b text) ∷ bs) more.0,
        (becomes.2, more.1),
      )

goes_round : (g : Fill) (cs : List Change) (ps : List CellBelief) → length cs ≡ length ps → Alike (all_changed g cs ps) (fills g ps)
goes_round g cs ps even =
    subst (λ (qs : List CellBelief). Alike qs (fills g ps)) (append-nil (all_changed g cs ps))
    (subst (λ (qs : List CellBelief). Alike (all_changed g cs ps ++ []) (fills g qs)) (append-nil ps) (walk_alike g cs ps [] [] even (refl, refl)))

pub long_changed : (erased : Bool) (rs : List Returned) (ps after : List CellBelief) → IsHeld ps → is_possible (length ps) (beliefs_held ps 0 ps) rs ≡ true
    → (let cs = long_changes (length ps) erased 0 rs ps (unreturned_from ps ps) in after ≡ front_filled (last_fill Fill.Same cs ps) (all_changed Fill.Same cs ps))
    → (beliefs_held after 0 after ≡ long_after (length ps) erased (beliefs_held ps 0 ps) rs) × IsHeld after
long_changed erased rs ps after held possible is =
    let cs = long_changes (length ps) erased 0 rs ps (unreturned_from ps ps) in
    let g = last_fill Fill.Same cs ps in
    let even = length-long (length ps) erased 0 rs ps ps in
    let whole : after ≡ all_changed g cs ps = is ∙ front_walk g cs ps even in
    subst (λ (qs : List CellBelief). (beliefs_held qs 0 qs ≡ long_after (length ps) erased (beliefs_held ps 0 ps) rs) × IsHeld qs) (sym whole)
    (long_each erased ps (all_changed g cs ps) g (goes_round g cs ps even) 0 rs g ps held possible (last_again cs ps even))

-- ---- a key that sends no fields

key_becomes : (protected : Bool) (m : MdtState) (t : TextKnowledge) (ring : List CellBelief) → SaysCells t ring
    → Becomes (after_key protected m t).knowledge (fills (after_key protected m t).fill ring) (length (chars_known ring)) (if protected then fact_held t ring else unknown_fact (length (chars_known ring)))
key_becomes true m t ring says = becomes_same t ring says
key_becomes false m t ring says = becomes_unknown ring

key_belief : (protected : Bool) (n : ℕ) (a : Attribute) (m : MdtState) (t : TextKnowledge) (old ring : List CellBelief)
    → Becomes (after_key protected m t).knowledge ring (length (chars_known old)) (if protected then fact_held t old else unknown_fact (length (chars_known old)))
    → belief_held n a (after_key protected m t).mdt (after_key protected m t).knowledge ring
    ≡ (if protected then belief_held n a m t old else record (belief_held n a m t old) { mdt = UnknownMark; fact = unknown_fact (length (chars_known old)) })
key_belief true n a m t old ring h =
    ap (λ (l : ℕ). made n a m l (fact_held t ring)) h.0 ∙ ap (λ (f : Fact). made n a m (length (chars_known old)) f) h.1
key_belief false n a m t old ring h =
    ap (λ (l : ℕ). made n a UnknownMark l (fact_held Cells ring)) h.0 ∙ ap (λ (f : Fact). made n a UnknownMark (length (chars_known old)) f) h.1

length-key : (ps : List CellBelief) → length (key_changes ps) ≡ length ps
length-key [] = refl
length-key (p ∷ ps) = ap suc (length-key ps)

module _ (whole after : List CellBelief) (g : Fill) (goes_on : Alike after (fills g whole)) where
  key_each : (n : ℕ) (f : Fill) (ps : List CellBelief) → AreHeld whole ps → last_fill f (key_changes ps) ps ≡ g
      → (beliefs_held after n (all_changed f (key_changes ps) ps) ≡ map after_attention (beliefs_held whole n ps)) × AreHeld after (all_changed f (key_changes ps) ps)
  key_each n f [] held last = (refl, tt)
  key_each n f (Known c ∷ ps) held last =
      let more = key_each (n + 1) (fill_next f) ps held last in
      (no_attribute after n (filled f (Known c)) _ (still_char f (Known c) refl) ∙ more.0, still_held after (filled f (Known c)) _ (still_char f (Known c) refl) more.1)
  key_each n f (Unplaced c ∷ ps) held last =
      let more = key_each (n + 1) (fill_next f) ps held last in
      (no_attribute after n (filled f (Unplaced c)) _ (still_char f (Unplaced c) refl) ∙ more.0, still_held after (filled f (Unplaced c)) _ (still_char f (Unplaced c) refl) more.1)
  key_each n f (Unknown ∷ ps) held last =
      let more = key_each (n + 1) (fill_next f) ps held last in
      (no_attribute after n (filled f Unknown) _ (still_char f Unknown refl) ∙ more.0, still_held after (filled f Unknown) _ (still_char f Unknown refl) more.1)
  key_each n f (Attr a m t ∷ ps) held last =
      let old : List CellBelief = ps ++ whole in
      let change = after_key a.protected m t in
      let more = key_each (n + 1) change.fill ps held.1 last in
      let ring : List CellBelief = all_changed change.fill (key_changes ps) ps ++ after in
      let alike = walk_alike change.fill (key_changes ps) ps whole after (length-key ps) (subst (λ (h : Fill). Alike after (fills h whole)) (sym last) goes_on) in
      let becomes = becomes_alike change.knowledge ring (fills change.fill old) (length (chars_known old)) (if a.protected then fact_held t old else unknown_fact (length (chars_known old))) alike
      (key_becomes a.protected m t old held.0) in (
        ap (λ (x : Belief). x ∷ beliefs_held after (n + 1) (all_changed change.fill (key_changes ps) ps)) (key_belief a.protected n a m t old ring becomes)
            ∙ ap (λ (bs : List Belief). after_attention (belief_held n a m t old) ∷ bs) more.0,
        (becomes.2, more.1),
      )

pub key_changed : (ps after : List CellBelief) → IsHeld ps → after ≡ front_filled (last_fill Fill.Same (key_changes ps) ps) (all_changed Fill.Same (key_changes ps) ps)
    → (beliefs_held after 0 after ≡ map after_attention (beliefs_held ps 0 ps)) × IsHeld after
key_changed ps after held is =
    let cs = key_changes ps in
    let g = last_fill Fill.Same cs ps in
    let even = length-key ps in
    let whole : after ≡ all_changed g cs ps = is ∙ front_walk g cs ps even in
    subst (λ (qs : List CellBelief). (beliefs_held qs 0 qs ≡ map after_attention (beliefs_held ps 0 ps)) × IsHeld qs) (sym whole)
    (key_each ps (all_changed g cs ps) g (goes_round g cs ps even) 0 g ps held (last_again cs ps even))
