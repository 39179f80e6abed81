-- A terminal that keeps the rules is never found to have broken one.
use Rattle.std.proofs.Common.{◌≡◌, ℕ, Bool, true, false, not, ◌||◌, List, [], ◌∷◌, map, Option, Some, None, refl, ap, sym, subst, inl, inr, ◌∙◌, if◌then◌else◌, eq-eqb}
use Rattle.std.specs.Prelude.{bytes_eq}
use Rattle.codes3270.specs.declared.attribute.Attr.{Attr as Attribute}
use Rattle.datastream.specs.Fields.{Field, fields}
use Rattle.datastream.specs.Inbound.{without_nulls}
use Rattle.shadow.specs.declared.mdt_state.MdtState.{MdtState}
use Rattle.shadow.specs.declared.mdt_state.MdtState.TheVariants.{On, Off, Unknown}
use Rattle.shadow.specs.declared.rule_break.Rule.{Rule}
use Rattle.shadow.specs.declared.rule_break.Rule.TheVariants.{Applies, Edits, Sends}
use Rattle.shadow.specs.Pairs.{Pairwise}
use Rattle.shadow.specs.Belief.{Fact, Belief, Shadow}
use Rattle.shadow.specs.Heard.{is_on}
use Rattle.shadow.specs.Meets.{Holds, IsNull, MarkIs}
use Rattle.shadow.specs.RuleBreaks.{RulesAreNotBroken, first_break, input_rule, is_believed, is_erased, mdt_differs, operator_rule, protected_rule, rule_broken}
use Rattle.shadow.specs.AfterReadBuffer.{differs, is_other}
use Rattle.shadow.proofs.FieldPlaces.{or_neither}
use Rattle.shadow.proofs.FieldStep.{Followed, and_if, not_on}
use Rattle.shadow.proofs.HeardMeets.{followed, none_now}
use Rattle.shadow.proofs.HeardOthers.{chars_known, none_differs, same_attr-refl}
use Rattle.shadow.proofs.HeldKeyed.{held_keyed}
use Rattle.shadow.proofs.Keyed.{FieldKeyed, Untouched}
use Rattle.shadow.proofs.Pairs.{all_known, bytes_eq-refl}

-- ---- a text

null_is_erased : (text : List ℕ) → IsNull text → is_erased text ≡ true
null_is_erased text null = ap (bytes_eq text) (sym null) ∙ bytes_eq-refl text

same_text : (value text : List ℕ) → text ≡ value → bytes_eq value text ≡ true
same_text value text same = ap (bytes_eq value) same ∙ bytes_eq-refl value

-- a text that a fact allows, and that isn't null
believed : (fact : Fact) (text : List ℕ) → Holds fact text → is_erased text ≡ false → is_believed fact text ≡ true
believed (Fact.Exact value) text holds some =
    ap not (ap (differs (map Some value)) holds ∙ none_differs (map Some value) value (all_known value))
believed (Fact.ExactOrNulls value) text (inl same) some = same_text value text same
believed (Fact.ExactOrNulls value) text (inr null) some = absurd (let is = null_is_erased text null in cc)
believed (Fact.Text value) text holds some = same_text value (without_nulls text) holds
believed (Fact.TextOrNulls value) text (inl same) some = same_text value (without_nulls text) same
believed (Fact.TextOrNulls value) text (inr null) some = absurd (let is = null_is_erased text null in cc)
believed (Fact.Any known) text holds some = ap not (none_differs known text holds)

-- ---- a field

mdt_agrees : (mark : MdtState) (mdt : Bool) → MarkIs mark mdt → mdt_differs mark mdt ≡ false
mdt_agrees On mdt is = ap not is
mdt_agrees Off mdt is = is
mdt_agrees Unknown mdt is = refl

abbrev by_tests : (mdt erased on is : Bool) → Option Rule
by_tests mdt erased on is = if mdt || erased then None else if on then Some Sends else if is then None else Some Edits

erased_passes : (mdt on is : Bool) → by_tests mdt true on is ≡ None
erased_passes true on is = refl
erased_passes false on is = refl

module _ (erased : Bool) (b : Belief) (f : Field) (h : Followed erased b f) where
  same_attr : b.attr.protected ≡ f.attr.protected
  same_attr = ap (λ (a : Attribute). a.protected) (sym (h.keyed.same_attr ∙ h.meets.same_attr))

  not_other : is_other b f ≡ false
  not_other =
      or_neither _ _
      (or_neither _ _ (ap not (eq-eqb _ _ (h.keyed.same_place ∙ h.meets.same_place))) (ap not (same_attr-refl f.attr b.attr (h.keyed.same_attr ∙ h.meets.same_attr))))
      (and_if _ _ λ p. none_differs _ f.text (chars_known b.length b.fact f.text (h.keyed.same_length ∙ h.meets.same_length)
      (subst (Holds b.fact) (sym (h.keyed.protected (sym same_attr ∙ p)).1) h.meets.holds)))

  mdt_stays : f.attr.protected ≡ true → mdt_differs b.mdt f.attr.mdt ≡ false
  mdt_stays p = ap (mdt_differs b.mdt) (h.keyed.protected p).0 ∙ mdt_agrees b.mdt h.left.attr.mdt h.meets.mark_is

  left_alone : (e : Bool) → Untouched e h.left f → (is : Bool) → is_erased f.text ≡ is → by_tests false is (is_on b.mdt) (is_believed b.fact f.text) ≡ None
  left_alone e untouched true is = refl
  left_alone true null false is = absurd (let so = null_is_erased f.text null in cc)
  left_alone false same false is =
      ap (λ (on : Bool). by_tests false false on (is_believed b.fact f.text)) (not_on b.mdt h.left.attr.mdt h.meets.mark_is same.0)
      ∙ ap (by_tests false false false) (believed b.fact f.text (subst (Holds b.fact) (sym same.1) h.meets.holds) is)

  input_kept : (mdt : Bool) → f.attr.mdt ≡ mdt → f.attr.protected ≡ false → by_tests mdt (is_erased f.text) (is_on b.mdt) (is_believed b.fact f.text) ≡ None
  input_kept true on free = refl
  input_kept false off free = left_alone erased (h.keyed.unprotected free off) (is_erased f.text) refl

  by_kind : (p : Bool) → f.attr.protected ≡ p → (if p then protected_rule b f else input_rule b f) ≡ None
  by_kind true is = ap (λ (d : Bool). if d then Some Edits else None) (mdt_stays is)
  by_kind false is = input_kept f.attr.mdt refl is

  pub field_kept : rule_broken b f ≡ None
  field_kept =
      ap (λ (o : Bool). if o then Some Applies else operator_rule b f) not_other
      ∙ by_kind b.attr.protected (sym same_attr)

-- ---- the screen

none_broken : (erased : Bool) (bs : List Belief) (fs : List Field) → Pairwise (Followed erased) bs fs → first_break bs fs ≡ None
none_broken erased [] [] h = refl
none_broken erased [] (f ∷ fs) h = absurd h
none_broken erased (b ∷ bs) [] h = absurd h
none_broken erased (b ∷ bs) (f ∷ fs) h = rw (field_kept erased b f h.0) (none_broken erased bs fs h.1)

pub rules_kept : RulesAreNotBroken
rules_kept erased Shadow.NothingKnown left now meets held = refl
rules_kept erased (Shadow.Unformatted known) left now meets held =
    let keyed = held_keyed erased left.cells now.cells held in
    ap (first_break []) (none_now (FieldKeyed erased) (fields left.cells) (fields now.cells) keyed.1 meets.0)
rules_kept erased (Shadow.Formatted bs) left now meets held =
    let keyed = held_keyed erased left.cells now.cells held in
    none_broken erased bs (fields now.cells) (followed erased bs (fields left.cells) (fields now.cells) meets.1 keyed.1)
