-- Where keys lead, and that it is there.
use Rattle.std.proofs.Common.{◌≡◌, ◌<◌, ◌+◌, ℕ, List, length, Option, Some, None, Bool, true, false, cond, ℤ, pos, negsuc, ◌≤ℤ◌, ◌≤◌, ◌∙◌, refl, ap, sym, subst, lit<, arith}
use Rattle.std.specs.Prelude.{◌≢◌, int_le, slice_get, option_map}
use Rattle.std.specs.Option.{option_and_then}
use Rattle.std.specs.Ordering.{int_eq}
use Rattle.std.proofs.lemmas.Bool.{and_parts, false≢true}
use Rattle.std.proofs.lemmas.Bool.Decides.{Decides-int_eq}
use Rattle.std.proofs.lemmas.Int.{ints}
use Rattle.std.proofs.lemmas.Option.{slice_get_within}
use Rattle.codes3270.specs.declared.size.Model.{Model}
use Rattle.codes3270.specs.declared.size.Model.TheVariants.{M2, M3, M4, M5}
use Rattle.codes3270.specs.declared.attention.Aid.{Aid}
use Rattle.codes3270.specs.declared.attention.Aid.TheVariants.{NoAid, Enter, Clear, Pf, Pa}
use Rattle.panels.specs.Building.{AreTargetsOf}
use Rattle.panels.specs.Draft.{DraftPanel, DraftText}
use Rattle.panels.specs.Keys.{key_names, name_of_key, place_of_key, IsKey}
use Rattle.panels.specs.Panel.{PanelParts, Panels, AreLinked, HaveOtherwise, IsOtherwise, target_at}
use Rattle.panels.specs.Defines.{IsOtherwiseBy, IsPanelNamed, IsTargetBy, text_at_key, IsPanelOf, Defines}
use Rattle.panels.specs.Faults.{IsBasePanelNamed}
use Rattle.panels.specs.Passes.{IsFaultless}
use Rattle.panels.specs.Size.{is_model_number, model_numbered}
use Rattle.panels.proofs.Faultless.{there_in, draft_of_each}
use Rattle.panels.proofs.Sound.{model_is_known}

abbrev named_at : DraftPanel → Option (List ℕ) → Option (List ℕ)
named_at panel key = option_and_then (λ name. text_at_key name panel.keys) key

lead_at : (panels : List DraftPanel) (panel : DraftPanel) (targets : List (Option ℕ)) (k : ℕ) → AreTargetsOf panels panel key_names targets → k < 29
    → IsTargetBy panels (named_at panel (slice_get key_names k)) (target_at targets k)
lead_at panels panel targets k are below =
    let fits : k < length targets = omega (arith, are.size) in
    let (target, read) = there_in targets k fits in
    subst (λ t. IsTargetBy panels (named_at panel (slice_get key_names k)) t) (sym (ap (option_and_then (λ t. t)) read)) (are.are k target read)

pub targets_lead : (panels : List DraftPanel) (panel : DraftPanel) (targets : List (Option ℕ)) → AreTargetsOf panels panel key_names targets → (aid : Aid) → IsKey aid
    → IsTargetBy panels (option_and_then (λ name. text_at_key name panel.keys) (name_of_key aid)) (option_and_then (target_at targets) (place_of_key aid))
targets_lead panels panel targets are NoAid key = refl
targets_lead panels panel targets are Enter key = lead_at panels panel targets 0 are (lit< tt)
targets_lead panels panel targets are Clear key = lead_at panels panel targets 1 are (lit< tt)
targets_lead panels panel targets are (Pa n) (low, high) = lead_at panels panel targets (1 + n) are (omega arith)
targets_lead panels panel targets are (Pf n) (low, high) = lead_at panels panel targets (4 + n) are (omega arith)

below_at : (panels : List DraftPanel) (p : ℕ) (name : List ℕ) (o : Option DraftPanel) → slice_get panels p ≡ o → option_map (λ panel. panel.name) o ≡ Some name → p < length panels
below_at panels p name None there is = cc
below_at panels p name (Some panel) there is = slice_get_within panels p panel there

named_below : (panels : List DraftPanel) (name : List ℕ) (p : ℕ) → IsPanelNamed panels name p → p < length panels
named_below panels name p is = below_at panels p name (slice_get panels p) refl is

target_below : (panels : List DraftPanel) (name : Option (List ℕ)) (p : ℕ) → IsTargetBy panels name (Some p) → p < length panels
target_below panels None p leads = cc
target_below panels (Some name) p leads = named_below panels name p leads

pub linked : (draft : DraftText) (set : Panels) → Defines draft set → AreLinked set
linked draft set defines = record {
  start =
      let below = named_below draft.panels draft.start set.start defines.start in
      omega (arith, below, defines.panels.size);
  targets = λ p panel aid target key at_p leads.
      let (inner, there, is) = draft_of_each (IsPanelOf draft.panels) draft.panels set.panels p panel defines.panels at_p in
      let name = named_at inner (name_of_key aid) in
      let below = target_below draft.panels name target (subst (λ t. IsTargetBy draft.panels name t) leads (is.targets aid key)) in
      omega (arith, below, defines.panels.size);
}

-- ---- what is shown in a panel's place

is_two : (number : ℤ) → int_eq number (pos 2) ≡ true → model_numbered number ≡ M2
is_two number same = subst (λ n. model_numbered n ≡ M2) (sym ((Decides-int_eq number (pos 2)).0 same)) refl

other_model : (three four five : Bool) → (three ≡ false → four ≡ false → five ≡ false → ⊥) → cond three M3 (cond four M4 (cond five M5 M2)) ≢ M2
other_model true four five one same = cc
other_model false true five one same = cc
other_model false false true one same = cc
other_model false false false one same = one refl refl refl

differs : (number other : ℤ) → int_eq number other ≡ false → number ≢ other
differs number other isnt same = false≢true (sym isnt ∙ (Decides-int_eq number other).1 same)

none_of_four : (n : ℕ) → 2 ≤ n → n ≤ 5 → n ≢ 2 → n ≢ 3 → n ≢ 4 → n ≢ 5 → ⊥
none_of_four n low high two three four five = grind arith

none_left : (number : ℤ) → pos 2 ≤ℤ number → number ≤ℤ pos 5 → number ≢ pos 2 → number ≢ pos 3 → number ≢ pos 4 → number ≢ pos 5 → ⊥
none_left (pos n) low high two three four five =
    none_of_four n (omega (arith, ints, low)) (omega (arith, ints, high)) (λ is. two (ap pos is)) (λ is. three (ap pos is)) (λ is. four (ap pos is)) (λ is. five (ap pos is))
none_left (negsuc n) low high two three four five = absurd (omega (arith, ints, low))

in_order : (a b : ℤ) → int_le a b ≡ true → a ≤ℤ b
in_order a b is = omega (arith, ints, is)

not_two : (number : ℤ) → is_model_number number ≡ true → int_eq number (pos 2) ≡ false → model_numbered number ≢ M2
not_two number known isnt =
    let sides = and_parts (int_le (pos 2) number) (int_le number (pos 5)) known in
    other_model (int_eq number (pos 3)) (int_eq number (pos 4)) (int_eq number (pos 5)) (λ three four five.
    none_left number (in_order _ _ sides.0) (in_order _ _ sides.1) (differs number (pos 2) isnt) (differs number (pos 3) three) (differs number (pos 4) four) (differs number (pos 5) five))

otherwise_by : (panels : List DraftPanel) (parts : List PanelParts) (two : Bool) (name : List ℕ) (model : Model) (otherwise : Option ℕ) → (two ≡ true → model ≡ M2)
    → (two ≡ false → model ≢ M2) → ((q : ℕ) → IsBasePanelNamed panels name q → (other : PanelParts) × (slice_get parts q ≡ Some other) × (other.model ≡ M2))
    → IsOtherwiseBy panels (cond two None (Some name)) otherwise → IsOtherwise parts model otherwise
otherwise_by panels parts true name model otherwise base other there is = subst (IsOtherwise parts model) (sym is) (base refl)
otherwise_by panels parts false name model None base other there is = absurd is
otherwise_by panels parts false name model (Some q) base other there is =
    let (part, at_q, two) = there q is in
    (other refl, part, at_q, two)

pub have_otherwise : (draft : DraftText) (set : Panels) → IsFaultless draft → Defines draft set → HaveOtherwise set
have_otherwise draft set clean defines = λ p panel at_p.
    let (inner, there, is) = draft_of_each (IsPanelOf draft.panels) draft.panels set.panels p panel defines.panels at_p in
    let known = model_is_known draft inner p clean there in
    subst (λ model. IsOtherwise set.panels model panel.otherwise) (sym is.model)
    (otherwise_by draft.panels set.panels (int_eq inner.model (pos 2)) inner.otherwise (model_numbered inner.model) panel.otherwise
    (is_two inner.model) (not_two inner.model known)
    (λ q (base, at_q, two, named).
    let below : q < length set.panels = omega (arith, slice_get_within draft.panels q base at_q, defines.panels.size) in
    let (other, read) = there_in set.panels q below in
    let its = defines.panels.are q base other at_q read in
    (other, read, its.model ∙ ap model_numbered two))
    is.otherwise)
