-- Turns that pass, part by part.
use Rattle.std.proofs.Common.{◌≡◌, ◌<◌, ◌≤◌, ◌+◌, ℕ, zero, suc, true, List, [], ◌∷◌, ◌++◌, length, get_or, Option, Some, None, IsSome, refl, ap, sym, subst, inl, inr, ◌∙◌, add-one, arith}
use Rattle.std.specs.Prelude.{◌⊎◌, ◌==◌, Contains, IsTrue, is_some, slice_get, if◌then◌else◌}
use Rattle.std.specs.Option.{option_and_then}
use Rattle.std.proofs.lemmas.Bool.{cases_Bool, false≢true}
use Rattle.std.proofs.lemmas.Bool.Decides.{Decides-eqb}
use Rattle.std.proofs.lemmas.List.Elements.{All-push, Contains-append_left, Contains-push}
use Rattle.std.proofs.lemmas.List.Quantifiers.{all_pairs_push}
use Rattle.std.proofs.lemmas.Option.{none-some, same_Some, slice_get-get_or, slice_get_cases}
use Rattle.panels.specs.declared.fault.TreeFault.{TreeFault}
use Rattle.panels.specs.declared.fault.TreeFault.TheVariants.{UnknownKey, Missing, BadKind, BadName, TwiceNamed, OutOfPlace, Overlap, NoCode, NoTarget, BadKey, TooMany, BadModel}
use Rattle.panels.specs.declared.fault.Location.{Location}
use Rattle.panels.specs.declared.fault.Location.TheVariants.{Top, Panel, Text, Field, Value, Keys}
use Rattle.panels.specs.declared.fault.At.{At}
use Rattle.panels.specs.Draft.{DraftPanel, DraftText}
use Rattle.panels.specs.Faults.{HasFault, IsFaulty, place_of, faults_of, is_part, item_at, table_of}
use Rattle.panels.specs.Passes.{IsFirst, IsFaultless}
use Rattle.panels.specs.Turns.{pass_of, panel_turn, kind_turn, item_turn, fault_turn, turn_of, IsSooner, IsFirstFault}
use Rattle.panels.specs.Listing.{AreFaultsOf, IsBefore}
use Rattle.panels.specs.Walk.{turn_at, turn_in, turn_behind, AreFoundTo, IsAdded}
use Rattle.panels.specs.declared.fault.LocatedFault.{LocatedFault}
use Rattle.panels.proofs.Faultless.{there_in}

-- ---- turns, as numbers

at_or_under : (x y : ℕ) → x < suc y → (x < y) ⊎ (x ≡ y)
at_or_under x y less = grind arith

under_or_past : (x y : ℕ) → (x < y) ⊎ (y ≤ x)
under_or_past x y = grind arith

next_fault : (a b c d e a' b' c' d' e' : ℕ) → IsSooner (a ∷ b ∷ c ∷ d ∷ e ∷ []) (a' ∷ b' ∷ c' ∷ d' ∷ e' ∷ [])
    → IsSooner (a ∷ b ∷ c ∷ d ∷ e ∷ []) (a' ∷ b' ∷ c' ∷ d' ∷ 0 ∷ []) ⊎ ((a ≡ a') × (b ≡ b') × (c ≡ c') × (d ≡ d') × (e < e'))
next_fault a b c d e a' b' c' d' e' soon =
    elim soon [
      | inl less ↦ inl (inl less)
      | inr (at_a, soon) ↦ elim soon [
        | inl less ↦ inl (inr (at_a, inl less))
        | inr (at_b, soon) ↦ elim soon [
          | inl less ↦ inl (inr (at_a, inr (at_b, inl less)))
          | inr (at_c, soon) ↦ elim soon [
            | inl less ↦ inl (inr (at_a, inr (at_b, inr (at_c, inl less))))
            | inr (at_d, soon) ↦ elim soon [ inl less ↦ inr (at_a, at_b, at_c, at_d, less) | inr (at_e, none) ↦ absurd none ]
          ]
        ]
      ]
    ]

next_item : (a b c d e a' b' c' d' : ℕ) → IsSooner (a ∷ b ∷ c ∷ d ∷ e ∷ []) (a' ∷ b' ∷ c' ∷ suc d' ∷ 0 ∷ [])
    → IsSooner (a ∷ b ∷ c ∷ d ∷ e ∷ []) (a' ∷ b' ∷ c' ∷ d' ∷ 0 ∷ []) ⊎ ((a ≡ a') × (b ≡ b') × (c ≡ c') × (d ≡ d'))
next_item a b c d e a' b' c' d' soon =
    elim soon [
      | inl less ↦ inl (inl less)
      | inr (at_a, soon) ↦ elim soon [
        | inl less ↦ inl (inr (at_a, inl less))
        | inr (at_b, soon) ↦ elim soon [
          | inl less ↦ inl (inr (at_a, inr (at_b, inl less)))
          | inr (at_c, soon) ↦ elim soon [
            | inl less ↦ elim (at_or_under d d' less) [
              | inl under ↦ inl (inr (at_a, inr (at_b, inr (at_c, inl under))))
              | inr same ↦ inr (at_a, at_b, at_c, same)
            ]
            | inr (at_d, soon) ↦ elim soon [ inl less ↦ absurd (omega arith) | inr (at_e, none) ↦ absurd none ]
          ]
        ]
      ]
    ]

next_kind : (a b c d e a' b' c' n : ℕ) → IsSooner (a ∷ b ∷ c ∷ d ∷ e ∷ []) (a' ∷ b' ∷ suc c' ∷ 0 ∷ 0 ∷ [])
    → IsSooner (a ∷ b ∷ c ∷ d ∷ e ∷ []) (a' ∷ b' ∷ c' ∷ n ∷ 0 ∷ []) ⊎ ((a ≡ a') × (b ≡ b') × (c ≡ c') × (n ≤ d))
next_kind a b c d e a' b' c' n soon =
    elim soon [
      | inl less ↦ inl (inl less)
      | inr (at_a, soon) ↦ elim soon [
        | inl less ↦ inl (inr (at_a, inl less))
        | inr (at_b, soon) ↦ elim soon [
          | inl less ↦ elim (at_or_under c c' less) [
            | inl under ↦ inl (inr (at_a, inr (at_b, inl under)))
            | inr same ↦ elim (under_or_past d n) [
              | inl under ↦ inl (inr (at_a, inr (at_b, inr (same, inl under))))
              | inr past ↦ inr (at_a, at_b, same, past)
            ]
          ]
          | inr (at_c, soon) ↦ elim soon [
            | inl less ↦ absurd (omega arith)
            | inr (at_d, soon) ↦ elim soon [ inl less ↦ absurd (omega arith) | inr (at_e, none) ↦ absurd none ]
          ]
        ]
      ]
    ]

next_panel : (a b c d e a' b' c' : ℕ) → IsSooner (a ∷ b ∷ c ∷ d ∷ e ∷ []) (a' ∷ suc b' ∷ 0 ∷ 0 ∷ 0 ∷ [])
    → IsSooner (a ∷ b ∷ c ∷ d ∷ e ∷ []) (a' ∷ b' ∷ c' ∷ 0 ∷ 0 ∷ []) ⊎ ((a ≡ a') × (b ≡ b') × (c' ≤ c))
next_panel a b c d e a' b' c' soon =
    elim soon [
      | inl less ↦ inl (inl less)
      | inr (at_a, soon) ↦ elim soon [
        | inl less ↦ elim (at_or_under b b' less) [
          | inl under ↦ inl (inr (at_a, inl under))
          | inr same ↦ elim (under_or_past c c') [
            | inl under ↦ inl (inr (at_a, inr (same, inl under)))
            | inr past ↦ inr (at_a, same, past)
          ]
        ]
        | inr (at_b, soon) ↦ elim soon [
          | inl less ↦ absurd (omega arith)
          | inr (at_c, soon) ↦ elim soon [
            | inl less ↦ absurd (omega arith)
            | inr (at_d, soon) ↦ elim soon [ inl less ↦ absurd (omega arith) | inr (at_e, none) ↦ absurd none ]
          ]
        ]
      ]
    ]

next_pass : (a b c d e a' n : ℕ) → IsSooner (a ∷ b ∷ c ∷ d ∷ e ∷ []) (suc a' ∷ 0 ∷ 0 ∷ 0 ∷ 0 ∷ [])
    → IsSooner (a ∷ b ∷ c ∷ d ∷ e ∷ []) (a' ∷ n ∷ 0 ∷ 0 ∷ 0 ∷ []) ⊎ ((a ≡ a') × (n ≤ b))
next_pass a b c d e a' n soon =
    elim soon [
      | inl less ↦ elim (at_or_under a a' less) [
        | inl under ↦ inl (inl under)
        | inr same ↦ elim (under_or_past b n) [ inl under ↦ inl (inr (same, inl under)) | inr past ↦ inr (same, past) ]
      ]
      | inr (at_a, soon) ↦ elim soon [
        | inl less ↦ absurd (omega arith)
        | inr (at_b, soon) ↦ elim soon [
          | inl less ↦ absurd (omega arith)
          | inr (at_c, soon) ↦ elim soon [
            | inl less ↦ absurd (omega arith)
            | inr (at_d, soon) ↦ elim soon [ inl less ↦ absurd (omega arith) | inr (at_e, none) ↦ absurd none ]
          ]
        ]
      ]
    ]

-- the part that has a turn
abbrev part_from : ℕ → ℕ → ℕ → Location
part_from zero kind item = Top
part_from (suc p) zero item = Panel p
part_from (suc p) (suc zero) item = Text p item
part_from (suc p) (suc (suc zero)) item = Field p item
part_from (suc p) (suc (suc (suc zero))) item = Keys p
part_from (suc p) (suc (suc (suc (suc kind)))) item = Value p item

has_turn : (part : Location) → part_from (panel_turn part) (kind_turn part) (item_turn part) ≡ part
has_turn Top = refl
has_turn (Panel p) = refl
has_turn (Text p i) = refl
has_turn (Field p i) = refl
has_turn (Keys p) = refl
has_turn (Value p i) = refl

same_part : (part other : Location) → panel_turn part ≡ panel_turn other → kind_turn part ≡ kind_turn other → item_turn part ≡ item_turn other → part ≡ other
same_part part other panel kind item =
    sym (has_turn part) ∙ (ap (λ n. part_from n (kind_turn part) (item_turn part)) panel ∙ (ap (λ n. part_from (panel_turn other) n (item_turn part)) kind ∙ (ap (λ n. part_from (panel_turn other) (kind_turn other) n) item ∙ has_turn other)))

-- ---- turns that come one after another

pub sooner_through : (xs ys zs : List ℕ) → IsSooner xs ys → IsSooner ys zs → IsSooner xs zs
sooner_through [] ys zs first second = absurd first
sooner_through (x ∷ xs) [] zs first second = absurd first
sooner_through (x ∷ xs) (y ∷ ys) [] first second = absurd second
sooner_through (x ∷ xs) (y ∷ ys) (z ∷ zs) first second =
    elim first [
      | inl less ↦ elim second [
        | inl more ↦ (let below : x < z = omega arith in inl below)
        | inr same ↦ (let below : x < z = omega (arith, same.0) in inl below)
      ]
      | inr at_x ↦ elim second [
        | inl more ↦ (let below : x < z = omega (arith, at_x.0) in inl below)
        | inr at_y ↦ inr (at_x.0 ∙ at_y.0, sooner_through xs ys zs at_x.1 at_y.1)
      ]
    ]

pub not_sooner : (xs : List ℕ) → IsSooner xs xs → ⊥
not_sooner [] soon = soon
not_sooner (x ∷ xs) soon = elim soon [ inl less ↦ absurd (omega arith) | inr same ↦ not_sooner xs same.1 ]

behind_start : (t : List ℕ) (a b c d n : ℕ) → IsSooner t (a ∷ b ∷ c ∷ d ∷ 0 ∷ []) → IsSooner t (a ∷ b ∷ c ∷ d ∷ n ∷ [])
behind_start t a b c d zero soon = soon
behind_start t a b c d (suc n) soon =
    let some : 0 < suc n = omega arith in
    sooner_through t (a ∷ b ∷ c ∷ d ∷ 0 ∷ []) (a ∷ b ∷ c ∷ d ∷ suc n ∷ []) soon (inr (refl, inr (refl, inr (refl, inr (refl, inl some)))))

turn_few : (fault : TreeFault) → fault_turn fault < length (faults_of (pass_of fault))
turn_few UnknownKey = omega arith
turn_few Missing = omega arith
turn_few BadKind = omega arith
turn_few TooMany = omega arith
turn_few BadName = omega arith
turn_few BadKey = omega arith
turn_few TwiceNamed = omega arith
turn_few BadModel = omega arith
turn_few OutOfPlace = omega arith
turn_few NoCode = omega arith
turn_few Overlap = omega arith
turn_few NoTarget = omega arith

-- the turns of a pass in a table are before the one behind it
in_part : (pass : ℕ) (fault : TreeFault) (part other : Location) → pass_of fault ≡ pass → part ≡ other → IsSooner (turn_of fault part) (turn_behind pass other)
in_part pass fault part other at_pass same =
    let few : fault_turn fault < length (faults_of pass) = subst (λ n. fault_turn fault < length (faults_of n)) at_pass (turn_few fault) in
    subst (λ q. IsSooner (turn_of fault part) (turn_behind pass q)) same (inr (at_pass, inr (refl, inr (refl, inr (refl, inl few)))))

-- ---- what is found

advance : (turn next : List ℕ) (draft : DraftText) (found : List LocatedFault) → IsSooner turn next
    → ((fault : TreeFault) (part : Location) → IsSooner (turn_of fault part) next → IsFaulty fault part draft → IsSooner (turn_of fault part) turn)
    → AreFoundTo turn draft found → AreFoundTo next draft found
advance turn next draft found before all s = record {
  stand = s.stand;
  each = λ fault part soon faulty. s.each fault part (all fault part soon faulty) faulty;
  sooner = λ k d below.
      let at = get_or found k d in
      sooner_through (turn_of at.fault at.part) turn next (s.sooner k d below) before;
  in_order = s.in_order;
}

behind : (pass : ℕ) (part other : Location) (fault : TreeFault) → IsSooner (turn_of fault other) (turn_at pass part) → IsSooner (turn_of fault other) (turn_behind pass part)
behind pass part other fault soon = behind_start (turn_of fault other) pass (panel_turn part) (kind_turn part) (item_turn part) (length (faults_of pass)) soon

text_found_suc : (pass p i : ℕ) (draft : DraftText) (found : List LocatedFault) → AreFoundTo (turn_behind pass (Text p i)) draft found → AreFoundTo (turn_at pass (Text p (suc i))) draft found
text_found_suc pass p i draft found =
    let less : i < suc i = omega arith in
    advance (turn_behind pass (Text p i)) (turn_at pass (Text p (suc i))) draft found (inr (refl, inr (refl, inr (refl, inl less))))
    (λ fault part soon faulty.
    elim (next_item _ _ _ _ _ _ _ _ _ soon) [
      | inl sooner ↦ behind pass (Text p i) part fault sooner
      | inr (at_pass, at_panel, at_kind, at_item) ↦ in_part pass fault part (Text p i) at_pass (same_part part (Text p i) at_panel at_kind at_item)
    ])

pub text_found : (pass p i : ℕ) (draft : DraftText) (found : List LocatedFault) → AreFoundTo (turn_behind pass (Text p i)) draft found → AreFoundTo (turn_at pass (Text p (i + 1))) draft found
text_found pass p i draft found s = subst (λ n. AreFoundTo (turn_at pass (Text p n)) draft found) (sym (add-one i)) (text_found_suc pass p i draft found s)

field_found_suc : (pass p i : ℕ) (draft : DraftText) (found : List LocatedFault) → AreFoundTo (turn_behind pass (Field p i)) draft found → AreFoundTo (turn_at pass (Field p (suc i))) draft found
field_found_suc pass p i draft found =
    let less : i < suc i = omega arith in
    advance (turn_behind pass (Field p i)) (turn_at pass (Field p (suc i))) draft found (inr (refl, inr (refl, inr (refl, inl less))))
    (λ fault part soon faulty.
    elim (next_item _ _ _ _ _ _ _ _ _ soon) [
      | inl sooner ↦ behind pass (Field p i) part fault sooner
      | inr (at_pass, at_panel, at_kind, at_item) ↦ in_part pass fault part (Field p i) at_pass (same_part part (Field p i) at_panel at_kind at_item)
    ])

pub field_found : (pass p i : ℕ) (draft : DraftText) (found : List LocatedFault) → AreFoundTo (turn_behind pass (Field p i)) draft found → AreFoundTo (turn_at pass (Field p (i + 1))) draft found
field_found pass p i draft found s = subst (λ n. AreFoundTo (turn_at pass (Field p n)) draft found) (sym (add-one i)) (field_found_suc pass p i draft found s)

-- the part whose turn it is
from_turns : (part : Location) (panel kind : ℕ) → panel_turn part ≡ panel → kind_turn part ≡ kind → part ≡ part_from panel kind (item_turn part)
from_turns part panel kind at_panel at_kind =
    sym (has_turn part) ∙ (ap (λ n. part_from n (kind_turn part) (item_turn part)) at_panel ∙ ap (λ n. part_from panel n (item_turn part)) at_kind)

is_top : (part : Location) → panel_turn part ≡ 0 → part ≡ Top
is_top part at_panel = from_turns part 0 (kind_turn part) at_panel refl

is_keys : (part : Location) (p : ℕ) (panels : List DraftPanel) → IsTrue (is_part part panels) → panel_turn part ≡ suc p → 3 ≤ kind_turn part → part ≡ Keys p
is_keys Top p panels there at_panel past = absurd (omega arith)
is_keys (Panel q) p panels there at_panel past = absurd (omega arith)
is_keys (Text q i) p panels there at_panel past = absurd (omega arith)
is_keys (Field q i) p panels there at_panel past = absurd (omega arith)
is_keys (Value q i) p panels there at_panel past = absurd (false≢true there)
is_keys (Keys q) p panels there at_panel past =
    let same : q ≡ p = omega arith in
    ap Keys same

pub top_found : (pass : ℕ) (draft : DraftText) (found : List LocatedFault) → AreFoundTo (turn_behind pass Top) draft found → AreFoundTo (turn_at pass (Panel 0)) draft found
top_found pass draft found =
    let less : 0 < 1 = omega arith in
    advance (turn_behind pass Top) (turn_at pass (Panel 0)) draft found (inr (refl, inl less))
    (λ fault part soon faulty.
    elim (next_panel _ _ _ _ _ _ 0 0 soon) [
      | inl sooner ↦ behind pass Top part fault sooner
      | inr (at_pass, at_panel, past) ↦ in_part pass fault part Top at_pass (is_top part at_panel)
    ])

pub panel_found : (pass p : ℕ) (draft : DraftText) (found : List LocatedFault) → AreFoundTo (turn_behind pass (Panel p)) draft found → AreFoundTo (turn_at pass (Text p 0)) draft found
panel_found pass p draft found =
    let less : 0 < 1 = omega arith in
    advance (turn_behind pass (Panel p)) (turn_at pass (Text p 0)) draft found (inr (refl, inr (refl, inl less)))
    (λ fault part soon faulty.
    elim (next_kind _ _ _ _ _ _ _ 0 0 soon) [
      | inl sooner ↦ behind pass (Panel p) part fault sooner
      | inr (at_pass, at_panel, at_kind, past) ↦ in_part pass fault part (Panel p) at_pass (from_turns part (suc p) 0 at_panel at_kind)
    ])

-- no part of a kind is in the text from a number on
abbrev EndsAt : (ℕ → Location) → ℕ → DraftText → Type 0
EndsAt part n draft = (i : ℕ) → n ≤ i → ¬ IsTrue (is_part (part i) draft.panels)

below_end : {X : Type 0} (xs : List X) (i : ℕ) → IsSome (slice_get xs i) → i < length xs
below_end xs i is =
    elim (slice_get_cases xs i).1 [
      | inl there ↦ there.1
      | inr past ↦ absurd (false≢true (subst (λ o. IsSome o) past.1 is))
    ]

some_part : {X Y : Type 0} (f : X → Option Y) (o : Option X) → IsSome (option_and_then f o) → IsSome o
some_part f None is = absurd (false≢true is)
some_part f (Some x) is = refl

pub texts_found : (pass p n : ℕ) (draft : DraftText) (found : List LocatedFault) → EndsAt (Text p) n draft → AreFoundTo (turn_at pass (Text p n)) draft found → AreFoundTo (turn_at pass (Field p 0)) draft found
texts_found pass p n draft found ends =
    let less : 1 < 2 = omega arith in
    advance (turn_at pass (Text p n)) (turn_at pass (Field p 0)) draft found (inr (refl, inr (refl, inl less)))
    (λ fault part soon faulty.
    elim (next_kind _ _ _ _ _ _ _ 1 n soon) [
      | inl sooner ↦ sooner
      | inr (at_pass, at_panel, at_kind, past) ↦
          absurd (ends (item_turn part) past (subst (λ q. IsTrue (is_part q draft.panels)) (from_turns part (suc p) 1 at_panel at_kind) faulty.0))
    ])

pub no_text_from : (draft : DraftText) (panel : DraftPanel) (p n : ℕ) → slice_get draft.panels p ≡ Some panel → n ≡ length panel.texts → EndsAt (Text p) n draft
no_text_from draft panel p n there all i past stands =
    let below = below_end panel.texts i (subst (λ o. IsSome (option_and_then (λ panel. slice_get panel.texts i) o)) there stands) in
    omega arith

pub no_field_from : (draft : DraftText) (panel : DraftPanel) (p n : ℕ) → slice_get draft.panels p ≡ Some panel → n ≡ length panel.fields → EndsAt (Field p) n draft
no_field_from draft panel p n there all i past stands =
    let below = below_end panel.fields i (subst (λ o. IsSome (option_and_then (λ panel. slice_get panel.fields i) o)) there stands) in
    omega arith

pub fields_found : (pass p n : ℕ) (draft : DraftText) (found : List LocatedFault) → EndsAt (Field p) n draft → AreFoundTo (turn_at pass (Field p n)) draft found → AreFoundTo (turn_at pass (Keys p)) draft found
fields_found pass p n draft found ends =
    let less : 2 < 3 = omega arith in
    advance (turn_at pass (Field p n)) (turn_at pass (Keys p)) draft found (inr (refl, inr (refl, inl less)))
    (λ fault part soon faulty.
    elim (next_kind _ _ _ _ _ _ _ 2 n soon) [
      | inl sooner ↦ sooner
      | inr (at_pass, at_panel, at_kind, past) ↦
          absurd (ends (item_turn part) past (subst (λ q. IsTrue (is_part q draft.panels)) (from_turns part (suc p) 2 at_panel at_kind) faulty.0))
    ])

keys_found_suc : (pass p : ℕ) (draft : DraftText) (found : List LocatedFault) → AreFoundTo (turn_behind pass (Keys p)) draft found → AreFoundTo (turn_at pass (Panel (suc p))) draft found
keys_found_suc pass p draft found =
    let less : suc p < suc (suc p) = omega arith in
    advance (turn_behind pass (Keys p)) (turn_at pass (Panel (suc p))) draft found (inr (refl, inl less))
    (λ fault part soon faulty.
    elim (next_panel _ _ _ _ _ _ (suc p) 3 soon) [
      | inl sooner ↦ behind pass (Keys p) part fault sooner
      | inr (at_pass, at_panel, past) ↦ in_part pass fault part (Keys p) at_pass (is_keys part p draft.panels faulty.0 at_panel past)
    ])

pub keys_found : (pass p : ℕ) (draft : DraftText) (found : List LocatedFault) → AreFoundTo (turn_behind pass (Keys p)) draft found → AreFoundTo (turn_at pass (Panel (p + 1))) draft found
keys_found pass p draft found s = subst (λ n. AreFoundTo (turn_at pass (Panel n)) draft found) (sym (add-one p)) (keys_found_suc pass p draft found s)

-- a part is the top, or of a panel that there is
panel_of_part : (part : Location) (panels : List DraftPanel) → IsTrue (is_part part panels) → panel_turn part ≤ length panels
panel_of_part Top panels there = omega arith
panel_of_part (Panel p) panels there =
    let below = below_end panels p there in
    omega arith
panel_of_part (Text p i) panels there =
    let below = below_end panels p (some_part (λ panel. slice_get panel.texts i) _ there) in
    omega arith
panel_of_part (Field p i) panels there =
    let below = below_end panels p (some_part (λ panel. slice_get panel.fields i) _ there) in
    omega arith
panel_of_part (Value p i) panels there = absurd (false≢true there)
panel_of_part (Keys p) panels there =
    let below = below_end panels p there in
    omega arith

panels_found_suc : (pass n : ℕ) (draft : DraftText) (found : List LocatedFault) → n ≡ length draft.panels → AreFoundTo (turn_at pass (Panel n)) draft found → AreFoundTo (turn_at (suc pass) Top) draft found
panels_found_suc pass n draft found all =
    let less : pass < suc pass = omega arith in
    advance (turn_at pass (Panel n)) (turn_at (suc pass) Top) draft found (inl less)
    (λ fault part soon faulty.
    elim (next_pass _ _ _ _ _ _ (suc n) soon) [
      | inl sooner ↦ sooner
      | inr (at_pass, past) ↦
          let within = panel_of_part part draft.panels faulty.0 in
          absurd (omega arith)
    ])

pub panels_found : (pass n : ℕ) (draft : DraftText) (found : List LocatedFault) → n ≡ length draft.panels → AreFoundTo (turn_at pass (Panel n)) draft found → AreFoundTo (turn_at (pass + 1) Top) draft found
panels_found pass n draft found all s = subst (λ m. AreFoundTo (turn_at m Top) draft found) (sym (add-one pass)) (panels_found_suc pass n draft found all s)

-- there are six passes
pass_some : (fault : TreeFault) → 1 ≤ pass_of fault
pass_some UnknownKey = omega arith
pass_some Missing = omega arith
pass_some BadKind = omega arith
pass_some TooMany = omega arith
pass_some BadName = omega arith
pass_some BadKey = omega arith
pass_some TwiceNamed = omega arith
pass_some BadModel = omega arith
pass_some OutOfPlace = omega arith
pass_some NoCode = omega arith
pass_some Overlap = omega arith
pass_some NoTarget = omega arith

pass_below : (fault : TreeFault) → pass_of fault < 7
pass_below UnknownKey = omega arith
pass_below Missing = omega arith
pass_below BadKind = omega arith
pass_below TooMany = omega arith
pass_below BadName = omega arith
pass_below BadKey = omega arith
pass_below TwiceNamed = omega arith
pass_below BadModel = omega arith
pass_below OutOfPlace = omega arith
pass_below NoCode = omega arith
pass_below Overlap = omega arith
pass_below NoTarget = omega arith

first_clear : (fault : TreeFault) (part : Location) → IsSooner (turn_of fault part) (turn_at 1 Top) → ⊥
first_clear fault part soon =
    let some = pass_some fault in
    elim soon [
      | inl less ↦ absurd (omega arith)
      | inr (at_pass, soon) ↦ elim soon [
        | inl less ↦ absurd (omega arith)
        | inr (at_panel, soon) ↦ elim soon [
          | inl less ↦ absurd (omega arith)
          | inr (at_kind, soon) ↦ elim soon [
            | inl less ↦ absurd (omega arith)
            | inr (at_item, soon) ↦ elim soon [ inl less ↦ absurd (omega arith) | inr (at_fault, none) ↦ absurd none ]
          ]
        ]
      ]
    ]

pub none_found : (draft : DraftText) → AreFoundTo (turn_at 1 Top) draft []
none_found draft = record {
  stand = λ k d below. absurd (omega arith);
  each = λ fault part soon faulty. absurd (first_clear fault part soon);
  sooner = λ k d below. absurd (omega arith);
  in_order = λ i j d less below. absurd (omega arith);
}

pub all_found : (draft : DraftText) (found : List LocatedFault) → AreFoundTo (turn_at 7 Top) draft found → AreFaultsOf draft found
all_found draft found s = record {
  stand = s.stand;
  each = λ fault part faulty. s.each fault part (inl (pass_below fault)) faulty;
  in_order = s.in_order;
}

-- ---- the passes' lists

looked_for : (fault : TreeFault) → Contains (faults_of (pass_of fault)) fault
looked_for UnknownKey = (0, omega arith, refl)
looked_for Missing = (1, omega arith, refl)
looked_for BadKind = (2, omega arith, refl)
looked_for TooMany = (0, omega arith, refl)
looked_for BadName = (0, omega arith, refl)
looked_for BadKey = (1, omega arith, refl)
looked_for TwiceNamed = (2, omega arith, refl)
looked_for BadModel = (0, omega arith, refl)
looked_for OutOfPlace = (1, omega arith, refl)
looked_for NoCode = (2, omega arith, refl)
looked_for Overlap = (0, omega arith, refl)
looked_for NoTarget = (0, omega arith, refl)

-- a fault in a list of a pass's is of it, and stands there in its turn
abbrev AreInTurn : ℕ → List TreeFault → Type 0
AreInTurn pass faults = (k : ℕ) (fault : TreeFault) → slice_get faults k ≡ Some fault → (pass_of fault ≡ pass) × (fault_turn fault ≡ k)

none_in_turn : (pass : ℕ) → AreInTurn pass []
none_in_turn pass k fault is = absurd (none-some fault is)

one_in_turn : (pass : ℕ) (f : TreeFault) → pass_of f ≡ pass → fault_turn f ≡ 0 → AreInTurn pass (f ∷ [])
one_in_turn pass f at_pass at_turn zero fault is = subst (λ g. (pass_of g ≡ pass) × (fault_turn g ≡ 0)) (same_Some f fault is) (at_pass, at_turn)
one_in_turn pass f at_pass at_turn (suc k) fault is = absurd (none-some fault is)

three_in_turn : (pass : ℕ) (f g h : TreeFault) → pass_of f ≡ pass → fault_turn f ≡ 0 → pass_of g ≡ pass → fault_turn g ≡ 1 → pass_of h ≡ pass → fault_turn h ≡ 2
    → AreInTurn pass (f ∷ g ∷ h ∷ [])
three_in_turn pass f g h f_pass f_turn g_pass g_turn h_pass h_turn zero fault is = subst (λ x. (pass_of x ≡ pass) × (fault_turn x ≡ 0)) (same_Some f fault is) (f_pass, f_turn)
three_in_turn pass f g h f_pass f_turn g_pass g_turn h_pass h_turn (suc zero) fault is = subst (λ x. (pass_of x ≡ pass) × (fault_turn x ≡ 1)) (same_Some g fault is) (g_pass, g_turn)
three_in_turn pass f g h f_pass f_turn g_pass g_turn h_pass h_turn (suc (suc zero)) fault is = subst (λ x. (pass_of x ≡ pass) × (fault_turn x ≡ 2)) (same_Some h fault is) (h_pass, h_turn)
three_in_turn pass f g h f_pass f_turn g_pass g_turn h_pass h_turn (suc (suc (suc k))) fault is = absurd (none-some fault is)

at_pass : (pass n : ℕ) (some other : List TreeFault) → AreInTurn n some → AreInTurn pass other → AreInTurn pass (if pass == n then some else other)
at_pass pass n some other these those =
    elim (cases_Bool (pass == n)) [
      | inl yes' ↦
          let same : pass ≡ n = (Decides-eqb pass n).0 yes' in
          rw yes' (subst (λ m. AreInTurn m some) (sym same) these)
      | inr no' ↦ rw no' those
    ]

pub in_turn : (pass : ℕ) → AreInTurn pass (faults_of pass)
in_turn pass =
    at_pass pass 1 _ _ (three_in_turn 1 UnknownKey Missing BadKind refl refl refl refl refl refl)
    (at_pass pass 2 _ _ (one_in_turn 2 TooMany refl refl)
    (at_pass pass 3 _ _ (three_in_turn 3 BadName BadKey TwiceNamed refl refl refl refl refl refl)
    (at_pass pass 4 _ _ (three_in_turn 4 BadModel OutOfPlace NoCode refl refl refl refl refl refl)
    (at_pass pass 5 _ _ (one_in_turn 5 Overlap refl refl)
    (at_pass pass 6 _ _ (one_in_turn 6 NoTarget refl refl) (none_in_turn pass))))))

-- what is first in its turn is of the first pass that finds any
pub first_of_pass : (fault : TreeFault) (place : At) (draft : DraftText) → IsFirstFault fault place draft → IsFirst fault place draft
first_of_pass fault place draft first = record {
  pass = pass_of fault;
  looked_for = looked_for fault;
  stands = (first.part, first.at_place, first.stands);
  earlier = λ before less other part (k, below, is).
      let of_it = in_turn before k other (slice_get-get_or (faults_of before) k other below ∙ ap Some is) in
      first.sooner other part (inl (subst (λ n. n < pass_of fault) (sym of_it.0) less));
}

its_turn : (fault : TreeFault) → slice_get (faults_of (pass_of fault)) (fault_turn fault) ≡ Some fault
its_turn UnknownKey = refl
its_turn Missing = refl
its_turn BadKind = refl
its_turn TooMany = refl
its_turn BadName = refl
its_turn BadKey = refl
its_turn TwiceNamed = refl
its_turn BadModel = refl
its_turn OutOfPlace = refl
its_turn NoCode = refl
its_turn Overlap = refl
its_turn NoTarget = refl

-- ---- the next fault of a pass's list

turn_is : (pass k : ℕ) (fault : TreeFault) (part : Location) → pass_of fault ≡ pass → fault_turn fault ≡ k → turn_of fault part ≡ turn_in pass part k
turn_is pass k fault part at_pass at_turn =
    ap (λ n. n ∷ panel_turn part ∷ kind_turn part ∷ item_turn part ∷ fault_turn fault ∷ []) at_pass
    ∙ ap (λ n. pass ∷ panel_turn part ∷ kind_turn part ∷ item_turn part ∷ n ∷ []) at_turn

-- what is sooner than the next number was sooner, or is this fault of this table
at_number : (pass k : ℕ) (fault other : TreeFault) (part elsewhere : Location) → slice_get (faults_of pass) k ≡ Some fault
    → IsSooner (turn_of other elsewhere) (turn_in pass part (suc k)) → IsSooner (turn_of other elsewhere) (turn_in pass part k) ⊎ ((other ≡ fault) × (elsewhere ≡ part))
at_number pass k fault other part elsewhere listed soon =
    elim (next_fault _ _ _ _ _ _ _ _ _ _ soon) [
      | inl sooner ↦ inl (behind_start (turn_of other elsewhere) pass (panel_turn part) (kind_turn part) (item_turn part) k sooner)
      | inr (at_pass, at_panel, at_kind, at_item, less) ↦ elim (at_or_under _ _ less) [
        | inl under ↦ inl (inr (at_pass, inr (at_panel, inr (at_kind, inr (at_item, inl under)))))
        | inr same ↦
            let here : slice_get (faults_of pass) k ≡ Some other =
            subst (λ n. slice_get (faults_of pass) n ≡ Some other) same (subst (λ n. slice_get (faults_of n) (fault_turn other) ≡ Some other) at_pass (its_turn other)) in
            inr (same_Some other fault (sym here ∙ listed), same_part elsewhere part at_panel at_kind at_item)
      ]
    ]

abbrev this : TreeFault → Location → LocatedFault
this fault part = record { fault = fault; part = part }

fault_added : (pass k : ℕ) (fault : TreeFault) (part : Location) (draft : DraftText) (old : List LocatedFault) → slice_get (faults_of pass) k ≡ Some fault → IsFaulty fault part draft
    → AreFoundTo (turn_in pass part k) draft old → AreFoundTo (turn_in pass part (suc k)) draft (old ++ this fault part ∷ [])
fault_added pass k fault part draft old listed faulty s =
    let (at_pass, at_turn) = in_turn pass k fault listed in
    let its = turn_is pass k fault part at_pass at_turn in
    let less : k < suc k = omega arith in
    let next : IsSooner (turn_in pass part k) (turn_in pass part (suc k)) = inr (refl, inr (refl, inr (refl, inr (refl, inl less)))) in
    record {
      stand = All-push (λ (at : LocatedFault). IsFaulty at.fault at.part draft) old (this fault part) s.stand faulty;
      each = λ other elsewhere soon stands.
          elim (at_number pass k fault other part elsewhere listed soon) [
            | inl sooner ↦ Contains-append_left old (this fault part ∷ []) (this other elsewhere) (s.each other elsewhere sooner stands)
            | inr (same, there) ↦
                subst (λ x. Contains (old ++ this fault part ∷ []) x) (ap (λ f. this f part) (sym same) ∙ ap (this other) (sym there)) (Contains-push old (this fault part))
          ];
      sooner = All-push (λ (at : LocatedFault). IsSooner (turn_of at.fault at.part) (turn_in pass part (suc k))) old (this fault part)
          (λ j d below.
          let at = get_or old j d in
          sooner_through (turn_of at.fault at.part) (turn_in pass part k) (turn_in pass part (suc k)) (s.sooner j d below) next)
          (subst (λ turn. IsSooner turn (turn_in pass part (suc k))) (sym its) next);
      in_order = all_pairs_push IsBefore old (this fault part) s.in_order (λ j d below.
          let at = get_or old j d in
          subst (λ turn. IsSooner (turn_of at.fault at.part) turn) (sym its) (s.sooner j d below));
    }

fault_passed : (pass k : ℕ) (fault : TreeFault) (part : Location) (draft : DraftText) (old : List LocatedFault) → slice_get (faults_of pass) k ≡ Some fault → ¬ HasFault fault part draft
    → AreFoundTo (turn_in pass part k) draft old → AreFoundTo (turn_in pass part (suc k)) draft old
fault_passed pass k fault part draft old listed clean s =
    let less : k < suc k = omega arith in
    let next : IsSooner (turn_in pass part k) (turn_in pass part (suc k)) = inr (refl, inr (refl, inr (refl, inr (refl, inl less)))) in
    advance (turn_in pass part k) (turn_in pass part (suc k)) draft old next
    (λ other elsewhere soon stands.
    elim (at_number pass k fault other part elsewhere listed soon) [
      | inl sooner ↦ sooner
      | inr (same, there) ↦ absurd (clean (subst (λ f. HasFault f part draft) same (subst (λ q. HasFault other q draft) there stands.1)))
    ])
    s

pub fault_next : (pass k : ℕ) (fault : TreeFault) (part : Location) (draft : DraftText) (old new : List LocatedFault) → slice_get (faults_of pass) k ≡ Some fault → IsTrue (is_part part draft.panels)
    → IsAdded fault part draft old new → AreFoundTo (turn_in pass part k) draft old → AreFoundTo (turn_in pass part (k + 1)) draft new
fault_next pass k fault part draft old new listed there added s =
    subst (λ n. AreFoundTo (turn_in pass part n) draft new) (sym (add-one k))
    (elim added [
      | inl (has, is) ↦ subst (AreFoundTo (turn_in pass part (suc k)) draft) (sym is) (fault_added pass k fault part draft old listed (there, has) s)
      | inr (clean, is) ↦ subst (AreFoundTo (turn_in pass part (suc k)) draft) (sym is) (fault_passed pass k fault part draft old listed clean s)
    ])

-- ---- the first of all faults

pub first_part : (draft : DraftText) (first : LocatedFault) (more : List LocatedFault) → AreFaultsOf draft (first ∷ more) → IsFirstFault first.fault (place_of (table_of first.part draft.panels)) draft
first_part draft first more all = record {
  part = first.part;
  at_place = refl;
  stands = all.stand 0 first (omega arith);
  sooner = λ fault part soon faulty. later (this fault part) soon (all.each fault part faulty);
}
  where
    later : (at : LocatedFault) → IsBefore at first → Contains (first ∷ more) at → ⊥
    later at soon (zero, below, is) = not_sooner (turn_of first.fault first.part) (subst (λ (x : LocatedFault). IsBefore x first) (sym is) soon)
    later at soon (suc k, below, is) =
        let behind_it : IsBefore first at = subst (λ (x : LocatedFault). IsBefore first x) is (all.in_order 0 (suc k) at (omega arith) below) in
        not_sooner (turn_of first.fault first.part) (sooner_through (turn_of first.fault first.part) (turn_of at.fault at.part) (turn_of first.fault first.part) behind_it soon)

pub none_faultless : (draft : DraftText) → AreFaultsOf draft [] → IsFaultless draft
none_faultless draft all fault part faulty = let (k, below, is) = all.each fault part faulty in absurd (omega (arith, below))

pub field_there : (panels : List DraftPanel) (draft : DraftPanel) (p i : ℕ) → slice_get panels p ≡ Some draft → i < length draft.fields → is_some (item_at (Field p i) panels) ≡ true
field_there panels draft p i there below =
    let (item, at_i) = there_in draft.fields i below in
    ap (λ o. is_some (option_and_then (λ (panel : DraftPanel). slice_get panel.fields i) o)) there ∙ ap is_some at_i

-- the first of the list, if it has one
pub refused : (draft : DraftText) (found : List LocatedFault) (first : LocatedFault) → AreFaultsOf draft found → slice_get found 0 ≡ Some first
    → IsFirstFault first.fault (place_of (table_of first.part draft.panels)) draft
refused draft [] first all is = absurd (none-some first is)
refused draft (at ∷ more) first all is =
    subst (λ (x : LocatedFault). IsFirstFault x.fault (place_of (table_of x.part draft.panels)) draft) (same_Some at first is) (first_part draft at more all)

pub accepted : (draft : DraftText) (found : List LocatedFault) → AreFaultsOf draft found → slice_get found 0 ≡ None → IsFaultless draft
accepted draft [] all none = none_faultless draft all
accepted draft (at ∷ more) all none = absurd (none-some at (sym none))
