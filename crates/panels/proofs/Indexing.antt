-- An index of names that is built part by part.
use Rattle.std.proofs.Common.{◌≡◌, ◌<◌, ◌+◌, ℕ, List, length, Option, Some, None, IsSome, Bool, true, false, cond, refl, ap, sym, ◌∙◌, subst, inl, inr, arith}
use Rattle.std.specs.Prelude.{◌⊎◌, bytes_eq, option_map, slice_get, is_some}
use Rattle.std.specs.Option.{option_or, option_and_then}
use Rattle.std.specs.Map.{update}
use Rattle.std.proofs.lemmas.Bool.{cases_Bool, false≢true}
use Rattle.std.proofs.lemmas.Option.{none-some, same_Some, slice_get_within}
use Rattle.std.proofs.lemmas.Slice.Eq.{bytes_eq-Decides}
use Rattle.panels.specs.declared.fault.Location.{Location}
use Rattle.panels.specs.declared.fault.Location.TheVariants.{Top, Panel, Text, Field, Value, Keys}
use Rattle.panels.specs.Draft.{DraftItem, DraftPanel}
use Rattle.panels.specs.Faults.{IsNamedBefore, copied_name, copied_name_at, item_at, name_at}
use Rattle.panels.specs.Index.{NameIndex, part_named, noted, HasFirstOf, IsIndexTo}

pub none_of : {X : Type 0} (o : Option X) → is_some o ≡ false → o ≡ None
none_of None is = refl
none_of (Some x) is = absurd (false≢true (sym is))

or_none : {X : Type 0} (o : Option X) → option_or o None ≡ o
or_none None = refl
or_none (Some x) = refl

or_some : {X : Type 0} (o p : Option X) → IsSome o → option_or o p ≡ o
or_some None p is = absurd (false≢true is)
or_some (Some x) p is = refl

-- a name that is there is noted already
pub noted_present : (old : List ℕ → Option Location) (name : List ℕ) (part : Location) (other : List ℕ) → IsSome (old name) → old other ≡ noted old (Some name) part other
noted_present old name part other is =
    elim (cases_Bool (bytes_eq name other)) [
      | inl yes' ↦
          let same : name ≡ other = (bytes_eq-Decides name other).0 yes' in
          sym (or_some (old other) _ (subst (λ n. IsSome (old n)) same is))
      | inr no' ↦ rw no' (sym (or_none (old other)))
    ]

-- the map with the name set is the index with it noted
pub noted_absent : (old new : List ℕ → Option Location) (name : List ℕ) (part : Location) (other : List ℕ) → ((cs : List ℕ) → new cs ≡ update bytes_eq old name (Some part) cs)
    → old name ≡ None → new other ≡ noted old (Some name) part other
noted_absent old new name part other set none =
    elim (cases_Bool (bytes_eq name other)) [
      | inl yes' ↦
          let same : name ≡ other = (bytes_eq-Decides name other).0 yes' in
          let there : old other ≡ None = subst (λ n. old n ≡ None) same none in
          set other ∙ rw (yes', there) refl
      | inr no' ↦ set other ∙ rw no' (sym (or_none (old other)))
    ]

-- the next part is the only one that comes between
abbrev pub Follows : Location → Location → Type 0
Follows now next = ((part : Location) → IsNamedBefore part next → IsNamedBefore part now ⊎ (part ≡ now)) × ((part : Location) → IsNamedBefore part now → IsNamedBefore part next) × IsNamedBefore now next

same_first : (old new : NameIndex) (name : List ℕ) (part : Location) → part_named new name ≡ part_named old name → HasFirstOf old name part → HasFirstOf new name part
same_first old new name part same (first, is, where') = (first, same ∙ is, where')

named_of : (o : Option Location) (b : Bool) (now part : Location) → option_or o (cond b (Some now) None) ≡ Some part → (o ≡ Some part) ⊎ ((b ≡ true) × (now ≡ part))
named_of (Some x) b now part is = inl is
named_of None true now part is = inr (refl, same_Some _ _ is)
named_of None false now part is = cc

bytes_eq_itself : (name : List ℕ) → bytes_eq name name ≡ true
bytes_eq_itself name = (bytes_eq-Decides name name).1 refl

first_here : (o : Option Location) (now : Location) → ((x : Location) → o ≡ Some x → IsNamedBefore x now) → (first : Location) × (option_or o (Some now) ≡ Some first) × ((first ≡ now) ⊎ IsNamedBefore first now)
first_here None now before = (now, refl, inl refl)
first_here (Some x) now before = (x, refl, inr (before x refl))

or_kept : (o : Option Location) (p : Option Location) (x : Location) → o ≡ Some x → option_or o p ≡ Some x
or_kept None p x is = cc
or_kept (Some y) p x is = is

-- the way of naming by which a part is in an index
abbrev pub Naming : Type 0
Naming = Location → List DraftPanel → Option (List ℕ)

step_named : (by : Naming) (panels : List DraftPanel) (now next : Location) (old new : NameIndex) (n : Option (List ℕ)) → Follows now next → by now panels ≡ n
    → ((other : List ℕ) → part_named new other ≡ noted (part_named old) n now other) → IsIndexTo by panels now old → IsIndexTo by panels next new
step_named by panels now next old new None follows name_is after index = record {
  named = λ name part is.
      let known = index.named name part (sym (after name) ∙ is) in
      (known.0, follows.1 part known.1);
  first = λ name part has before.
      elim (follows.0 part before) [
        | inl earlier ↦
            let was = index.first name part has earlier in
            (was.0, after name ∙ was.1, was.2)
        | inr here ↦ absurd (none-some name (sym name_is ∙ subst (λ p. by p panels ≡ Some name) here has))
      ];
}
step_named by panels now next old new (Some n) follows name_is after index = record {
  named = λ name part is.
      elim (named_of (part_named old name) (bytes_eq n name) now part (sym (after name) ∙ is)) [
        | inl was ↦
            let known = index.named name part was in
            (known.0, follows.1 part known.1)
        | inr fresh ↦
            let same : n ≡ name = (bytes_eq-Decides n name).0 fresh.0 in
            (subst (λ p. by p panels ≡ Some name) fresh.1 (subst (λ m. by now panels ≡ Some m) same name_is), subst (λ p. IsNamedBefore p next) fresh.1 follows.2)
      ];
  first = λ name part has before.
      elim (follows.0 part before) [
        | inl earlier ↦
            let was = index.first name part has earlier in
            (was.0, after name ∙ or_kept _ _ was.0 was.1, was.2)
        | inr here ↦
            let same : n ≡ name = same_Some _ _ (sym name_is ∙ subst (λ p. by p panels ≡ Some name) here has) in
            let new_at : part_named new n ≡ option_or (part_named old n) (Some now) = after n ∙ rw (bytes_eq_itself n) refl in
            let found = first_here (part_named old n) now (λ x is. (index.named n x is).1) in
            subst (λ m. HasFirstOf new m part) same (subst (λ p. HasFirstOf new n p) (sym here) (found.0, new_at ∙ found.1, found.2))
      ];
}

pub below_or_at : (i n : ℕ) → i < n + 1 → (i < n) ⊎ (i ≡ n)
below_or_at i n below = grind arith

panel_split : (p : ℕ) (part : Location) → IsNamedBefore part (Panel (p + 1)) → IsNamedBefore part (Panel p) ⊎ (part ≡ Panel p)
panel_split p Top before = absurd before
panel_split p (Panel q) before = elim (below_or_at q p before) [ inl less ↦ inl less | inr same ↦ inr (ap Panel same) ]
panel_split p (Text q i) before = absurd before
panel_split p (Field q i) before = absurd before
panel_split p (Keys q) before = absurd before
panel_split p (Value q i) before = absurd before

panel_grows : (p : ℕ) (part : Location) → IsNamedBefore part (Panel p) → IsNamedBefore part (Panel (p + 1))
panel_grows p Top before = absurd before
panel_grows p (Panel q) before = omega arith
panel_grows p (Text q i) before = absurd before
panel_grows p (Field q i) before = absurd before
panel_grows p (Keys q) before = absurd before
panel_grows p (Value q i) before = absurd before

pub panel_step : (panels : List DraftPanel) (p : ℕ) (old new : NameIndex) (draft : DraftPanel) → slice_get panels p ≡ Some draft
    → ((other : List ℕ) → part_named new other ≡ noted (part_named old) (Some draft.name) (Panel p) other) → IsIndexTo name_at panels (Panel p) old → IsIndexTo name_at panels (Panel (p + 1)) new
panel_step panels p old new draft there after index =
    let last : p < p + 1 = omega arith in
    step_named name_at panels (Panel p) (Panel (p + 1)) old new (Some draft.name) (panel_split p, panel_grows p, last) (ap (option_map (λ (panel : DraftPanel). panel.name)) there) after index

field_split : (p i : ℕ) (part : Location) → IsNamedBefore part (Field p (i + 1)) → IsNamedBefore part (Field p i) ⊎ (part ≡ Field p i)
field_split p i Top before = absurd before
field_split p i (Panel q) before = absurd before
field_split p i (Text q j) before = absurd before
field_split p i (Keys q) before = absurd before
field_split p i (Value q j) before = absurd before
field_split p i (Field q j) before =
    elim before [
      | inl less ↦ inl (inl less)
      | inr at_p ↦ elim (below_or_at j i at_p.1) [
        | inl less ↦ inl (inr (at_p.0, less))
        | inr same ↦ inr (ap (λ k. Field k j) at_p.0 ∙ ap (Field p) same)
      ]
    ]

field_grows : (p i : ℕ) (part : Location) → IsNamedBefore part (Field p i) → IsNamedBefore part (Field p (i + 1))
field_grows p i Top before = absurd before
field_grows p i (Panel q) before = absurd before
field_grows p i (Text q j) before = absurd before
field_grows p i (Keys q) before = absurd before
field_grows p i (Value q j) before = absurd before
field_grows p i (Field q j) before =
    elim before [
      | inl less ↦ inl less
      | inr at_p ↦
          let less : j < i + 1 = omega (arith, at_p.1) in
          inr (at_p.0, less)
    ]

field_step : (by : Naming) (panels : List DraftPanel) (p i : ℕ) (old new : NameIndex) (name : Option (List ℕ)) → by (Field p i) panels ≡ name
    → ((other : List ℕ) → part_named new other ≡ noted (part_named old) name (Field p i) other) → IsIndexTo by panels (Field p i) old → IsIndexTo by panels (Field p (i + 1)) new
field_step by panels p i old new name is after index =
    let last : i < i + 1 = omega arith in
    step_named by panels (Field p i) (Field p (i + 1)) old new name (field_split p i, field_grows p i, inr (refl, last)) is after index

pub name_step : (panels : List DraftPanel) (p i : ℕ) (old new : NameIndex) (draft : DraftPanel) (item : DraftItem) → slice_get panels p ≡ Some draft → slice_get draft.fields i ≡ Some item
    → ((other : List ℕ) → part_named new other ≡ noted (part_named old) (Some item.name) (Field p i) other) → IsIndexTo name_at panels (Field p i) old → IsIndexTo name_at panels (Field p (i + 1)) new
name_step panels p i old new draft item there inside =
    field_step name_at panels p i old new (Some item.name)
    (ap (λ panel. option_map (λ (field : DraftItem). field.name) (option_and_then (λ (panel : DraftPanel). slice_get panel.fields i) panel)) there
    ∙ ap (option_map (λ (field : DraftItem). field.name)) inside)

pub copy_step : (panels : List DraftPanel) (p i : ℕ) (old new : NameIndex) (draft : DraftPanel) (item : DraftItem) → slice_get panels p ≡ Some draft → slice_get draft.fields i ≡ Some item
    → ((other : List ℕ) → part_named new other ≡ noted (part_named old) (copied_name item) (Field p i) other) → IsIndexTo copied_name_at panels (Field p i) old
    → IsIndexTo copied_name_at panels (Field p (i + 1)) new
copy_step panels p i old new draft item there inside =
    field_step copied_name_at panels p i old new (copied_name item)
    (ap (λ panel. option_and_then copied_name (option_and_then (λ (panel : DraftPanel). slice_get panel.fields i) panel)) there ∙ ap (option_and_then copied_name) inside)

-- behind a panel's last field
abbrev NoFieldFrom : Naming → List DraftPanel → ℕ → ℕ → Type 0
NoFieldFrom by panels p n = (j : ℕ) (name : List ℕ) → by (Field p j) panels ≡ Some name → j < n

over_split : (by : Naming) (panels : List DraftPanel) (p n : ℕ) (name : List ℕ) (part : Location) → NoFieldFrom by panels p n → by part panels ≡ Some name → IsNamedBefore part (Field (p + 1) 0) → IsNamedBefore part (Field p n)
over_split by panels p n name Top all has before = absurd before
over_split by panels p n name (Panel q) all has before = absurd before
over_split by panels p n name (Text q j) all has before = absurd before
over_split by panels p n name (Keys q) all has before = absurd before
over_split by panels p n name (Value q i) all has before = absurd before
over_split by panels p n name (Field q j) all has before =
    elim before [
      | inl less ↦ elim (below_or_at q p less) [
        | inl below ↦ inl below
        | inr same ↦ inr (same, all j name (subst (λ k. by (Field k j) panels ≡ Some name) same has))
      ]
      | inr at_p ↦ absurd (let none : j < 0 = at_p.1 in omega arith)
    ]

over_grows : (p n : ℕ) (part : Location) → IsNamedBefore part (Field p n) → IsNamedBefore part (Field (p + 1) 0)
over_grows p n Top before = absurd before
over_grows p n (Panel q) before = absurd before
over_grows p n (Text q j) before = absurd before
over_grows p n (Keys q) before = absurd before
over_grows p n (Value q i) before = absurd before
over_grows p n (Field q j) before =
    elim before [
      | inl less ↦
          let below : q < p + 1 = omega arith in
          inl below
      | inr at_p ↦
          let below : q < p + 1 = omega (arith, at_p.0) in
          inl below
    ]

fields_over : (by : Naming) (panels : List DraftPanel) (p n : ℕ) (index : NameIndex) → NoFieldFrom by panels p n → IsIndexTo by panels (Field p n) index → IsIndexTo by panels (Field (p + 1) 0) index
fields_over by panels p n index all is = record {
  named = λ name part found. ((is.named name part found).0, over_grows p n part (is.named name part found).1);
  first = λ name part has before. is.first name part has (over_split by panels p n name part all has before);
}

-- the index goes over a panel with its fields
field_below : (of : DraftItem → Option (List ℕ)) (o : Option DraftPanel) (draft : DraftPanel) (j : ℕ) (name : List ℕ) → o ≡ Some draft
    → option_and_then of (option_and_then (λ (panel : DraftPanel). slice_get panel.fields j) o) ≡ Some name → j < length draft.fields
field_below of o draft j name there has =
    let here : option_and_then of (slice_get draft.fields j) ≡ Some name =
    subst (λ p. option_and_then of (option_and_then (λ (panel : DraftPanel). slice_get panel.fields j) p) ≡ Some name) there has in
    within (slice_get draft.fields j) refl here
  where
    within : (item : Option DraftItem) → item ≡ slice_get draft.fields j → option_and_then of item ≡ Some name → j < length draft.fields
    within None is has = cc
    within (Some item) is has = slice_get_within draft.fields j item (sym is)

named_by : (o : Option DraftItem) → option_map (λ (field : DraftItem). field.name) o ≡ option_and_then (λ (field : DraftItem). Some field.name) o
named_by None = refl
named_by (Some item) = refl

pub names_over : (panels : List DraftPanel) (draft : DraftPanel) (p : ℕ) (index : NameIndex) → slice_get panels p ≡ Some draft
    → IsIndexTo name_at panels (Field p (length draft.fields)) index → IsIndexTo name_at panels (Field (p + 1) 0) index
names_over panels draft p index there is =
    fields_over name_at panels p _ index
    (λ j name has. field_below (λ (field : DraftItem). Some field.name) (slice_get panels p) draft j name there (sym (named_by (item_at (Field p j) panels)) ∙ has)) is

pub copies_over : (panels : List DraftPanel) (draft : DraftPanel) (p : ℕ) (index : NameIndex) → slice_get panels p ≡ Some draft
    → IsIndexTo copied_name_at panels (Field p (length draft.fields)) index → IsIndexTo copied_name_at panels (Field (p + 1) 0) index
copies_over panels draft p index there is = fields_over copied_name_at panels p _ index (λ j name has. field_below copied_name (slice_get panels p) draft j name there has) is

nothing_before_panel : (part : Location) → IsNamedBefore part (Panel 0) → ⊥
nothing_before_panel Top before = before
nothing_before_panel (Panel q) before = omega arith
nothing_before_panel (Text q i) before = before
nothing_before_panel (Field q i) before = before
nothing_before_panel (Keys q) before = before
nothing_before_panel (Value q i) before = before

nothing_before_field : (part : Location) → IsNamedBefore part (Field 0 0) → ⊥
nothing_before_field Top before = before
nothing_before_field (Panel q) before = before
nothing_before_field (Text q i) before = before
nothing_before_field (Keys q) before = before
nothing_before_field (Value q i) before = before
nothing_before_field (Field q i) before = elim before [ inl less ↦ omega arith | inr same ↦ let none : i < 0 = same.1 in omega arith ]

pub no_panels_named : (panels : List DraftPanel) (index : NameIndex) → ((name : List ℕ) → part_named index name ≡ None) → IsIndexTo name_at panels (Panel 0) index
no_panels_named panels index none = record {
  named = λ name part is. let clash : None ≡ Some part = sym (none name) ∙ is in cc;
  first = λ name part has before. absurd (nothing_before_panel part before);
}

pub no_fields_named : (by : Naming) (panels : List DraftPanel) (index : NameIndex) → ((name : List ℕ) → part_named index name ≡ None) → IsIndexTo by panels (Field 0 0) index
no_fields_named by panels index none = record {
  named = λ name part is. let clash : None ≡ Some part = sym (none name) ∙ is in cc;
  first = λ name part has before. absurd (nothing_before_field part before);
}
