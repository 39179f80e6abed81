-- Names that are there, twice, or not.
use Rattle.std.proofs.Common.{◌≡◌, ◌<◌, ◌+◌, ◌-◌, ◌||◌, ℕ, zero, suc, List, [], ◌∷◌, length, map, drop, take, get_or, Bor, Option, Some, None, Bool, true, false, not, refl, ap, sym, ◌∙◌, subst, inl, inr, arith}
use Rattle.std.specs.List.{list_any}
use Rattle.std.specs.Prelude.{bytes_eq, ◌⊎◌, IsTrue, MatchOption, is_some, slice_get, option_map, Contains}
use Rattle.std.specs.Option.{option_and_then, option_map_or}
use Rattle.std.proofs.lemmas.Bool.{cases_order, false≢true}
use Rattle.std.proofs.lemmas.List.{drop_more, take_rest}
use Rattle.std.proofs.lemmas.Option.{none-some, same_Some, slice_get_within}
use Rattle.panels.specs.declared.fault.TreeFault.{TreeFault}
use Rattle.panels.specs.declared.fault.TreeFault.TheVariants.{BadName, NoTarget}
use Rattle.panels.specs.declared.fault.Location.{Location}
use Rattle.panels.specs.declared.fault.Location.TheVariants.{Top, Panel, Text, Field, Value, Keys}
use Rattle.panels.specs.Draft.{DraftItem, DraftPanel, DraftText}
use Rattle.panels.specs.Faults.{HasFault, HasLostCursor, HasLostOtherwise, asks_twice, has_bad_name, HaveOneName, IsEarlierWithName, IsNamedBefore, IsNamedTwice, IsTwiceNamed, ShareName, copied_name, copied_name_at, NamesPanel, NamesField, NamesItem, IsFirstNamed, item_at, name_at, stem_at}
use Rattle.panels.specs.Index.{NameIndex, part_named, IsEarlierIn, IsIndexTo}
use Rattle.panels.specs.Items.{is_name}
use Rattle.panels.specs.Walk.{is_letter_of}

pub before_itself : (part : Location) → IsNamedBefore part part → ⊥
before_itself Top before = before
before_itself (Panel p) before = omega arith
before_itself (Text p i) before = before
before_itself (Field p i) before = elim before [ inl less ↦ omega arith | inr same ↦ let less : i < i = same.1 in omega arith ]
before_itself (Keys p) before = before
before_itself (Value p i) before = before

fields_through : (p i q j r k : ℕ) → (p < q) ⊎ ((p ≡ q) × (i < j)) → (q < r) ⊎ ((q ≡ r) × (j < k)) → (p < r) ⊎ ((p ≡ r) × (i < k))
fields_through p i q j r k first second =
    elim first [
      | inl less ↦ elim second [
        | inl more ↦ (let below : p < r = omega arith in inl below)
        | inr same ↦ (let below : p < r = omega (arith, same.0) in inl below)
      ]
      | inr at_p ↦ elim second [
        | inl more ↦ (let below : p < r = omega (arith, at_p.0) in inl below)
        | inr same ↦ (let below : i < k = omega (arith, at_p.1, same.1) in inr (at_p.0 ∙ same.0, below))
      ]
    ]

pub before_through : (a b c : Location) → IsNamedBefore a b → IsNamedBefore b c → IsNamedBefore a c
before_through Top b c first second = absurd first
before_through (Text p i) b c first second = absurd first
before_through (Keys p) b c first second = absurd first
before_through (Value p i) b c first second = absurd first
before_through (Panel p) Top c first second = absurd first
before_through (Panel p) (Text q j) c first second = absurd first
before_through (Panel p) (Field q j) c first second = absurd first
before_through (Panel p) (Keys q) c first second = absurd first
before_through (Panel p) (Value q i) c first second = absurd first
before_through (Panel p) (Panel q) Top first second = absurd second
before_through (Panel p) (Panel q) (Text r k) first second = absurd second
before_through (Panel p) (Panel q) (Field r k) first second = absurd second
before_through (Panel p) (Panel q) (Keys r) first second = absurd second
before_through (Panel p) (Panel q) (Value r i) first second = absurd second
before_through (Panel p) (Panel q) (Panel r) first second = omega arith
before_through (Field p i) Top c first second = absurd first
before_through (Field p i) (Panel q) c first second = absurd first
before_through (Field p i) (Text q j) c first second = absurd first
before_through (Field p i) (Keys q) c first second = absurd first
before_through (Field p i) (Value q j) c first second = absurd first
before_through (Field p i) (Field q j) Top first second = absurd second
before_through (Field p i) (Field q j) (Panel r) first second = absurd second
before_through (Field p i) (Field q j) (Text r k) first second = absurd second
before_through (Field p i) (Field q j) (Keys r) first second = absurd second
before_through (Field p i) (Field q j) (Value r k) first second = absurd second
before_through (Field p i) (Field q j) (Field r k) first second = fields_through p i q j r k first second

or_before : (a b c : Location) → (a ≡ b) ⊎ IsNamedBefore a b → IsNamedBefore b c → IsNamedBefore a c
or_before a b c rel second =
    elim rel [
      | inl same ↦ subst (λ p. IsNamedBefore p c) (sym same) second
      | inr before ↦ before_through a b c before second
    ]

-- what an index has for a name comes before the part that it is looked up for, and shares this name
found_before : (by by_other : Location → List DraftPanel → Option (List ℕ)) (panels : List DraftPanel) (part end earlier : Location) (index : NameIndex) (o : Option (List ℕ))
    → by_other part panels ≡ o → IsIndexTo by panels end index → IsEarlierIn index o earlier part → IsNamedBefore earlier part × HaveOneName by by_other earlier part panels
found_before by by_other panels part end earlier index None own is found = absurd found
found_before by by_other panels part end earlier index (Some name) own is (there, before) = (before, (name, (is.named name earlier there).0, own))

-- and if it has nothing, no earlier part shares this name
none_before : (by by_other : Location → List DraftPanel → Option (List ℕ)) (panels : List DraftPanel) (part end : Location) (index : NameIndex) → IsIndexTo by panels end index
    → ((name : List ℕ) → by_other part panels ≡ Some name → IsNamedBefore part end) → ((earlier : Location) → ¬ IsEarlierIn index (by_other part panels) earlier part)
    → (earlier : Location) → IsNamedBefore earlier part → ¬ HaveOneName by by_other earlier part panels
none_before by by_other panels part end index is ends none earlier before (name, has, own) =
    let known = is.first name earlier has (before_through earlier part end before (ends name own)) in
    none known.0 (subst (λ o. IsEarlierIn index o known.0 part) (sym own) (known.1, or_before known.0 earlier part known.2 before))

panel_there : (o : Option DraftPanel) (name : List ℕ) → option_map (λ (panel : DraftPanel). panel.name) o ≡ Some name → (panel : DraftPanel) × (o ≡ Some panel)
panel_there None name has = cc
panel_there (Some panel) name has = (panel, refl)

pub panel_ends : (panels : List DraftPanel) (p : ℕ) (name : List ℕ) → name_at (Panel p) panels ≡ Some name → IsNamedBefore (Panel p) (Panel (length panels))
panel_ends panels p name has =
    let (panel, there) = panel_there (slice_get panels p) name has in
    slice_get_within panels p panel there

panel_of_field : (o : Option DraftPanel) (i : ℕ) (name : List ℕ) → option_map (λ (field : DraftItem). field.name) (option_and_then (λ panel. slice_get panel.fields i) o) ≡ Some name
    → (panel : DraftPanel) × (o ≡ Some panel)
panel_of_field None i name has = cc
panel_of_field (Some panel) i name has = (panel, refl)

pub field_ends : (panels : List DraftPanel) (p i : ℕ) (name : List ℕ) → name_at (Field p i) panels ≡ Some name → IsNamedBefore (Field p i) (Field (length panels) 0)
field_ends panels p i name has =
    let (panel, there) = panel_of_field (slice_get panels p) i name has in
    inl (slice_get_within panels p panel there)

panel_of_copy : (o : Option DraftPanel) (i : ℕ) (name : List ℕ) → option_and_then copied_name (option_and_then (λ (panel : DraftPanel). slice_get panel.fields i) o) ≡ Some name
    → (panel : DraftPanel) × (o ≡ Some panel)
panel_of_copy None i name has = cc
panel_of_copy (Some panel) i name has = (panel, refl)

copy_ends : (panels : List DraftPanel) (p i : ℕ) (name : List ℕ) → copied_name_at (Field p i) panels ≡ Some name → IsNamedBefore (Field p i) (Field (length panels) 0)
copy_ends panels p i name has =
    let (panel, there) = panel_of_copy (slice_get panels p) i name has in
    inl (slice_get_within panels p panel there)

-- a part without names shares none
shares_none : (one other : Location) (panels : List DraftPanel) → name_at other panels ≡ None → copied_name_at other panels ≡ None → ¬ ShareName one other panels
shares_none one other panels unnamed uncopied share =
    elim share [
      | inl (name, has, own) ↦ none-some name (sym unnamed ∙ own)
      | inr either ↦ elim either [
        | inl (name, has, own) ↦ none-some name (sym uncopied ∙ own)
        | inr (name, has, own) ↦ none-some name (sym unnamed ∙ own)
      ]
    ]

-- a part that has a name is named twice so
pub twice_named : (part : Location) (panels : List DraftPanel) → IsNamedTwice part panels → IsTwiceNamed part panels
twice_named Top panels is = is
twice_named (Panel p) panels is = is
twice_named (Text p i) panels is = is
twice_named (Field p i) panels is = is
twice_named (Keys p) panels (earlier, (before, share)) = absurd (shares_none earlier (Keys p) panels refl refl share)
twice_named (Value p i) panels is = is

-- a panel's name is only that of panels
panel_earlier : (panels : List DraftPanel) (p : ℕ) (index : NameIndex) (result : Option Location) → IsIndexTo name_at panels (Panel (length panels)) index
    → MatchOption result ((earlier : Location) → ¬ IsEarlierIn index (name_at (Panel p) panels) earlier (Panel p)) (λ earlier. IsEarlierIn index (name_at (Panel p) panels) earlier (Panel p))
    → MatchOption result (¬ IsNamedTwice (Panel p) panels) (λ earlier. IsEarlierWithName earlier (Panel p) panels)
panel_earlier panels p index (Some earlier) is found =
    let (before, shared) = found_before name_at name_at panels (Panel p) (Panel (length panels)) earlier index _ refl is found in
    (before, inl shared)
panel_earlier panels p index None is none = λ (earlier, (before, share)).
    elim share [
      | inl shared ↦ none_before name_at name_at panels (Panel p) (Panel (length panels)) index is (panel_ends panels p) none earlier before shared
      | inr either ↦ elim either [
        | inl (name, has, own) ↦ none-some name own
        | inr (name, has, own) ↦ copied_before_panel panels p earlier name before has
      ]
    ]
  where
    copied_before_panel : (panels : List DraftPanel) (p : ℕ) (earlier : Location) (name : List ℕ) → IsNamedBefore earlier (Panel p) → copied_name_at earlier panels ≡ Some name → ⊥
    copied_before_panel panels p Top name before has = before
    copied_before_panel panels p (Panel q) name before has = none-some name has
    copied_before_panel panels p (Text q i) name before has = before
    copied_before_panel panels p (Field q i) name before has = before
    copied_before_panel panels p (Keys q) name before has = before
    copied_before_panel panels p (Value q i) name before has = before

pub part_earlier : (panels : List DraftPanel) (part : Location) (p : ℕ) (index : NameIndex) (result : Option Location) → part ≡ Panel p → IsIndexTo name_at panels (Panel (length panels)) index
    → MatchOption result ((earlier : Location) → ¬ IsEarlierIn index (name_at part panels) earlier part) (λ earlier. IsEarlierIn index (name_at part panels) earlier part)
    → MatchOption result (¬ IsNamedTwice part panels) (λ earlier. IsEarlierWithName earlier part panels)
part_earlier panels part p index result same is =
    subst (λ q. MatchOption result ((earlier : Location) → ¬ IsEarlierIn index (name_at q panels) earlier q) (λ earlier. IsEarlierIn index (name_at q panels) earlier q)
    → MatchOption result (¬ IsNamedTwice q panels) (λ earlier. IsEarlierWithName earlier q panels)) (sym same) (panel_earlier panels p index result is)

abbrev IsNoneEarlier : NameIndex → Option (List ℕ) → Location → Type 0
IsNoneEarlier index name part = (earlier : Location) → ¬ IsEarlierIn index name earlier part

-- a field or value shares a name in one of three ways
pub shares_name : (panels : List DraftPanel) (p i : ℕ) (index : NameIndex) (earlier : Location) → IsIndexTo name_at panels (Field (length panels) 0) index
    → IsEarlierIn index (name_at (Field p i) panels) earlier (Field p i) → IsEarlierWithName earlier (Field p i) panels
shares_name panels p i index earlier is found =
    let (before, shared) = found_before name_at name_at panels (Field p i) (Field (length panels) 0) earlier index _ refl is found in
    (before, inl shared)

pub shares_copied : (panels : List DraftPanel) (p i : ℕ) (index : NameIndex) (earlier : Location) → IsIndexTo name_at panels (Field (length panels) 0) index
    → IsEarlierIn index (copied_name_at (Field p i) panels) earlier (Field p i) → IsEarlierWithName earlier (Field p i) panels
shares_copied panels p i index earlier is found =
    let (before, shared) = found_before name_at copied_name_at panels (Field p i) (Field (length panels) 0) earlier index _ refl is found in
    (before, inr (inl shared))

pub shares_with_copy : (panels : List DraftPanel) (p i : ℕ) (index : NameIndex) (earlier : Location) → IsIndexTo copied_name_at panels (Field (length panels) 0) index
    → IsEarlierIn index (name_at (Field p i) panels) earlier (Field p i) → IsEarlierWithName earlier (Field p i) panels
shares_with_copy panels p i index earlier is found =
    let (before, shared) = found_before copied_name_at name_at panels (Field p i) (Field (length panels) 0) earlier index _ refl is found in
    (before, inr (inr shared))

pub shares_no_name : (panels : List DraftPanel) (p i : ℕ) (of_fields of_copies : NameIndex) → IsIndexTo name_at panels (Field (length panels) 0) of_fields
    → IsIndexTo copied_name_at panels (Field (length panels) 0) of_copies → IsNoneEarlier of_fields (name_at (Field p i) panels) (Field p i)
    → IsNoneEarlier of_fields (copied_name_at (Field p i) panels) (Field p i) → IsNoneEarlier of_copies (name_at (Field p i) panels) (Field p i) → ¬ IsNamedTwice (Field p i) panels
shares_no_name panels p i of_fields of_copies fields copies none no_copied no_copy (earlier, (before, share)) =
    elim share [
      | inl shared ↦ none_before name_at name_at panels (Field p i) (Field (length panels) 0) of_fields fields (field_ends panels p i) none earlier before shared
      | inr either ↦ elim either [
        | inl shared ↦ none_before name_at copied_name_at panels (Field p i) (Field (length panels) 0) of_fields fields (copy_ends panels p i) no_copied earlier before shared
        | inr shared ↦ none_before copied_name_at name_at panels (Field p i) (Field (length panels) 0) of_copies copies (field_ends panels p i) no_copy earlier before shared
      ]
    ]

pub item_earlier : (panels : List DraftPanel) (p i : ℕ) (of_fields of_copies : NameIndex) (result : Option Location) → IsIndexTo name_at panels (Field (length panels) 0) of_fields
    → IsIndexTo copied_name_at panels (Field (length panels) 0) of_copies → IsNoneEarlier of_fields (name_at (Field p i) panels) (Field p i)
    → IsNoneEarlier of_fields (copied_name_at (Field p i) panels) (Field p i)
    → MatchOption result (IsNoneEarlier of_copies (name_at (Field p i) panels) (Field p i)) (λ earlier. IsEarlierIn of_copies (name_at (Field p i) panels) earlier (Field p i))
    → MatchOption result (¬ IsNamedTwice (Field p i) panels) (λ earlier. IsEarlierWithName earlier (Field p i) panels)
item_earlier panels p i of_fields of_copies None fields copies none no_copied no_copy = shares_no_name panels p i of_fields of_copies fields copies none no_copied no_copy
item_earlier panels p i of_fields of_copies (Some earlier) fields copies none no_copied found = shares_with_copy panels p i of_copies earlier copies found

-- a name that the index doesn't have is of none
pub no_panel : (panels : List DraftPanel) (index : NameIndex) (name : List ℕ) → IsIndexTo name_at panels (Panel (length panels)) index → part_named index name ≡ None → ¬ NamesPanel name panels
no_panel panels index name is none (p, has) =
    let known = is.first name (Panel p) has (panel_ends panels p name has) in
    absurd (none-some known.0 (sym none ∙ known.1))

pub no_item : (panels : List DraftPanel) (index : NameIndex) (name : List ℕ) → IsIndexTo name_at panels (Field (length panels) 0) index → part_named index name ≡ None → ¬ NamesItem name panels
no_item panels index name is none (p, i, has) =
    let known = is.first name (Field p i) has (field_ends panels p i name has) in
    absurd (none-some known.0 (sym none ∙ known.1))

-- one that it has is of that part, and this is a panel, or a field
pub panel_found : (panels : List DraftPanel) (index : NameIndex) (name : List ℕ) (part : Location) (p : ℕ) → IsIndexTo name_at panels (Panel (length panels)) index → part_named index name ≡ Some part
    → part ≡ Panel p → name_at (Panel p) panels ≡ Some name
panel_found panels index name part p is found same = subst (λ q. name_at q panels ≡ Some name) same (is.named name part found).0

-- of the fields and values with a name the index has the first
first_found : (panels : List DraftPanel) (index : NameIndex) (name : List ℕ) (part : Location) → IsIndexTo name_at panels (Field (length panels) 0) index → part_named index name ≡ Some part
    → IsFirstNamed name part panels
first_found panels index name part is found =
    let (has, before_end) = is.named name part found in (
      has,
      λ earlier before also.
          let known = is.first name earlier also (before_through earlier part (Field (length panels) 0) before before_end) in
          let same : known.0 ≡ part = same_Some _ _ (sym known.1 ∙ found) in
          before_itself part (subst (λ p. IsNamedBefore p part) same (or_before known.0 earlier part known.2 before)),
    )

pub item_found : (panels : List DraftPanel) (index : NameIndex) (name : List ℕ) (part : Location) (p i : ℕ) → IsIndexTo name_at panels (Field (length panels) 0) index → part_named index name ≡ Some part
    → part ≡ Field p i → IsFirstNamed name (Field p i) panels
item_found panels index name part p i is found same = subst (λ q. IsFirstNamed name q panels) same (first_found panels index name part is found)

-- a name of no field or value is of no field
pub no_field : (panels : List DraftPanel) (name : List ℕ) → ¬ NamesItem name panels → ¬ NamesField name panels
no_field panels name none named = none (named.p, named.i, named.first.0)

-- a name has one first part
one_first : (panels : List DraftPanel) (name : List ℕ) (p i q j : ℕ) → IsFirstNamed name (Field p i) panels → IsFirstNamed name (Field q j) panels → (p ≡ q) × (i ≡ j)
one_first panels name p i q j one other =
    elim (cases_order p q) [
      | inr (inl less) ↦ absurd (other.1 (Field p i) (inl less) one.0)
      | inr (inr more) ↦ absurd (one.1 (Field q j) (inl more) other.0)
      | inl same ↦ elim (cases_order i j) [
        | inr (inl less) ↦ absurd (other.1 (Field p i) (inr (same, less)) one.0)
        | inr (inr more) ↦ absurd (one.1 (Field q j) (inr (sym same, more)) other.0)
        | inl also ↦ (same, also)
      ]
    ]

-- where it is a value, the name is of no field
pub value_found : (panels : List DraftPanel) (name : List ℕ) (p i : ℕ) (item : DraftItem) → IsFirstNamed name (Field p i) panels → item_at (Field p i) panels ≡ Some item → item.is_value ≡ true
    → ¬ NamesField name panels
value_found panels name p i item first at is_value named =
    let (panel, place) = one_first panels name p i named.p named.i first named.first in
    let same : item ≡ named.field =
    same_Some item named.field (sym at ∙ ap (λ r. item_at (Field r i) panels) panel ∙ ap (λ k. item_at (Field named.p k) panels) place ∙ named.there) in
    false≢true (sym named.is_field ∙ ap (λ (it : DraftItem). it.is_value) (sym same) ∙ is_value)

-- and what has a name is there
pub named_there : (panels : List DraftPanel) (name : List ℕ) (p i : ℕ) → IsFirstNamed name (Field p i) panels → item_at (Field p i) panels ≡ None → ⊥
named_there panels name p i first none = none-some name (ap (option_map (λ (field : DraftItem). field.name)) (sym none) ∙ first.0)

pub finds_panel : (panels : List DraftPanel) (index : NameIndex) (name : List ℕ) (part : Location) → IsIndexTo name_at panels (Panel (length panels)) index → part_named index name ≡ Some part
    → ((p : ℕ) → part ≡ Panel p → ⊥) → ⊥
finds_panel panels index name Top is found other = (is.named name Top found).1
finds_panel panels index name (Panel p) is found other = other p refl
finds_panel panels index name (Text p i) is found other = (is.named name (Text p i) found).1
finds_panel panels index name (Field p i) is found other = (is.named name (Field p i) found).1
finds_panel panels index name (Keys p) is found other = (is.named name (Keys p) found).1
finds_panel panels index name (Value p i) is found other = (is.named name (Value p i) found).1

pub finds_field : (panels : List DraftPanel) (index : NameIndex) (name : List ℕ) (part : Location) → IsIndexTo name_at panels (Field (length panels) 0) index → part_named index name ≡ Some part
    → ((p i : ℕ) → part ≡ Field p i → ⊥) → ⊥
finds_field panels index name Top is found other = (is.named name Top found).1
finds_field panels index name (Panel p) is found other = (is.named name (Panel p) found).1
finds_field panels index name (Text p i) is found other = (is.named name (Text p i) found).1
finds_field panels index name (Field p i) is found other = other p i refl
finds_field panels index name (Keys p) is found other = (is.named name (Keys p) found).1
finds_field panels index name (Value p i) is found other = (is.named name (Value p i) found).1

pub map_found : {X Y : Type 0} (f : X → Y) (xs : List X) (i : ℕ) (d : X) → i < length xs → Contains (map f xs) (f (get_or xs i d))
map_found f [] i d below = absurd (omega arith)
map_found f (x ∷ xs) zero d below = (0, omega arith, refl)
map_found f (x ∷ xs) (suc i) d below =
    let less : i < length xs = omega arith in
    let found = map_found f xs i d less in
    let fits : found.0 < length (map f xs) = found.1 in
    (suc found.0, omega (arith, fits), found.2)

pub map_none : {X : Type 0} (Names : List ℕ → Type 0) (f : X → List ℕ × List ℕ) (xs : List X)
    → ((j : ℕ) → j < length xs → (x : X) → slice_get xs j ≡ Some x → ¬ ¬ Names (f x).1) → (key : List ℕ × List ℕ) → Contains (map f xs) key → ¬ Names key.1 → ⊥
map_none Names f [] all key (k, below, is) none = absurd (omega (arith, below))
map_none Names f (x ∷ xs) all key (zero, below, is) none = all 0 (omega arith) x refl (subst (λ (pair : List ℕ × List ℕ). ¬ Names pair.1) (sym is) none)
map_none Names f (x ∷ xs) all key (suc k, below, is) none =
    let less : k < length (map f xs) = omega (arith, below) in
    map_none Names f xs (λ j fits y at_j. all (suc j) (omega (arith, fits)) y at_j) key (k, less, is) none

pub lost_cursor : (r : Bool) (cursor : Option (List ℕ)) (name : List ℕ) (Has : List ℕ → Type 0) → cursor ≡ Some name → (r ≡ true → Has name) × (Has name → r ≡ true)
    → (not r ≡ true → (x : List ℕ) × (cursor ≡ Some x) × ¬ Has x) × ((x : List ℕ) × (cursor ≡ Some x) × ¬ Has x → not r ≡ true)
lost_cursor true cursor name Has is tells = (
  λ lost. absurd (false≢true lost),
  λ (x, at_x, none). absurd (none (subst Has (same_Some name x (sym is ∙ at_x)) (tells.0 refl))),
)
lost_cursor false cursor name Has is tells = (λ lost. (name, is, λ has. false≢true (tells.1 has)), λ found. refl)

-- a panel with a cursor that is there lacks a target if what is shown in its place isn't
pub lost_otherwise : (draft : DraftText) (fault : TreeFault) (part : Location) (p : ℕ) (panel : DraftPanel) (r : Bool) → fault ≡ NoTarget → part ≡ Panel p
    → slice_get draft.panels p ≡ Some panel → ¬ HasLostCursor panel → (IsTrue r → HasLostOtherwise panel draft.panels) × (HasLostOtherwise panel draft.panels → IsTrue r)
    → (IsTrue r → HasFault fault part draft) × (HasFault fault part draft → IsTrue r)
lost_otherwise draft fault part p panel r of_fault of_part there kept tells =
    subst (λ f. (IsTrue r → HasFault f part draft) × (HasFault f part draft → IsTrue r)) (sym of_fault)
    (subst (λ q. (IsTrue r → HasFault NoTarget q draft) × (HasFault NoTarget q draft → IsTrue r)) (sym of_part) (
      λ is. (panel, there, inr (tells.0 is)),
      λ (other, at_p, lost).
          let same : other ≡ panel = same_Some other panel (sym at_p ∙ there) in
          tells.1 (elim lost [
            | inl cursor ↦ absurd (kept (subst HasLostCursor same cursor))
            | inr place ↦ subst (λ (x : DraftPanel). HasLostOtherwise x draft.panels) same place
          ]),
    ))

-- what the code tells of the name of any part is what is said of panels and fields
bad_names : (part : Location) (panels : List DraftPanel) → option_map_or (λ name. not (is_name (is_letter_of part) name)) (stem_at part panels) false ≡ has_bad_name part panels
bad_names Top panels = refl
bad_names (Panel p) panels = refl
bad_names (Text p i) panels = refl
bad_names (Field p i) panels = refl
bad_names (Keys p) panels = refl
bad_names (Value p i) panels = refl

pub bad_name : (draft : DraftText) (fault : TreeFault) (part : Location) (r : Bool) → fault ≡ BadName
    → r ≡ option_map_or (λ name. not (is_name (is_letter_of part) name)) (stem_at part draft.panels) false
    → (IsTrue r → HasFault fault part draft) × (HasFault fault part draft → IsTrue r)
bad_name draft fault part r of_fault tells =
    subst (λ f. (IsTrue r → HasFault f part draft) × (HasFault f part draft → IsTrue r)) (sym of_fault)
    (subst (λ b. (IsTrue r → IsTrue b) × (IsTrue b → IsTrue r)) (tells ∙ bad_names part draft.panels) (λ is. is, λ is. is))

-- what isn't found has no name
pub none_named : (N : Type 0) (F : ℕ → Type 0) (o : Option ℕ) → MatchOption o N F → is_some o ≡ false → N
none_named N F None is none = is
none_named N F (Some p) is none = absurd (false≢true (sym none))

-- whether a name stands twice from one on
pub twice_from : (names : List (Bor (List ℕ))) (k : ℕ) (d : Bor (List ℕ)) (among : Bool) → k < length names
    → among ≡ list_any (bytes_eq (get_or names k d).now) (map (λ name. name.now) (take (length names - (k + 1)) (drop (k + 1) names)))
    → asks_twice (map (λ name. name.now) (drop k names)) ≡ (among || asks_twice (map (λ name. name.now) (drop (k + 1) names)))
twice_from names k d among low is =
    let rest = asks_twice (map (λ name. name.now) (drop (k + 1) names)) in
    let whole = ap (λ list. list_any (bytes_eq (get_or names k d).now) (map (λ name. name.now) list)) (take_rest names (k + 1)) in
    ap (λ rest. asks_twice (map (λ name. name.now) rest)) (drop_more names k d low) ∙ ap (λ b. b || rest) (sym (is ∙ whole))
