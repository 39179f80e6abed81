-- The panels and fields that names stand for.
use Rattle.std.proofs.Common.{◌≡◌, ◌<◌, ◌≤◌, ◌+◌, ◌*◌, ◌++◌, ℕ, suc, List, [], ◌∷◌, drop, Bor, Bool, true, false, cond, length, map, Option, Some, None, get_or, refl, ap, sym, ◌∙◌, subst, add-one, arith}
use Rattle.std.specs.Prelude.{find, option_copied, slice_get, unwrap_or, MatchOption, Contains, All, IfSome, option_map, bytes_eq, if◌then◌else◌}
use Rattle.std.specs.Option.{option_and_then, option_map_or}
use Rattle.std.proofs.lemmas.Bool.{false≢true}
use Rattle.std.proofs.lemmas.List.Elements.{All-nil, All-cons}
use Rattle.std.proofs.lemmas.Slice.Eq.{bytes_eq-Decides}
use Rattle.std.proofs.lemmas.List.{length-map}
use Rattle.std.proofs.lemmas.Option.{slice_get-map, slice_get_within, get_or_from_slice_get, slice_get-get_or}
use Rattle.codes3270.specs.Size.{ScreenSize}
use Rattle.panels.specs.declared.panel.Field.{Field as FieldItem}
use Rattle.panels.specs.declared.fault.Location.TheVariants.{Text, Field}
use Rattle.panels.specs.Keys.{key_names}
use Rattle.panels.specs.Limits.{most_panels, most_fields}
use Rattle.panels.specs.Draft.{DraftItem, DraftPanel, DraftText, draft_size, field_count, fields_of, otherwise_of, values_of}
use Rattle.panels.specs.Faults.{name_at, NamesPanel, NamesBasePanel, IsBasePanelNamed}
use Rattle.panels.specs.Items.{is_on_screen}
use Rattle.panels.specs.Building.{IsTextIn, AreTargetsOf}
use Rattle.panels.specs.Defines.{IsFieldOf, IsEachOf, IsPanelNamed, IsCursorBy, IsOtherwiseBy, IsTargetBy, fields_before, text_at_key}
use Rattle.panels.specs.Passes.{IsFaultless}
use Rattle.panels.proofs.Sound.{few_panels, few_fields, before_few, cursor_is_there, otherwise_is_there, target_is_there}
use Rattle.panels.proofs.Building.{AreBuilt, all_done}
use Rattle.panels.proofs.Dividing.{field_at, value_at}
use Rattle.panels.proofs.Faultless.{on_screen, text_shape, field_shape, there_in}

pub contained_at : {X : Type 0} (xs : List X) (i : ℕ) (x : X) → slice_get xs i ≡ Some x → Contains xs x
contained_at xs i x there = (i, slice_get_within xs i x there, get_or_from_slice_get xs i x x there)

pub place_of : {X : Type 0} (xs : List X) (x : X) → Contains xs x → (i : ℕ) × (slice_get xs i ≡ Some x)
place_of xs x (i, below, is) = (i, slice_get-get_or xs i x below ∙ ap Some is)

pub counted_more : (panels : List DraftPanel) (p : ℕ) (panel : DraftPanel) → slice_get panels p ≡ Some panel → fields_before (p + 1) panels ≡ fields_before p panels + length panel.fields
counted_more panels p panel there = rw (add-one p) (ap (λ o. fields_before p panels + option_map_or (λ (panel : DraftPanel). length panel.fields) o 0) there)

mapped : {X Y : Type 0} (f : X → Y) (o : Option X) (y : Y) → option_map f o ≡ Some y → (x : X) × (o ≡ Some x)
mapped f None y is = cc
mapped f (Some x) y is = (x, refl)

place_in : (o : Option DraftPanel) (i : ℕ) (name : List ℕ) → option_map (λ field. field.name) (option_and_then (λ panel. slice_get panel.fields i) o) ≡ Some name
    → (panel : DraftPanel) × (o ≡ Some panel) × (i < length panel.fields)
place_in None i name is = cc
place_in (Some panel) i name is =
    let (field, there) = mapped (λ field. field.name) (slice_get panel.fields i) name is in
    (panel, refl, slice_get_within panel.fields i field there)

-- what a field is numbered by is small
pub number_few : (draft : DraftText) (p i : ℕ) (name : List ℕ) → IsFaultless draft → name_at (Field p i) draft.panels ≡ Some name
    → fields_before p draft.panels + i < most_fields * most_panels
number_few draft p i name clean is =
    let (panel, there, within) = place_in (slice_get draft.panels p) i name is in
    let below = slice_get_within draft.panels p panel there in
    let panels = few_panels draft clean in
    let fields = few_fields draft panel p clean there in
    let before = before_few draft p clean in
    omega arith

-- what is known to be found is found
pub found_or : {X : Type 0} (P : X → Type 0) (Q : Type 0) (o : Option X) (other : X) → ¬ Q → MatchOption o Q P → P (unwrap_or o other)
found_or P Q None other found is = absurd (found is)
found_or P Q (Some x) other found is = is

-- a text of a panel is a text of the draft, and so on the screen
pub text_in : (panels : List DraftPanel) (panel : DraftPanel) (i : ℕ) (item : DraftItem) → Contains panels panel → slice_get panel.texts i ≡ Some item → IsTextIn panels item
text_in panels panel i item has there =
    let (p, at_p) = place_of panels panel has in
    (p, i, ap (option_and_then (λ panel. slice_get panel.texts i)) at_p ∙ there)

pub text_on_screen : (draft : DraftText) (panel : DraftPanel) (i : ℕ) (item : DraftItem) → IsFaultless draft → Contains draft.panels panel → slice_get panel.texts i ≡ Some item
    → is_on_screen (draft_size panel) item ≡ true
text_on_screen draft panel i item clean has there =
    let (p, at_p) = place_of draft.panels panel has in
    subst (λ s. is_on_screen s item ≡ true) (text_shape draft.panels panel p i at_p)
    (on_screen draft (Text p i) item clean (ap (option_and_then (λ panel. slice_get panel.texts i)) at_p ∙ there))

pub field_on_screen : (draft : DraftText) (panel : DraftPanel) (p i : ℕ) (item : DraftItem) → IsFaultless draft → slice_get draft.panels p ≡ Some panel
    → slice_get (fields_of panel) i ≡ Some item → is_on_screen (draft_size panel) item ≡ true
field_on_screen draft panel p i item clean at_p there =
    subst (λ s. is_on_screen s item ≡ true) (field_shape draft.panels panel p i at_p)
    (on_screen draft (Field p i) item clean (field_at draft.panels panel p i item at_p there))

pub value_on_screen : (draft : DraftText) (panel : DraftPanel) (p i : ℕ) (item : DraftItem) → IsFaultless draft → slice_get draft.panels p ≡ Some panel
    → slice_get (values_of panel) i ≡ Some item → is_on_screen (draft_size panel) item ≡ true
value_on_screen draft panel p i item clean at_p there =
    subst (λ s. is_on_screen s item ≡ true) (field_shape draft.panels panel p (field_count panel.fields + i) at_p)
    (on_screen draft (Field p (field_count panel.fields + i)) item clean (value_at draft.panels panel p i item at_p there))

-- the number of a panel's first value is small
pub first_value_few : (draft : DraftText) (panel : DraftPanel) (p : ℕ) → IsFaultless draft → slice_get draft.panels p ≡ Some panel
    → fields_before p draft.panels + length panel.fields ≤ most_fields * most_panels
first_value_few draft panel p clean there =
    let below = slice_get_within draft.panels p panel there in
    let panels = few_panels draft clean in
    let fields = few_fields draft panel p clean there in
    let before = before_few draft p clean in
    omega arith

-- the text at the first of a panel's keys with a name
abbrev pub Key : Type 0
Key = Bor (List ℕ) × Bor (List ℕ)

abbrev pub seen : Key → List ℕ × List ℕ
seen key = (key.0.now, key.1.now)

abbrev pub is_key : List ℕ → Key → Bool
is_key name key = bytes_eq key.0.now name

first_key : (b : Bool) (key : Key) (text : Option (List ℕ)) (found : Option Key) → text ≡ option_map (λ key. key.1.now) found
    → (if b then Some key.1.now else text) ≡ option_map (λ key. key.1.now) (cond b (Some key) found)
first_key true key text found is = refl
first_key false key text found is = is

key_found : (name : List ℕ) (keys : List Key) → text_at_key name (map seen keys) ≡ option_map (λ key. key.1.now) (find (is_key name) keys)
key_found name [] = refl
key_found name (key ∷ keys) = first_key (is_key name key) key (text_at_key name (map seen keys)) (find (is_key name) keys) (key_found name keys)

pub key_searched : (name : List ℕ) (read keys : List Key) (all : List (List ℕ × List ℕ)) (found : Option (Bor Key)) → read ≡ keys → map seen keys ≡ all
    → option_copied found ≡ find (is_key name) read → text_at_key name all ≡ option_map (λ key. key.1.now) (option_copied found)
key_searched name read keys all found same is first =
    ap (text_at_key name) (sym is ∙ ap (map seen) (sym same)) ∙ key_found name read ∙ ap (option_map (λ (key : Key). key.1.now)) (sym first)

-- of the fields that are built one has the cursor's name
pub cursor_is_named : (shape : ScreenSize) (draft : DraftText) (panel : DraftPanel) (p : ℕ) (name : List ℕ) (fields : List FieldItem) → IsFaultless draft → slice_get draft.panels p ≡ Some panel
    → IsEachOf (λ i. IsFieldOf shape (fields_before p draft.panels + i)) (fields_of panel) fields → panel.cursor ≡ Some name → ¬ All (λ field. ¬ (field.name ≡ name)) fields
cursor_is_named shape draft panel p name fields clean there are named = λ none.
    cursor_is_there draft panel p name clean there named (λ (i, item, at_i, is).
    let below : i < length fields = omega (arith, slice_get_within (fields_of panel) i item at_i, are.size) in
    let (field, found) = there_in fields i below in
    let its = are.are i item field at_i found in
    let read : get_or fields i field ≡ field = get_or_from_slice_get fields i field field found in
    none i field below (ap (λ (field : FieldItem). field.name) read ∙ its.name ∙ is))

pub cursor_given : (shape : ScreenSize) (draft : DraftText) (panel : DraftPanel) (p : ℕ) (cursor : Option (Bor (List ℕ))) (fields : List FieldItem) → IsFaultless draft
    → slice_get draft.panels p ≡ Some panel → IsEachOf (λ i. IsFieldOf shape (fields_before p draft.panels + i)) (fields_of panel) fields → option_map (λ name. name.now) cursor ≡ panel.cursor
    → IfSome cursor (λ name. ¬ All (λ field. ¬ (field.name ≡ name.now)) fields)
cursor_given shape draft panel p None fields clean there are same = tt
cursor_given shape draft panel p (Some name) fields clean there are same = cursor_is_named shape draft panel p name.now fields clean there are (sym same)

-- where the cursor stands
cursor_here : (b : Bool) (field : FieldItem) (fields : List FieldItem) (name : List ℕ) → (b ≡ true → field.name ≡ name) → (b ≡ false → ¬ (field.name ≡ name))
    → ¬ All (λ field. ¬ (field.name ≡ name)) (field ∷ fields)
    → (¬ All (λ field. ¬ (field.name ≡ name)) fields → IsCursorBy (Some name) fields (option_map_or (λ field. field.extent.first) (find (λ field. bytes_eq field.name name) fields) 0))
    → IsCursorBy (Some name) (field ∷ fields) (option_map_or (λ field. field.extent.first) (cond b (Some field) (find (λ field. bytes_eq field.name name) fields)) 0)
cursor_here true field fields name is other there more = (0, field, refl, is refl, refl)
cursor_here false field fields name is other there more =
    let (i, found, at_i, named, first) = more (λ all. there (All-cons (λ field. ¬ (field.name ≡ name)) field fields (other refl) all)) in
    (suc i, found, at_i, named, first)

pub cursor_found : (fields : List FieldItem) (name : List ℕ) → ¬ All (λ field. ¬ (field.name ≡ name)) fields
    → IsCursorBy (Some name) fields (option_map_or (λ field. field.extent.first) (find (λ field. bytes_eq field.name name) fields) 0)
cursor_found [] name there = absurd (there (All-nil (λ (field : FieldItem). ¬ (field.name ≡ name))))
cursor_found (field ∷ fields) name there =
    let decides = bytes_eq-Decides field.name name in
    cursor_here (bytes_eq field.name name) field fields name decides.0 (λ no same. false≢true (sym no ∙ decides.1 same)) there (cursor_found fields name)

pub cursor_first : (fields : List FieldItem) → IsCursorBy None fields (option_map_or (λ field. field.extent.first) (slice_get fields 0) 0)
cursor_first [] = refl
cursor_first (field ∷ fields) = refl

-- where a key leads is found, as no fault stands
found_by : (panels : List DraftPanel) (name : List ℕ) (o : Option ℕ) → (¬ NamesPanel name panels → ⊥) → MatchOption o (¬ NamesPanel name panels) (IsPanelNamed panels name)
    → IsTargetBy panels (Some name) o
found_by panels name None there found = there found
found_by panels name (Some p) there found = found

pub target_found : (draft : DraftText) (panel : DraftPanel) (key name : List ℕ) (o : Option ℕ) → IsFaultless draft → Contains draft.panels panel → text_at_key key panel.keys ≡ Some name
    → MatchOption o (¬ NamesPanel name draft.panels) (IsPanelNamed draft.panels name) → IsTargetBy draft.panels (text_at_key key panel.keys) o
target_found draft panel key name o clean has at_key found =
    let (p, there) = place_of draft.panels panel has in
    subst (λ t. IsTargetBy draft.panels t o) (sym at_key) (found_by draft.panels name o (target_is_there draft panel p key name clean there at_key) found)

-- so is what is shown in a panel's place
pub otherwise_found : (draft : DraftText) (panel : DraftPanel) (name : List ℕ) (o : Option ℕ) → IsFaultless draft → Contains draft.panels panel → otherwise_of panel ≡ Some name
    → MatchOption o (¬ NamesBasePanel name draft.panels) (IsBasePanelNamed draft.panels name) → IsOtherwiseBy draft.panels (otherwise_of panel) o
otherwise_found draft panel name o clean has named found =
    let (p, there) = place_of draft.panels panel has in
    subst (λ n. IsOtherwiseBy draft.panels n o) (sym named) (base_found draft.panels name o (otherwise_is_there draft panel p name clean there named) found)
  where
    base_found : (panels : List DraftPanel) (name : List ℕ) (o : Option ℕ) → (¬ NamesBasePanel name panels → ⊥)
        → MatchOption o (¬ NamesBasePanel name panels) (IsBasePanelNamed panels name) → IsOtherwiseBy panels (Some name) o
    base_found panels name None there found = there found
    base_found panels name (Some p) there found = found

-- the names of keys, as they are borrowed
pub record AreKeyNames (names : List (Bor (List ℕ))) : Type 0 where
  pub are : map (λ name. name.now) names ≡ key_names

pub key_count : (names : List (Bor (List ℕ))) → AreKeyNames names → length names ≡ length key_names
key_count names same = sym (ap length (sym same.are) ∙ length-map names (λ name. name.now))

pub key_at : (names : List (Bor (List ℕ))) → AreKeyNames names → (i : ℕ) (d : Bor (List ℕ)) → i < length names → slice_get key_names i ≡ Some ((get_or names i d).now)
key_at names same i d within =
    subst (λ keys. slice_get keys i ≡ Some ((get_or names i d).now)) same.are (slice_get-map (λ name. name.now) names i ∙ ap (option_map (λ name. name.now)) (slice_get-get_or names i d within))

by_name : (f : List ℕ → Bool) (names : List (Bor (List ℕ))) → map (λ key. f key.now) names ≡ map f (map (λ key. key.now) names)
by_name f [] = refl
by_name f (key ∷ names) = ap (λ answers. f key.now ∷ answers) (by_name f names)

-- the answers are for all keys once none is left
pub asked_all : (f : List ℕ → Bool) (names : List (Bor (List ℕ))) → AreKeyNames names → (k : ℕ) (asked : List Bool) → length names ≤ k
    → map (λ key. f key.now) names ≡ asked ++ map (λ key. f key.now) (drop k names) → asked ≡ map f key_names
asked_all f names same k asked past is = all_done (λ key. f key.now) _ asked names k past is ∙ by_name f names ∙ ap (map f) same.are

-- where keys lead, once for each of their names
pub targets_are : (panels : List DraftPanel) (panel : DraftPanel) (names : List (List ℕ)) (n : ℕ) (targets : List (Option ℕ)) → n ≡ length names
    → AreBuilt (λ k name. IsTargetBy panels (text_at_key name panel.keys)) names n targets → AreTargetsOf panels panel names targets
targets_are panels panel names n targets whole built = record {
  size = built.size ∙ whole;
  are = λ k target at_k.
      let below : k < length names = omega (arith, slice_get_within targets k target at_k, built.size) in
      let (name, there) = there_in names k below in
      subst (λ o. IsTargetBy panels (option_and_then (λ name. text_at_key name panel.keys) o) target) (sym there) (built.are k name target there at_k);
}
