-- What a draft without a fault has.
use Rattle.std.proofs.Common.{◌≡◌, ◌≤◌, ◌*◌, ℕ, zero, suc, List, [], ◌∷◌, length, Option, Some, None, Bool, true, false, not, ◌||◌, refl, sym, ap, ◌∙◌, inl, inr, arith}
use Rattle.std.specs.Prelude.{is_some, Contains, nat_lt, slice_get, bytes_eq, if◌then◌else◌}
use Rattle.std.specs.Option.{option_map_or}
use Rattle.std.proofs.lemmas.Bool.{false≢true, false_from_ne_true}
use Rattle.std.proofs.lemmas.Bool.Decides.{nat_tests}
use Rattle.std.proofs.lemmas.Option.{same_Some}
use Rattle.panels.specs.declared.fault.TreeFault.TheVariants as fault
use Rattle.panels.specs.declared.fault.Location.TheVariants.{Top, Panel, Text, Keys}
use Rattle.panels.specs.Limits.{most_panels, most_fields}
use Rattle.panels.specs.Size.{is_model_number}
use Rattle.panels.specs.Draft.{DraftItem, DraftPanel, DraftText, otherwise_of}
use Rattle.panels.specs.Faults.{NamesBasePanel, HasFieldNamed, NamesField, NamesPanel, has_too_many, item_at}
use Rattle.panels.specs.Passes.{IsFaultless}
use Rattle.panels.specs.Defines.{fields_before, text_at_key}
use Rattle.panels.proofs.Faultless.{no_fault}

not_not : (b : Bool) → ¬ (not b ≡ true) → b ≡ true
not_not true is = refl
not_not false is = absurd (is refl)

-- what a text shows, where the text starts, where the cursor stands and where a key leads is there
pub shown_is_there : (draft : DraftText) (item : DraftItem) (p i : ℕ) → IsFaultless draft → item_at (Text p i) draft.panels ≡ Some item → item.text ≡ None
    → ¬ NamesField item.show draft.panels → ⊥
shown_is_there draft item p i clean at_it no_text lost = no_fault draft (Text p i) fault.NoTarget clean (ap is_some at_it) (item, at_it, no_text, lost)

pub start_is_there : (draft : DraftText) → IsFaultless draft → ¬ NamesPanel draft.start draft.panels → ⊥
start_is_there draft clean lost = no_fault draft Top fault.NoTarget clean refl lost

pub cursor_is_there : (draft : DraftText) (panel : DraftPanel) (p : ℕ) (name : List ℕ) → IsFaultless draft → slice_get draft.panels p ≡ Some panel
    → panel.cursor ≡ Some name → ¬ HasFieldNamed name panel → ⊥
cursor_is_there draft panel p name clean there named lost = no_fault draft (Panel p) fault.NoTarget clean (ap is_some there) (panel, there, inl (name, named, lost))

-- so is what is shown in a panel's place
pub otherwise_is_there : (draft : DraftText) (panel : DraftPanel) (p : ℕ) (name : List ℕ) → IsFaultless draft → slice_get draft.panels p ≡ Some panel
    → otherwise_of panel ≡ Some name → ¬ NamesBasePanel name draft.panels → ⊥
otherwise_is_there draft panel p name clean there named lost = no_fault draft (Panel p) fault.NoTarget clean (ap is_some there) (panel, there, inr (name, named, lost))

-- a panel's model is one of 2 to 5
pub model_is_known : (draft : DraftText) (panel : DraftPanel) (p : ℕ) → IsFaultless draft → slice_get draft.panels p ≡ Some panel → is_model_number panel.model ≡ true
model_is_known draft panel p clean there =
    let at_panel = ap (λ o. option_map_or (λ (panel : DraftPanel). not (is_model_number panel.model)) o false) there in
    not_not (is_model_number panel.model) (λ is. no_fault draft (Panel p) fault.BadModel clean (ap is_some there) (at_panel ∙ is))

later : {X : Type 0} (x y : X) (xs : List X) → Contains xs y → Contains (x ∷ xs) y
later x y xs (k, below, is) = (suc k, omega arith, is)

abbrev KeyTo : List ℕ → List (List ℕ × List ℕ) → Type 0
KeyTo name keys = (key : List ℕ × List ℕ) × Contains keys key × (key.1 ≡ name)

key_in : (b : Bool) (name : List ℕ) (first : List ℕ × List ℕ) (keys : List (List ℕ × List ℕ)) (found : Option (List ℕ)) → (found ≡ Some name → KeyTo name keys)
    → (if b then Some first.1 else found) ≡ Some name → KeyTo name (first ∷ keys)
key_in true name first keys found more is = (first, (0, omega arith, refl), same_Some _ _ is)
key_in false name first keys found more is = let (key, there, leads) = more is in (key, later first key keys there, leads)

key_of : (key name : List ℕ) (keys : List (List ℕ × List ℕ)) → text_at_key key keys ≡ Some name → KeyTo name keys
key_of key name [] is = cc
key_of key name (first ∷ keys) is = key_in (bytes_eq first.0 key) name first keys (text_at_key key keys) (key_of key name keys) is

pub target_is_there : (draft : DraftText) (panel : DraftPanel) (p : ℕ) (key name : List ℕ) → IsFaultless draft → slice_get draft.panels p ≡ Some panel
    → text_at_key key panel.keys ≡ Some name → ¬ NamesPanel name draft.panels → ⊥
target_is_there draft panel p key name clean there at_key lost =
    let (own, has, leads) = key_of key name panel.keys at_key in
    no_fault draft (Keys p) fault.NoTarget clean (ap is_some there) (panel, own, there, has, rw leads lost)

-- how many panels and fields there are at most
few : (n m : ℕ) → nat_lt n m ≡ false → m ≤ n
few n m is = grind (arith, nat_tests)

second_false : (a b : Bool) → (a || b) ≡ false → b ≡ false
second_false true b is = absurd (false≢true (sym is))
second_false false b is = is

pub few_panels : (draft : DraftText) → IsFaultless draft → length draft.panels ≤ most_panels
few_panels draft clean = few most_panels _ (false_from_ne_true (has_too_many Top draft.panels) (λ is. no_fault draft Top fault.TooMany clean refl is))

pub few_fields : (draft : DraftText) (panel : DraftPanel) (p : ℕ) → IsFaultless draft → slice_get draft.panels p ≡ Some panel → length panel.fields ≤ most_fields
few_fields draft panel p clean there =
    let at_panel = ap (λ o. option_map_or (λ (panel : DraftPanel). has_too_many (Panel 0) (panel ∷ [])) o false) there in
    few most_fields _ (second_false _ _ (false_from_ne_true (has_too_many (Panel 0) (panel ∷ [])) (λ is. no_fault draft (Panel p) fault.TooMany clean (ap is_some there) (at_panel ∙ is))))

fields_few : (o : Option DraftPanel) → ((panel : DraftPanel) → o ≡ Some panel → length panel.fields ≤ most_fields) → option_map_or (λ panel. length panel.fields) o 0 ≤ most_fields
fields_few None each = omega arith
fields_few (Some panel) each = each panel refl

pub before_few : (draft : DraftText) (p : ℕ) → IsFaultless draft → fields_before p draft.panels ≤ most_fields * p
before_few draft zero clean = omega arith
before_few draft (suc p) clean =
    let before = before_few draft p clean in
    let own = fields_few (slice_get draft.panels p) (λ panel there. few_fields draft panel p clean there) in
    omega arith
