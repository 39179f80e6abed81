-- What a draft in which no fault stands has, and of which of its items a thing is.
use Rattle.std.proofs.Common.{◌≡◌, ◌<◌, ℕ, List, [], ◌∷◌, length, get_or, Option, Some, None, Bool, true, false, not, ◌&&◌, refl, ap, ◌∙◌, inl, inr, arith}
use Rattle.std.specs.Prelude.{slice_get, is_some, option_map, IsTrue}
use Rattle.std.specs.Option.{option_map_or}
use Rattle.std.proofs.lemmas.Bool.{cases_Bool}
use Rattle.std.proofs.lemmas.Option.{slice_get-get_or, slice_get_within}
use Rattle.panels.specs.declared.fault.TreeFault.{TreeFault}
use Rattle.panels.specs.declared.fault.TreeFault.TheVariants as fault
use Rattle.panels.specs.declared.fault.Location.{Location}
use Rattle.panels.specs.declared.fault.Location.TheVariants.{Top, Panel, Text, Field, Value, Keys}
use Rattle.codes3270.specs.Size.{model_2}
use Rattle.panels.specs.Draft.{DraftItem, DraftPanel, DraftText, draft_size}
use Rattle.panels.specs.Items.{is_on_screen, is_in_place}
use Rattle.panels.specs.Faults.{item_at, size_at, is_part, name_at, HasFault}
use Rattle.panels.specs.Passes.{IsFaultless}
use Rattle.panels.specs.Defines.{IsEachOf}

pub no_fault : (draft : DraftText) (part : Location) (f : TreeFault) → IsFaultless draft → IsTrue (is_part part draft.panels) → HasFault f part draft → ⊥
no_fault draft part f clean there has = clean f part (there, has)

-- what has an item, or a name, is a part
pub item_is_part : (part : Location) (panels : List DraftPanel) (item : DraftItem) → item_at part panels ≡ Some item → IsTrue (is_part part panels)
item_is_part Top panels item there = refl
item_is_part (Panel p) panels item there = cc
item_is_part (Text p i) panels item there = ap is_some there
item_is_part (Field p i) panels item there = ap is_some there
item_is_part (Keys p) panels item there = cc
item_is_part (Value p i) panels item there = cc

mapped : {X Y : Type 0} (f : X → Y) (o : Option X) (y : Y) → option_map f o ≡ Some y → is_some o ≡ true
mapped f None y is = cc
mapped f (Some x) y is = refl

pub named_is_part : (part : Location) (panels : List DraftPanel) (name : List ℕ) → name_at part panels ≡ Some name → IsTrue (is_part part panels)
named_is_part Top panels name is = refl
named_is_part (Panel p) panels name is = mapped (λ panel. panel.name) (slice_get panels p) name is
named_is_part (Text p i) panels name is = cc
named_is_part (Field p i) panels name is = mapped (λ field. field.name) (item_at (Field p i) panels) name is
named_is_part (Keys p) panels name is = cc
named_is_part (Value p i) panels name is = cc

misplaced : (b c : Bool) → b ≡ false → not (b && c) ≡ true
misplaced b c is = rw is refl

-- an item lies on the screen of its panel
pub on_screen : (draft : DraftText) (part : Location) (item : DraftItem) → IsFaultless draft → item_at part draft.panels ≡ Some item
    → is_on_screen (size_at part draft.panels) item ≡ true
on_screen draft part item clean there =
    let shape = size_at part draft.panels in
    elim (cases_Bool (is_on_screen shape item)) [
      | inl yes' ↦ yes'
      | inr no' ↦
          absurd (no_fault draft part fault.OutOfPlace clean (item_is_part part draft.panels item there)
          (ap (λ o. option_map_or (λ item. not (is_in_place shape item)) o false) there ∙ misplaced (is_on_screen shape item) _ no'))
    ]

-- which is that of the panel
pub text_shape : (panels : List DraftPanel) (panel : DraftPanel) (p i : ℕ) → slice_get panels p ≡ Some panel → size_at (Text p i) panels ≡ draft_size panel
text_shape panels panel p i there = ap (λ o. option_map_or draft_size o model_2) there

pub field_shape : (panels : List DraftPanel) (panel : DraftPanel) (p i : ℕ) → slice_get panels p ≡ Some panel → size_at (Field p i) panels ≡ draft_size panel
field_shape panels panel p i there = ap (λ o. option_map_or draft_size o model_2) there

-- what stands inside a list
pub there_in : {X : Type 0} (xs : List X) (i : ℕ) → i < length xs → (x : X) × (slice_get xs i ≡ Some x)
there_in [] i fits = absurd (omega arith)
there_in (x ∷ xs) i fits = (get_or (x ∷ xs) i x, slice_get-get_or (x ∷ xs) i x fits)

-- each thing is that of the draft at its place
pub draft_of_each : {X Y : Type 0} (IsOf : ℕ → X → Y → Type 0) (drafts : List X) (things : List Y) (i : ℕ) (thing : Y) → IsEachOf IsOf drafts things → slice_get things i ≡ Some thing
    → (draft : X) × (slice_get drafts i ≡ Some draft) × IsOf i draft thing
draft_of_each IsOf drafts things i thing each at_i =
    let below = slice_get_within things i thing at_i in
    let (draft, there) = there_in drafts i (omega (arith, below, each.size)) in
    (draft, there, each.are i draft thing there at_i)
