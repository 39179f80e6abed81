-- What holds of the panels that a draft without a fault defines.
use Rattle.std.proofs.Common.{◌≡◌, ◌≢◌, ◌<◌, ◌≤◌, ◌+◌, ◌∙◌, ℕ, zero, suc, List, [], ◌∷◌, ◌++◌, length, get_or, Option, Some, None, refl, ap, sym, subst, arith, inl, inr}
use Rattle.std.specs.Option.{option_map_or}
use Rattle.std.specs.Prelude.{◌⊎◌, All, chars, slice_get}
use Rattle.std.proofs.lemmas.List.Elements.{All-append}
use Rattle.std.proofs.lemmas.Option.{same_Some, slice_get-get_or, slice_get_cases, slice_get_within}
use Rattle.codes3270.specs.Size.{ScreenSize, cells_in, alternate_of}
use Rattle.panels.specs.declared.panel.Content.{Content}
use Rattle.panels.specs.declared.panel.Content.TheVariants.{Literal, Show}
use Rattle.panels.specs.declared.panel.Field.{Field}
use Rattle.panels.specs.declared.panel.TextItem.{TextItem}
use Rattle.panels.specs.declared.panel.Value.{Value}
use Rattle.panels.specs.Characters.{AreCharacters}
use Rattle.panels.specs.Draft.{DraftItem, DraftPanel, DraftText, draft_size, field_count, fields_of, title_of, values_of}
use Rattle.panels.specs.Panel.{PanelParts, Panels, size_of, IsAbove, IsLaidOut, HasCharacters, IsOfCharacters, HaveNumbersApart, ShowsItsValues, AreSound}
use Rattle.panels.specs.Passes.{IsFaultless}
use Rattle.panels.specs.Defines.{AreTextsOf, IsContentOf, IsTextOf, IsFieldOf, IsEachOf, IsCursorBy, IsPanelOf, IsShownOf, IsValueOf, Defines, fields_before, first_value}
use Rattle.panels.proofs.Apart.{items_apart}
use Rattle.panels.proofs.Codes.{codes_are_characters}
use Rattle.panels.proofs.DefinedOnce.{one_extent}
use Rattle.panels.proofs.Dividing.{count_within, field_below, value_there}
use Rattle.panels.proofs.Faultless.{draft_of_each}
use Rattle.panels.specs.Size.{message_start, model_numbered}
use Rattle.panels.proofs.Placing.{all_at, cells_some, item_above, start_before_end}
use Rattle.panels.proofs.Leading.{linked, have_otherwise}
use Rattle.panels.proofs.Linking.{contained_at, text_on_screen, field_on_screen, value_on_screen}

-- ---- on the screen

-- an item lies above the row for messages
texts_above : (draft : DraftText) (p : ℕ) (inner : DraftPanel) (panel : PanelParts) → IsFaultless draft → slice_get draft.panels p ≡ Some inner → IsPanelOf draft.panels p inner panel
    → All (λ text. IsAbove (draft_size inner) text.extent) panel.texts
texts_above draft p inner panel clean there is =
    let are = is.texts in
    let own : All (λ text. IsAbove (draft_size inner) text.extent) are.own = λ k d below.
    let (item, at_k, its) = draft_of_each (λ i. IsTextOf (draft_size inner) draft.panels) inner.texts are.own k (get_or are.own k d) are.are_own (slice_get-get_or are.own k d below) in
    item_above (draft_size inner) item (get_or are.own k d).extent (text_on_screen draft inner k item clean (contained_at draft.panels p inner there) at_k) its.extent in
    let shown : All (λ text. IsAbove (draft_size inner) text.extent) are.shown = λ k d below.
    let (item, at_k, its) =
    draft_of_each (λ i. IsShownOf (draft_size inner) (first_value p draft.panels inner + i)) (values_of inner) are.shown k (get_or are.shown k d) are.are_shown
    (slice_get-get_or are.shown k d below) in
    item_above (draft_size inner) item (get_or are.shown k d).extent (value_on_screen draft inner p k item clean there at_k) its.extent in
    subst (λ texts. All (λ text. IsAbove (draft_size inner) text.extent) texts) (sym are.all) (All-append (λ text. IsAbove (draft_size inner) text.extent) are.own are.shown own shown)

fields_above : (draft : DraftText) (p : ℕ) (inner : DraftPanel) (panel : PanelParts) → IsFaultless draft → slice_get draft.panels p ≡ Some inner → IsPanelOf draft.panels p inner panel
    → All (λ field. IsAbove (draft_size inner) field.extent) panel.fields
fields_above draft p inner panel clean there is = λ k d below.
    let (item, at_k, its) =
    draft_of_each (λ i. IsFieldOf (draft_size inner) (fields_before p draft.panels + i)) (fields_of inner) panel.fields k (get_or panel.fields k d) is.fields (slice_get-get_or panel.fields k d below) in
    item_above (draft_size inner) item (get_or panel.fields k d).extent (field_on_screen draft inner p k item clean there at_k) its.extent

field_on : (start cells : ℕ) (field : Field) → start < cells → field.extent.first + field.extent.length ≤ start → field.extent.first < cells
field_on start cells field before above = omega (arith, before, above)

cursor_on : (shape : ScreenSize) (named : Option (List ℕ)) (fields : List Field) (cursor : ℕ) → 0 < cells_in shape → All (λ field. IsAbove shape field.extent) fields
    → IsCursorBy named fields cursor → cursor < cells_in shape
cursor_on shape (Some name) fields cursor some above (i, field, there, is, at_it) =
    subst (λ c. c < cells_in shape) (sym at_it)
    (field_on (message_start shape) (cells_in shape) field (start_before_end shape some) (all_at (λ (field : Field). IsAbove shape field.extent) fields i field above there))
cursor_on shape None [] cursor some above at_it = subst (λ c. c < cells_in shape) (sym at_it) some
cursor_on shape None (first ∷ more) cursor some above at_it =
    subst (λ c. c < cells_in shape) (sym at_it)
    (field_on (message_start shape) (cells_in shape) first (start_before_end shape some) (all_at (λ (field : Field). IsAbove shape field.extent) (first ∷ more) 0 first above refl))

pub is_laid_out : (draft : DraftText) (p : ℕ) (inner : DraftPanel) (panel : PanelParts) → IsFaultless draft → slice_get draft.panels p ≡ Some inner → IsPanelOf draft.panels p inner panel
    → IsLaidOut panel
is_laid_out draft p inner panel clean there is =
    let same : size_of panel ≡ draft_size inner = ap alternate_of is.model in
    let above = fields_above draft p inner panel clean there is in
    record {
      texts = subst (λ shape. All (λ text. IsAbove shape text.extent) panel.texts) (sym same) (texts_above draft p inner panel clean there is);
      fields = subst (λ shape. All (λ field. IsAbove shape field.extent) panel.fields) (sym same) above;
      cursor =
          subst (λ shape. panel.cursor < cells_in shape) (sym same)
          (cursor_on (draft_size inner) inner.cursor panel.fields panel.cursor (cells_some (model_numbered inner.model)) above is.cursor);
    }

-- ---- characters

each_is : {X Y : Type 0} (IsOf : ℕ → X → Y → Type 0) (P : Y → Type 0) (drafts : List X) (things : List Y) → ((i : ℕ) (draft : X) (thing : Y) → IsOf i draft thing → P thing)
    → IsEachOf IsOf drafts things → All P things
each_is IsOf P drafts things gives each = λ k d below.
    let (draft, there, is) = draft_of_each IsOf drafts things k (get_or things k d) each (slice_get-get_or things k d below) in
    gives k draft (get_or things k d) is

content_is : (panels : List DraftPanel) (item : DraftItem) (content : Content) → IsContentOf panels item content → HasCharacters content
content_is panels item (Literal shown) (text, has, is) = subst AreCharacters (sym is) (codes_are_characters (chars text))
content_is panels item (Show number) is = tt

texts_are : (panels : List DraftPanel) (p : ℕ) (draft : DraftPanel) (texts : List TextItem) → AreTextsOf panels p draft texts → All (λ text. HasCharacters text.content) texts
texts_are panels p draft texts are =
    let own =
    each_is (λ i. IsTextOf (draft_size draft) panels) (λ text. HasCharacters text.content) draft.texts are.own (λ i item text its. content_is panels item text.content its.content) are.are_own in
    let shown =
    each_is (λ i. IsShownOf (draft_size draft) (first_value p panels draft + i)) (λ text. HasCharacters text.content) (values_of draft) are.shown
    (λ i item text its. subst HasCharacters (sym its.content) tt) are.are_shown in
    subst (λ texts. All (λ text. HasCharacters text.content) texts) (sym are.all) (All-append (λ text. HasCharacters text.content) are.own are.shown own shown)

characters_in : (panels : List DraftPanel) (p : ℕ) (draft : DraftPanel) (panel : PanelParts) → IsPanelOf panels p draft panel → IsOfCharacters panel
characters_in panels p draft panel is = record {
  texts = texts_are panels p draft panel.texts is.texts;
  fills =
      each_is (λ i. IsFieldOf (draft_size draft) (fields_before p panels + i)) (λ field. AreCharacters field.fill) (fields_of draft) panel.fields
      (λ i item field its. subst AreCharacters (sym its.fill) (codes_are_characters (chars item.fill))) is.fields;
  titles =
      each_is (λ i. IsFieldOf (draft_size draft) (fields_before p panels + i)) (λ field. AreCharacters field.title) (fields_of draft) panel.fields
      (λ i item field its. subst AreCharacters (sym its.title) (codes_are_characters (chars (title_of item)))) is.fields;
}

-- ---- numbers

-- a field's number counts those before it
numbers_in : (panels : List DraftPanel) (p : ℕ) (draft : DraftPanel) (panel : PanelParts) → IsPanelOf panels p draft panel → HaveNumbersApart panel.fields
numbers_in panels p draft panel is = λ i j one other less at_i at_j same.
    let field = λ (i : ℕ) (field : Field) (at_i : slice_get panel.fields i ≡ Some field).
    draft_of_each (λ i. IsFieldOf (draft_size draft) (fields_before p panels + i)) (fields_of draft) panel.fields i field is.fields at_i in
    let (a, a_there, a_is) = field i one at_i in
    let (b, b_there, b_is) = field j other at_j in
    let first = a_is.number in
    let second = b_is.number in
    omega arith

-- the numbers of one panel come before those of the next
le_self : (n : ℕ) → n ≤ n
le_self n = omega arith

plus : (a b : ℕ) → a ≤ a + b
plus a b = omega arith

last_or_before : (p q : ℕ) → p ≤ suc q → (p ≡ suc q) ⊎ (p ≤ q)
last_or_before p q most = grind arith

later : (panels : List DraftPanel) (p q : ℕ) → p ≤ q → fields_before p panels ≤ fields_before q panels
later panels p zero most =
    let same : p ≡ zero = omega arith in
    subst (λ n. fields_before n panels ≤ fields_before zero panels) (sym same) (le_self (fields_before zero panels))
later panels p (suc q) most = elim (last_or_before p q most) [
  | inl same ↦ subst (λ n. fields_before n panels ≤ fields_before (suc q) panels) (sym same) (le_self (fields_before (suc q) panels))
  | inr below ↦
      let before : fields_before p panels ≤ fields_before q panels = later panels p q below in
      let more : fields_before q panels ≤ fields_before (suc q) panels = plus (fields_before q panels) (option_map_or (λ panel. length panel.fields) (slice_get panels q) 0) in
      omega (arith, before, more)
]

-- a number below the end of a panel's
ends : (panels : List DraftPanel) (p q : ℕ) (panel : DraftPanel) (place : ℕ) → p < q → slice_get panels p ≡ Some panel → place < length panel.fields
    → fields_before p panels + place < fields_before q panels
ends panels p q panel place less at_p below =
    let own : fields_before (suc p) panels ≡ fields_before p panels + length panel.fields =
    ap (λ o. fields_before p panels + option_map_or (λ panel. length panel.fields) o 0) at_p in
    let behind : fields_before (suc p) panels ≤ fields_before q panels = later panels (suc p) q less in
    omega (arith, own, behind, below)

-- a field and a value, each with its number
either : (p q : ℕ) → (p < q) ⊎ ((q < p) ⊎ (p ≡ q))
either p q = grind arith

-- no value is numbered as a field
no_field : (panels : List DraftPanel) (p q : ℕ) (one other : DraftPanel) (a b : ℕ) → slice_get panels p ≡ Some one → slice_get panels q ≡ Some other → a < field_count one.fields
    → field_count other.fields + b < length other.fields → fields_before p panels + a ≢ first_value q panels other + b
no_field panels p q one other a b at_p at_q below within = λ same. elim (either p q) [
  | inl less ↦
      let few : field_count one.fields ≤ length one.fields = count_within one.fields in
      let before : fields_before p panels + a < fields_before q panels = ends panels p q one a less at_p (omega (arith, few, below)) in
      no_sum (fields_before p panels + a) (fields_before q panels) (field_count other.fields) b before same
  | inr rest ↦
      elim rest [
        | inl more ↦
            let before : fields_before q panels + (field_count other.fields + b) < fields_before p panels = ends panels q p other (field_count other.fields + b) more at_q within in
            no_other (fields_before q panels) (field_count other.fields) b (fields_before p panels) a before (sym same)
        | inr equal ↦
            let one_is : one ≡ other = same_Some one other (sym at_p ∙ ap (slice_get panels) equal ∙ at_q) in
            let start : fields_before p panels ≡ fields_before q panels = ap (λ n. fields_before n panels) equal in
            let under : a < field_count other.fields = subst (λ (panel : DraftPanel). a < field_count panel.fields) one_is below in
            no_same (fields_before p panels) (fields_before q panels) a (field_count other.fields) b start under same
      ]
]
  where
    no_sum : (number start count b : ℕ) → number < start → number ≡ start + count + b → ⊥
    no_sum number start count b less same = omega (arith, less, same)

    no_other : (start count b next a : ℕ) → start + (count + b) < next → start + count + b ≡ next + a → ⊥
    no_other start count b next a less same = omega (arith, less, same)

    no_same : (start also a count b : ℕ) → start ≡ also → a < count → start + a ≡ also + count + b → ⊥
    no_same start also a count b equal less same = omega (arith, equal, less, same)

value_of_draft : (panels : List DraftPanel) (p : ℕ) (draft : DraftPanel) (panel : PanelParts) → IsPanelOf panels p draft panel → (j : ℕ) (value : Value) → slice_get panel.values j ≡ Some value
    → (item : DraftItem) × (slice_get (values_of draft) j ≡ Some item) × IsValueOf (draft_size draft) (first_value p panels draft + j) item value
value_of_draft panels p draft panel is j value at_j =
    draft_of_each (λ i. IsValueOf (draft_size draft) (first_value p panels draft + i)) (values_of draft) panel.values j value is.values at_j

fields_apart : (panels : List DraftPanel) (p q i j : ℕ) (one other : DraftPanel) (panel rest : PanelParts) (field : Field) (value : Value) → slice_get panels p ≡ Some one → slice_get panels q ≡ Some other
    → IsPanelOf panels p one panel → IsPanelOf panels q other rest → slice_get panel.fields i ≡ Some field → slice_get rest.values j ≡ Some value → field.number ≢ value.number
fields_apart panels p q i j one other panel rest field value at_p at_q is also at_i at_j = λ same.
    let (a, a_there, a_is) = draft_of_each (λ i. IsFieldOf (draft_size one) (fields_before p panels + i)) (fields_of one) panel.fields i field is.fields at_i in
    let (b, b_there, b_is) = value_of_draft panels q other rest also j value at_j in
    let within = slice_get_within other.fields (field_count other.fields + j) b (value_there other j b b_there) in
    no_field panels p q one other i j at_p at_q (field_below one i a a_there) within (sym a_is.number ∙ same ∙ b_is.number)

-- ---- each value is shown by a text

append_at : {X : Type 0} (own shown : List X) (j : ℕ) → slice_get (own ++ shown) (length own + j) ≡ slice_get shown j
append_at [] shown j =
    let none : 0 + j ≡ j = omega arith in
    ap (slice_get shown) none
append_at (x ∷ own) shown j =
    let more : suc (length own) + j ≡ suc (length own + j) = omega arith in
    ap (slice_get (x ∷ (own ++ shown))) more ∙ append_at own shown j

there_at : {X Y : Type 0} (xs : List X) (ys : List Y) (j : ℕ) (y : Y) → length xs ≡ length ys → slice_get ys j ≡ Some y → (x : X) × (slice_get xs j ≡ Some x)
there_at xs ys j y same at_j = elim (slice_get_cases xs j).1 [
  | inl found ↦ (found.0, found.2)
  | inr past ↦
      let below : j < length ys = slice_get_within ys j y at_j in
      let behind : length xs ≤ j = past.0 in
      absurd (omega (arith, same, below, behind))
]

values_shown : (panels : List DraftPanel) (p : ℕ) (draft : DraftPanel) (panel : PanelParts) → IsPanelOf panels p draft panel → ShowsItsValues panel
values_shown panels p draft panel is = λ j value at_j.
    let are = is.texts in
    let (item, there, its) = value_of_draft panels p draft panel is j value at_j in
    let (text, at_text) = there_at are.shown (values_of draft) j item are.are_shown.size there in
    let shows : IsShownOf (draft_size draft) (first_value p panels draft + j) item text = are.are_shown.are j item text there at_text in (
      length are.own + j,
      text,
      ap (λ texts. slice_get texts (length are.own + j)) are.all ∙ append_at are.own are.shown j ∙ at_text,
      one_extent (draft_size draft) item text.extent value.extent shows.extent its.extent,
      shows.content ∙ ap Show (sym its.number),
    )

pub are_sound : (draft : DraftText) (set : Panels) → IsFaultless draft → Defines draft set → AreSound set
are_sound draft set clean defines =
    let of = λ (p : ℕ) (panel : PanelParts) (at_p : slice_get set.panels p ≡ Some panel). draft_of_each (IsPanelOf draft.panels) draft.panels set.panels p panel defines.panels at_p in
    record {
      linked = linked draft set defines;
      otherwise = have_otherwise draft set clean defines;
      laid_out = λ p panel at_p.
          let (inner, there, is) = of p panel at_p in
          is_laid_out draft p inner panel clean there is;
      characters = λ p panel at_p.
          let (inner, there, is) = of p panel at_p in
          characters_in draft.panels p inner panel is;
      apart = λ p panel at_p.
          let (inner, there, is) = of p panel at_p in
          items_apart draft p inner panel clean there is;
      numbers = λ p panel at_p.
          let (inner, there, is) = of p panel at_p in
          numbers_in draft.panels p inner panel is;
      values = record {
        values = λ p i j panel one other less at_p at_i at_j same.
            let (inner, there, is) = of p panel at_p in
            let (a, a_there, a_is) = value_of_draft draft.panels p inner panel is i one at_i in
            let (b, b_there, b_is) = value_of_draft draft.panels p inner panel is j other at_j in
            let first = a_is.number in
            let second = b_is.number in
            omega arith;
        fields = λ p q i j panel other field value at_p at_q at_i at_j.
            let (inner, there, is) = of p panel at_p in
            let (also, also_there, also_is) = of q other at_q in
            fields_apart draft.panels p q i j inner also panel other field value there also_there is also_is at_i at_j;
      };
      shown = λ p panel at_p.
          let (inner, there, is) = of p panel at_p in
          values_shown draft.panels p inner panel is;
    }
