-- A text defines its panels once.
use Rattle.std.proofs.Common.{◌≡◌, ◌<◌, ◌≤◌, ◌+◌, ◌-◌, ℕ, suc, Bool, List, [], ◌∷◌, ◌++◌, length, Option, Some, None, refl, ap, sym, ◌∙◌, subst, inl, inr, arith}
use Rattle.std.specs.Prelude.{slice_get, pos, option_map, chars}
use Rattle.std.specs.Option.{option_and_then}
use Rattle.std.proofs.Math.Bridge.{le_prop}
use Rattle.std.proofs.lemmas.Bool.{cases_order}
use Rattle.std.proofs.lemmas.Option.{same_Some, slice_get_within, none-some}
use Rattle.codes3270.specs.Size.{ScreenSize, most_cells}
use Rattle.codes3270.specs.declared.size.Model.{Model}
use Rattle.codes3270.specs.declared.attention.Aid.{Aid}
use Rattle.codes3270.specs.declared.attention.Aid.TheVariants.{Enter, Clear, Pf, Pa}
use Rattle.panels.specs.declared.extent.Extent.{Extent}
use Rattle.panels.specs.declared.fault.TreeFault.TheVariants as fault
use Rattle.panels.specs.declared.panel.Content.{Content}
use Rattle.panels.specs.declared.panel.Content.TheVariants.{Literal, Show}
use Rattle.panels.specs.declared.panel.Field.{Field as FieldItem}
use Rattle.panels.specs.declared.panel.TextItem.{TextItem}
use Rattle.panels.specs.declared.panel.Value.{Value as ValueItem}
use Rattle.panels.specs.declared.fault.Location.{Location}
use Rattle.panels.specs.declared.fault.Location.TheVariants.{Panel, Field}
use Rattle.panels.specs.Characters.{codes_of}
use Rattle.panels.specs.Defines.{AreTextsOf, Defines, DefinesOnce, IsContentOf, IsCursorBy, IsEachOf, IsFieldNamed, IsFieldOf, IsOtherwiseBy, IsPanelNamed, IsPanelOf, IsShownOf, IsTargetBy, IsTextOf, IsValueOf, fields_before, first_value, text_at_key}
use Rattle.panels.specs.Draft.{DraftItem, DraftPanel, DraftText, draft_of, draft_size, fields_of, otherwise_of, values_of}
use Rattle.panels.specs.Faults.{IsBasePanelNamed, IsNamedBefore, name_at}
use Rattle.panels.specs.Items.{IsExtentOf}
use Rattle.panels.specs.Keys.{IsKey, name_of_key}
use Rattle.panels.specs.Panel.{PanelParts, Panels, target_at, target_of}
use Rattle.panels.specs.Passes.{IsFaultless}
use Rattle.panels.proofs.Dividing.{field_there}
use Rattle.panels.proofs.Faultless.{draft_of_each, named_is_part, no_fault}
use Rattle.panels.proofs.Naming.{twice_named}

-- ---- lists

one_list : {X : Type 0} (xs ys : List X) → length xs ≡ length ys → ((i : ℕ) (x y : X) → slice_get xs i ≡ Some x → slice_get ys i ≡ Some y → x ≡ y) → xs ≡ ys
one_list [] [] size each = refl
one_list [] (y ∷ ys) size each = absurd (omega (arith, size))
one_list (x ∷ xs) [] size each = absurd (omega (arith, size))
one_list (x ∷ xs) (y ∷ ys) size each =
    let rest : xs ≡ ys = one_list xs ys (omega (arith, size)) (λ i a b at_i also. each (suc i) a b at_i also) in
    ap (λ first. first ∷ xs) (each 0 x y refl refl) ∙ ap (λ more. y ∷ more) rest

one_each : {X Y : Type 0} (IsOf : ℕ → X → Y → Type 0) (drafts : List X) (xs ys : List Y) → IsEachOf IsOf drafts xs → IsEachOf IsOf drafts ys
    → ((i : ℕ) (draft : X) (x y : Y) → slice_get drafts i ≡ Some draft → IsOf i draft x → IsOf i draft y → x ≡ y) → xs ≡ ys
one_each IsOf drafts xs ys are also one =
    one_list xs ys (are.size ∙ sym also.size) (λ i x y at_i other_at_i.
    let (draft, there, is) = draft_of_each IsOf drafts xs i x are at_i in
    one i draft x y there is (also.are i draft y there other_at_i))

-- ---- names

twice : (draft : DraftText) (name : List ℕ) (earlier later : Location) → IsFaultless draft → IsNamedBefore earlier later → name_at earlier draft.panels ≡ Some name
    → name_at later draft.panels ≡ Some name → ⊥
twice draft name earlier later clean before is also = no_fault draft later fault.TwiceNamed clean (named_is_part later draft.panels name also)
    (twice_named later draft.panels (earlier, (before, inl (name, is, also))))

one_panel_named : (draft : DraftText) (name : List ℕ) (p q : ℕ) → IsFaultless draft → IsPanelNamed draft.panels name p → IsPanelNamed draft.panels name q → p ≡ q
one_panel_named draft name p q clean is also =
    elim (cases_order p q) [
      | inl same ↦ same
      | inr (inl less) ↦ absurd (twice draft name (Panel p) (Panel q) clean less is also)
      | inr (inr more) ↦ absurd (twice draft name (Panel q) (Panel p) clean more also is)
    ]

one_field_of : (draft : DraftText) (name : List ℕ) (p i j : ℕ) → IsFaultless draft → name_at (Field p i) draft.panels ≡ Some name → name_at (Field p j) draft.panels ≡ Some name → i ≡ j
one_field_of draft name p i j clean is also =
    elim (cases_order i j) [
      | inl same ↦ same
      | inr (inl less) ↦ absurd (twice draft name (Field p i) (Field p j) clean (inr (refl, less)) is also)
      | inr (inr more) ↦ absurd (twice draft name (Field p j) (Field p i) clean (inr (refl, more)) also is)
    ]

one_panel_of : (draft : DraftText) (name : List ℕ) (p i q j : ℕ) → IsFaultless draft → name_at (Field p i) draft.panels ≡ Some name → name_at (Field q j) draft.panels ≡ Some name → p ≡ q
one_panel_of draft name p i q j clean is also =
    elim (cases_order p q) [
      | inl same ↦ same
      | inr (inl less) ↦ absurd (twice draft name (Field p i) (Field q j) clean (inl less) is also)
      | inr (inr more) ↦ absurd (twice draft name (Field q j) (Field p i) clean (inl more) also is)
    ]

one_field_named : (draft : DraftText) (name : List ℕ) (m n : ℕ) → IsFaultless draft → IsFieldNamed draft.panels name m → IsFieldNamed draft.panels name n → m ≡ n
one_field_named draft name m n clean (p, i, is, m_is) (q, j, also, n_is) =
    let panel : p ≡ q = one_panel_of draft name p i q j clean is also in
    let field : i ≡ j = one_field_of draft name p i j clean is (subst (λ r. name_at (Field r j) draft.panels ≡ Some name) (sym panel) also) in
    m_is ∙ ap (λ r. fields_before r draft.panels + i) panel ∙ ap (λ k. fields_before q draft.panels + k) field ∙ sym n_is

-- ---- texts and fields

abbrev extent_of : (first size : ℕ) → 1 ≤ first → 1 ≤ size → first + size < most_cells → Extent
extent_of first size after cells above = record { first = first; length = size; after_attribute = after; has_cells = cells; on_screen = above }

-- of each fact there is one proof
same_facts : (first size : ℕ) (a b : 1 ≤ first) (c d : 1 ≤ size) (e f : first + size < most_cells) → extent_of first size a c e ≡ extent_of first size b d f
same_facts first size a b c d e f =
    ap (λ after. extent_of first size after c e) (le_prop a b) ∙ ap (λ cells. extent_of first size b cells e) (le_prop c d) ∙ ap (λ above. extent_of first size b d above) (le_prop e f)

same_size : (first size other : ℕ) → size ≡ other → (a b : 1 ≤ first) (c : 1 ≤ size) (d : 1 ≤ other) (e : first + size < most_cells) (f : first + other < most_cells)
    → extent_of first size a c e ≡ extent_of first other b d f
same_size first size other same a b c d e f =
    subst (λ n. (d : 1 ≤ n) (f : first + n < most_cells) → extent_of first size a c e ≡ extent_of first n b d f) same (λ d f. same_facts first size a b c d e f) d f

same_extent : (first second size other : ℕ) → first ≡ second → size ≡ other
    → (a : 1 ≤ first) (b : 1 ≤ second) (c : 1 ≤ size) (d : 1 ≤ other) (e : first + size < most_cells) (f : second + other < most_cells)
    → extent_of first size a c e ≡ extent_of second other b d f
same_extent first second size other begin same a b c d e f =
    subst (λ n. (b : 1 ≤ n) (f : n + other < most_cells) → extent_of first size a c e ≡ extent_of n other b d f) begin
    (λ b f. same_size first size other same a b c d e f) b f

same_number : (m n : ℕ) → pos m ≡ pos n → m ≡ n
same_number m n same = cc

pub one_extent : (shape : ScreenSize) (item : DraftItem) (one other : Extent) → IsExtentOf shape item one → IsExtentOf shape item other → one ≡ other
one_extent shape item one other is also =
    let first : one.first ≡ other.first = same_number one.first other.first (is.0 ∙ sym also.0) in
    let size : one.length ≡ other.length = same_number one.length other.length (is.1 ∙ sym also.1) in
    same_extent one.first other.first one.length other.length first size
    one.after_attribute other.after_attribute one.has_cells other.has_cells one.on_screen other.on_screen

one_content : (draft : DraftText) (item : DraftItem) (one other : Content) → IsFaultless draft → IsContentOf draft.panels item one → IsContentOf draft.panels item other → one ≡ other
one_content draft item (Literal shown) (Literal other) clean (text, has, is) (rival, also_has, also) =
    ap Literal (is ∙ ap (λ t. codes_of (chars t)) (same_Some text rival (sym has ∙ also_has)) ∙ sym also)
one_content draft item (Literal shown) (Show number) clean (text, has, is) also = absurd (none-some text (sym also.0 ∙ has))
one_content draft item (Show number) (Literal shown) clean is (text, has, also) = absurd (none-some text (sym is.0 ∙ has))
one_content draft item (Show number) (Show other) clean is also = ap Show (one_field_named draft item.show number other clean is.1 also.1)

abbrev text_item : Extent → Bool → Content → TextItem
text_item extent bright content = record { extent = extent; bright = bright; content = content }

one_text : (shape : ScreenSize) (draft : DraftText) (item : DraftItem) (one other : TextItem) → IsFaultless draft → IsTextOf shape draft.panels item one
    → IsTextOf shape draft.panels item other → one ≡ other
one_text shape draft item one other clean is also =
    ap (λ extent. text_item extent one.bright one.content) (one_extent shape item one.extent other.extent is.extent also.extent)
    ∙ ap (λ bright. text_item other.extent bright one.content) (is.bright ∙ sym also.bright)
    ∙ ap (λ content. text_item other.extent other.bright content) (one_content draft item one.content other.content clean is.content also.content)

abbrev field_item : ℕ → List ℕ → List ℕ → Extent → Bool → Bool → Bool → Bool → List ℕ → FieldItem
field_item number name title extent numeric hidden required marked fill =
    record { number = number; name = name; title = title; extent = extent; numeric = numeric; hidden = hidden; required = required; marked = marked; fill = fill }

one_field : (shape : ScreenSize) (n : ℕ) (item : DraftItem) (one other : FieldItem) → IsFieldOf shape n item one → IsFieldOf shape n item other → one ≡ other
one_field shape n item one other is also =
    ap (λ number. field_item number one.name one.title one.extent one.numeric one.hidden one.required one.marked one.fill) (is.number ∙ sym also.number)
    ∙ ap (λ name. field_item other.number name one.title one.extent one.numeric one.hidden one.required one.marked one.fill) (is.name ∙ sym also.name)
    ∙ ap (λ title. field_item other.number other.name title one.extent one.numeric one.hidden one.required one.marked one.fill) (is.title ∙ sym also.title)
    ∙ ap (λ extent. field_item other.number other.name other.title extent one.numeric one.hidden one.required one.marked one.fill) (one_extent shape item one.extent other.extent is.extent also.extent)
    ∙ ap (λ numeric. field_item other.number other.name other.title other.extent numeric one.hidden one.required one.marked one.fill) (is.numeric ∙ sym also.numeric)
    ∙ ap (λ hidden. field_item other.number other.name other.title other.extent other.numeric hidden one.required one.marked one.fill) (is.hidden ∙ sym also.hidden)
    ∙ ap (λ required. field_item other.number other.name other.title other.extent other.numeric other.hidden required one.marked one.fill) (is.required ∙ sym also.required)
    ∙ ap (λ marked. field_item other.number other.name other.title other.extent other.numeric other.hidden other.required marked one.fill) (is.marked ∙ sym also.marked)
    ∙ ap (λ fill. field_item other.number other.name other.title other.extent other.numeric other.hidden other.required other.marked fill) (is.fill ∙ sym also.fill)

abbrev value_item : ℕ → List ℕ → Extent → ValueItem
value_item number name extent = record { number = number; name = name; extent = extent }

one_value : (shape : ScreenSize) (n : ℕ) (item : DraftItem) (one other : ValueItem) → IsValueOf shape n item one → IsValueOf shape n item other → one ≡ other
one_value shape n item one other is also =
    ap (λ number. value_item number one.name one.extent) (is.number ∙ sym also.number) ∙ ap (λ name. value_item other.number name one.extent) (is.name ∙ sym also.name)
    ∙ ap (λ extent. value_item other.number other.name extent) (one_extent shape item one.extent other.extent is.extent also.extent)

one_shown : (shape : ScreenSize) (n : ℕ) (item : DraftItem) (one other : TextItem) → IsShownOf shape n item one → IsShownOf shape n item other → one ≡ other
one_shown shape n item one other is also =
    ap (λ extent. text_item extent one.bright one.content) (one_extent shape item one.extent other.extent is.extent also.extent)
    ∙ ap (λ bright. text_item other.extent bright one.content) (is.bright ∙ sym also.bright)
    ∙ ap (λ content. text_item other.extent other.bright content) (is.content ∙ sym also.content)

one_list_of_texts : (draft : DraftText) (panel : DraftPanel) (p : ℕ) (one other : List TextItem) → IsFaultless draft → AreTextsOf draft.panels p panel one → AreTextsOf draft.panels p panel other
    → one ≡ other
one_list_of_texts draft panel p one other clean is also =
    let shape = draft_size panel in
    let own =
    one_each (λ i. IsTextOf shape draft.panels) panel.texts is.own also.own is.are_own also.are_own (λ i item x y at_i of also_of. one_text shape draft item x y clean of also_of) in
    let shown =
    one_each (λ i. IsShownOf shape (first_value p draft.panels panel + i)) (values_of panel) is.shown also.shown is.are_shown also.are_shown
    (λ i item x y at_i of also_of. one_shown shape (first_value p draft.panels panel + i) item x y of also_of) in
    is.all ∙ ap (λ list. list ++ is.shown) own ∙ ap (λ list. also.own ++ list) shown ∙ sym also.all

-- ---- the cursor

has_name : (shape : ScreenSize) (draft : DraftText) (panel : DraftPanel) (p i : ℕ) (name : List ℕ) (fields : List FieldItem) (field : FieldItem) → slice_get draft.panels p ≡ Some panel
    → IsEachOf (λ i. IsFieldOf shape (fields_before p draft.panels + i)) (fields_of panel) fields → slice_get fields i ≡ Some field → field.name ≡ name → name_at (Field p i) draft.panels ≡ Some name
has_name shape draft panel p i name fields field there are at_i named =
    let (item, inside, is) = draft_of_each (λ i. IsFieldOf shape (fields_before p draft.panels + i)) (fields_of panel) fields i field are at_i in
    ap (λ o. option_map (λ (f : DraftItem). f.name) (option_and_then (λ (panel : DraftPanel). slice_get panel.fields i) o)) there
    ∙ ap (option_map (λ (f : DraftItem). f.name)) (field_there panel i item inside) ∙ ap Some (sym is.name ∙ named)

one_cursor : (shape : ScreenSize) (draft : DraftText) (panel : DraftPanel) (p : ℕ) (name : Option (List ℕ)) (fields : List FieldItem) (one other : ℕ) → IsFaultless draft → slice_get draft.panels p ≡ Some panel
    → IsEachOf (λ i. IsFieldOf shape (fields_before p draft.panels + i)) (fields_of panel) fields → IsCursorBy name fields one → IsCursorBy name fields other → one ≡ other
one_cursor shape draft panel p None [] one other clean there are is also = is ∙ sym also
one_cursor shape draft panel p None (first ∷ more) one other clean there are is also = is ∙ sym also
one_cursor shape draft panel p (Some name) fields one other clean there are (i, field, at_i, named, is) (j, rival, at_j, called, also) =
    let same : i ≡ j =
    one_field_of draft name p i j clean (has_name shape draft panel p i name fields field there are at_i named) (has_name shape draft panel p j name fields rival there are at_j called) in
    let item : field ≡ rival = same_Some _ _ (sym at_i ∙ ap (slice_get fields) same ∙ at_j) in
    is ∙ ap (λ (f : FieldItem). f.extent.first) item ∙ sym also

-- ---- where keys lead

one_target : (draft : DraftText) (name : Option (List ℕ)) (one other : Option ℕ) → IsFaultless draft → IsTargetBy draft.panels name one → IsTargetBy draft.panels name other → one ≡ other
one_target draft None one other clean is also = is ∙ sym also
one_target draft (Some name) None other clean is also = absurd is
one_target draft (Some name) (Some p) None clean is also = absurd also
one_target draft (Some name) (Some p) (Some q) clean is also = ap Some (one_panel_named draft name p q clean is also)

base_is_named : (panels : List DraftPanel) (name : List ℕ) (p : ℕ) → IsBasePanelNamed panels name p → IsPanelNamed panels name p
base_is_named panels name p (panel, there, two, is) = ap (option_map (λ (panel : DraftPanel). panel.name)) there ∙ ap Some is

one_otherwise : (draft : DraftText) (name : Option (List ℕ)) (one other : Option ℕ) → IsFaultless draft → IsOtherwiseBy draft.panels name one → IsOtherwiseBy draft.panels name other
    → one ≡ other
one_otherwise draft None one other clean is also = is ∙ sym also
one_otherwise draft (Some name) None other clean is also = absurd is
one_otherwise draft (Some name) (Some p) None clean is also = absurd also
one_otherwise draft (Some name) (Some p) (Some q) clean is also =
    ap Some (one_panel_named draft name p q clean (base_is_named draft.panels name p is) (base_is_named draft.panels name q also))

-- each place among the names of keys is some key's
one_place : (Is : ℕ → Type 0) → Is 0 → Is 1 → ((n : ℕ) → 1 ≤ n → n ≤ 3 → Is (1 + n)) → ((n : ℕ) → 1 ≤ n → n ≤ 24 → Is (4 + n)) → (k : ℕ) → k < 29 → Is k
one_place Is enter clear pa pf k below =
    elim (cases_order k 1) [
      | inl is ↦ subst Is (sym is) clear
      | inr (inl less) ↦
          let first : k ≡ 0 = omega arith in
          subst Is (sym first) enter
      | inr (inr more) ↦
          elim (cases_order k 5) [
            | inl is ↦ subst Is (sym is) (pf 1 (omega arith) (omega arith))
            | inr (inl less) ↦
                let whole : 1 + (k - 1) ≡ k = omega arith in
                subst Is whole (pa (k - 1) (omega arith) (omega arith))
            | inr (inr past) ↦
                let whole : 4 + (k - 4) ≡ k = omega arith in
                subst Is whole (pf (k - 4) (omega arith) (omega arith))
          ]
    ]

one_list_of_targets : (draft : DraftText) (panel : DraftPanel) (p : ℕ) (one other : PanelParts) → IsFaultless draft → IsPanelOf draft.panels p panel one → IsPanelOf draft.panels p panel other
    → one.targets ≡ other.targets
one_list_of_targets draft panel p one other clean is also =
    one_list one.targets other.targets (is.places ∙ sym also.places) (λ k x y at_k other_at_k.
    let below : k < length one.targets = slice_get_within one.targets k x at_k in
    let few : length one.targets ≡ 29 = is.places in
    let fits : k < 29 = omega (arith, below, few) in
    let key : (aid : Aid) → IsKey aid → target_of one aid ≡ target_of other aid = λ aid there.
    one_target draft (option_and_then (λ name. text_at_key name panel.keys) (name_of_key aid)) (target_of one aid) (target_of other aid) clean (is.targets aid there) (also.targets aid there) in
    let same : target_at one.targets k ≡ target_at other.targets k =
    one_place (λ place. target_at one.targets place ≡ target_at other.targets place) (key Enter tt) (key Clear tt)
    (λ n low high. key (Pa n) (low, high)) (λ n low high. key (Pf n) (low, high)) k fits in
    sym (ap (option_and_then (λ target. target)) at_k) ∙ same ∙ ap (option_and_then (λ target. target)) other_at_k)

-- ---- panels

abbrev panel_parts : List ℕ → Model → Option ℕ → List TextItem → List FieldItem → List ValueItem → ℕ → List (Option ℕ) → List Bool → Bool → PanelParts
panel_parts name model otherwise texts fields values cursor targets asked at_connect =
    record { name = name; model = model; otherwise = otherwise; texts = texts; fields = fields; values = values; cursor = cursor; targets = targets; asked = asked; asked_at_connect = at_connect }

one_panel : (draft : DraftText) (panel : DraftPanel) (p : ℕ) (one other : PanelParts) → IsFaultless draft → slice_get draft.panels p ≡ Some panel → IsPanelOf draft.panels p panel one
    → IsPanelOf draft.panels p panel other → one ≡ other
one_panel draft panel p one other clean there is also =
    let shape = draft_size panel in
    let texts : one.texts ≡ other.texts = one_list_of_texts draft panel p one.texts other.texts clean is.texts also.texts in
    let values : one.values ≡ other.values =
    one_each (λ i. IsValueOf shape (first_value p draft.panels panel + i)) (values_of panel) one.values other.values is.values also.values
    (λ i item x y at_i of also_of. one_value shape (first_value p draft.panels panel + i) item x y of also_of) in
    let fields : one.fields ≡ other.fields =
    one_each (λ i. IsFieldOf shape (fields_before p draft.panels + i)) (fields_of panel) one.fields other.fields is.fields also.fields
    (λ i item x y at_i of also_of. one_field shape (fields_before p draft.panels + i) item x y of also_of) in
    let cursor : one.cursor ≡ other.cursor =
    one_cursor shape draft panel p panel.cursor one.fields one.cursor other.cursor clean there is.fields is.cursor
    (subst (λ list. IsCursorBy panel.cursor list other.cursor) (sym fields) also.cursor) in
    let otherwise : one.otherwise ≡ other.otherwise = one_otherwise draft (otherwise_of panel) one.otherwise other.otherwise clean is.otherwise also.otherwise in
    ap (λ it. panel_parts it one.model one.otherwise one.texts one.fields one.values one.cursor one.targets one.asked one.asked_at_connect) (is.name ∙ sym also.name)
    ∙ ap (λ it. panel_parts other.name it one.otherwise one.texts one.fields one.values one.cursor one.targets one.asked one.asked_at_connect) (is.model ∙ sym also.model)
    ∙ ap (λ it. panel_parts other.name other.model it one.texts one.fields one.values one.cursor one.targets one.asked one.asked_at_connect) otherwise
    ∙ ap (λ it. panel_parts other.name other.model other.otherwise it one.fields one.values one.cursor one.targets one.asked one.asked_at_connect) texts
    ∙ ap (λ it. panel_parts other.name other.model other.otherwise other.texts it one.values one.cursor one.targets one.asked one.asked_at_connect) fields
    ∙ ap (λ it. panel_parts other.name other.model other.otherwise other.texts other.fields it one.cursor one.targets one.asked one.asked_at_connect) values
    ∙ ap (λ it. panel_parts other.name other.model other.otherwise other.texts other.fields other.values it one.targets one.asked one.asked_at_connect) cursor
    ∙ ap (λ it. panel_parts other.name other.model other.otherwise other.texts other.fields other.values other.cursor it one.asked one.asked_at_connect) (one_list_of_targets draft panel p one other clean is also)
    ∙ ap (λ it. panel_parts other.name other.model other.otherwise other.texts other.fields other.values other.cursor other.targets it one.asked_at_connect) (is.asked ∙ sym also.asked)
    ∙ ap (λ it. panel_parts other.name other.model other.otherwise other.texts other.fields other.values other.cursor other.targets other.asked it) (is.asked_at_connect ∙ sym also.asked_at_connect)

abbrev panel_set : ℕ → List (List ℕ) → List PanelParts → Panels
panel_set start lus panels = record { start = start; lus = lus; panels = panels }

one_set : (draft : DraftText) (set other : Panels) → IsFaultless draft → Defines draft set → Defines draft other → set ≡ other
one_set draft set other clean is also =
    let panels : set.panels ≡ other.panels =
    one_each (IsPanelOf draft.panels) draft.panels set.panels other.panels is.panels also.panels (λ p panel x y there of also_of. one_panel draft panel p x y clean there of also_of) in
    ap (λ start. panel_set start set.lus set.panels) (one_panel_named draft draft.start set.start other.start clean is.start also.start)
    ∙ ap (λ lus. panel_set other.start lus set.panels) (is.lus ∙ sym also.lus) ∙ ap (λ list. panel_set other.start other.lus list) panels

pub defined_once : DefinesOnce
defined_once text set other (top, read, clean, is) (tree, parsed, whole, also) =
    let same : tree ≡ top = same_Some _ _ (sym parsed ∙ read) in
    one_set (draft_of top) set other clean is (subst (λ t. Defines (draft_of t) other) same also)
