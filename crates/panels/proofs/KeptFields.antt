-- Each screen that a panel asks for, with what was typed to be kept, keeps whole fields.
use Rattle.std.proofs.Common.{◌≡◌, ◌==◌, ◌<◌, ◌≤◌, ◌+◌, ◌-◌, ◌∙◌, ℕ, Bool, true, false, cond, List, Some, None, refl, ap, sym, subst, inl, inr, arith}
use Rattle.std.specs.Prelude.{◌⊎◌, slice_get, is_some, nat_lt, option_map}
use Rattle.std.specs.Option.{option_or}
use Rattle.std.specs.Int.{is_in_range}
use Rattle.std.proofs.lemmas.Bool.Decides.{nat_tests}
use Rattle.std.proofs.lemmas.Option.{same_Some, cond_some}
use Rattle.codes3270.specs.Size.{cells_in}
use Rattle.codes3270.specs.declared.attribute.Attr.{Attr}
use Rattle.datastream.specs.declared.wanted.Want.{Want}
use Rattle.datastream.specs.declared.wanted.Want.TheVariants as want
use Rattle.panels.specs.declared.extent.Extent.{Extent}
use Rattle.panels.specs.declared.message.Message.{Message}
use Rattle.panels.specs.declared.panel.Field.{Field}
use Rattle.panels.specs.Size.{message_start}
use Rattle.panels.specs.Panel.{PanelParts, IsCellOf, IsAbove, IsLaidOut, HasItemsApart, size_of}
use Rattle.panels.specs.Screen.{Values, distance_in, item_cell, autoskip_attr, shown, text_cell, field_attr, kept_cell, field_cell, stopper_cell, message_text, message_cell, first_some, wanted_cell}
use Rattle.panels.specs.KeptFields.{FieldsAreKeptWhole}
use Rattle.panels.proofs.Answering.{Answers, or_answers, left_answers, first_answers, left_is_some, right_is_some, first_is_some, mapped_is_some, given_is_some, mapped_answer, none_given, taken_answer}
use Rattle.panels.proofs.Placing.{all_at, cells_some, start_before_end}
use Rattle.panels.proofs.Screens.{cell_of_screen}

-- ---- where an item has a cell

range_sides : (first size cell : ℕ) → is_in_range first (first + size) (cell + 1) ≡ true → (first ≤ cell + 1) × (cell + 1 ≤ first + size)
range_sides first size cell is = grind (arith, nat_tests)

sides_range : (first size cell : ℕ) → first ≤ cell + 1 → cell + 1 ≤ first + size → is_in_range first (first + size) (cell + 1) ≡ true
sides_range first size cell low high = grind (arith, nat_tests)

given : (n : ℕ) (b : Bool) → b ≡ true → cond b (Some n) None ≡ Some n
given n b is = rw is refl

pub distance_there : (extent : Extent) (cell : ℕ) → IsCellOf extent cell → distance_in extent cell ≡ Some (cell + 1 - extent.first)
distance_there extent cell has =
    given (cell + 1 - extent.first) (is_in_range extent.first (extent.first + extent.length) (cell + 1)) (sides_range extent.first extent.length cell has.0 has.1)

pub item_answer : (extent : Extent) (f : ℕ → Want) (cell : ℕ) (w : Want) → option_map f (distance_in extent cell) ≡ Some w → IsCellOf extent cell × (w ≡ f (cell + 1 - extent.first))
item_answer extent f cell w is =
    let (n, at_n, f_is) = mapped_answer f (distance_in extent cell) w is in
    let (within, n_is) = cond_some (is_in_range extent.first (extent.first + extent.length) (cell + 1)) (cell + 1 - extent.first) n at_n in
    (range_sides extent.first extent.length cell within, sym f_is ∙ ap f (sym n_is))

last_cell : (extent : Extent) → IsCellOf extent (extent.first + extent.length - 1)
last_cell extent =
    let some = extent.has_cells in
    (omega arith, omega arith)

-- ---- a cell of a kept field

pub three : (i j : ℕ) → (i < j) ⊎ ((j < i) ⊎ (i ≡ j))
three i j = grind arith

-- no other field has it
pub only_field : (panel : PanelParts) (i j cell : ℕ) (field other : Field) → HasItemsApart panel → slice_get panel.fields i ≡ Some field → slice_get panel.fields j ≡ Some other
    → IsCellOf field.extent cell → IsCellOf other.extent cell → other ≡ field
only_field panel i j cell field other apart at_i at_j has other_has =
    elim (three i j) [
      | inl less ↦ absurd (apart.fields i j field other less at_i at_j cell has other_has)
      | inr rest ↦
          elim rest [
            | inl more ↦ absurd (apart.fields j i other field more at_j at_i cell other_has has)
            | inr same ↦ same_Some other field (sym at_j ∙ ap (slice_get panel.fields) (sym same) ∙ at_i)
          ]
    ]

-- and no text
pub no_text : (panel : PanelParts) (values : Values) (i cell : ℕ) (field : Field) (P : Want → Type 0) → HasItemsApart panel → slice_get panel.fields i ≡ Some field → IsCellOf field.extent cell
    → Answers P (first_some (text_cell values cell) panel.texts)
no_text panel values i cell field P apart at_i has =
    first_answers P (text_cell values cell) panel.texts (λ j text at_j w is.
    absurd (apart.both j i text field at_j at_i cell (item_answer text.extent (item_cell (autoskip_attr text.bright) (shown values text.content)) cell w is).0 has))

abbrev cell_of_field : Values → Message → ℕ → Field → Want
cell_of_field values message cell field = kept_cell (field_attr values message true field) (cell + 1 - field.extent.first)

field_answers : (panel : PanelParts) (values : Values) (message : Message) (i cell : ℕ) (field : Field) → HasItemsApart panel → slice_get panel.fields i ≡ Some field → IsCellOf field.extent cell
    → Answers (λ w. w ≡ cell_of_field values message cell field) (first_some (field_cell values message true cell) panel.fields)
field_answers panel values message i cell field apart at_i has =
    first_answers (λ w. w ≡ cell_of_field values message cell field) (field_cell values message true cell) panel.fields (λ j other at_j w is.
    let (other_has, w_is) = item_answer other.extent (kept_cell (field_attr values message true other)) cell w is in
    w_is ∙ ap (cell_of_field values message cell) (only_field panel i j cell field other apart at_i at_j has other_has))

field_is_some : (panel : PanelParts) (values : Values) (message : Message) (i cell : ℕ) (field : Field) → slice_get panel.fields i ≡ Some field → IsCellOf field.extent cell
    → is_some (first_some (field_cell values message true cell) panel.fields) ≡ true
field_is_some panel values message i cell field at_i has =
    first_is_some (field_cell values message true cell) panel.fields i field at_i
    (mapped_is_some (kept_cell (field_attr values message true field)) (distance_in field.extent cell) (cell + 1 - field.extent.first) (distance_there field.extent cell has))

wanted_of_field : (panel : PanelParts) (values : Values) (message : Message) (i cell : ℕ) (field : Field) → HasItemsApart panel → slice_get panel.fields i ≡ Some field → IsCellOf field.extent cell
    → wanted_cell panel values message true cell ≡ cell_of_field values message cell field
wanted_of_field panel values message i cell field apart at_i has =
    let texts = first_some (text_cell values cell) panel.texts in
    let fields = first_some (field_cell values message true cell) panel.fields in
    let behind = option_or (message_cell (message_start (size_of panel)) panel.fields message cell) (first_some (stopper_cell cell) panel.fields) in
    let there = field_is_some panel values message i cell field at_i has in
    taken_answer (λ w. w ≡ cell_of_field values message cell field) (option_or texts (option_or fields behind)) (want.Char 0)
    (right_is_some texts (option_or fields behind) (left_is_some fields behind there))
    (or_answers (λ w. w ≡ cell_of_field values message cell field) texts (option_or fields behind)
    (no_text panel values i cell field (λ w. w ≡ cell_of_field values message cell field) apart at_i has)
    (left_answers (λ w. w ≡ cell_of_field values message cell field) fields behind there (field_answers panel values message i cell field apart at_i has)))

pub kept_first : (attr : Attr) (distance : ℕ) → distance ≡ 0 → kept_cell attr distance ≡ want.Attr attr
kept_first attr distance is = rw is refl

kept_later : (attr : Attr) (b : Bool) → b ≡ false → cond b (want.Attr attr) want.Keep ≡ want.Keep
kept_later attr b is = rw is refl

pub some_distance : (first cell : ℕ) → first ≤ cell → ((cell + 1 - first) == 0) ≡ false
some_distance first cell below = grind (arith, nat_tests)

-- ---- the cell behind it

abbrev pub IsAttribute : Want → Type 0
IsAttribute w = (attribute : Attr) × (w ≡ want.Attr attribute)

split : (a b : ℕ) → (a ≤ b) ⊎ (b < a)
split a b = grind arith

-- an item that has it, and not the cell before, starts there
pub starts : (extent : Extent) (cell : ℕ) → 1 ≤ cell → IsCellOf extent cell → ¬ IsCellOf extent (cell - 1) → cell + 1 - extent.first ≡ 0
starts extent cell some has not_before =
    let low = has.0 in
    let high = has.1 in
    elim (split extent.first cell) [
      | inl le ↦ absurd (not_before (omega arith, omega arith))
      | inr gt ↦ omega arith
    ]

past_end : (first size : ℕ) → first + size + 1 ≤ first + size → ⊥
past_end first size is = omega arith

pub some_behind : (extent : Extent) → 1 ≤ extent.first + extent.length
some_behind extent =
    let some = extent.has_cells in
    omega arith

pub item_first : (attr : Attr) (content : List ℕ) (distance : ℕ) → distance ≡ 0 → item_cell attr content distance ≡ want.Attr attr
item_first attr content distance is = rw is refl

pub texts_behind : (panel : PanelParts) (values : Values) (i : ℕ) (field : Field) → HasItemsApart panel → slice_get panel.fields i ≡ Some field
    → Answers IsAttribute (first_some (text_cell values (field.extent.first + field.extent.length)) panel.texts)
texts_behind panel values i field apart at_i =
    first_answers IsAttribute (text_cell values (field.extent.first + field.extent.length)) panel.texts (λ j text at_j w is.
    let (has, w_is) = item_answer text.extent (item_cell (autoskip_attr text.bright) (shown values text.content)) (field.extent.first + field.extent.length) w is in
    let first = starts text.extent (field.extent.first + field.extent.length) (some_behind field.extent) has (λ before. apart.both j i text field at_j at_i _ before (last_cell field.extent)) in
    (autoskip_attr text.bright, w_is ∙ item_first (autoskip_attr text.bright) (shown values text.content) _ first))

pub other_field : (panel : PanelParts) (i j : ℕ) (field other : Field) → HasItemsApart panel → slice_get panel.fields i ≡ Some field → slice_get panel.fields j ≡ Some other
    → IsCellOf other.extent (field.extent.first + field.extent.length) → ¬ IsCellOf other.extent (field.extent.first + field.extent.length - 1)
other_field panel i j field other apart at_i at_j has = λ before.
    let same = only_field panel i j (field.extent.first + field.extent.length - 1) field other apart at_i at_j (last_cell field.extent) before in
    past_end field.extent.first field.extent.length (subst (λ f. IsCellOf f.extent (field.extent.first + field.extent.length)) same has).1

fields_behind : (panel : PanelParts) (values : Values) (message : Message) (i : ℕ) (field : Field) → HasItemsApart panel → slice_get panel.fields i ≡ Some field
    → Answers IsAttribute (first_some (field_cell values message true (field.extent.first + field.extent.length)) panel.fields)
fields_behind panel values message i field apart at_i =
    first_answers IsAttribute (field_cell values message true (field.extent.first + field.extent.length)) panel.fields (λ j other at_j w is.
    let (has, w_is) = item_answer other.extent (kept_cell (field_attr values message true other)) (field.extent.first + field.extent.length) w is in
    let first = starts other.extent (field.extent.first + field.extent.length) (some_behind field.extent) has (other_field panel i j field other apart at_i at_j has) in
    (field_attr values message true other, w_is ∙ kept_first (field_attr values message true other) _ first))

not_above : (a b : ℕ) → nat_lt a b ≡ false → a ≤ b → a - b ≡ 0
not_above a b is most = grind (arith, nat_tests)

pub message_behind : (start : ℕ) (panel : PanelParts) (message : Message) (field : Field) → field.extent.first + field.extent.length ≤ start
    → Answers IsAttribute (message_cell start panel.fields message (field.extent.first + field.extent.length))
message_behind start panel message field above = λ w is.
    let cell = field.extent.first + field.extent.length in
    let (not_before, w_is) = none_given (nat_lt cell start) (item_cell (autoskip_attr true) (message_text panel.fields message) (cell - start)) w is in
    (autoskip_attr true, sym w_is ∙ item_first (autoskip_attr true) (message_text panel.fields message) (cell - start) (not_above cell start not_before above))

pub stopper_answers : (cell : ℕ) (fields : List Field) → Answers IsAttribute (first_some (stopper_cell cell) fields)
stopper_answers cell fields =
    first_answers IsAttribute (stopper_cell cell) fields (λ j field at_j w is.
    (autoskip_attr false, sym (cond_some (cell == field.extent.first + field.extent.length) (want.Attr (autoskip_attr false)) w is).1))

same_number : (a : ℕ) → (a == a) ≡ true
same_number a = grind (arith, nat_tests)

pub stopper_is_some : (panel : PanelParts) (i : ℕ) (field : Field) → slice_get panel.fields i ≡ Some field
    → is_some (first_some (stopper_cell (field.extent.first + field.extent.length)) panel.fields) ≡ true
stopper_is_some panel i field at_i =
    first_is_some (stopper_cell (field.extent.first + field.extent.length)) panel.fields i field at_i
    (given_is_some (field.extent.first + field.extent.length == field.extent.first + field.extent.length) (want.Attr (autoskip_attr false)) (same_number (field.extent.first + field.extent.length)))

before_end : (cell end start cells : ℕ) → cell ≤ end → end ≤ start → start < cells → cell < cells
before_end cell end start cells below above before = omega arith

pub field_above : (panel : PanelParts) (i : ℕ) (field : Field) → IsLaidOut panel → slice_get panel.fields i ≡ Some field
    → field.extent.first + field.extent.length ≤ message_start (size_of panel)
field_above panel i field laid at_i = all_at (λ (field : Field). IsAbove (size_of panel) field.extent) panel.fields i field laid.fields at_i

wanted_behind : (panel : PanelParts) (values : Values) (message : Message) (i : ℕ) (field : Field) → HasItemsApart panel → IsLaidOut panel → slice_get panel.fields i ≡ Some field
    → IsAttribute (wanted_cell panel values message true (field.extent.first + field.extent.length))
wanted_behind panel values message i field apart laid at_i =
    let cell = field.extent.first + field.extent.length in
    let texts = first_some (text_cell values cell) panel.texts in
    let fields = first_some (field_cell values message true cell) panel.fields in
    let row = message_cell (message_start (size_of panel)) panel.fields message cell in
    let stoppers = first_some (stopper_cell cell) panel.fields in
    taken_answer IsAttribute (option_or texts (option_or fields (option_or row stoppers))) (want.Char 0)
    (right_is_some texts (option_or fields (option_or row stoppers)) (right_is_some fields (option_or row stoppers) (right_is_some row stoppers (stopper_is_some panel i field at_i))))
    (or_answers IsAttribute texts (option_or fields (option_or row stoppers)) (texts_behind panel values i field apart at_i)
    (or_answers IsAttribute fields (option_or row stoppers) (fields_behind panel values message i field apart at_i)
    (or_answers IsAttribute row stoppers (message_behind (message_start (size_of panel)) panel message field (field_above panel i field laid at_i)) (stopper_answers cell panel.fields))))

-- ---- so it is kept whole

pub on_screen : (panel : PanelParts) (i : ℕ) (field : Field) → IsLaidOut panel → slice_get panel.fields i ≡ Some field → (cell : ℕ) → cell ≤ field.extent.first + field.extent.length
    → cell < cells_in (size_of panel)
on_screen panel i field laid at_i cell below = before_end cell _ _ _ below (field_above panel i field laid at_i) (start_before_end (size_of panel) (cells_some panel.model))

pub first_has : (extent : Extent) → IsCellOf extent (extent.first - 1)
first_has extent =
    let some = extent.has_cells in
    let after = extent.after_attribute in
    (omega arith, omega arith)

pub first_distance : (extent : Extent) → extent.first - 1 + 1 - extent.first ≡ 0
first_distance extent =
    let after = extent.after_attribute in
    omega arith

pub character_has : (first size cell : ℕ) → first ≤ cell → cell < first + size → (first ≤ cell + 1) × (cell + 1 ≤ first + size)
character_has first size cell low high = (omega arith, omega arith)

pub at_most : (first size : ℕ) → first - 1 ≤ first + size
at_most first size = omega arith

pub at_end : (n : ℕ) → n ≤ n
at_end n = omega arith

pub less_at_most : (a b : ℕ) → a < b → a ≤ b
less_at_most a b less = omega arith

pub fields_kept_whole : FieldsAreKeptWhole
fields_kept_whole panel values message i field apart laid at_i =
    let attribute = field_attr values message true field in
    let first = field.extent.first in
    let size = field.extent.length in
    let behind = wanted_behind panel values message i field apart laid at_i in
    let within = on_screen panel i field laid at_i in
    record {
      attribute = (
        attribute,
        cell_of_screen panel values message true (first - 1) (within (first - 1) (at_most first size))
            ∙ ap Some (wanted_of_field panel values message i (first - 1) field apart at_i (first_has field.extent) ∙ kept_first attribute (first - 1 + 1 - first) (first_distance field.extent)),
      );
      characters = λ cell is.
          cell_of_screen panel values message true cell (within cell (less_at_most cell (first + size) is.1))
          ∙ ap Some (wanted_of_field panel values message i cell field apart at_i (character_has first size cell is.0 is.1) ∙ kept_later attribute ((cell + 1 - first) == 0) (some_distance first cell is.0));
      next = (
        behind.0,
        cell_of_screen panel values message true (first + size) (within (first + size) (at_end (first + size))) ∙ ap Some behind.1,
      );
    }
