-- Each screen that a panel asks for has each field of the panel.
use Rattle.std.proofs.Common.{◌≡◌, ◌==◌, ◌+◌, ◌-◌, ◌≤◌, ◌∙◌, ℕ, Bool, true, false, cond, Some, ap, arith, refl, sym, if◌then◌else◌}
use Rattle.std.specs.Prelude.{slice_get, slice_index_or, is_some}
use Rattle.std.specs.Option.{option_or}
use Rattle.codes3270.specs.declared.attribute.Attr.{Attr}
use Rattle.datastream.specs.declared.wanted.Want.{Want}
use Rattle.datastream.specs.declared.wanted.Want.TheVariants as want
use Rattle.panels.specs.declared.message.Message.{Message}
use Rattle.panels.specs.declared.panel.Field.{Field}
use Rattle.panels.specs.Size.{message_start}
use Rattle.panels.specs.Panel.{PanelParts, IsCellOf, IsLaidOut, HasItemsApart, size_of}
use Rattle.panels.specs.Screen.{Values, distance_in, item_cell, text_cell, field_attr, field_content, kept_cell, field_cell, stopper_cell, message_cell, first_some, wanted_cell}
use Rattle.panels.specs.KeptFields.{AttributesAreThere, FieldsAreOnTheScreen, FieldsAreWritten}
use Rattle.panels.proofs.Answering.{Answers, or_answers, left_answers, first_answers, left_is_some, right_is_some, first_is_some, mapped_is_some, taken_answer}
use Rattle.panels.proofs.KeptFields.{IsAttribute, at_end, at_most, character_has, distance_there, field_above, first_distance, first_has, item_answer, item_first, kept_first, less_at_most, message_behind, no_text, on_screen, only_field, other_field, some_behind, some_distance, starts, stopper_answers, stopper_is_some, texts_behind}
use Rattle.panels.proofs.Screens.{cell_of_screen}

-- the cells of a field
abbrev cells_of_field : Values → Message → Bool → Field → ℕ → Want
cells_of_field values message keep field =
    if keep then kept_cell (field_attr values message keep field)
    else item_cell (field_attr values message keep field) (field_content values message field)

abbrev cell_of_field : Values → Message → Bool → ℕ → Field → Want
cell_of_field values message keep cell field = cells_of_field values message keep field (cell + 1 - field.extent.first)

field_answers : (panel : PanelParts) (values : Values) (message : Message) (keep : Bool) (i cell : ℕ) (field : Field) → HasItemsApart panel → slice_get panel.fields i ≡ Some field → IsCellOf field.extent cell
    → Answers (λ w. w ≡ cell_of_field values message keep cell field) (first_some (field_cell values message keep cell) panel.fields)
field_answers panel values message keep i cell field apart at_i has =
    first_answers (λ w. w ≡ cell_of_field values message keep cell field) (field_cell values message keep cell) panel.fields (λ j other at_j w is.
    let (other_has, w_is) = item_answer other.extent (cells_of_field values message keep other) cell w is in
    w_is ∙ ap (cell_of_field values message keep cell) (only_field panel i j cell field other apart at_i at_j has other_has))

field_is_some : (panel : PanelParts) (values : Values) (message : Message) (keep : Bool) (i cell : ℕ) (field : Field) → slice_get panel.fields i ≡ Some field → IsCellOf field.extent cell
    → is_some (first_some (field_cell values message keep cell) panel.fields) ≡ true
field_is_some panel values message keep i cell field at_i has =
    first_is_some (field_cell values message keep cell) panel.fields i field at_i
    (mapped_is_some (cells_of_field values message keep field) (distance_in field.extent cell) (cell + 1 - field.extent.first) (distance_there field.extent cell has))

wanted_of_field : (panel : PanelParts) (values : Values) (message : Message) (keep : Bool) (i cell : ℕ) (field : Field) → HasItemsApart panel → slice_get panel.fields i ≡ Some field → IsCellOf field.extent cell
    → wanted_cell panel values message keep cell ≡ cell_of_field values message keep cell field
wanted_of_field panel values message keep i cell field apart at_i has =
    let texts = first_some (text_cell values cell) panel.texts in
    let fields = first_some (field_cell values message keep cell) panel.fields in
    let behind = option_or (message_cell (message_start (size_of panel)) panel.fields message cell) (first_some (stopper_cell cell) panel.fields) in
    let there = field_is_some panel values message keep i cell field at_i has in
    taken_answer (λ w. w ≡ cell_of_field values message keep cell field) (option_or texts (option_or fields behind)) (want.Char 0)
    (right_is_some texts (option_or fields behind) (left_is_some fields behind there))
    (or_answers (λ w. w ≡ cell_of_field values message keep cell field) texts (option_or fields behind)
    (no_text panel values i cell field (λ w. w ≡ cell_of_field values message keep cell field) apart at_i has)
    (left_answers (λ w. w ≡ cell_of_field values message keep cell field) fields behind there (field_answers panel values message keep i cell field apart at_i has)))

-- the first one is an attribute, and no other is
first_cell : (values : Values) (message : Message) (keep : Bool) (field : Field) (distance : ℕ) → distance ≡ 0 → cells_of_field values message keep field distance ≡ want.Attr (field_attr values message keep field)
first_cell values message true field distance is = kept_first (field_attr values message true field) distance is
first_cell values message false field distance is = item_first (field_attr values message false field) (field_content values message field) distance is

kept_other : (attr attribute : Attr) (b : Bool) → b ≡ false → cond b (want.Attr attr) want.Keep ≡ want.Attr attribute → ⊥
kept_other attr attribute true later is = absurd (cc)
kept_other attr attribute false later is = absurd (cc)

char_other : (attr attribute : Attr) (char : ℕ) (b : Bool) → b ≡ false → cond b (want.Attr attr) (want.Char char) ≡ want.Attr attribute → ⊥
char_other attr attribute char true later is = absurd (cc)
char_other attr attribute char false later is = absurd (cc)

other_cell : (values : Values) (message : Message) (keep : Bool) (field : Field) (distance : ℕ) (attribute : Attr) → (distance == 0) ≡ false → cells_of_field values message keep field distance ≡ want.Attr attribute → ⊥
other_cell values message true field distance attribute later is = kept_other (field_attr values message true field) attribute (distance == 0) later is
other_cell values message false field distance attribute later is =
    char_other (field_attr values message false field) attribute (slice_index_or (field_content values message field) (distance - 1) 0) (distance == 0) later is

-- ---- the cell behind it

fields_behind : (panel : PanelParts) (values : Values) (message : Message) (keep : Bool) (i : ℕ) (field : Field) → HasItemsApart panel → slice_get panel.fields i ≡ Some field
    → Answers IsAttribute (first_some (field_cell values message keep (field.extent.first + field.extent.length)) panel.fields)
fields_behind panel values message keep i field apart at_i =
    first_answers IsAttribute (field_cell values message keep (field.extent.first + field.extent.length)) panel.fields (λ j other at_j w is.
    let (has, w_is) = item_answer other.extent (cells_of_field values message keep other) (field.extent.first + field.extent.length) w is in
    let first = starts other.extent (field.extent.first + field.extent.length) (some_behind field.extent) has (other_field panel i j field other apart at_i at_j has) in
    (field_attr values message keep other, w_is ∙ first_cell values message keep other _ first))

wanted_behind : (panel : PanelParts) (values : Values) (message : Message) (keep : Bool) (i : ℕ) (field : Field) → HasItemsApart panel → IsLaidOut panel → slice_get panel.fields i ≡ Some field
    → IsAttribute (wanted_cell panel values message keep (field.extent.first + field.extent.length))
wanted_behind panel values message keep i field apart laid at_i =
    let cell = field.extent.first + field.extent.length in
    let texts = first_some (text_cell values cell) panel.texts in
    let fields = first_some (field_cell values message keep cell) panel.fields in
    let row = message_cell (message_start (size_of panel)) panel.fields message cell in
    let stoppers = first_some (stopper_cell cell) panel.fields in
    taken_answer IsAttribute (option_or texts (option_or fields (option_or row stoppers))) (want.Char 0)
    (right_is_some texts (option_or fields (option_or row stoppers)) (right_is_some fields (option_or row stoppers) (right_is_some row stoppers (stopper_is_some panel i field at_i))))
    (or_answers IsAttribute texts (option_or fields (option_or row stoppers)) (texts_behind panel values i field apart at_i)
    (or_answers IsAttribute fields (option_or row stoppers) (fields_behind panel values message keep i field apart at_i)
    (or_answers IsAttribute row stoppers (message_behind (message_start (size_of panel)) panel message field (field_above panel i field laid at_i)) (stopper_answers cell panel.fields))))

-- ---- so the screen has it

pub attributes_there : AttributesAreThere
attributes_there panel values message keep i field apart laid at_i =
    let first = field.extent.first in
    cell_of_screen panel values message keep (first - 1) (on_screen panel i field laid at_i (first - 1) (at_most first field.extent.length))
    ∙ ap Some (wanted_of_field panel values message keep i (first - 1) field apart at_i (first_has field.extent) ∙ first_cell values message keep field (first - 1 + 1 - first) (first_distance field.extent))

char_later : (attr : Attr) (char : ℕ) (b : Bool) → b ≡ false → cond b (want.Attr attr) (want.Char char) ≡ want.Char char
char_later attr char b later = rw later refl

-- how many characters of the field come before a cell
before_it : (first cell : ℕ) → first ≤ cell → cell + 1 - first - 1 ≡ cell - first
before_it first cell past = omega arith

pub fields_written : FieldsAreWritten
fields_written panel values message i field cell apart laid at_i is =
    let first = field.extent.first in
    let size = field.extent.length in
    let content = field_content values message field in
    cell_of_screen panel values message false cell (on_screen panel i field laid at_i cell (less_at_most cell (first + size) is.1))
    ∙ ap Some (wanted_of_field panel values message false i cell field apart at_i (character_has first size cell is.0 is.1)
    ∙ char_later (field_attr values message false field) (slice_index_or content (cell + 1 - first - 1) 0) ((cell + 1 - first) == 0) (some_distance first cell is.0)
    ∙ ap (λ (d : ℕ). want.Char (slice_index_or content d 0)) (before_it first cell is.0))

pub fields_on_the_screen : FieldsAreOnTheScreen
fields_on_the_screen panel values message keep i field apart laid at_i =
    let attribute = field_attr values message keep field in
    let first = field.extent.first in
    let size = field.extent.length in
    let behind = wanted_behind panel values message keep i field apart laid at_i in
    let within = on_screen panel i field laid at_i in
    record {
      attribute = (attribute, attributes_there panel values message keep i field apart laid at_i);
      characters = λ cell is has.
          let both : Some (cell_of_field values message keep cell field) ≡ Some (want.Attr has.0) =
          sym (cell_of_screen panel values message keep cell (within cell (less_at_most cell (first + size) is.1))
          ∙ ap Some (wanted_of_field panel values message keep i cell field apart at_i (character_has first size cell is.0 is.1))) ∙ has.1 in
          other_cell values message keep field (cell + 1 - first) has.0 (some_distance first cell is.0) (let same = both in cc);
      next = (
        behind.0,
        cell_of_screen panel values message keep (first + size) (within (first + size) (at_end (first + size))) ∙ ap Some behind.1,
      );
    }
