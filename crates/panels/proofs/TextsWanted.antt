-- Each screen that a panel asks for has each text of the panel.
use Rattle.std.proofs.Common.{◌≡◌, ◌<◌, ◌≤◌, ◌+◌, ◌-◌, ◌∙◌, ℕ, Bool, true, Some, ap, arith, inl, inr, sym}
use Rattle.std.specs.Prelude.{slice_get, is_some}
use Rattle.std.specs.Option.{option_or}
use Rattle.std.proofs.lemmas.Option.{same_Some}
use Rattle.codes3270.specs.Size.{cells_in}
use Rattle.datastream.specs.declared.wanted.Want.{Want}
use Rattle.datastream.specs.declared.wanted.Want.TheVariants as want
use Rattle.panels.specs.declared.message.Message.{Message}
use Rattle.panels.specs.declared.panel.TextItem.{TextItem}
use Rattle.panels.specs.KeptFields.{TextsAreWritten}
use Rattle.panels.specs.Panel.{PanelParts, IsAbove, IsCellOf, HasItemsApart, size_of}
use Rattle.panels.specs.Screen.{Values, autoskip_attr, distance_in, field_cell, first_some, item_cell, message_cell, shown, stopper_cell, text_cell, wanted_cell}
use Rattle.panels.specs.Size.{message_start}
use Rattle.panels.proofs.Answering.{Answers, first_answers, first_is_some, left_answers, left_is_some, mapped_is_some, taken_answer}
use Rattle.panels.proofs.KeptFields.{distance_there, item_answer, three}
use Rattle.panels.proofs.Placing.{all_at, cells_some, start_before_end}
use Rattle.panels.proofs.Screens.{cell_of_screen}

-- the cells of a text
abbrev cells_of_text : Values → TextItem → ℕ → Want
cells_of_text values text = item_cell (autoskip_attr text.bright) (shown values text.content)

abbrev cell_of_text : Values → ℕ → TextItem → Want
cell_of_text values cell text = cells_of_text values text (cell + 1 - text.extent.first)

only_text : (panel : PanelParts) (i j cell : ℕ) (text other : TextItem) → HasItemsApart panel → slice_get panel.texts i ≡ Some text → slice_get panel.texts j ≡ Some other
    → IsCellOf text.extent cell → IsCellOf other.extent cell → other ≡ text
only_text panel i j cell text other apart at_i at_j has other_has =
    elim (three i j) [
      | inl less ↦ absurd (apart.texts i j text other less at_i at_j cell has other_has)
      | inr rest ↦
          elim rest [
            | inl more ↦ absurd (apart.texts j i other text more at_j at_i cell other_has has)
            | inr same ↦ same_Some other text (sym at_j ∙ ap (slice_get panel.texts) (sym same) ∙ at_i)
          ]
    ]

text_answers : (panel : PanelParts) (values : Values) (i cell : ℕ) (text : TextItem) → HasItemsApart panel → slice_get panel.texts i ≡ Some text → IsCellOf text.extent cell
    → Answers (λ w. w ≡ cell_of_text values cell text) (first_some (text_cell values cell) panel.texts)
text_answers panel values i cell text apart at_i has =
    first_answers (λ w. w ≡ cell_of_text values cell text) (text_cell values cell) panel.texts (λ j other at_j w is.
    let (other_has, w_is) = item_answer other.extent (cells_of_text values other) cell w is in
    w_is ∙ ap (cell_of_text values cell) (only_text panel i j cell text other apart at_i at_j has other_has))

text_is_some : (panel : PanelParts) (values : Values) (i cell : ℕ) (text : TextItem) → slice_get panel.texts i ≡ Some text → IsCellOf text.extent cell
    → is_some (first_some (text_cell values cell) panel.texts) ≡ true
text_is_some panel values i cell text at_i has =
    first_is_some (text_cell values cell) panel.texts i text at_i
    (mapped_is_some (cells_of_text values text) (distance_in text.extent cell) (cell + 1 - text.extent.first) (distance_there text.extent cell has))

wanted_of_text : (panel : PanelParts) (values : Values) (message : Message) (keep : Bool) (i cell : ℕ) (text : TextItem) → HasItemsApart panel → slice_get panel.texts i ≡ Some text → IsCellOf text.extent cell
    → wanted_cell panel values message keep cell ≡ cell_of_text values cell text
wanted_of_text panel values message keep i cell text apart at_i has =
    let texts = first_some (text_cell values cell) panel.texts in
    let behind =
    option_or (first_some (field_cell values message keep cell) panel.fields)
    (option_or (message_cell (message_start (size_of panel)) panel.fields message cell) (first_some (stopper_cell cell) panel.fields)) in
    let there = text_is_some panel values i cell text at_i has in
    taken_answer (λ w. w ≡ cell_of_text values cell text) (option_or texts behind) (want.Char 0) (left_is_some texts behind there)
    (left_answers (λ w. w ≡ cell_of_text values cell text) texts behind there (text_answers panel values i cell text apart at_i has))

within : (cell first size start cells : ℕ) → cell + 1 ≤ first + size → first + size ≤ start → start < cells → cell < cells
within cell first size start cells below above before = omega arith

pub texts_written : TextsAreWritten
texts_written panel values message keep i text cell apart laid at_i has =
    let above = all_at (λ (text : TextItem). IsAbove (size_of panel) text.extent) panel.texts i text laid.texts at_i in
    let there = within cell text.extent.first text.extent.length (message_start (size_of panel)) (cells_in (size_of panel)) has.1 above (start_before_end (size_of panel) (cells_some panel.model)) in
    cell_of_screen panel values message keep cell there ∙ ap Some (wanted_of_text panel values message keep i cell text apart at_i has)
