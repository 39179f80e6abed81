-- A screen that a panel asks for keeps nothing but its fields.
use Rattle.std.proofs.Common.{◌≡◌, ◌==◌, ◌<◌, ◌≤◌, ◌+◌, ◌-◌, ◌∙◌, ℕ, Bool, true, false, cond, List, refl, sym, arith}
use Rattle.std.specs.Prelude.{nat_lt, slice_index_or}
use Rattle.std.specs.Option.{option_or}
use Rattle.std.proofs.lemmas.Bool.Decides.{nat_tests}
use Rattle.std.proofs.lemmas.Option.{same_Some}
use Rattle.codes3270.specs.declared.attribute.Attr.{Attr}
use Rattle.datastream.specs.declared.wanted.Want.{Want}
use Rattle.datastream.specs.declared.wanted.Want.TheVariants as want
use Rattle.panels.specs.declared.message.Message.{Message}
use Rattle.panels.specs.declared.panel.Field.{Field}
use Rattle.panels.specs.Size.{message_start}
use Rattle.panels.specs.Panel.{PanelParts, size_of}
use Rattle.panels.specs.Screen.{Values, item_cell, autoskip_attr, shown, text_cell, field_attr, field_content, kept_cell, field_cell, stopper_cell, message_text, message_cell, first_some, wanted_cell}
use Rattle.panels.specs.KeptFields.{IsOfField, NothingElseIsKept}
use Rattle.panels.proofs.Answering.{Answers, or_answers, first_answers, none_given, taken_or}
use Rattle.panels.proofs.Screens.{cell_of_screen, cell_within}
use Rattle.panels.proofs.KeptFields.{item_answer, stopper_answers}

attr_or_char : (b : Bool) (attr : Attr) (byte : ℕ) → cond b (want.Attr attr) (want.Char byte) ≡ want.Keep → ⊥
attr_or_char true attr byte is = cc
attr_or_char false attr byte is = cc

item_keeps_nothing : (attr : Attr) (content : List ℕ) (distance : ℕ) → item_cell attr content distance ≡ want.Keep → ⊥
item_keeps_nothing attr content distance is = attr_or_char (distance == 0) attr (slice_index_or content (distance - 1) 0) is

attr_or_keep : (b : Bool) (attr : Attr) → cond b (want.Attr attr) want.Keep ≡ want.Keep → b ≡ false
attr_or_keep true attr is = cc
attr_or_keep false attr is = refl

field_keeps : (keep : Bool) (attr : Attr) (content : List ℕ) (distance : ℕ) → (cond keep (kept_cell attr) (item_cell attr content)) distance ≡ want.Keep
    → (keep ≡ true) × ((distance == 0) ≡ false)
field_keeps true attr content distance is = (refl, attr_or_keep (distance == 0) attr is)
field_keeps false attr content distance is = absurd (item_keeps_nothing attr content distance is)

behind_attribute : (first size cell : ℕ) → cell + 1 ≤ first + size → ((cell + 1 - first) == 0) ≡ false → (first ≤ cell) × (cell < first + size)
behind_attribute first size cell high some = grind (arith, nat_tests)

abbrev KeepsField : PanelParts → Bool → ℕ → Want → Type 0
KeepsField panel keep cell w = w ≡ want.Keep → (keep ≡ true) × IsOfField panel cell

texts_keep : (panel : PanelParts) (values : Values) (keep : Bool) (cell : ℕ) → Answers (KeepsField panel keep cell) (first_some (text_cell values cell) panel.texts)
texts_keep panel values keep cell =
    first_answers (KeepsField panel keep cell) (text_cell values cell) panel.texts (λ j text at_j w is kept.
    let (has, w_is) = item_answer text.extent (item_cell (autoskip_attr text.bright) (shown values text.content)) cell w is in
    absurd (item_keeps_nothing (autoskip_attr text.bright) (shown values text.content) (cell + 1 - text.extent.first) (sym w_is ∙ kept)))

abbrev either_cell : Values → Message → Bool → Field → ℕ → Want
either_cell values message keep field = cond keep (kept_cell (field_attr values message keep field)) (item_cell (field_attr values message keep field) (field_content values message field))

fields_keep : (panel : PanelParts) (values : Values) (message : Message) (keep : Bool) (cell : ℕ)
    → Answers (KeepsField panel keep cell) (first_some (field_cell values message keep cell) panel.fields)
fields_keep panel values message keep cell =
    first_answers (KeepsField panel keep cell) (field_cell values message keep cell) panel.fields (λ j field at_j w is kept.
    let (has, w_is) = item_answer field.extent (either_cell values message keep field) cell w is in
    let (keeps, some) = field_keeps keep (field_attr values message keep field) (field_content values message field) (cell + 1 - field.extent.first) (sym w_is ∙ kept) in
    (keeps, (j, field, at_j, behind_attribute field.extent.first field.extent.length cell has.1 some)))

message_keeps : (panel : PanelParts) (message : Message) (keep : Bool) (cell : ℕ) → Answers (KeepsField panel keep cell) (message_cell (message_start (size_of panel)) panel.fields message cell)
message_keeps panel message keep cell = λ w is kept.
    let start = message_start (size_of panel) in
    let (not_before, w_is) = none_given (nat_lt cell start) (item_cell (autoskip_attr true) (message_text panel.fields message) (cell - start)) w is in
    absurd (item_keeps_nothing (autoskip_attr true) (message_text panel.fields message) (cell - start) (w_is ∙ kept))

attr_is_not_keep : (attr : Attr) → want.Attr attr ≡ want.Keep → ⊥
attr_is_not_keep attr is = cc

null_is_not_keep : want.Char 0 ≡ want.Keep → ⊥
null_is_not_keep is = cc

stoppers_keep : (panel : PanelParts) (keep : Bool) (cell : ℕ) → Answers (KeepsField panel keep cell) (first_some (stopper_cell cell) panel.fields)
stoppers_keep panel keep cell = λ w is kept.
    let attribute = stopper_answers cell panel.fields w is in
    absurd (attr_is_not_keep attribute.0 (sym attribute.1 ∙ kept))

wanted_keeps : (panel : PanelParts) (values : Values) (message : Message) (keep : Bool) (cell : ℕ) → KeepsField panel keep cell (wanted_cell panel values message keep cell)
wanted_keeps panel values message keep cell =
    let texts = first_some (text_cell values cell) panel.texts in
    let fields = first_some (field_cell values message keep cell) panel.fields in
    let row = message_cell (message_start (size_of panel)) panel.fields message cell in
    let stoppers = first_some (stopper_cell cell) panel.fields in
    taken_or (KeepsField panel keep cell) (option_or texts (option_or fields (option_or row stoppers))) (want.Char 0) (λ is. absurd (null_is_not_keep is))
    (or_answers (KeepsField panel keep cell) texts (option_or fields (option_or row stoppers)) (texts_keep panel values keep cell)
    (or_answers (KeepsField panel keep cell) fields (option_or row stoppers) (fields_keep panel values message keep cell)
    (or_answers (KeepsField panel keep cell) row stoppers (message_keeps panel message keep cell) (stoppers_keep panel keep cell))))

pub nothing_else_kept : NothingElseIsKept
nothing_else_kept panel values message keep cell is =
    wanted_keeps panel values message keep cell
    (same_Some (wanted_cell panel values message keep cell) want.Keep (sym (cell_of_screen panel values message keep cell (cell_within panel values message keep cell want.Keep is)) ∙ is))
