-- The fields' values, put on the screen that leaves the fields as they are.
use Rattle.std.proofs.Common.{◌≡◌, ◌<◌, ◌∙◌, ℕ, true, false, List, [], ◌∷◌, Option, Some, None, get_or, refl, ap, sym, subst}
use Rattle.std.specs.Prelude.{is_some, option_map, unwrap_or}
use Rattle.std.specs.Option.{option_or}
use Rattle.std.proofs.lemmas.Bool.{false≢true}
use Rattle.codes3270.specs.Size.{cells_in}
use Rattle.datastream.specs.Wanted.{WantedScreen}
use Rattle.datastream.specs.declared.wanted.Want.{Want}
use Rattle.datastream.specs.declared.wanted.Want.TheVariants as want
use Rattle.panels.specs.declared.message.Message.{Message}
use Rattle.panels.specs.declared.panel.Field.{Field}
use Rattle.panels.specs.declared.panel.TextItem.{TextItem}
use Rattle.panels.specs.Size.{message_start}
use Rattle.panels.specs.Panel.{PanelParts, size_of}
use Rattle.panels.specs.Put.{IsPut}
use Rattle.panels.specs.Screen.{Values, distance_in, field_attr, field_content, item_cell, kept_cell, first_some, text_cell, field_cell, message_cell, stopper_cell, wanted_cell, screen_of}
use Rattle.panels.proofs.Putting.{over, still}
use Rattle.panels.proofs.Screens.{cell_seen}

-- ---- the same fields have a cell, whether they are kept or not

either : (f g : ℕ → Want) (distance : Option ℕ) (one other : Option Want) → is_some one ≡ is_some other
    → is_some (option_or (option_map f distance) one) ≡ is_some (option_or (option_map g distance) other)
either f g None one other same = same
either f g (Some n) one other same = refl

same_fields : (values : Values) (message : Message) (cell : ℕ) (fields : List Field)
    → is_some (first_some (field_cell values message true cell) fields) ≡ is_some (first_some (field_cell values message false cell) fields)
same_fields values message cell [] = refl
same_fields values message cell (field ∷ fields) =
    either (kept_cell (field_attr values message true field)) (item_cell (field_attr values message false field) (field_content values message field)) (distance_in field.extent cell)
    (first_some (field_cell values message true cell) fields) (first_some (field_cell values message false cell) fields) (same_fields values message cell fields)

-- ---- so what was put on them shows no more

covered : (texts kept put : Option Want) (under : Want) → is_some kept ≡ is_some put
    → unwrap_or texts (unwrap_or put (unwrap_or texts (unwrap_or kept under))) ≡ unwrap_or texts (unwrap_or put under)
covered (Some text) kept put under same = refl
covered None kept (Some want) under same = refl
covered None None None under same = refl
covered None (Some want) None under same = absurd (false≢true (sym same))

pub values_put : (panel : PanelParts) (values : Values) (message : Message) (texts : List TextItem) (fields : List Field) (base one two : WantedScreen)
    → base ≡ screen_of panel values message true → texts ≡ panel.texts → fields ≡ panel.fields
    → IsPut (λ cell. first_some (field_cell values message false cell) fields) base one → IsPut (λ cell. first_some (text_cell values cell) texts) one two
    → (cell : ℕ) (default : Want) → cell < cells_in (size_of panel) → get_or two.cells cell default ≡ wanted_cell panel values message false cell
values_put panel values message texts fields base one two kept same_texts same_list inputs labels cell default within =
    let whole : base.size ≡ size_of panel = ap (λ (screen : WantedScreen). screen.size) kept in
    let below : cell < cells_in base.size = subst (λ s. cell < cells_in s) (sym whole) within in
    let shown = first_some (text_cell values cell) panel.texts in
    let left = first_some (field_cell values message true cell) panel.fields in
    let put = first_some (field_cell values message false cell) panel.fields in
    let behind = option_or (message_cell (message_start (size_of panel)) panel.fields message cell) (first_some (stopper_cell cell) panel.fields) in
    let under : Want = unwrap_or behind (want.Char 0) in
    let before : get_or base.cells cell default ≡ unwrap_or shown (unwrap_or left under) =
    ap (λ (screen : WantedScreen). get_or screen.cells cell default) kept ∙ cell_seen panel values message true cell default within
    ∙ over shown (option_or left behind) (want.Char 0) ∙ ap (unwrap_or shown) (over left behind (want.Char 0)) in
    let first : get_or one.cells cell default ≡ unwrap_or put (unwrap_or shown (unwrap_or left under)) =
    inputs.1 cell default below ∙ ap (λ fs. unwrap_or (first_some (field_cell values message false cell) fs) (get_or base.cells cell default)) same_list
    ∙ ap (unwrap_or put) before in
    labels.1 cell default (still one base cell inputs.0 below)
    ∙ ap (λ ts. unwrap_or (first_some (text_cell values cell) ts) (get_or one.cells cell default)) same_texts
    ∙ ap (unwrap_or shown) first ∙ covered shown left put under (same_fields values message cell panel.fields)
    ∙ sym (over shown (option_or put behind) (want.Char 0) ∙ ap (unwrap_or shown) (over put behind (want.Char 0)))
