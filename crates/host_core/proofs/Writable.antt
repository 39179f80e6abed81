-- What panels ask for are screens, each cell of which can hold what is wanted of it, where panels and values are of characters.
use Rattle.std.proofs.Common.{◌≡◌, ◌==◌, nat_lt, ◌≤◌, ◌-◌, ◌+◌, arith, ℕ, zero, suc, Bool, true, false, not, Option, None, Some, List, [], ◌∷◌, map, refl, IfSome, IsTrue, if◌then◌else◌}
use Rattle.std.specs.Prelude.{⊤, codes, slice_get, slice_index_or, option_map, unwrap_or}
use Rattle.std.specs.List.{All, range_with_len}
use Rattle.std.specs.Option.{option_or, option_map_or}
use Rattle.std.specs.BTreeMap.{is_at}
use Rattle.std.specs.Ordering.{nat_cmp}
use Rattle.std.proofs.lemmas.Bool.{and_parts}
use Rattle.std.proofs.lemmas.List.Elements.{All-append, All-nil, All-head, All-tail, All-map}
use Rattle.std.proofs.lemmas.List.FromFn.{length-map-range_with_len}
use Rattle.std.proofs.lemmas.Map.Views.{IfSome-lookup_from_All}
use Rattle.codes3270.specs.CodePage.{code_of}
use Rattle.codes3270.specs.Size.{alternate_of, cells_in, most_cells}
use Rattle.codes3270.specs.declared.size.Model.{Model}
use Rattle.codes3270.specs.declared.size.Model.TheVariants.{M2, M3, M4, M5}
use Rattle.codes3270.specs.Storable.{is_storable}
use Rattle.codes3270.specs.declared.attribute.Attr.{Attr}
use Rattle.datastream.specs.Wanted.{IsProper, IsScreen}
use Rattle.datastream.specs.declared.wanted.Want.{Want}
use Rattle.datastream.specs.declared.wanted.Want.TheVariants as want
use Rattle.panels.proofs.Codes.{character_of_code}
use Rattle.panels.specs.Characters.{is_character, AreCharacters}
use Rattle.panels.proofs.Putting.{cursor_within}
use Rattle.panels.specs.Panel.{PanelParts, HasCharacters, IsLaidOut, IsOfCharacters, size_of}
use Rattle.panels.specs.Screen.{Values, distance_in, item_cell, kept_cell, autoskip_attr, shown, text_cell, is_fresh, field_attr, field_content, field_cell, stopper_cell, coded, field_numbered, message_text, message_cell, first_some, wanted_cell, screen_of}
use Rattle.panels.specs.Size.{message_start}
use Rattle.panels.specs.Values.{value_of}
use Rattle.panels.specs.declared.message.Message.{Message}
use Rattle.panels.specs.declared.message.Message.TheVariants.{Fresh, Plain, KeyNotActive, Required, Told}
use Rattle.panels.specs.declared.panel.Content.{Content}
use Rattle.panels.specs.declared.panel.Content.TheVariants.{Literal, Show}
use Rattle.panels.specs.declared.panel.Field.{Field}
use Rattle.panels.specs.declared.panel.TextItem.{TextItem}
use Rattle.host_core.specs.Application.{AreTexts, no_panel, panel_at}
use Rattle.host_core.specs.Laws.{PanelsAskForScreens}
use Rattle.host_core.proofs.Showing.{at_panel, laid_out_at}

-- ---- texts

-- what stands in a text, or behind it a null, can be stored
abbrev IsStored : ℕ → Type 0
IsStored byte = IsTrue (is_storable byte)

abbrev AreStorable : List ℕ → Type 0
AreStorable text = All IsStored text

stored_at : (text : List ℕ) (index : ℕ) → AreStorable text → IsTrue (is_storable (slice_index_or text index 0))
stored_at [] index each = refl
stored_at (byte ∷ text) zero each = All-head IsStored byte text each
stored_at (byte ∷ text) (suc index) each = stored_at text index (All-tail IsStored byte text each)

storable_characters : (text : List ℕ) → AreCharacters text → AreStorable text
storable_characters text each = λ k d below. is_stored (slice_index_or text k d) (each k d below)
  where
    is_stored : (byte : ℕ) → IsTrue (is_character byte) → IsTrue (is_storable byte)
    is_stored byte h = (and_parts (is_storable byte) (not (byte == 0)) h).0

-- a value is characters, or there is none
value_stored : (values : Values) (number : ℕ) (other : List ℕ) → AreTexts values → AreCharacters other → AreCharacters (unwrap_or (value_of values number) other)
value_stored values number other texts is = by_value (value_of values number) (IfSome-lookup_from_All AreCharacters (is_at (nat_cmp number)) values texts)
  where
    by_value : (value : Option (List ℕ)) → IfSome value AreCharacters → AreCharacters (unwrap_or value other)
    by_value None h = is
    by_value (Some value) h = h

-- a character without a code becomes a null
code_stored : (character : ℕ) → IsStored (unwrap_or (code_of character) 0)
code_stored character = by_code (code_of character) refl
  where
    by_code : (code : Option ℕ) → code_of character ≡ code → IsStored (unwrap_or code 0)
    by_code None e = refl
    by_code (Some byte) e = (and_parts (is_storable byte) (not (byte == 0)) (character_of_code character byte e)).0

coded_stored : (text : List ℕ) → AreStorable (coded text)
coded_stored text = All-map IsStored (λ character. unwrap_or (code_of character) 0) text (λ k d below. code_stored (slice_index_or text k d))

abbrev HaveTitles : List Field → Type 0
HaveTitles fields = All (λ (field : Field). AreCharacters field.title) fields

titled : (b : Bool) (field : Field) (rest : Option Field) → AreStorable field.title → AreStorable (option_map_or (λ (field : Field). field.title) rest [])
    → AreStorable (option_map_or (λ (field : Field). field.title) (if b then Some field else rest) [])
titled true field rest own others = own
titled false field rest own others = others

title_stored : (number : ℕ) (fields : List Field) → HaveTitles fields → AreStorable (option_map_or (λ (field : Field). field.title) (field_numbered number fields) [])
title_stored number [] titles = All-nil IsStored
title_stored number (field ∷ fields) titles =
    titled (field.number == number) field (field_numbered number fields)
    (storable_characters field.title (All-head (λ (field : Field). AreCharacters field.title) field fields titles))
    (title_stored number fields (All-tail (λ (field : Field). AreCharacters field.title) field fields titles))

message_stored : (fields : List Field) (message : Message) → HaveTitles fields → AreStorable (message_text fields message)
message_stored fields Fresh titles = All-nil IsStored
message_stored fields Plain titles = All-nil IsStored
message_stored fields (Told text cursor) titles = coded_stored text.characters
message_stored fields KeyNotActive titles = coded_stored (codes "KEY NOT ACTIVE")
message_stored fields (Required number) titles =
    All-append IsStored (coded (codes "REQUIRED: ")) (option_map_or (λ (field : Field). field.title) (field_numbered number fields) [])
    (coded_stored (codes "REQUIRED: ")) (title_stored number fields titles)

shown_characters : (values : Values) (content : Content) → AreTexts values → HasCharacters content → AreCharacters (shown values content)
shown_characters values (Literal text) texts is = is
shown_characters values (Show number) texts is = value_stored values number [] texts (All-nil (λ byte. IsTrue (is_character byte)))

content_characters : (values : Values) (message : Message) (field : Field) → AreTexts values → AreCharacters field.fill → AreCharacters (field_content values message field)
content_characters values message field texts fill = by_test (is_fresh message)
  where
    by_test : (b : Bool) → AreCharacters (if b then field.fill else unwrap_or (value_of values field.number) field.fill)
    by_test true = fill
    by_test false = value_stored values field.number field.fill texts fill

-- ---- cells

abbrev CanBeHeld : Option Want → Type 0
CanBeHeld cell = IfSome cell IsProper

or_held : (first second : Option Want) → CanBeHeld first → CanBeHeld second → CanBeHeld (option_or first second)
or_held None second f s = s
or_held (Some cell) second f s = f

any_held : {X : Type 0} (P : X → Type 0) (find : X → Option Want) → ((x : X) → P x → CanBeHeld (find x)) → (xs : List X) → All P xs → CanBeHeld (first_some find xs)
any_held P find each [] all = tt
any_held P find each (x ∷ xs) all = or_held (find x) (first_some find xs) (each x (All-head P x xs all)) (any_held P find each xs (All-tail P x xs all))

held_or_null : (cell : Option Want) → CanBeHeld cell → IsProper (unwrap_or cell (want.Char 0))
held_or_null None h = refl
held_or_null (Some cell) h = h

item_held : (attr : Attr) (content : List ℕ) (distance : ℕ) → AreStorable content → IsProper (item_cell attr content distance)
item_held attr content distance each = by_test (distance == 0)
  where
    by_test : (b : Bool) → IsProper (if b then want.Attr attr else want.Char (slice_index_or content (distance - 1) 0))
    by_test true = refl
    by_test false = stored_at content (distance - 1) each

items_held : (attr : Attr) (content : List ℕ) (distance : Option ℕ) → AreStorable content → CanBeHeld (option_map (item_cell attr content) distance)
items_held attr content None each = tt
items_held attr content (Some distance) each = item_held attr content distance each

kept_held : (attr : Attr) (distance : Option ℕ) → CanBeHeld (option_map (kept_cell attr) distance)
kept_held attr None = tt
kept_held attr (Some distance) = by_test (distance == 0)
  where
    by_test : (b : Bool) → IsProper (if b then want.Attr attr else want.Keep)
    by_test true = refl
    by_test false = refl

text_held : (values : Values) (cell : ℕ) (text : TextItem) → AreTexts values → HasCharacters text.content → CanBeHeld (text_cell values cell text)
text_held values cell text texts is =
    items_held (autoskip_attr text.bright) (shown values text.content) (distance_in text.extent cell) (storable_characters _ (shown_characters values text.content texts is))

field_held : (values : Values) (message : Message) (keep : Bool) (cell : ℕ) (field : Field) → AreTexts values → AreCharacters field.fill → CanBeHeld (field_cell values message keep cell field)
field_held values message true cell field texts fill = kept_held (field_attr values message true field) (distance_in field.extent cell)
field_held values message false cell field texts fill =
    items_held (field_attr values message false field) (field_content values message field) (distance_in field.extent cell)
    (storable_characters _ (content_characters values message field texts fill))

stopper_held : (cell : ℕ) (field : Field) → CanBeHeld (stopper_cell cell field)
stopper_held cell field = by_test (cell == field.extent.first + field.extent.length)
  where
    by_test : (b : Bool) → CanBeHeld (if b then Some (want.Attr (autoskip_attr false)) else None)
    by_test true = refl
    by_test false = tt

message_held : (start : ℕ) (fields : List Field) (message : Message) (cell : ℕ) → HaveTitles fields → CanBeHeld (message_cell start fields message cell)
message_held start fields message cell titles = by_test (nat_lt cell start)
  where
    by_test : (b : Bool) → CanBeHeld (if b then None else Some (item_cell (autoskip_attr true) (message_text fields message) (cell - start)))
    by_test true = tt
    by_test false = item_held (autoskip_attr true) (message_text fields message) (cell - start) (message_stored fields message titles)

cell_held : (panel : PanelParts) (values : Values) (message : Message) (keep : Bool) (cell : ℕ) → IsOfCharacters panel → AreTexts values → IsProper (wanted_cell panel values message keep cell)
cell_held panel values message keep cell is texts =
    held_or_null _
    (or_held (first_some (text_cell values cell) panel.texts) _
    (any_held (λ text. HasCharacters text.content) (text_cell values cell) (λ text has. text_held values cell text texts has) panel.texts is.texts)
    (or_held (first_some (field_cell values message keep cell) panel.fields) _
    (any_held (λ field. AreCharacters field.fill) (field_cell values message keep cell) (λ field fill. field_held values message keep cell field texts fill) panel.fields is.fills)
    (or_held (message_cell (message_start (size_of panel)) panel.fields message cell) (first_some (stopper_cell cell) panel.fields)
    (message_held (message_start (size_of panel)) panel.fields message cell is.titles)
    (any_held (λ field. ⊤) (stopper_cell cell) (λ field it. stopper_held cell field) panel.fields (λ k d below. tt)))))

-- ---- screens

all_held : (cell_of : ℕ → Want) → ((cell : ℕ) → IsProper (cell_of cell)) → (cells : List ℕ) → All IsProper (map cell_of cells)
all_held cell_of each cells = All-map IsProper cell_of cells (λ k d below. each (slice_index_or cells k d))

few : (model : Model) → cells_in (alternate_of model) ≤ most_cells
few M2 = omega arith
few M3 = omega arith
few M4 = omega arith
few M5 = omega arith

asks : (panel : PanelParts) (values : Values) (message : Message) (keep : Bool) → AreTexts values → IsLaidOut panel → IsOfCharacters panel → IsScreen (screen_of panel values message keep)
asks panel values message keep texts laid is = record {
  size = length-map-range_with_len (wanted_cell panel values message keep) 0 (cells_in (size_of panel));
  few = few panel.model;
  proper = all_held (wanted_cell panel values message keep) (λ cell. cell_held panel values message keep cell is texts) (range_with_len 0 (cells_in (size_of panel)));
  cursor_in_range = cursor_within panel message laid;
}

no_characters : IsOfCharacters no_panel
no_characters = record {
  texts = All-nil (λ text. HasCharacters text.content);
  fills = All-nil (λ field. AreCharacters field.fill);
  titles = All-nil (λ field. AreCharacters field.title);
}

pub panels_ask : PanelsAskForScreens
panels_ask set laid is number values message keep texts =
    asks (panel_at set number) values message keep texts (laid_out_at set number laid)
    (at_panel IsOfCharacters (slice_get set.panels number) no_characters (is number))
