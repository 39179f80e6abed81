-- Drafts: what the tables of a panel text say, by the types of their keys, before faults are looked for (our profile).
use Rattle.std.specs.Prelude.{codes, decimal, ◌&&◌, ◌||◌, ℕ, ◌+◌, ◌==◌, ℤ, pos, Bool, true, false, not, is_some, List, [], ◌∷◌, ◌++◌, length, map, Option, Some, None, option_and_then, chars, unwrap_or, position, take, drop, if◌then◌else◌}
use Rattle.std.specs.List.{range_with_len}
use Rattle.std.specs.Ordering.{int_eq}
use Rattle.codes3270.specs.Size.{ScreenSize, alternate_of}
use Rattle.toml.specs.Data.{Members, no_members, as_array, get_member}
use Rattle.panels.specs.declared.fault.TreeFault.{TreeFault}
use Rattle.panels.specs.Size.{model_numbered}
use Rattle.panels.specs.TableRules.{count_of, wrong_by, top_rules, panel_rules, text_rules, field_rules, value_rules, wrong_in_keys}
use Rattle.panels.specs.Tree.{has_key, text_under, text_or_empty, number_under, number, is_set, table_under, items_under, tables_in, texts_in, texts_by_key}

-- A text, a field or a value of a panel, or one of its copies: what is wrong with the keys of its table, and what they
-- have; what is absent is 0, false or no text. `index` is that of its table among those of texts, of fields, or of
-- values. `copy` is its index among the copies, None if there is no `repeat`. `stem` is what `name` has, to which a
-- copy's name adds its number. `named`: it has a name; `placed`: it has a row, a column and a length; `shows`: it names
-- what it shows.
pub record DraftItem : Type 0 where
  pub wrong : Option TreeFault
  pub index : ℕ
  pub copy : Option ℕ
  pub is_value : Bool
  pub named : Bool
  pub placed : Bool
  pub shows : Bool
  pub row : ℤ
  pub column : ℤ
  pub size : ℤ
  pub text : Option (List ℕ)
  pub show : List ℕ
  pub stem : List ℕ
  pub name : List ℕ
  pub label : List ℕ
  pub fill : List ℕ
  pub bright : Bool
  pub numeric : Bool
  pub hidden : Bool
  pub required : Bool
  pub marked : Bool

-- A panel. `model` is 2 if there is none. `otherwise` is the name of the panel that is shown instead in a session of
-- another model, empty if there is none. `asks` has the names of the keys that the application decides on, and perhaps
-- `connect`; `keys` has those in its table of keys, each with the name of the panel that it leads to. Each copy of a
-- text is one of `texts`. Each copy of a field is one of `fields`, and after these each copy of a value. `named`: it has
-- a name; `sized`: its `model` is absent, or an integer; `replaced`: it has an `otherwise`.
pub record DraftPanel : Type 0 where
  pub wrong : Option TreeFault
  pub named : Bool
  pub sized : Bool
  pub replaced : Bool
  pub name : List ℕ
  pub model : ℤ
  pub otherwise : List ℕ
  pub cursor : Option (List ℕ)
  pub texts : List DraftItem
  pub fields : List DraftItem
  pub asks : List (List ℕ)
  pub wrong_keys : Option TreeFault
  pub keys : List (List ℕ × List ℕ)

-- `starts`: the text has a `start`; `has_lus`: it has an array of LUs
pub record DraftText : Type 0 where
  pub wrong : Option TreeFault
  pub starts : Bool
  pub has_lus : Bool
  pub start : List ℕ
  pub lus : List (List ℕ)
  pub panels : List DraftPanel

-- the number of a panel's fields: of the items before the first value
abbrev pub field_count : List DraftItem → ℕ
field_count items = unwrap_or (position (λ item. item.is_value) items) (length items)

-- a panel's fields, and its values
abbrev pub fields_of : DraftPanel → List DraftItem
fields_of panel = take (field_count panel.fields) panel.fields

abbrev pub values_of : DraftPanel → List DraftItem
values_of panel = drop (field_count panel.fields) panel.fields

-- the size of the screen on which a panel is laid out: the alternate size of its model
abbrev pub draft_size : DraftPanel → ScreenSize
draft_size panel = alternate_of (model_numbered panel.model)

-- the name of the panel that is shown instead in a session of another model; None for model 2, which any session shows
abbrev pub otherwise_of : DraftPanel → Option (List ℕ)
otherwise_of panel = if int_eq panel.model (pos 2) then None else Some panel.otherwise

-- the number of characters of an item: that of its text, or the value at `length`
abbrev pub size_by : Option (List ℕ) → ℤ → ℤ
size_by (Some text) size = pos (length (chars text))
size_by None size = size

-- whether a table has a string, an integer or an array at a key
abbrev pub has_text : List ℕ → Members → Bool
has_text key table = is_some (text_under key table)

abbrev pub has_number : List ℕ → Members → Bool
has_number key table = is_some (number_under key table)

abbrev pub has_array : List ℕ → Members → Bool
has_array key table = is_some (option_and_then as_array (get_member key table))

-- whether the table of an item has its row, its column, and its length or text
abbrev pub has_place : Members → Bool
has_place table = has_number (codes "row") table && (has_number (codes "col") table
    && (has_text (codes "text") table || has_number (codes "length") table))

-- whether the `model` in the table of a panel is absent, or an integer
abbrev pub has_sound_model : Members → Bool
has_sound_model table = not (has_key (codes "model") table) || has_number (codes "model") table

-- the name of a copy: `amount.1` is that of the first copy of `amount`
abbrev pub name_of_copy : List ℕ → Option ℕ → List ℕ
name_of_copy stem None = stem
name_of_copy stem (Some copy) = stem ++ (codes "." ++ decimal (copy + 1))

-- what messages call a field: its label, or its name if it has none
abbrev pub title_of : DraftItem → List ℕ
title_of item = if length item.label == 0 then item.name else item.label

abbrev pub item_by : Option TreeFault → Bool → ℕ → Members → Option ℕ → DraftItem
item_by wrong is_value index table copy = record {
  wrong = wrong;
  index = index;
  copy = copy;
  is_value = is_value;
  named = has_text (codes "name") table;
  placed = has_place table;
  shows = has_text (codes "show") table;
  row = number (codes "row") table;
  column = number (codes "col") table;
  size = size_by (text_under (codes "text") table) (number (codes "length") table);
  text = text_under (codes "text") table;
  show = name_of_copy (text_or_empty (codes "show") table) copy;
  stem = text_or_empty (codes "name") table;
  name = name_of_copy (text_or_empty (codes "name") table) copy;
  label = text_or_empty (codes "label") table;
  fill = text_or_empty (codes "fill") table;
  bright = is_set (codes "bright") table;
  numeric = is_set (codes "numeric") table;
  hidden = is_set (codes "hidden") table;
  required = is_set (codes "required") table;
  marked = is_set (codes "marked") table;
}

-- the copies of an item, each with its index; without `repeat` one item that is no copy
abbrev pub copies_by : Option ℕ → List (Option ℕ)
copies_by None = None ∷ []
copies_by (Some count) = map Some (range_with_len 0 count)

-- the number of copies that a table asks for, if it has `repeat`
abbrev pub repeat_of : Members → Option ℕ
repeat_of table = option_and_then count_of (number_under (codes "repeat") table)

abbrev pub copies_of : Members → List (Option ℕ)
copies_of table = copies_by (repeat_of table)

abbrev pub text_items : ℕ → Members → List DraftItem
text_items index table = map (item_by (wrong_by (text_rules table) table) false index table) (copies_of table)

abbrev pub field_items : ℕ → Members → List DraftItem
field_items index table = map (item_by (wrong_by field_rules table) false index table) (copies_of table)

abbrev pub value_items : ℕ → Members → List DraftItem
value_items index table = map (item_by (wrong_by value_rules table) true index table) (copies_of table)

-- the items of tables, of which the first has an index
abbrev pub items_from : (ℕ → Members → List DraftItem) → ℕ → List Members → List DraftItem
items_from items index [] = []
items_from items index (table ∷ tables) = items index table ++ items_from items (index + 1) tables

abbrev pub panel_of : Members → DraftPanel
panel_of table = record {
  wrong = wrong_by (panel_rules table) table;
  named = has_text (codes "name") table;
  sized = has_sound_model table;
  replaced = has_text (codes "otherwise") table;
  name = text_or_empty (codes "name") table;
  model = unwrap_or (number_under (codes "model") table) (pos 2);
  otherwise = text_or_empty (codes "otherwise") table;
  cursor = text_under (codes "cursor") table;
  texts = items_from text_items 0 (tables_in (items_under (codes "text") table));
  fields = items_from field_items 0 (tables_in (items_under (codes "field") table))
      ++ items_from value_items 0 (tables_in (items_under (codes "value") table));
  asks = texts_in (items_under (codes "asks") table);
  wrong_keys = wrong_in_keys (unwrap_or (table_under (codes "keys") table) no_members);
  keys = texts_by_key (unwrap_or (table_under (codes "keys") table) no_members);
}

abbrev pub draft_of : Members → DraftText
draft_of top = record {
  wrong = wrong_by top_rules top;
  starts = has_text (codes "start") top;
  has_lus = has_array (codes "lus") top;
  start = text_or_empty (codes "start") top;
  lus = texts_in (items_under (codes "lus") top);
  panels = map panel_of (tables_in (items_under (codes "panel") top));
}
