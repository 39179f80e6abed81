-- The values of a table's keys (our profile).
use Rattle.std.specs.Prelude.{ℕ, ℤ, pos, Bool, false, List, [], ◌∷◌, Option, option_and_then, is_some, unwrap_or}
use Rattle.toml.specs.Data as tree
use Rattle.toml.specs.Data.{Items, no_items, item, Members, no_members, member, get_member, as_array, as_str, as_integer, as_bool, as_table}

abbrev pub has_key : List ℕ → Members → Bool
has_key key table = is_some (get_member key table)

-- the text at a key
abbrev pub text_under : List ℕ → Members → Option (List ℕ)
text_under key table = option_and_then as_str (get_member key table)

-- the text at a key; empty if there is none
abbrev pub text_or_empty : List ℕ → Members → List ℕ
text_or_empty key table = unwrap_or (text_under key table) []

-- the integer at a key
abbrev pub number_under : List ℕ → Members → Option ℤ
number_under key table = option_and_then as_integer (get_member key table)

-- the integer at a key; 0 if there is none
abbrev pub number : List ℕ → Members → ℤ
number key table = unwrap_or (number_under key table) (pos 0)

abbrev pub is_set : List ℕ → Members → Bool
is_set key table = unwrap_or (option_and_then as_bool (get_member key table)) false

-- the table at a key
abbrev pub table_under : List ℕ → Members → Option Members
table_under key table = option_and_then as_table (get_member key table)

-- the values of the array at a key; none if there is no array
abbrev pub items_under : List ℕ → Members → Items
items_under key table = unwrap_or (option_and_then as_array (get_member key table)) no_items

-- the tables in an array, and the texts in it; values of other types are left out
abbrev pub tables_in : Items → List Members
tables_in no_items = []
tables_in (item (tree.table table) values) = table ∷ tables_in values
tables_in (item _ values) = tables_in values

abbrev pub texts_in : Items → List (List ℕ)
texts_in no_items = []
texts_in (item (tree.string text) values) = text ∷ texts_in values
texts_in (item _ values) = texts_in values

-- the keys of a table; and its texts, each with its key
abbrev pub keys : Members → List (List ℕ)
keys no_members = []
keys (member key value more) = key ∷ keys more

abbrev pub texts_by_key : Members → List (List ℕ × List ℕ)
texts_by_key no_members = []
texts_by_key (member key (tree.string text) more) = (key, text) ∷ texts_by_key more
texts_by_key (member key _ more) = texts_by_key more
