-- Which keys each table of a panel text has, and the types of their values (our profile).
use Rattle.std.specs.Prelude.{codes, ℕ, Bool, true, false, not, ◌&&◌, List, [], ◌∷◌, Option, Some, None, is_some, option_map, bytes_eq, ℤ, pos, if◌then◌else◌}
use Rattle.std.specs.Ordering.{int_eq}
use Rattle.std.specs.List.{list_any}
use Rattle.std.specs.Int.{is_in_range}
use Rattle.toml.specs.Data as tree
use Rattle.toml.specs.Data.{Data, Items, no_items, item, Members, no_members, member, get_member, as_integer, as_str, as_table}
use Rattle.panels.specs.declared.fault.TreeFault.{TreeFault}
use Rattle.panels.specs.declared.fault.TreeFault.TheVariants.{UnknownKey, Missing, BadKind}
use Rattle.panels.specs.declared.rules.KeyKind.{KeyKind}
use Rattle.panels.specs.declared.rules.KeyKind.TheVariants as kind
use Rattle.panels.specs.Limits.{most_copies}
use Rattle.panels.specs.Tree.{has_key, keys}

abbrev pub is_text : Data → Bool
is_text value = is_some (as_str value)

abbrev pub is_table : Data → Bool
is_table value = is_some (as_table value)

abbrev pub all_items : (Data → Bool) → Items → Bool
all_items test no_items = true
all_items test (item value values) = test value && all_items test values

abbrev pub all_values : (Data → Bool) → Members → Bool
all_values test no_members = true
all_values test (member key value more) = test value && all_values test more

-- the number of copies that an integer asks for: itself, if it is from 1 to 42
abbrev pub count_of : ℤ → Option ℕ
count_of (pos number) = if is_in_range 1 most_copies number then Some number else None
count_of _ = None

-- whether a value has a type
abbrev pub is_of_kind : KeyKind → Data → Bool
is_of_kind kind.Text (tree.string text) = true
is_of_kind kind.Integer (tree.integer number) = true
is_of_kind kind.Count (tree.integer number) = is_some (count_of number)
is_of_kind kind.Truth (tree.boolean truth) = true
is_of_kind kind.Texts (tree.array values) = all_items is_text values
is_of_kind kind.Tables (tree.array values) = all_items is_table values
is_of_kind kind.Table (tree.table table) = true
is_of_kind _ _ = false

-- a rule for a key of a table: the type of its value, and whether the table must have it
pub record Rule : Type 0 where
  pub key : List ℕ
  pub kind : KeyKind
  pub needed : Bool

abbrev pub must : List ℕ → KeyKind → Rule
must key kind = record { key = key; kind = kind; needed = true }

abbrev pub may : List ℕ → KeyKind → Rule
may key kind = record { key = key; kind = kind; needed = false }

abbrev pub top_rules : List Rule
top_rules = must (codes "start") kind.Text ∷ must (codes "lus") kind.Texts ∷ must (codes "panel") kind.Tables ∷ []

-- the rules for what a panel of any model may have, beside its name, its model and its `otherwise`
abbrev pub content_rules : List Rule
content_rules = may (codes "cursor") kind.Text ∷ may (codes "text") kind.Tables ∷ may (codes "field") kind.Tables
    ∷ may (codes "value") kind.Tables ∷ may (codes "asks") kind.Texts ∷ may (codes "keys") kind.Table ∷ []

-- the rules for a panel of model 2, which any session shows
abbrev pub base_rules : List Rule
base_rules = must (codes "name") kind.Text ∷ may (codes "model") kind.Integer ∷ content_rules

-- the rules for a panel of another model, which names the panel for all other sessions
abbrev pub alternate_rules : List Rule
alternate_rules = must (codes "name") kind.Text ∷ may (codes "model") kind.Integer ∷ must (codes "otherwise") kind.Text
    ∷ content_rules

-- the rules for a panel whose model isn't known, as its `model` is no integer
abbrev pub unclear_rules : List Rule
unclear_rules = must (codes "name") kind.Text ∷ may (codes "model") kind.Integer ∷ may (codes "otherwise") kind.Text
    ∷ content_rules

-- the rules for a panel: None is no `model`, Some None a `model` that is no integer
abbrev pub rules_by_model : Option (Option ℤ) → List Rule
rules_by_model None = base_rules
rules_by_model (Some None) = unclear_rules
rules_by_model (Some (Some number)) = if int_eq number (pos 2) then base_rules else alternate_rules

abbrev pub panel_rules : Members → List Rule
panel_rules table = rules_by_model (option_map as_integer (get_member (codes "model") table))

abbrev pub literal_rules : List Rule
literal_rules =
    must (codes "row") kind.Integer ∷ must (codes "col") kind.Integer ∷ must (codes "text") kind.Text
    ∷ may (codes "bright") kind.Truth ∷ may (codes "repeat") kind.Count ∷ []

abbrev pub show_rules : List Rule
show_rules =
    must (codes "row") kind.Integer ∷ must (codes "col") kind.Integer ∷ must (codes "show") kind.Text
    ∷ must (codes "length") kind.Integer
    ∷ may (codes "bright") kind.Truth ∷ may (codes "repeat") kind.Count ∷ []

abbrev pub field_rules : List Rule
field_rules =
    must (codes "name") kind.Text ∷ must (codes "row") kind.Integer ∷ must (codes "col") kind.Integer
    ∷ must (codes "length") kind.Integer
    ∷ may (codes "fill") kind.Text ∷ may (codes "numeric") kind.Truth ∷ may (codes "hidden") kind.Truth
    ∷ may (codes "required") kind.Truth
    ∷ may (codes "marked") kind.Truth ∷ may (codes "label") kind.Text ∷ may (codes "repeat") kind.Count ∷ []

abbrev pub value_rules : List Rule
value_rules =
    must (codes "name") kind.Text ∷ must (codes "row") kind.Integer ∷ must (codes "col") kind.Integer
    ∷ must (codes "length") kind.Integer
    ∷ may (codes "bright") kind.Truth ∷ may (codes "repeat") kind.Count ∷ []

-- the rules for a text item: for one with its own text, or for one that shows a field
abbrev pub text_rules : Members → List Rule
text_rules table = if has_key (codes "text") table then literal_rules else show_rules

abbrev pub is_known : List Rule → List ℕ → Bool
is_known rules key = list_any (λ rule. bytes_eq rule.key key) rules

-- whether some key of the table has no rule
abbrev pub breaks_keys : List Rule → Members → Bool
breaks_keys rules table = list_any (λ key. not (is_known rules key)) (keys table)

-- whether a value is absent, or is an empty array although the rule asks for tables
abbrev pub is_lacking : KeyKind → Option Data → Bool
is_lacking kind None = true
is_lacking kind.Tables (Some (tree.array no_items)) = true
is_lacking kind (Some value) = false

-- whether the table must have the rule's key, and lacks it
abbrev pub is_missing : Rule → Members → Bool
is_missing rule table = rule.needed && is_lacking rule.kind (get_member rule.key table)

-- whether some key that the table must have is absent
abbrev pub breaks_needs : List Rule → Members → Bool
breaks_needs rules table = list_any (λ rule. is_missing rule table) rules

abbrev pub is_misfit : KeyKind → Option Data → Bool
is_misfit kind None = false
is_misfit kind (Some value) = not (is_of_kind kind value)

-- whether some key's value has another type than its rule says
abbrev pub breaks_kinds : List Rule → Members → Bool
breaks_kinds rules table = list_any (λ rule. is_misfit rule.kind (get_member rule.key table)) rules

-- what is wrong with a table's keys and values: the first of these faults
abbrev pub wrong_by : List Rule → Members → Option TreeFault
wrong_by rules table =
    if breaks_keys rules table then Some UnknownKey
    else if breaks_needs rules table then Some Missing
    else if breaks_kinds rules table then Some BadKind
    else None

-- what is wrong with a panel's table of keys: some value in it is no text
abbrev pub wrong_in_keys : Members → Option TreeFault
wrong_in_keys table = if all_values is_text table then None else Some BadKind
