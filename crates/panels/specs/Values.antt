-- What fields and values have, by their numbers (our profile).
use Rattle.std.specs.Prelude.{◌<◌, ⊤, ℕ, List, [], ◌∷◌, length, Option, None, Some}
use Rattle.std.specs.Map.{lookup, remove_entry}
use Rattle.std.specs.BTreeMap.{insert_entry, is_at}
use Rattle.std.specs.Ordering.{nat_cmp}
use Rattle.panels.specs.declared.panel.Field.{Field}
use Rattle.panels.specs.declared.panel.Value.{Value}

-- the value of the field with a number, if it has one
abbrev pub value_of : List (ℕ × List ℕ) → ℕ → Option (List ℕ)
value_of values field = lookup (is_at (nat_cmp field)) values

-- the values after a text, if there is one, is set for a field
abbrev pub set_if : ℕ → Option (List ℕ) → List (ℕ × List ℕ) → List (ℕ × List ℕ)
set_if field None values = values
set_if field (Some text) values = insert_entry nat_cmp values field text

-- the values after each of others is set
abbrev pub with_values : List (ℕ × List ℕ) → List (ℕ × List ℕ) → List (ℕ × List ℕ)
with_values values [] = values
with_values values (other ∷ others) = with_values (insert_entry nat_cmp values other.0 other.1) others

-- the values without those of some fields
abbrev pub without_fields : List Field → List (ℕ × List ℕ) → List (ℕ × List ℕ)
without_fields [] values = values
without_fields (field ∷ fields) values = without_fields fields (remove_entry (is_at (nat_cmp field.number)) values)

-- the values of a connection without those that these values of a panel have
abbrev pub without_values : List Value → List (ℕ × List ℕ) → List (ℕ × List ℕ)
without_values [] values = values
without_values (shown ∷ more) values = without_values more (remove_entry (is_at (nat_cmp shown.number)) values)

-- holds if a text needs more memory than a field's value has: there is no value yet, or a shorter one
abbrev pub HasToGrow : Option (List ℕ) → List ℕ → Type 0
HasToGrow None text = ⊤
HasToGrow (Some value) text = length value < length text
