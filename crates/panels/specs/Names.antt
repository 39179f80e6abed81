-- The panels, fields and values that have a name (our profile).
use Rattle.std.specs.Prelude.{ℕ, List, Option, option_map, find, bytes_eq, position}
use Rattle.std.specs.Option.{option_or}
use Rattle.panels.specs.declared.panel.Field.{Field}
use Rattle.panels.specs.declared.panel.Value.{Value}
use Rattle.panels.specs.Panel.{Panels, PanelParts}
use Rattle.panels.specs.Screen.{first_some}

-- the index of the panel with a name
abbrev pub panel_named : List ℕ → Panels → Option ℕ
panel_named name set = position (λ panel. bytes_eq panel.name name) set.panels

-- the field of this panel with a name
abbrev pub field_in : List ℕ → PanelParts → Option Field
field_in name panel = find (λ field. bytes_eq field.name name) panel.fields

-- the value of this panel with a name
abbrev pub value_in : List ℕ → PanelParts → Option Value
value_in name panel = find (λ value. bytes_eq value.name name) panel.values

-- the number of the field or value of this panel with a name
abbrev pub number_in : List ℕ → PanelParts → Option ℕ
number_in name panel = option_or (option_map (λ field. field.number) (field_in name panel))
    (option_map (λ value. value.number) (value_in name panel))

-- the number of the field or value with a name, of any panel
abbrev pub number_named : List ℕ → Panels → Option ℕ
number_named name set = first_some (number_in name) set.panels

-- the field with a name, of any panel
abbrev pub field_named : List ℕ → Panels → Option Field
field_named name set = first_some (field_in name) set.panels
