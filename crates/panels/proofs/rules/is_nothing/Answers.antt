use Rattle.std.proofs.Common.{rules, ◌∙◌}
use Rattle.toml.specs.declared.value.Value.{the_lemmas}
use Rattle.toml.proofs.Views.{view-Array}
use Rattle.panels.proofs.Trees.{lacks_tables}
use Rattle.panels.proofs.rules.is_nothing.Goals as goal

pub returns-in-Tables-Some-Array : goal.returns-in-Tables-Some-Array
returns-in-Tables-Some-Array c = search rules ∙ lacks_tables c.args.kind _ c.in-Tables-Some-Array.values.items (search rules) (search (rules, the_lemmas, view-Array))
