use Rattle.std.proofs.Common.{rules, tests, ◌∙◌}
use Rattle.std.proofs.lemmas.Iterator.{YieldsList-from_slice}
use Rattle.std.proofs.lemmas.Iterator.Search.{any_from_yields_List}
use Rattle.toml.specs.View.{table_view}
use Rattle.panels.specs.TableRules.{is_missing}
use Rattle.panels.specs.Rules.{rule_of}
use Rattle.panels.proofs.Trees.{any_map}
use Rattle.panels.proofs.rules.any_key_absent.Goals as goal

pub returns : goal.returns
returns c =
    any_from_yields_List (λ rule. is_missing (rule_of rule) (table_view c.args.table.now)) _ _ _ c.any.ensures.ran (YieldsList-from_slice c.args.rules.now cc) (λ x b q k. search (rules, tests))
    ∙ any_map (λ rule. is_missing rule (table_view c.args.table.now)) rule_of c.args.rules.now
