use Rattle.std.proofs.Common.{rules, tests, ◌≡◌, ◌∙◌, ap, not, map, Some, None, cond}
use Rattle.std.proofs.lemmas.Iterator.Consumers.{YieldsList-from_rest}
use Rattle.std.proofs.lemmas.Iterator.Search.{all_from_yields_List}
use Rattle.toml.specs.View.{view, table_view}
use Rattle.panels.specs.declared.fault.TreeFault.TheVariants.{BadKind}
use Rattle.panels.specs.TableRules.{all_values, is_text}
use Rattle.panels.proofs.Trees.{all_values_view, unless_all}
use Rattle.panels.proofs.decode.wrong_keys.Goals as goal

pub returns : goal.returns
returns c =
    let are : c.all-are_texts.result ≡ all_values is_text (table_view c.args.keys.now) =
    all_from_yields_List (λ value. is_text (view value)) _ _ _ c.all-are_texts.ensures.ran
    (YieldsList-from_rest {shows = λ x. x.now} (map (λ entry. entry.1) c.args.keys.now.entries) (search rules)) (λ x b q k. search (rules, tests))
    ∙ all_values_view is_text _ in
    let told : c.then_some.result ≡ cond (not c.all-are_texts.result) (Some BadKind) None = search rules in
    told ∙ unless_all c.all-are_texts.result BadKind ∙ ap (λ b. cond b None (Some BadKind)) are
