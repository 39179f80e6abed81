use Rattle.std.proofs.Common.{rules, tests, ◌≡◌, ◌∙◌, refl, sym, map, not, string_bytes}
use Rattle.std.proofs.lemmas.Iterator.Consumers.{YieldsList-from_rest}
use Rattle.std.proofs.lemmas.Iterator.Search.{any_from_yields_List}
use Rattle.toml.specs.View.{table_view}
use Rattle.panels.specs.TableRules.{breaks_keys, is_known}
use Rattle.panels.specs.Rules.{rule_of}
use Rattle.panels.proofs.Trees.{any_key_view}
use Rattle.panels.proofs.rules.wrong_by.Goals as goal

pub returns-then-any : goal.returns-then-any
returns-then-any c =
    let unknown : c.any.result ≡ breaks_keys (map rule_of c.args.rules.now) (table_view c.args.table.now) =
    any_from_yields_List (λ key. not (is_known (map rule_of c.args.rules.now) (string_bytes key))) _ _ _ c.any.ensures.ran
    (YieldsList-from_rest {shows = λ x. x.now} (map (λ entry. entry.0) c.args.table.now.entries) (search rules)) (λ x b q k. search (rules, tests))
    ∙ any_key_view (λ key. not (is_known (map rule_of c.args.rules.now) key)) _ in
    rw (sym unknown ∙ c.if-any.true) refl

pub returns-then-any_key_absent : goal.returns-then-any_key_absent
returns-then-any_key_absent c =
    let unknown : c.any.result ≡ breaks_keys (map rule_of c.args.rules.now) (table_view c.args.table.now) =
    any_from_yields_List (λ key. not (is_known (map rule_of c.args.rules.now) (string_bytes key))) _ _ _ c.any.ensures.ran
    (YieldsList-from_rest {shows = λ x. x.now} (map (λ entry. entry.0) c.args.table.now.entries) (search rules)) (λ x b q k. search (rules, tests))
    ∙ any_key_view (λ key. not (is_known (map rule_of c.args.rules.now) key)) _ in
    rw (sym unknown ∙ c.if-any.false) (search rules)

pub returns-then-any_value_misfits : goal.returns-then-any_value_misfits
returns-then-any_value_misfits c =
    let unknown : c.any.result ≡ breaks_keys (map rule_of c.args.rules.now) (table_view c.args.table.now) =
    any_from_yields_List (λ key. not (is_known (map rule_of c.args.rules.now) (string_bytes key))) _ _ _ c.any.ensures.ran
    (YieldsList-from_rest {shows = λ x. x.now} (map (λ entry. entry.0) c.args.table.now.entries) (search rules)) (λ x b q k. search (rules, tests))
    ∙ any_key_view (λ key. not (is_known (map rule_of c.args.rules.now) key)) _ in
    rw (sym unknown ∙ c.if-any.false) (search rules)

pub returns-else-any_value_misfits : goal.returns-else-any_value_misfits
returns-else-any_value_misfits c =
    let unknown : c.any.result ≡ breaks_keys (map rule_of c.args.rules.now) (table_view c.args.table.now) =
    any_from_yields_List (λ key. not (is_known (map rule_of c.args.rules.now) (string_bytes key))) _ _ _ c.any.ensures.ran
    (YieldsList-from_rest {shows = λ x. x.now} (map (λ entry. entry.0) c.args.table.now.entries) (search rules)) (λ x b q k. search (rules, tests))
    ∙ any_key_view (λ key. not (is_known (map rule_of c.args.rules.now) key)) _ in
    rw (sym unknown ∙ c.if-any.false) (search rules)
