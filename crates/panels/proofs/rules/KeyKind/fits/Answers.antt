use Rattle.std.proofs.Common.{rules, tests, ◌∙◌, ap}
use Rattle.std.specs.List.{list_all}
use Rattle.std.proofs.lemmas.Iterator.{YieldsList-from_slice}
use Rattle.std.proofs.lemmas.Iterator.Search.{all_from_yields_List}
use Rattle.toml.specs.View.{view}
use Rattle.toml.specs.declared.value.Value.{the_lemmas}
use Rattle.toml.proofs.Views.{view-Array}
use Rattle.panels.specs.TableRules.{is_table, is_text}
use Rattle.panels.proofs.Trees.{fits_tables, fits_texts}
use Rattle.panels.proofs.rules.KeyKind.fits.Goals as goal

pub returns-in-Texts-Array : goal.returns-in-Texts-Array
returns-in-Texts-Array c =
    all_from_yields_List (λ value. is_text (view value)) _ _ _ c.all.ensures.ran (YieldsList-from_slice c.deref.result.now cc) (λ x b q k. search (rules, tests))
    ∙ ap (list_all (λ value. is_text (view value))) c.deref.ensures.value
    ∙ fits_texts c.args.self _ c.in-Texts-Array.values.items (search rules) (search (rules, the_lemmas, view-Array))

pub returns-in-Tables-Array : goal.returns-in-Tables-Array
returns-in-Tables-Array c =
    all_from_yields_List (λ value. is_table (view value)) _ _ _ c.all-in-Tables-Array.ensures.ran (YieldsList-from_slice c.deref-in-Tables-Array.result.now cc) (λ x b q k. search (rules, tests))
    ∙ ap (list_all (λ value. is_table (view value))) c.deref-in-Tables-Array.ensures.value
    ∙ fits_tables c.args.self _ c.in-Tables-Array.values.items (search rules) (search (rules, the_lemmas, view-Array))
