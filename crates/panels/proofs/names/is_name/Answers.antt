use Rattle.std.proofs.Common.{rules, tests, ◌≡◌}
use Rattle.std.specs.List.{list_all}
use Rattle.std.proofs.lemmas.Iterator.Adapters.{YieldsList-from_bytes}
use Rattle.std.proofs.lemmas.Iterator.Search.{all_from_yields_List}
use Rattle.panels.specs.Walk.{is_letter_of}
use Rattle.panels.proofs.names.is_name.Goals as goal

pub returns-then-contains : goal.returns-then-contains
returns-then-contains c =
    let letters : c.all.result ≡ list_all (is_letter_of c.args.part) c.args.name.now =
    all_from_yields_List (is_letter_of c.args.part) _ _ _ c.all.ensures.ran (YieldsList-from_bytes c.args.name.now (search rules)) (λ x b q k. search (rules, tests)) in
    search (rules, tests, letters)
