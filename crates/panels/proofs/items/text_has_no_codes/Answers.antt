use Rattle.std.proofs.Common.{rules, tests}
use Rattle.std.proofs.lemmas.Iterator.{YieldsList-from_chars}
use Rattle.std.proofs.lemmas.Iterator.Search.{any_from_yields_List}
use Rattle.panels.specs.Items.{has_no_code}
use Rattle.panels.proofs.items.text_has_no_codes.Goals as goal

pub returns : goal.returns
returns c =
    any_from_yields_List has_no_code _ _ _ c.any.ensures.ran (YieldsList-from_chars c.args.text.now (search rules) (search rules)) (λ x b q k. search (rules, tests))
