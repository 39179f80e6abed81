use Rattle.std.proofs.Common.{List, get_or, ap, ◌∙◌}
use Rattle.std.proofs.lemmas.List.{get_or-replicate}
use Rattle.codes3270.specs.Size.{cells_in}
use Rattle.datastream.specs.declared.wanted.Want.{Want}
use Rattle.datastream.specs.declared.wanted.Want.TheVariants.{Char}
use Rattle.panels.proofs.panel.Panel.put_wanted.Goals as goal

pub put_items-requires-clause-nulls : goal.put_items-requires-clause-nulls
put_items-requires-clause-nulls c = λ cell default below.
    ap (λ (cells : List Want). get_or cells cell default) c.requires.nulls ∙ get_or-replicate (cells_in c.args.wanted.now.size) cell (Char 0) default below
