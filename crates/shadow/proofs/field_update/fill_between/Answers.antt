use Rattle.std.proofs.Common.{ap, sym, ◌∙◌, ◌++◌, take, drop}
use Rattle.shadow.specs.declared.field_update.FieldUpdate.{FieldUpdate}
use Rattle.shadow.specs.Filled.{fill_of, front_filled}
use Rattle.shadow.proofs.Walks.{same_filled}
use Rattle.shadow.proofs.field_update.fill_between.Goals as goal

pub returns-in-Same : goal.returns-in-Same
returns-in-Same c =
    let ps = c.args.beliefs.now in
    same_filled c.args.from ps ∙ ap (λ (f : FieldUpdate). take c.args.from ps ++ front_filled (fill_of f) (drop c.args.from ps)) (sym c.in-Same.is)
