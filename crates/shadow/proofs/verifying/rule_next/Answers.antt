use Rattle.std.proofs.Common.{◌+◌, ◌++◌, ◌∙◌, ap, sym, drop, get_or, List, ℕ}
use Rattle.codes3270.specs.declared.attribute.Cell.{Cell}
use Rattle.shadow.specs.declared.cell_belief.CellBelief.TheVariants.{Unknown}
use Rattle.shadow.specs.Runs.{rule_at, rule_next}
use Rattle.shadow.proofs.Reading.{read_text}
use Rattle.shadow.proofs.verifying.rule_next.Goals as goal

pub returns-in-Some-clause-rule : goal.returns-in-Some-clause-rule
returns-in-Some-clause-rule c =
    let whole = c.args.beliefs.now in
    let n : ℕ = c.args.place in
    c.rule_broken.ensures
    ∙ ap (rule_at n (get_or whole n Unknown) c.in-Some.cell (drop (n + 1) whole ++ whole)) (read_text c.next.new.self c.args.whole.now)
    ∙ ap (λ (cells : List Cell). rule_next whole n cells c.args.whole.now) (sym c.in-Some.ensures.steps)
