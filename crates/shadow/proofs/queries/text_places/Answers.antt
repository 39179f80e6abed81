use Rattle.std.proofs.Common.{ap, sym, ◌∙◌}
use Rattle.shadow.specs.Queries.{value_of}
use Rattle.shadow.proofs.Placed.{exact_held, any_held}
use Rattle.shadow.proofs.queries.text_places.Goals as goal

pub returns-then-all_known : goal.returns-then-all_known
returns-then-all_known c =
    rw (c.in-Cells.is, ← c.ahead.ensures.beliefs) (sym (ap value_of (exact_held c.ahead.result (sym c.all_known.ensures ∙ c.if-all_known.true))))

pub returns-else-all_known : goal.returns-else-all_known
returns-else-all_known c =
    rw (c.in-Cells.is, ← c.ahead.ensures.beliefs) (sym (ap value_of (any_held c.ahead.result (sym c.all_known.ensures ∙ c.if-all_known.false))))
