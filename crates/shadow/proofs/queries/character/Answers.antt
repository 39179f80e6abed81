use Rattle.std.proofs.Common.{ap, sym, ◌∙◌, List}
use Rattle.std.specs.Prelude.{slice_get}
use Rattle.shadow.specs.Queries.{value_of}
use Rattle.shadow.specs.Belief.{Fact}
use Rattle.shadow.specs.InPlace.{chars_known, known_text}
use Rattle.shadow.specs.declared.cell_belief.CellBelief.{CellBelief}
use Rattle.shadow.proofs.Placed.{exact_held, any_held}
use Rattle.shadow.proofs.queries.character.Goals as goal

pub returns-then-all_known : goal.returns-then-all_known
returns-then-all_known c =
    let same = c.ahead-then-all_known.ensures.beliefs ∙ sym c.ahead.ensures.beliefs in
    let index = c.args.index in
    rw (c.in-Cells.is, ← c.ahead.ensures.beliefs)
    (c.known_char.ensures
    ∙ ap (λ (ahead : List CellBelief). slice_get (known_text (chars_known ahead)) index) same
    ∙ sym (ap (λ (fact : Fact). slice_get (value_of fact) index) (exact_held c.ahead.result (sym c.all_known.ensures ∙ c.if-all_known.true))))

pub returns-else-all_known : goal.returns-else-all_known
returns-else-all_known c =
    let index = c.args.index in
    rw (c.in-Cells.is, ← c.ahead.ensures.beliefs)
    (sym (ap (λ (fact : Fact). slice_get (value_of fact) index) (any_held c.ahead.result (sym c.all_known.ensures ∙ c.if-all_known.false))))
