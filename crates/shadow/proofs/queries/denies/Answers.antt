use Rattle.std.proofs.Common.{ap, sym, ◌∙◌, List, not}
use Rattle.std.specs.Prelude.{bytes_eq}
use Rattle.datastream.specs.Inbound.{without_nulls}
use Rattle.shadow.specs.Belief.{Fact}
use Rattle.shadow.specs.Heard.{denies}
use Rattle.shadow.specs.InPlace.{chars_known, known_text}
use Rattle.shadow.specs.declared.cell_belief.CellBelief.{CellBelief}
use Rattle.shadow.proofs.Placed.{exact_held, any_held}
use Rattle.shadow.proofs.queries.denies.Goals as goal

pub returns-then-all_known : goal.returns-then-all_known
returns-then-all_known c =
    let same = c.ahead-then-all_known.ensures.beliefs ∙ sym c.ahead.ensures.beliefs in
    let text = c.args.text.now in
    rw (c.in-Cells.is, ← c.ahead.ensures.beliefs)
    (ap not (c.are_text.ensures
    ∙ ap (λ (ahead : List CellBelief). bytes_eq (without_nulls (known_text (chars_known ahead))) text) same)
    ∙ sym (ap (λ (fact : Fact). denies fact text) (exact_held c.ahead.result (sym c.all_known.ensures ∙ c.if-all_known.true))))

pub returns-else-all_known : goal.returns-else-all_known
returns-else-all_known c =
    let text = c.args.text.now in
    rw (c.in-Cells.is, ← c.ahead.ensures.beliefs)
    (c.if-all_known.false ∙ sym (ap (λ (fact : Fact). denies fact text) (any_held c.ahead.result (sym c.all_known.ensures ∙ c.if-all_known.false))))
