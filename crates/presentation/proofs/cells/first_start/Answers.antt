use Rattle.std.proofs.Common.{◌≡◌, true, get_or, sym, ◌∙◌, ap, arith}
use Rattle.std.proofs.lemmas.List.{drop_more, drop_all}
use Rattle.codes3270.specs.declared.attribute.Cell.{Cell}
use Rattle.codes3270.specs.declared.attribute.Cell.TheVariants.{Char}
use Rattle.datastream.specs.Meaning.{is_start}
use Rattle.presentation.proofs.Starts.{first_start_is}
use Rattle.presentation.proofs.cells.first_start.Goals as goal

pub returns-then-is_start_behind-clause-place : goal.returns-then-is_start_behind-clause-place
returns-then-is_start_behind-clause-place c =
    let cells = c.args.cells.now in
    let here : Cell = c.get-cell.result in
    let start : is_start (c.loop-place.before, get_or cells c.loop-place.place here) ≡ true =
    ap (λ (cell : Cell). is_start (c.loop-place.before, cell)) (sym c.get-cell.ensures) ∙ sym c.is_start_behind.ensures ∙ c.if-is_start_behind.true in
    rw (first_start_is cells (Char 0) c.requires, ← c.loop-place.invariant, drop_more cells c.loop-place.place here (omega (arith, c.loop-place-test.true, c.len-count.ensures.len)), start)

pub returns-clause-place : goal.returns-clause-place
returns-clause-place c =
    let cells = c.args.cells.now in
    rw (first_start_is cells (Char 0) c.requires, ← c.loop-place.invariant, drop_all c.loop-place.place cells (omega (arith, c.loop-place-test.false, c.len-count.ensures.len)))
