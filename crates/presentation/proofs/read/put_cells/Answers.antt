use Rattle.std.proofs.Common.{◌≡◌, ◌-◌, ◌<◌, ◌≤◌, ◌∙◌, ◌++◌, ℕ, List, false, length, take, drop, ap, sym, arith}
use Rattle.std.specs.List.{flat_map}
use Rattle.std.proofs.lemmas.List.{append-nil, drop_all}
use Rattle.std.proofs.lemmas.Result.{err_from_is_err_and}
use Rattle.codes3270.specs.declared.attribute.Cell.{Cell}
use Rattle.codes3270.proofs.Appendings.{appending_more, appending_stopped, appending_last}
use Rattle.datastream.specs.Inbound.{cell_bytes}
use Rattle.datastream.specs.Screen.{is_char_at}
use Rattle.presentation.proofs.Steps.{run_between, attribute_between, attribute_stands}
use Rattle.presentation.proofs.read.put_cells.Goals as goal

pub between-requires-clause-order : goal.between-requires-clause-order
between-requires-clause-order c = omega (arith, c.loop-attr.invariant.next)

pub returns-in_err-put_few : goal.returns-in_err-put_few
returns-in_err-put_few c =
    let failed = err_from_is_err_and c.from_residual.result c.from_residual.ensures.1 in
    let split = run_between c.args.cells.now c.codes-codes.result.now c.loop-attr.from c.loop-attr.attr c.codes-codes.ensures.codes c.loop-attr.invariant.next in
    let before = rw (split, ← c.between.ensures) at c.loop-attr.invariant.so_far in
    rw failed.1 (appending_stopped _ _ _ _ _ _ _ _ before c.in_err-put_few.ensures)

pub returns-in_err-put_attribute : goal.returns-in_err-put_attribute
returns-in_err-put_attribute c =
    let cells : List Cell = c.args.cells.now in
    let failed = err_from_is_err_and c.from_residual-in_err-put_attribute.result c.from_residual-in_err-put_attribute.ensures.1 in
    let below : c.loop-attr.attr < length cells = omega (arith, c.loop-attr-test.true, c.codes-codes.ensures.len) in
    let split = run_between cells c.codes-codes.result.now c.loop-attr.from c.loop-attr.attr c.codes-codes.ensures.codes c.loop-attr.invariant.next in
    let before = rw (split, ← c.between.ensures) at c.loop-attr.invariant.so_far in
    let more = appending_more _ _ _ _ _ _ _ before c.in_ok-put_few.ensures in
    let stands : is_char_at cells c.loop-attr.attr ≡ false = attribute_stands cells c.loop-attr.from c.loop-attr.attr c.loop-attr.invariant.next below in
    let then = rw (attribute_between cells c.codes-codes.result.now c.loop-attr.attr c.byte_at.result c.codes-codes.ensures.codes below stands c.byte_at.ensures) at more in
    rw failed.1 (appending_stopped _ _ _ _ _ _ _ _ then c.in_err-put_attribute.ensures)

pub loop-attr-preserved : goal.loop-attr-preserved
loop-attr-preserved c =
    let cells : List Cell = c.args.cells.now in
    let below : c.loop-attr.attr < length cells = omega (arith, c.loop-attr-test.true, c.codes-codes.ensures.len) in
    let split = run_between cells c.codes-codes.result.now c.loop-attr.from c.loop-attr.attr c.codes-codes.ensures.codes c.loop-attr.invariant.next in
    let before = rw (split, ← c.between.ensures) at c.loop-attr.invariant.so_far in
    let more = appending_more _ _ _ _ _ _ _ before c.in_ok-put_few.ensures in
    let stands : is_char_at cells c.loop-attr.attr ≡ false = attribute_stands cells c.loop-attr.from c.loop-attr.attr c.loop-attr.invariant.next below in
    let then = rw (attribute_between cells c.codes-codes.result.now c.loop-attr.attr c.byte_at.result c.codes-codes.ensures.codes below stands c.byte_at.ensures) at more in
    record {
      so_far = appending_more _ _ _ _ _ _ _ then c.in_ok-put_attribute.ensures;
      next = c.attribute_from-attr-in-loop-attr.ensures.place;
      within = c.attribute_from-attr-in-loop-attr.ensures.within;
    }

pub returns : goal.returns
returns c =
    let cells : List Cell = c.args.cells.now in
    let codes : List ℕ = c.codes-codes.result.now in
    let end : length cells ≤ c.loop-attr.attr = omega (arith, c.loop-attr-test.false, c.codes-codes.ensures.len) in
    let whole : c.loop-attr.attr ≡ length codes = omega (arith, end, c.loop-attr.invariant.within, c.codes-codes.ensures.len) in
    let split = run_between cells codes c.loop-attr.from c.loop-attr.attr c.codes-codes.ensures.codes c.loop-attr.invariant.next in
    let last : flat_map cell_bytes (drop c.loop-attr.from cells) ≡ c.between-2.result.now =
    split ∙ ap (λ (rest : List Cell). take (c.loop-attr.attr - c.loop-attr.from) (drop c.loop-attr.from codes) ++ flat_map cell_bytes rest) (drop_all c.loop-attr.attr cells end)
    ∙ append-nil (take (c.loop-attr.attr - c.loop-attr.from) (drop c.loop-attr.from codes))
    ∙ ap (λ (to : ℕ). take (to - c.loop-attr.from) (drop c.loop-attr.from codes)) whole
    ∙ sym c.between-2.ensures in
    let before = rw last at c.loop-attr.invariant.so_far in
    appending_last _ _ _ _ _ _ before c.put_few-2.ensures
