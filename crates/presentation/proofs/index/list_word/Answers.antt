use Rattle.std.proofs.Common.{◌+◌, ◌*◌, ◌++◌, ℕ, List, take, ap, ◌∙◌, arith}
use Rattle.std.proofs.lemmas.List.{length-set}
use Rattle.codes3270.specs.declared.attribute.Cell.{Cell}
use Rattle.presentation.proofs.WordPlaces.{within, onward, none_left, next_listed, next_rest}
use Rattle.presentation.proofs.index.list_word.Goals as goal

pub overflow_add-places : goal.overflow_add-places
overflow_add-places c =
    let l = c.lowest_in-place in
    let below = within c.args._cells.now c.args.word c.loop-bits.bits c.loop-bits.from c.loop-bits.invariant.rest l.result l.ensures.within l.ensures.set l.ensures.clear in
    omega (arith, below, c.requires.small)

pub overflow_cast-places : goal.overflow_cast-places
overflow_cast-places c =
    let l = c.lowest_in-place in
    let below = within c.args._cells.now c.args.word c.loop-bits.bits c.loop-bits.from c.loop-bits.invariant.rest l.result l.ensures.within l.ensures.set l.ensures.clear in
    omega (arith, below, c.requires.small)

pub bounds-places-count : goal.bounds-places-count
bounds-places-count c =
    let l = c.lowest_in-place in
    let i = c.loop-bits.invariant in
    let below = within c.args._cells.now c.args.word c.loop-bits.bits c.loop-bits.from i.rest l.result l.ensures.within l.ensures.set l.ensures.clear in
    let later = onward c.args._cells.now c.args.word c.loop-bits.bits c.loop-bits.from i.rest l.result l.ensures.within l.ensures.set l.ensures.clear in
    omega (arith, below, later, i.few, i.room, c.requires.small)

pub loop-bits-preserved : goal.loop-bits-preserved
loop-bits-preserved c =
    let cells : List Cell = c.args._cells.now in
    let l = c.lowest_in-place in
    let i = c.loop-bits.invariant in
    let bits : ℕ = c.loop-bits.bits in
    let from : ℕ = c.loop-bits.from in
    let below = within cells c.args.word bits from i.rest l.result l.ensures.within l.ensures.set l.ensures.clear in
    let later = onward cells c.args.word bits from i.rest l.result l.ensures.within l.ensures.set l.ensures.clear in
    record {
      room = length-set c.loop-bits.places c.loop-bits.count (64 * c.args.word + l.result) ∙ i.room;
      within = omega (arith, below);
      few = omega (arith, i.few, later);
      word = omega (arith, l.ensures.within);
      rest = next_rest cells c.args.word bits from i.rest l.result l.ensures.within l.ensures.set l.ensures.clear c.without_lowest-bits.result (c.without_lowest-bits.ensures l.result l.ensures.set l.ensures.clear);
      listed =
          next_listed cells c.args.word bits from i.rest l.result l.ensures.within l.ensures.set l.ensures.clear c.loop-bits.places c.loop-bits.count
          (omega (arith, below, later, i.few, i.room, c.requires.small))
          ∙ i.listed;
    }

pub returns-clause-listed : goal.returns-clause-listed
returns-clause-listed c =
    let i = c.loop-bits.invariant in
    ap (λ (others : List ℕ). take c.loop-bits.count c.loop-bits.places ++ others)
    (none_left c.args._cells.now c.args.word c.loop-bits.bits c.loop-bits.from i.rest c.loop-bits-test.false i.word)
    ∙ i.listed
