use Rattle.std.proofs.Common.{arith, ◌≡◌, ◌<◌, ◌+◌, length, subst, ℕ}
use Rattle.std.proofs.lemmas.Bool.Decides.{nat_tests}
use Rattle.codes3270.specs.Size.{cells_in}
use Rattle.datastream.specs.declared.inbound_part.Form.TheVariants.{Buffer}
use Rattle.datastream.specs.InboundReading.{IsReadTo}
use Rattle.datastream.proofs.InboundRuns.{reads_then}
use Rattle.datastream.proofs.InboundSequences.{reads_nothing, reads_missing_cell, reads_whole, reads_too_many, reads_all_cells}
use Rattle.datastream.proofs.inbound_reader.check_cells.Goals as goal

pub loop-left-init : goal.loop-left-init
loop-left-init c = (0, omega (arith, c.from-left.ensures, c.cells.ensures.value), reads_nothing (cells_in c.args.size) Buffer c.args.text.now)

pub loop-left-preserved : goal.loop-left-preserved
loop-left-preserved c =
    let (count, all, read) = c.loop-left.invariant in
    let (some, few, more) = c.in-Ok.ensures in
    (count + c.in-Ok.count, omega (arith, all, few), reads_then (cells_in c.args.size) Buffer _ _ _ _ _ read (more (cells_in c.args.size)))

pub returns-in-Err : goal.returns-in-Err
returns-in-Err c =
    let (count, all, read) = c.loop-left.invariant in
    reads_missing_cell (cells_in c.args.size) _ count _ _ (omega (arith, all, c.loop-left-test.true)) read c.in-Err.ensures

pub returns-then-is_empty : goal.returns-then-is_empty
returns-then-is_empty c =
    let none : length c.loop-left.rest.now ≡ 0 = grind (arith, nat_tests) in
    let (count, all, read) = c.loop-left.invariant in
    let whole : IsReadTo (cells_in c.args.size) Buffer c.args.text.now (cells_in c.args.size) c.loop-left.rest.now = subst (λ (n : ℕ). IsReadTo (cells_in c.args.size) Buffer c.args.text.now n c.loop-left.rest.now) (omega (arith, all, c.loop-left-test.false)) read in
    (reads_whole (cells_in c.args.size) Buffer _ _ _ none whole, reads_all_cells (cells_in c.args.size) _ _ none whole)

pub returns-else-is_empty : goal.returns-else-is_empty
returns-else-is_empty c =
    let some : 0 < length c.loop-left.rest.now = grind (arith, nat_tests) in
    let (count, all, read) = c.loop-left.invariant in
    let whole : IsReadTo (cells_in c.args.size) Buffer c.args.text.now (cells_in c.args.size) c.loop-left.rest.now = subst (λ (n : ℕ). IsReadTo (cells_in c.args.size) Buffer c.args.text.now n c.loop-left.rest.now) (omega (arith, all, c.loop-left-test.false)) read in
    reads_too_many (cells_in c.args.size) _ _ some whole
