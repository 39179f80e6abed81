use Rattle.std.proofs.Common.{◌^◌, ◌/◌, arith}
use Rattle.std.proofs.lemmas.Nat.{shr_le}
use Rattle.shadow.proofs.Looking.{none_behind, lowest_behind, lowest_within, some_left}
use Rattle.shadow.proofs.searching.clear_bits.Goals as goal

pub returns-then-left-eq0-clause-clear : goal.returns-then-left-eq0-clause-clear
returns-then-left-eq0-clause-clear c = λ other later before. none_behind c.args.bits c.args.place (c.if-left-eq0.true) other later

pub returns-else-left-eq0-clause-few : goal.returns-else-left-eq0-clause-few
returns-else-left-eq0-clause-few c =
    let smaller = shr_le c.args.bits c.args.place in
    let few = c.ranges.bits.fits in
    lowest_within c.args.bits c.args.place few (some_left (c.args.bits / 2 ^ c.args.place) c.if-left-eq0.false) (omega (arith, smaller, few))

pub returns-else-left-eq0-clause-clear : goal.returns-else-left-eq0-clause-clear
returns-else-left-eq0-clause-clear c = λ other later before.
    let smaller = shr_le c.args.bits c.args.place in
    let few = c.ranges.bits.fits in
    lowest_behind c.args.bits c.args.place few (some_left (c.args.bits / 2 ^ c.args.place) c.if-left-eq0.false) (omega (arith, smaller, few)) other later before
