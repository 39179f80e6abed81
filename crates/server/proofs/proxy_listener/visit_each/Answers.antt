use Rattle.std.proofs.Common.{◌≡◌, arith, inl, inr}
use Rattle.server.proofs.Doors.{none_stays, one_stays}
use Rattle.server.proofs.proxy_listener.visit_each.Goals as goal

pub loop-index-init : goal.loop-index-init
loop-index-init g c = none_stays g.S.RawRead.read_gave c.args.now c.args.held.now.items

pub returns-then-index-len : goal.returns-then-index-len
returns-then-index-len g c = (c.loop-index.index, c.loop-index.invariant, inl (omega arith))

pub returns-in-Some : goal.returns-in-Some
returns-in-Some g c = (c.loop-index.index, c.loop-index.held.items, c.loop-index.invariant, c.in-Some.ensures)

pub loop-index-preserved : goal.loop-index-preserved
loop-index-preserved g c =
    one_stays g.S.RawRead.read_gave c.args.now c.loop-index.index c.args.held.now.items c.loop-index.held.items c.visit.new.held.items
    c.loop-index.invariant c.in_default.ensures

pub returns : goal.returns
returns g c =
    let all : c.loop-index.index ≡ 64 = omega arith in
    (c.loop-index.index, c.loop-index.invariant, inr all)
