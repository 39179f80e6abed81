use Rattle.std.proofs.Common.{◌≡◌, ◌≤◌, arith, inl, inr, refl}
use Rattle.std.proofs.lemmas.Result.{err_from_is_err_and}
use Rattle.server.specs.Accepting.{door}
use Rattle.server.proofs.Admitting.{none_admitted, one_admitted}
use Rattle.server.proofs.server.Server.accept_all.Goals as goal

pub loop-init : goal.loop-init
loop-init g c = none_admitted g.W.Watcher.noticed g.W.Watcher.showed g.L.Listener.gave (door c.args.listener.now c.args.self.now c.args.watcher.now)

pub returns-in_err-receive-in-Some : goal.returns-in_err-receive-in-Some
returns-in_err-receive-in-Some g c =
    let p = err_from_is_err_and c.from_residual.result c.from_residual.ensures.1 in
    rw (p.1, p.2) (c.loop.counter, door c.loop.listener c.loop.self c.loop.watcher, c.in-Some.arrival, c.loop-test.true, c.loop.invariant, c.in-Some.ensures, c.in_err-receive-in-Some.ensures)

pub returns-in-None : goal.returns-in-None
returns-in-None g c =
    let within : c.loop.counter ≤ 65536 = omega arith in
    (c.loop.counter, door c.loop.listener c.loop.self c.loop.watcher, within, c.loop.invariant, inr (c.in-None.ensures, refl, refl))

pub loop-preserved : goal.loop-preserved
loop-preserved g c =
    one_admitted g.W.Watcher.noticed g.W.Watcher.showed g.L.Listener.gave c.loop.counter (door c.args.listener.now c.args.self.now c.args.watcher.now) (door c.loop.listener c.loop.self c.loop.watcher)
    (door c.accept.new.self c.receive.new.self c.receive.new.watcher) c.in-Some.arrival c.loop.invariant c.in-Some.ensures c.in_ok-receive-in-Some.ensures

pub returns : goal.returns
returns g c =
    let all : c.loop.counter ≡ 65536 = omega arith in
    let within : c.loop.counter ≤ 65536 = omega arith in
    (c.loop.counter, door c.loop.listener c.loop.self c.loop.watcher, within, c.loop.invariant, inl (all, refl))
