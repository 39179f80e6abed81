use Rattle.std.proofs.Common.{refl}
use Rattle.server.specs.ProxyListener.{goes_on, stops}
use Rattle.server.proofs.Doors.{none_read, one_read}
use Rattle.server.proofs.proxy_listener.ConnectionAwaitingHeader.read_on.Goals as goal

pub loop-init : goal.loop-init
loop-init g c = none_read g.S.RawRead.read_gave c.args.self.now

pub returns-in_default : goal.returns-in_default
returns-in_default g c = stops c.loop.counter c.loop.self c.loop.invariant c.read_part.ensures c.in_default.not-Moved

pub loop-preserved : goal.loop-preserved
loop-preserved g c =
    one_read g.S.RawRead.read_gave c.loop.counter c.args.self.now c.loop.self c.read_part.new.self c.loop.invariant c.in-Moved.ensures

pub returns : goal.returns
returns g c = goes_on c.loop.counter c.loop.invariant refl
