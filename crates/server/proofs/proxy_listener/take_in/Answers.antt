use Rattle.std.proofs.Common.{arith}
use Rattle.server.specs.ProxyListener.{comes}
use Rattle.server.proofs.proxy_listener.take_in.Goals as goal

pub returns-in-Some : goal.returns-in-Some
returns-in-Some g c = comes c.in-Some.arrival (omega arith) c.in-Some.ensures c.hold.ensures
