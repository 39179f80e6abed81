use Rattle.std.proofs.Common.{refl}
use Rattle.server.specs.ProxyListener.{looks, refuses}
use Rattle.server.proofs.proxy_listener.next.Goals as goal

pub returns-in-Some : goal.returns-in-Some
returns-in-Some g c = refuses c.in-Some.refused c.in-Some.ensures refl

pub returns-in-None : goal.returns-in-None
returns-in-None g c = looks c.take_in.new.held.items c.in-None.ensures c.visit_each.ensures
