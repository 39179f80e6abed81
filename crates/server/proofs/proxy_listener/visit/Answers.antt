use Rattle.std.proofs.Common.{refl}
use Rattle.server.specs.ProxyListener.{leaves}
use Rattle.server.proofs.proxy_listener.visit.Goals as goal

pub returns-in-Some : goal.returns-in-Some
returns-in-Some g c = leaves c.in-Some.outcome c.serve_at.new.held.items c.leave.result c.in-Some.ensures c.leave.ensures refl
