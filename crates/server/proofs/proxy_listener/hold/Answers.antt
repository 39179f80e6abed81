use Rattle.std.proofs.Common.{refl}
use Rattle.server.proofs.Doors.{held_if}
use Rattle.server.proofs.proxy_listener.hold.Goals as goal

pub returns-in-Begun : goal.returns-in-Begun
returns-in-Begun g c = rw c.in-Begun.is (refl, rw (← c.new.ensures) (held_if _ _ _ _ c.push.ensures.items))
