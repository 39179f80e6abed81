use Rattle.server.proofs.Control.{none_open, open_more}
use Rattle.server.proofs.server.Server.has_connection.Goals as goal

pub loop-conn-init : goal.loop-conn-init
loop-conn-init g c = none_open c.args.self.now

pub loop-conn-preserved : goal.loop-conn-preserved
loop-conn-preserved g c = rw (c.is_connected-is_any.ensures) (open_more c.loop-conn.conn c.args.self.now c.loop-conn.is_any c.loop-conn.invariant)
