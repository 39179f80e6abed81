use Rattle.std.proofs.Common.{rules, length, slice_set}
use Rattle.host_core.specs.Serves.{bytes_got}
use Rattle.jobs.proofs.SocketCalls.{gives_at, gives_nothing, read_counts}
use Rattle.jobs.proofs.sockets.SocketsLinks.read.Goals as goal

pub returns-then-conn-len-clause-gave : goal.returns-then-conn-len-clause-gave
returns-then-conn-len-clause-gave g c = gives_nothing c.args.self.now c.args.conn (search rules) g.S.RawRead.read_gave (length c.args.buffer.now)

pub returns-clause-counts : goal.returns-clause-counts
returns-clause-counts g c =
    read_counts c.args.self.now
    (record { slots = slice_set c.self.inside.slots.items c.args.conn c.read-answer.new.self; moved = c.args.self.now.moved })
    c.args.conn (search rules) c.read-answer.new.self (search rules) c.index_mut.result.now (search rules) g.S.RawRead.read_gave
    (length c.read-answer.new.buffer) (bytes_got c.read-answer.result c.read-answer.new.buffer) c.read-answer.result c.read-answer.ensures.gives

pub returns-clause-gave : goal.returns-clause-gave
returns-clause-gave g c =
    gives_at c.args.self.now _ c.args.conn (search rules) c.read-answer.new.self (search rules) c.index_mut.result.now (search rules) g.S.RawRead.read_gave
    (length c.read-answer.new.buffer) (bytes_got c.read-answer.result c.read-answer.new.buffer) c.read-answer.result (search rules) c.read-answer.ensures.gives
