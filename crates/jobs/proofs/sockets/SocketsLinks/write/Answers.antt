use Rattle.std.proofs.Common.{rules, slice_set}
use Rattle.jobs.proofs.SocketCalls.{takes_at, takes_nothing, write_counts}
use Rattle.jobs.proofs.sockets.SocketsLinks.write.Goals as goal

pub returns-then-conn-len-clause-took : goal.returns-then-conn-len-clause-took
returns-then-conn-len-clause-took g c = takes_nothing c.args.self.now c.args.conn (search rules) g.S.RawWrite.write_took c.args.bytes.now

pub returns-clause-counts : goal.returns-clause-counts
returns-clause-counts g c =
    write_counts c.args.self.now
    (record { slots = slice_set c.self.inside.slots.items c.args.conn c.write-answer.new.self; moved = c.args.self.now.moved })
    c.args.conn (search rules) c.write-answer.new.self (search rules) c.index_mut.result.now (search rules) g.S.RawWrite.write_took
    c.args.bytes.now c.write-answer.result c.write-answer.ensures.takes

pub returns-clause-took : goal.returns-clause-took
returns-clause-took g c =
    takes_at c.args.self.now _ c.args.conn (search rules) c.write-answer.new.self (search rules) c.index_mut.result.now (search rules) g.S.RawWrite.write_took
    c.args.bytes.now c.write-answer.result (search rules) c.write-answer.ensures.takes
