use Rattle.std.proofs.Common.{arith}
use Rattle.std.proofs.lemmas.List.{length-take}
use Rattle.server.proofs.proxy_listener.ConnectionAwaitingHeader.read_into.Goals as goal

pub push-requires-clause-lacks : goal.push-requires-clause-lacks
push-requires-clause-lacks g c = λ more header has.
    let least = c.requires.lacks more header has in
    omega (arith, least, c.in-Got.ensures.within.1, length-take c.in-Got.count c.read_once.new.buffer)
