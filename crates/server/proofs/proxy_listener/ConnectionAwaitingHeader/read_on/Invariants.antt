use Rattle.server.specs.ProxyListener.{ReadsParts}
use Rattle.server.proofs.proxy_listener.ConnectionAwaitingHeader.read_on.Given as goal

abbrev pub invariant-loop : goal.invariant-loop
invariant-loop g l = ReadsParts g.S.RawRead.read_gave l.counter l.initial.self l.self
