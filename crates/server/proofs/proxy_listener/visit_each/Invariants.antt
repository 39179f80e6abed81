use Rattle.server.specs.ProxyListener.{AllStay}
use Rattle.server.proofs.proxy_listener.visit_each.Given as goal

abbrev pub invariant-loop-index : goal.invariant-loop-index
invariant-loop-index g l = AllStay g.S.RawRead.read_gave l.fn.now l.index l.initial.held.items l.held.items
