use Rattle.server.proofs.proxy_listener.ProxyListenerListener.accept.Goals as goal

pub returns-then-self : goal.returns-then-self
returns-then-self g c = rw c.if-self.true c.next.ensures
