use Rattle.std.proofs.Common.{ap, ◌∙◌}
use Rattle.web_wire.specs.Sockets.{SocketState, is_over}
use Rattle.web_wire.specs.declared.received.Closing.TheVariants.{Finished}
use Rattle.web_wire.proofs.SocketLemmas.{closed_socket, limit_of_open}
use Rattle.web_wire.proofs.socket.PageSocket.close.Goals as goal

pub invariant_of-self : goal.invariant_of-self
invariant_of-self c =
    closed_socket Finished c.put_close.new.context c.clear.new.self.items c.self.inside.output.items c.put_close.new.output.items
    (limit_of_open c.self.inside.stage c.self.inside.output.items (ap (λ (it : SocketState). is_over it.stage) c.self.view_is ∙ c.requires) c.self.invariant.short_output) c.clear.ensures.items c.put_close.ensures
