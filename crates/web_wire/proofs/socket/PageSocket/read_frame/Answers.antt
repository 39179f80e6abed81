use Rattle.std.proofs.Common.{length, ap, arith, length-drop, sym}
use Rattle.web_wire.proofs.SocketLemmas.{closed_socket, open_socket}
use Rattle.web_wire.proofs.Steps.{one_bounded}
use Rattle.web_wire.proofs.socket.PageSocket.read_frame.Goals as goal

pub put_close-requires : goal.put_close-requires
put_close-requires c =
    (one_bounded c.self.inside.stage c.read_step-read.result.received c.read_step-read.result.count _ _ (c.self.invariant.unless_over (sym c.if-is_over.ensures)) c.read_step-read.ensures.read).role

pub invariant_of-self : goal.invariant_of-self
invariant_of-self c =
    let bounded = one_bounded c.self.inside.stage c.read_step-read.result.received c.read_step-read.result.count _ _ (c.self.invariant.unless_over (sym c.if-is_over.ensures)) c.read_step-read.ensures.read in
    closed_socket c.in-Some.closing c.put_close.new.context c.clear.new.self.items c.read_step-read.new.output.items c.put_close.new.output.items
    (omega (arith, bounded.short, c.if-len-gt-MOST_WAITING.false, c.len.ensures)) c.clear.ensures.items c.put_close.ensures

pub invariant_of-self-in-None : goal.invariant_of-self-in-None
invariant_of-self-in-None c =
    let bounded = one_bounded c.self.inside.stage c.read_step-read.result.received c.read_step-read.result.count _ _ (c.self.invariant.unless_over (sym c.if-is_over.ensures)) c.read_step-read.ensures.read in
    let short_input = c.self.invariant.short_input in
    open_socket c.stage_after-self-inside.result c.read_step-read.new.context c.drop_front.new.bytes.items c.read_step-read.new.output.items (bounded.still_open c.in-None.ensures)
    (omega (arith, ap length c.drop_front.ensures, length-drop c.read_step-read.result.count c.read_step-read.new.input.items, c.read_step-read.ensures.length, short_input))
    (omega (arith, bounded.short, c.if-len-gt-MOST_WAITING.false, c.len.ensures))
