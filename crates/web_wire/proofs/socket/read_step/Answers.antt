use Rattle.std.proofs.Common.{◌≡◌, ℕ, List, refl, subst, ◌∙◌, inl, arith}
use Rattle.std.specs.Prelude.{option_map}
use Rattle.websocket.specs.Connection.{read_step}
use Rattle.websocket.specs.View.{KeepsRest, Returns}
use Rattle.websocket.specs.declared.protocol.frame.codec.FrameStatus.TheVariants.{Complete}
use Rattle.web_wire.specs.Steps.{IsStepRead}
use Rattle.websocket.specs.Content.{received_content}
use Rattle.web_wire.specs.Sockets.{IsReceivedAs}
use Rattle.web_wire.proofs.Steps.{complete_read}
use Rattle.web_wire.proofs.SocketLemmas.{lent_all}
use Rattle.web_wire.proofs.socket.read_step.Goals as goal

pub returns-in-Ok-Complete-clause-read : goal.returns-in-Ok-Complete-clause-read
returns-in-Ok-Complete-clause-read c =
    let found = c.in-Ok-Complete.step in
    let whole = lent_all c.args.input.now.len c.read.new.input c.args.input.now.items (omega (arith, c.read.auto.input, c.as_mut_slice.ensures.len)) in
    let meaning = subst (λ (now : List ℕ). IsReceivedAs c.args.stage (option_map (received_content now) found.message) c.take_step.result c.args.keys.now.items c.take_step.new.keys.items)
    (c.as_slice.ensures.value ∙ whole) c.take_step.ensures in
    let is : c.in-Ok-Complete.field-0 ≡ Complete found = c.in-Ok-Complete.field-0-is in
    let step = read_step c.args.context.now c.as_mut_slice.result.now in
    let read = complete_read step c.args.stage c.take_step.result found c.args.context.now c.read.new.self c.as_mut_slice.result.now c.read.new.input c.args.output.now.items c.read.new.output.items c.args.keys.now.items c.take_step.new.keys.items
    c.requires.still_open refl c.read.auto.input (subst (Returns step c.read.new.input) is c.in-Ok-Complete.ensures.returns) c.in-Ok-Complete.ensures.leaves
    (subst (λ status. KeepsRest status c.as_mut_slice.result.now c.read.new.input) is c.in-Ok-Complete.ensures.keeps_rest) meaning in
    rw whole (inl (subst (λ (old : List ℕ). IsStepRead (read_step c.args.context.now old) c.args.stage c.take_step.result found.consumed
    (record { connection = c.args.context.now; input = old; output = c.args.output.now.items; keys = c.args.keys.now.items })
    (record { connection = c.read.new.self; input = c.read.new.input; output = c.read.new.output.items; keys = c.take_step.new.keys.items })) c.as_mut_slice.ensures.value read))
