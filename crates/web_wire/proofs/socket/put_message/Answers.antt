use Rattle.std.proofs.Common.{arith}
use Rattle.websocket.specs.Content.{message_content}
use Rattle.web_wire.proofs.SocketLemmas.{still_within}
use Rattle.web_wire.proofs.socket.put_message.Goals as goal

pub returns-clause-within : goal.returns-clause-within
returns-clause-within c =
    still_within (message_content c.args.message) c.args.output.now.items _ (omega (arith, c.if-saturating_add.false, c.len.ensures, c.saturating_add.ensures, c.requires.size)) c.in_ok-put_frame.ensures.sent
