use Rattle.std.proofs.Common.{length, drop, length-drop}
use Rattle.web_wire.proofs.HeadLemmas.{nothing_after}
use Rattle.web_wire.proofs.head.is_last.Goals as goal

pub returns : goal.returns
returns c = nothing_after (drop c.args.count c.args.buf.now) c.args.count (length c.args.buf.now) (length-drop c.args.count c.args.buf.now) c.requires
