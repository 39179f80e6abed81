use Rattle.std.proofs.Common.{rules}
use Rattle.applications.proofs.Replies.{value_has_only_characters}
use Rattle.applications.proofs.application_reply.set_text.Goals as goal

pub set-requires : goal.set-requires
set-requires c = value_has_only_characters c.args.text.now c.cut.result.now (search rules)
