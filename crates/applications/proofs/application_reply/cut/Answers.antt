use Rattle.std.proofs.Common.{sym, arith}
use Rattle.std.proofs.lemmas.List.{take_all}
use Rattle.applications.specs.Applications.{most_characters}
use Rattle.applications.proofs.application_reply.cut.Goals as goal

pub returns-then-codes-lt-MOST_CHARACTERS : goal.returns-then-codes-lt-MOST_CHARACTERS
returns-then-codes-lt-MOST_CHARACTERS c = sym (take_all most_characters c.args.codes.now (omega arith))
