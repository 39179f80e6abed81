use Rattle.std.proofs.Common.{rules}
use Rattle.applications.specs.ExchangeTurns.{answers, fails, refuses}
use Rattle.applications.proofs.exchanges.end.Goals as goal

pub returns-in-Ok-answer_of : goal.returns-in-Ok-answer_of
returns-in-Ok-answer_of g c =
    answers c.in-Ok.reply c.panels.result.now c.in-Ok-answer_of.answer (search rules) c.panels.ensures (search rules) c.show.ensures

pub returns-in-Err-answer_of : goal.returns-in-Err-answer_of
returns-in-Err-answer_of g c =
    refuses c.in-Ok.reply c.panels.result.now c.in-Err-answer_of.fault (search rules) c.panels.ensures (search rules) c.fail.ensures

pub returns-in-Err : goal.returns-in-Err
returns-in-Err g c = fails c.in-Err.fault (search rules) c.fail-in-Err.ensures
