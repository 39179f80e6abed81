use Rattle.std.proofs.Common.{rules, refl}
use Rattle.applications.specs.ExchangeTurns.{breaks_off, is_dropped}
use Rattle.applications.proofs.exchanges.hand.Goals as goal

pub returns-in-Ok-Nothing : goal.returns-in-Ok-Nothing
returns-in-Ok-Nothing g c = is_dropped c.answer.new.self c.report_unanswered.result (search rules) c.report_unanswered.ensures c.unless_failed.ensures

pub returns-in-Err : goal.returns-in-Err
returns-in-Err g c = breaks_off c.in-Err.fault (search rules) refl
