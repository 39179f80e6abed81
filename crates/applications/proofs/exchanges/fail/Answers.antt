use Rattle.std.proofs.Common.{rules, refl}
use Rattle.applications.specs.ExchangeTurns.{nobody_is_told, operator_is_told, report_fails}
use Rattle.applications.proofs.exchanges.fail.Goals as goal

pub returns-in-Some : goal.returns-in-Some
returns-in-Some g c =
    operator_is_told c.in-Ok.field-0 c.report_unanswered.new.self c.in-Some.message (search rules) (search rules)
    (rw (← c.text.ensures, ← c.telling.ensures) c.hand.ensures)

pub returns-in-None : goal.returns-in-None
returns-in-None g c = nobody_is_told c.in-Ok.field-0 (search rules) (search rules) refl

pub returns-in-Err : goal.returns-in-Err
returns-in-Err g c = report_fails c.in-Err.fault (search rules) refl
