use Rattle.std.proofs.Common.{rules, refl}
use Rattle.applications.specs.ExchangeTurns.{cannot_tell, tells}
use Rattle.applications.proofs.notifications.tell.Goals as goal

pub returns-in-Ok : goal.returns-in-Ok
returns-in-Ok g c = tells c.in-Some.ended c.in-Ok.exchange (search rules) c.in-Ok.ensures.begins refl refl

pub returns-in-Err : goal.returns-in-Err
returns-in-Err g c = cannot_tell c.in-Some.ended c.in-Err.field-0 (search rules) c.in-Err.ensures.cannot c.requires.empty refl
