use Rattle.std.proofs.Common.{rules, refl}
use Rattle.applications.specs.ExchangeTurns.{asking_fails, asks_about}
use Rattle.applications.proofs.exchanges.ask.Goals as goal

pub returns-in-Ok-Some : goal.returns-in-Ok-Some
returns-in-Ok-Some g c = asks_about c.in-Ok-Some.query (search rules) c.ask_about.ensures

pub returns-in-Err : goal.returns-in-Err
returns-in-Err g c = asking_fails c.in-Err.fault (search rules) c.requires.empty refl refl
