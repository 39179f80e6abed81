use Rattle.std.proofs.Common.{rules}
use Rattle.applications.specs.ExchangeTurns.{begins, cannot_begin}
use Rattle.applications.proofs.exchanges.ask_about.Goals as goal

pub returns-in-Ok : goal.returns-in-Ok
returns-in-Ok g c = begins c.in-Ok.asked (search rules) c.go_on.ensures

pub returns-in-Err : goal.returns-in-Err
returns-in-Err g c = cannot_begin c.in-Err.absence c.in-Err.ensures.cannot c.requires.empty c.fail.ensures
