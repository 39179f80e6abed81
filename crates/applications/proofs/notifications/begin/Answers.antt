use Rattle.std.proofs.Common.{rules, string_bytes, refl}
use Rattle.applications.specs.ExchangeTurns.{no_request, unconnected}
use Rattle.applications.proofs.notifications.begin.Goals as goal

pub returns-in-Ok-connect-clause-begins : goal.returns-in-Ok-connect-clause-begins
returns-in-Ok-connect-clause-begins g c = record {
  stream = c.in-Ok-connect.stream;
  request = string_bytes c.in-Ok.request;
  tells = search rules;
  connects = search rules;
  exchange_is = c.new.ensures;
}

pub returns-in-Err-connect-clause-cannot : goal.returns-in-Err-connect-clause-cannot
returns-in-Err-connect-clause-cannot g c = unconnected c.in-Err-connect.error (search rules) c.absence_of.ensures

pub returns-in-Err-clause-cannot : goal.returns-in-Err-clause-cannot
returns-in-Err-clause-cannot g c = no_request refl
