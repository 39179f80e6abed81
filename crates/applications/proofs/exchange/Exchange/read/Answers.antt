use Rattle.std.proofs.Common.{rules, take, Ok}
use Rattle.applications.proofs.exchange.Exchange.read.Goals as goal

pub returns-in-Ok : goal.returns-in-Ok
returns-in-Ok g c = record {
  bytes = take c.in-Ok.count c.read_once.new.buffer;
  answer = Ok c.in-Ok.count;
  called = search rules;
  hears = search rules;
  new_is = search rules;
}
