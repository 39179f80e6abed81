use Rattle.std.proofs.Common.{rules}
use Rattle.applications.specs.ExchangeTurns.{goes_on}
use Rattle.applications.proofs.exchange.Exchange.go_on.Goals as goal

pub returns : goal.returns
returns g c = goes_on c.serve.result (search rules) c.serve.ensures (search rules)
