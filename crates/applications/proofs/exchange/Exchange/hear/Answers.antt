use Rattle.std.proofs.Common.{rules}
use Rattle.applications.proofs.Exchanging.{hears_more}
use Rattle.applications.proofs.exchange.Exchange.hear.Goals as goal

pub returns-else-is_empty-clause-hears : goal.returns-else-is_empty-clause-hears
returns-else-is_empty-clause-hears g c =
    hears_more c.args.bytes.now c.args.self.now.heard c.read_as-else-is_empty.result c.feed.new.self (search rules) (search rules)
