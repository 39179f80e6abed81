use Rattle.std.proofs.Common.{rules}
use Rattle.application_http.specs.Requests.{request_bytes}
use Rattle.applications.specs.ExchangeTurns.{Turns}
use Rattle.applications.proofs.Exchanging.{turned}
use Rattle.applications.proofs.exchanges.Exchanges.turn.Goals as goal

pub returns-clause-turns : goal.returns-clause-turns
returns-clause-turns g c =
    turned c.args.self.now _ c.args.conn (search rules) c.index_mut.result.now c.turn_of.new.slot (search rules) (search rules)
    (λ before after.
    Turns g.A.AskingServer.served g.A.AskingServer.answered g.A.AskingServer.reported g.S.RawRead.read_gave g.S.RawWrite.write_took g.A.AskingServer.connected g.A.AskingServer.asked
    g.A.AskingServer.noted (request_bytes c.args.asking.endpoint.now) c.args.asking.boot c.args.asking.now c.args.asking.most c.args.has_operator c.args.conn
    before c.args.server.now c.turn_of.result c.turn_of.new.server after)
    c.turn_of.ensures
