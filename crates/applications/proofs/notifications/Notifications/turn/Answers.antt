use Rattle.std.proofs.Common.{rules}
use Rattle.application_http.specs.Requests.{notification_bytes}
use Rattle.applications.specs.ExchangeTurns.{Notifies}
use Rattle.applications.proofs.Exchanging.{turned}
use Rattle.applications.proofs.notifications.Notifications.turn.Goals as goal

pub returns-clause-notifies : goal.returns-clause-notifies
returns-clause-notifies g c =
    turned c.args.self.now _ c.args.conn (search rules) c.index_mut.result.now c.turn_of.new.slot (search rules) (search rules)
    (λ before after.
    Notifies g.A.AskingServer.ended g.S.RawRead.read_gave g.S.RawWrite.write_took g.A.AskingServer.connected (notification_bytes c.args.asking.endpoint.now)
    c.args.asking.now c.args.asking.most c.args.conn before c.args.server.now c.turn_of.result c.turn_of.new.server after)
    c.turn_of.ensures
