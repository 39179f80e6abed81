use Rattle.std.proofs.Common.{◌∙◌, refl, subst, sym}
use Rattle.application_http.specs.Requests.{notification_bytes}
use Rattle.applications.specs.ExchangeTurns.{Notifies}
use Rattle.applications.proofs.notifications.turn_of.Goals as goal

pub returns-in-Some : goal.returns-in-Some
returns-in-Some g c =
    subst
    (λ slot.
    Notifies g.A.AskingServer.ended g.S.RawRead.read_gave g.S.RawWrite.write_took g.A.AskingServer.connected (notification_bytes c.args.asking.endpoint.now)
    c.args.asking.now c.args.asking.most c.args.conn slot c.args.server.now c.go_on.result c.args.server.now c.go_on.new.slot)
    (sym c.in-Some.is ∙ c.take.ensures.value) (c.go_on.ensures, refl)

pub returns-in-None : goal.returns-in-None
returns-in-None g c =
    subst
    (λ slot.
    Notifies g.A.AskingServer.ended g.S.RawRead.read_gave g.S.RawWrite.write_took g.A.AskingServer.connected (notification_bytes c.args.asking.endpoint.now)
    c.args.asking.now c.args.asking.most c.args.conn slot c.args.server.now c.tell.result c.tell.new.server c.tell.new.slot)
    (sym c.in-None.is ∙ c.take.ensures.value) c.tell.ensures
