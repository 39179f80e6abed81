use Rattle.std.proofs.Common.{◌∙◌, Some, ap, subst, sym}
use Rattle.application_http.specs.Requests.{request_bytes}
use Rattle.applications.specs.ExchangeTurns.{Turns}
use Rattle.applications.proofs.exchanges.turn_of.Goals as goal

pub returns-in-Some-Asking : goal.returns-in-Some-Asking
returns-in-Some-Asking g c =
    subst
    (λ slot.
    Turns g.A.AskingServer.served g.A.AskingServer.answered g.A.AskingServer.reported g.S.RawRead.read_gave g.S.RawWrite.write_took g.A.AskingServer.connected g.A.AskingServer.asked
    g.A.AskingServer.noted (request_bytes c.args.asking.endpoint.now) c.args.asking.boot c.args.asking.now c.args.asking.most c.args.has_operator c.args.conn
    slot c.args.server.now c.go_on.result c.go_on.new.server c.go_on.new.slot)
    (ap Some (sym c.in-Some-Asking.field-0-is) ∙ sym c.in-Some-Asking.is ∙ c.take.ensures.value) c.go_on.ensures

pub returns-in-Some-Kept : goal.returns-in-Some-Kept
returns-in-Some-Kept g c =
    subst
    (λ slot.
    Turns g.A.AskingServer.served g.A.AskingServer.answered g.A.AskingServer.reported g.S.RawRead.read_gave g.S.RawWrite.write_took g.A.AskingServer.connected g.A.AskingServer.asked
    g.A.AskingServer.noted (request_bytes c.args.asking.endpoint.now) c.args.asking.boot c.args.asking.now c.args.asking.most c.args.has_operator c.args.conn
    slot c.args.server.now c.ask.result c.ask.new.server c.ask.new.slot)
    (ap Some (sym c.in-Some-Kept.field-0-is) ∙ sym c.in-Some-Kept.is ∙ c.take.ensures.value) c.ask.ensures

pub returns-in-None : goal.returns-in-None
returns-in-None g c =
    subst
    (λ slot.
    Turns g.A.AskingServer.served g.A.AskingServer.answered g.A.AskingServer.reported g.S.RawRead.read_gave g.S.RawWrite.write_took g.A.AskingServer.connected g.A.AskingServer.asked
    g.A.AskingServer.noted (request_bytes c.args.asking.endpoint.now) c.args.asking.boot c.args.asking.now c.args.asking.most c.args.has_operator c.args.conn
    slot c.args.server.now c.ask-in-None.result c.ask-in-None.new.server c.ask-in-None.new.slot)
    (sym c.in-None.is ∙ c.take.ensures.value) c.ask-in-None.ensures
