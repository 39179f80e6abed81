use Rattle.std.proofs.Common.{Ok, subst}
use Rattle.applications.specs.ExchangeTurns.{Hands, isnt_shown, notes}
use Rattle.applications.proofs.exchanges.show.Goals as goal

pub returns-then-is_shown : goal.returns-then-is_shown
returns-then-is_shown g c =
    notes c.hand.new.server c.note_shown.result
    (subst (λ told. Hands g.A.AskingServer.answered g.A.AskingServer.reported c.args.server.now c.args.conn c.args.ticket c.args.answer.now (Ok told) c.hand.new.server)
    c.if-is_shown.true c.in-Ok.ensures)
    c.note_shown.ensures c.unless_failed.ensures

pub returns-else-is_shown : goal.returns-else-is_shown
returns-else-is_shown g c =
    isnt_shown
    (subst (λ told. Hands g.A.AskingServer.answered g.A.AskingServer.reported c.args.server.now c.args.conn c.args.ticket c.args.answer.now (Ok told) c.hand.new.server)
    c.if-is_shown.false c.in-Ok.ensures)
    tt

pub returns-in-Err : goal.returns-in-Err
returns-in-Err g c = isnt_shown c.in-Err.ensures tt
