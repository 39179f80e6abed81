use Rattle.std.proofs.Common.{rules, string_bytes, refl, subst}
use Rattle.applications.specs.ExchangeTurns.{Connects, no_request, unconnected}
use Rattle.applications.proofs.exchanges.begin.Goals as goal

pub returns-in-Ok-clause-begins : goal.returns-in-Ok-clause-begins
returns-in-Ok-clause-begins g c = record {
  panels = c.panels.result.now;
  stream = c.in-Ok.stream;
  request = string_bytes c.in-Ok-Some.request;
  are_served = c.panels.ensures;
  asks = search rules;
  connects = subst (Connects g.S.RawRead.read_gave (g.A.AskingServer.connected c.args.server.now) c.args.asking.now c.args.kept) c.in-Ok.is c.stream_for.ensures;
  asked_is = search rules;
}

pub returns-in-Err-clause-cannot : goal.returns-in-Err-clause-cannot
returns-in-Err-clause-cannot g c =
    unconnected c.in-Err.error
    (subst (Connects g.S.RawRead.read_gave (g.A.AskingServer.connected c.args.server.now) c.args.asking.now c.args.kept) c.in-Err.is c.stream_for.ensures)
    c.absence_of.ensures

pub returns-in_default-clause-cannot : goal.returns-in_default-clause-cannot
returns-in_default-clause-cannot g c = no_request refl
