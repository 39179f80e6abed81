use Rattle.std.proofs.Common.{refl, sym, inl, inr, subst}
use Rattle.web.specs.Pages.{Serves}
use Rattle.web.proofs.PageLemmas.{when_err, when_ok}
use Rattle.web.proofs.page_turn.exchange.Goals as goal

pub returns-then-is_lost-clause-exchanges : goal.returns-then-is_lost-clause-exchanges
returns-then-is_lost-clause-exchanges g c = record {
  came = c.receive-came.result;
  heard_page = c.receive-came.new.self;
  receives = c.receive-came.ensures;
  goes_on = inl (sym c.if-is_lost.ensures, refl, refl, refl);
}

pub returns-clause-exchanges : goal.returns-clause-exchanges
returns-clause-exchanges g c = when_ok c.serve.result (λ turn serves. record {
  came = c.receive-came.result;
  heard_page = c.receive-came.new.self;
  receives = c.receive-came.ensures;
  goes_on = inr (sym c.if-is_lost.ensures, subst (λ heard. Serves g.H.RawRead.read_gave g.H.RawWrite.write_took heard c.receive-came.new.self c.args.terminal.now turn c.serve.new.page c.serve.new.terminal) c.is_got.ensures serves);
}) c.serve.ensures.serves

pub returns-clause-fails : goal.returns-clause-fails
returns-clause-fails g c = when_err c.serve.result (λ fault fails. record {
  came = c.receive-came.result;
  heard_page = c.receive-came.new.self;
  receives = c.receive-came.ensures;
  goes_on = sym c.if-is_lost.ensures;
  fails = fails;
}) c.serve.ensures.fails
