use Rattle.std.proofs.Common.{refl, sym, inl, inr}
use Rattle.std.proofs.lemmas.Result.{err_from_is_err_and}
use Rattle.web.proofs.page_turn.take_page_turn.Goals as goal

pub returns-then-has_output-clause-takes : goal.returns-then-has_output-clause-takes
returns-then-has_output-clause-takes g c = record {
  flushed = c.send-wrote.new.self;
  wrote = c.send-wrote.result;
  flushes = c.send-wrote.ensures;
  goes_on = inl (sym c.if-has_output.ensures, c.waiting.ensures, refl, refl);
}

pub returns-clause-takes : goal.returns-clause-takes
returns-clause-takes g c = record {
  flushed = c.send-wrote.new.self;
  wrote = c.send-wrote.result;
  flushes = c.send-wrote.ensures;
  goes_on = inr (
    sym c.if-has_output.ensures,
    record {
      served_page = c.exchange.new.page;
      exchanges = c.in_ok-turn.ensures.exchanges;
      wrote = c.send.result;
      sends = c.send.ensures;
    },
  );
}

pub returns-in_err-turn-clause-breaks : goal.returns-in_err-turn-clause-breaks
returns-in_err-turn-clause-breaks g c =
    let p = err_from_is_err_and c.from_residual.result c.from_residual.ensures.1 in
    rw (p.1, p.2) record {
      flushed = c.send-wrote.new.self;
      wrote = c.send-wrote.result;
      flushes = c.send-wrote.ensures;
      none_waits = sym c.if-has_output.ensures;
      fails = c.in_err-turn.ensures.fails;
    }
