use Rattle.std.proofs.Common.{ap, length, refl, inl, inr, subst}
use Rattle.web_wire.specs.Sockets.{IsRead}
use Rattle.std.proofs.lemmas.Result.{err_from_is_err_and}
use Rattle.web.specs.Pages.{DrawsTurn, FailsToDraw}
use Rattle.web.proofs.PageLemmas.{not_closed, same_count}
use Rattle.web.proofs.page_turn.serve.Goals as goal

-- src/page_turn.rt:102:9
pub returns-in-Closed-clause-serves : goal.returns-in-Closed-clause-serves
returns-in-Closed-clause-serves g c = record {
  frame = c.read_frame-received.result;
  keys = c.read_frame-received.new.keys.items;
  read_page = c.read_frame-received.new.self;
  reads = subst (λ old. IsRead c.args.page.now.frames c.read_frame-received.result old c.read_frame-received.new.keys.items c.read_frame-received.new.self.frames) c.new-keys.ensures.items c.read_frame-received.ensures.frame;
  same_socket = c.read_frame-received.ensures.socket;
  served = inl (c.in-Closed.closing, c.in-Closed.is, refl, refl, refl);
}

-- src/page_turn.rt:90:1
pub returns-clause-serves : goal.returns-clause-serves
returns-clause-serves g c = record {
  frame = c.read_frame-received.result;
  keys = c.read_frame-received.new.keys.items;
  read_page = c.read_frame-received.new.self;
  reads = subst (λ old. IsRead c.args.page.now.frames c.read_frame-received.result old c.read_frame-received.new.keys.items c.read_frame-received.new.self.frames) c.new-keys.ensures.items c.read_frame-received.ensures.frame;
  same_socket = c.read_frame-received.ensures.socket;
  served = inr (_, not_closed c.read_frame-received.result c.in_default.not-Closed, same_count (ap (λ bytes. length bytes) c.as_slice-pressed.ensures.value), subst (λ typed. DrawsTurn g.H.RawRead.read_gave g.H.RawWrite.write_took typed c.read_frame-received.new.self c.args.terminal.now c.draw_turn.new.page c.draw_turn.new.terminal) c.as_slice-pressed.ensures.value c.in_ok-moved.ensures.draws);
}

pub returns-in_err-moved-clause-fails : goal.returns-in_err-moved-clause-fails
returns-in_err-moved-clause-fails g c =
    let p = err_from_is_err_and c.from_residual.result c.from_residual.ensures.1 in
    rw (p.1, p.2) record {
      frame = c.read_frame-received.result;
      keys = c.read_frame-received.new.keys.items;
      read_page = c.read_frame-received.new.self;
      reads = subst (λ old. IsRead c.args.page.now.frames c.read_frame-received.result old c.read_frame-received.new.keys.items c.read_frame-received.new.self.frames) c.new-keys.ensures.items c.read_frame-received.ensures.frame;
      same_socket = c.read_frame-received.ensures.socket;
      fails = subst (λ typed. FailsToDraw g.H.RawRead.read_gave g.H.RawWrite.write_took typed c.read_frame-received.new.self c.args.terminal.now c.draw_turn.new.page c.draw_turn.new.terminal c.in_err-moved.field-0.0) c.as_slice-pressed.ensures.value c.in_err-moved.ensures.fails;
    }
