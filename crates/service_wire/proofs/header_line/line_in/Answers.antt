use Rattle.std.proofs.Common.{sym, ◌∙◌}
use Rattle.service_wire.proofs.HeaderLines.{looks_at_first, looks_on, line_is, no_line}
use Rattle.service_wire.proofs.header_line.line_in.Goals as goal

pub loop-place-init : goal.loop-place-init
loop-place-init c = looks_at_first _

pub loop-place-preserved : goal.loop-place-preserved
loop-place-preserved c = looks_on _ _ c.loop-place-test.true (sym c.is_crlf_at.ensures ∙ c.if-is_crlf_at.false) c.loop-place.invariant

pub returns-then-is_crlf_at : goal.returns-then-is_crlf_at
returns-then-is_crlf_at c = sym (line_is _ _ (sym c.is_crlf_at.ensures ∙ c.if-is_crlf_at.true) c.loop-place.invariant)

pub returns : goal.returns
returns c = sym (no_line _ _ c.loop-place-test.false c.loop-place.invariant)
