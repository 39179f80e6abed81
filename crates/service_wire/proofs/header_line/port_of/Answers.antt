use Rattle.std.proofs.Common.{sym, ◌∙◌, eqb-true}
use Rattle.service_wire.proofs.Ports.{no_heading_zero, no_other_byte, not_large, not_empty, one_more, port_read}
use Rattle.service_wire.proofs.header_line.port_of.Goals as goal

pub returns-then-is_empty : goal.returns-then-is_empty
returns-then-is_empty c = not_empty _ (eqb-true _ _ (sym c.is_empty.ensures ∙ c.if-is_empty.true))

pub returns-then-has_heading_zero : goal.returns-then-has_heading_zero
returns-then-has_heading_zero c =
    let h = c.has_heading_zero.ensures.0 c.if-has_heading_zero.true in
    no_heading_zero _ h.0 h.1

pub returns-in_default : goal.returns-in_default
returns-in_default c = no_other_byte _ _ _ c.loop-byte-test.true c.from.ensures c.in_default.ensures.value

pub returns-then-port-gt65535 : goal.returns-then-port-gt65535
returns-then-port-gt65535 c =
    let i = c.loop-byte.invariant in
    let h = one_more _ _ _ _ _ c.loop-byte-test.true i.digits i.value c.from.ensures c.in-Some.ensures.value in
    not_large _ _ _ h.1 c.if-port-gt65535.true

pub loop-byte-preserved : goal.loop-byte-preserved
loop-byte-preserved c =
    let i = c.loop-byte.invariant in
    let h = one_more _ _ _ _ _ c.loop-byte-test.true i.digits i.value c.from.ensures c.in-Some.ensures.value in
    record { digits = h.0; value = h.1; fits = c.if-port-gt65535.false }

pub returns : goal.returns
returns c =
    let i = c.loop-byte.invariant in
    port_read _ _ _ _ _ c.is_empty.ensures c.if-is_empty.false c.has_heading_zero.ensures c.if-has_heading_zero.false c.loop-byte-test.false i.digits i.value i.fits
