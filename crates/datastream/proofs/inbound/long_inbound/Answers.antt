use Rattle.std.proofs.Common.{◌∷◌, refl, arith}
use Rattle.std.proofs.lemmas.Result.{err_from_is_err_and}
use Rattle.datastream.proofs.InboundData.{two_up, long_read, long_text_fault, cursor_beyond_read, cursor_missing}
use Rattle.datastream.proofs.inbound.long_inbound.Goals as goal

pub returns-in_default : goal.returns-in_default
returns-in_default c = cursor_missing _ _ _ _ _ c.requires.known c.requires.long (omega (arith, c.in_default.len_below))

pub returns-in_default-addr_from_bytes : goal.returns-in_default-addr_from_bytes
returns-in_default-addr_from_bytes c =
    let is = two_up c.args.rest.now c.in-len2-up.len_at_least in
    cursor_beyond_read _ _ _ _ _ _ _ _ c.requires.known c.requires.long is c.in_default-addr_from_bytes.ensures

pub returns-in_err-check_parts : goal.returns-in_err-check_parts
returns-in_err-check_parts c =
    let is = two_up c.args.rest.now c.in-len2-up.len_at_least in
    let p = err_from_is_err_and c.from_residual.result c.from_residual.ensures.1 in
    rw (p.1, p.2) (long_text_fault _ _ _ _ _ _ _ _ _ c.requires.known c.requires.long is c.in-Ok.ensures.0 c.in_err-check_parts.ensures)

pub invariant_of-result : goal.invariant_of-result
invariant_of-result c =
    let is = two_up c.args.rest.now c.in-len2-up.len_at_least in (
      (c.args.byte ∷ c.args.rest.now, long_read _ _ _ _ _ _ _ _ _ c.requires.known c.requires.long is c.in-Ok.ensures.0 c.in-Ok.ensures.1 c.in_ok-check_parts.ensures.0 c.in_ok-check_parts.ensures.1),
      c.in_ok-check_parts.ensures.0,
      c.count_characters.ensures.value,
      c.count_characters.ensures.bound,
    )

pub returns : goal.returns
returns c =
    let is = two_up c.args.rest.now c.in-len2-up.len_at_least in
    (refl, refl, long_read _ _ _ _ _ _ _ _ _ c.requires.known c.requires.long is c.in-Ok.ensures.0 c.in-Ok.ensures.1 c.in_ok-check_parts.ensures.0 c.in_ok-check_parts.ensures.1)
