use Rattle.std.proofs.Common.{◌<◌, ℕ, List, get_or, drop, arith}
use Rattle.tn3270e_msg.proofs.Headers.{five}
use Rattle.tn3270e_msg.proofs.header.find_header.Goals as goal

pub returns-then-header-highest_flag-clause-fault : goal.returns-then-header-highest_flag-clause-fault
returns-then-header-highest_flag-clause-fault c =
    let bytes : List ℕ = c.args.bytes.now in
    let fits : (i : ℕ) → get_or bytes i 0 < 256 = λ i. omega (arith, c.type_inv.bytes i) in (
      record { kind = c.from_code-kind.result; request = get_or bytes 1 0; flag = get_or bytes 2 0; seq = c.from_be_bytes.result },
      drop 5 bytes,
      five bytes _ _ c.in-len5-up.len_at_least fits c.from_code-kind.ensures.code c.from_be_bytes.ensures,
      c.from_code-kind.ensures.named,
      λ flag. absurd (omega (arith, c.if-header-highest_flag.true, (c.highest_flag.ensures (get_or bytes 2 0) (fits 2)).0 flag)),
    )
