use Rattle.std.proofs.Common.{refl}
use Rattle.operate.proofs.LiveLemmas.{bytes_more, no_more}
use Rattle.operate.proofs.live.LiveTerminal.take_bytes.Goals as goal

pub loop-byte-preserved : goal.loop-byte-preserved
loop-byte-preserved c = λ new reads.
    c.loop-byte.invariant new
    (bytes_more c.args.typed.now c.loop-byte.byte-index _ _ c.loop-byte.self c.take_byte.new.self new c.loop-byte-test.true refl
    c.in_ok-take_byte.ensures.seat c.in_ok-take_byte.ensures.kept reads)

pub returns : goal.returns
returns c =
    c.loop-byte.invariant c.loop-byte.self (no_more c.args.typed.now c.loop-byte.byte-index c.loop-byte.self c.loop-byte-test.false)
