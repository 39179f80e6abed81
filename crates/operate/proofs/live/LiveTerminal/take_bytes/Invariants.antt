use Rattle.std.proofs.Common.{drop}
use Rattle.operate.specs.Live.{Live, ReadsTyped}
use Rattle.operate.proofs.live.LiveTerminal.take_bytes.Given as goal

abbrev pub invariant-loop-byte : goal.invariant-loop-byte
invariant-loop-byte l = (new : Live) → ReadsTyped (drop l.byte-index l.typed) l.self new → ReadsTyped l.typed l.initial.self new
