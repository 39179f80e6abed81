use Rattle.service_wire.proofs.HeaderLines.{LooksFrom}
use Rattle.service_wire.proofs.header_line.line_in.Given as goal

abbrev pub invariant-loop-place : goal.invariant-loop-place
invariant-loop-place l = LooksFrom l.bytes l.place
