use Rattle.std.proofs.Common.{◌≡◌}
use Rattle.datastream.specs.Inbound.{without_nulls}
use Rattle.host_core.specs.Acts.{is_blank}
use Rattle.host_core.proofs.learning.are_blanks.Given as goal

abbrev pub invariant-loop-byte : goal.invariant-loop-byte
invariant-loop-byte l = is_blank (without_nulls l.byte-iterator) ≡ is_blank (without_nulls l.fn.characters)
