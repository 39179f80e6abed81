use Rattle.std.proofs.Common.{refl, take}
use Rattle.service_wire.proofs.Missing.{missing_behind, missing_in_line, missing_short}
use Rattle.service_wire.proofs.header_reader.HeaderReader.missing.Goals as goal

pub returns-then-bytes-lt-LEAST_BYTES : goal.returns-then-bytes-lt-LEAST_BYTES
returns-then-bytes-lt-LEAST_BYTES c =
    rw (← c.self.view_is) (missing_short (take c.self.inside.size c.self.inside.bytes) _ c.if-bytes-lt-LEAST_BYTES.true refl)

pub returns-in-Some : goal.returns-in-Some
returns-in-Some c = rw (← c.self.view_is) (missing_behind _ c.in-Some.rest.now c.missing_in_block.result c.in-Some.ensures c.missing_in_block.ensures)

pub returns-in-None : goal.returns-in-None
returns-in-None c = rw (← c.self.view_is) (missing_in_line _ c.in-None.ensures c.if-bytes-lt-LEAST_BYTES.false c.self.invariant.awaited)
