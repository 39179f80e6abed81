use Rattle.std.proofs.Common.{length, refl, sym, subst}
use Rattle.jobs.specs.Sockets.{IsValidReadCount}
use Rattle.jobs.proofs.RawCalls.{same_bytes_read, read_count_is_valid}
use Rattle.jobs.proofs.socket_slot.read_once.Goals as goal

pub returns-clause-within : goal.returns-clause-within
returns-clause-within g c =
    subst (λ link_result. IsValidReadCount link_result (length c.read_once.new.buffer)) (sym c.link_read.ensures) (read_count_is_valid c.read_once.result c.read_once.new.buffer c.read_once.ensures.bound)

pub returns-clause-once : goal.returns-clause-once
returns-clause-once g c = rw (c.link_read.ensures, ← same_bytes_read c.read_once.result c.read_once.new.buffer) (record {
  answer = c.read_once.result;
  called = c.read_once.ensures.gave;
  taken = refl;
})
