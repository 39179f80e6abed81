use Rattle.std.proofs.Common.{length, sym, subst}
use Rattle.jobs.specs.Sockets.{TookSome}
use Rattle.jobs.proofs.RawCalls.{took_some}
use Rattle.jobs.proofs.socket_slot.write_once.Goals as goal

pub returns-clause-within : goal.returns-clause-within
returns-clause-within g c =
    subst (λ link_result. TookSome link_result (length c.args.bytes.now)) (sym c.link_write.ensures) (took_some c.write_once.result c.args.bytes.now c.write_once.ensures.bound)

pub returns-clause-once : goal.returns-clause-once
returns-clause-once g c = record {
  answer = c.write_once.result;
  called = c.write_once.ensures.took;
  taken = c.link_write.ensures;
}
