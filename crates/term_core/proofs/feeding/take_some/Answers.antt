use Rattle.term_core.proofs.Steps.{byte_behind}
use Rattle.term_core.proofs.feeding.take_some.Goals as goal

pub returns-in-Some-clause-taken : goal.returns-in-Some-clause-taken
returns-in-Some-clause-taken c =
    let at = c.in-Some.ensures.lookup.3 in
    byte_behind _ _ _ c.args.bytes.now c.take_data-count.result c.in-Some.byte.now at.0 (at.1 0) (c.take_data-count.ensures.taken c.args.talk.now c.args.out.now) c.take_byte-closes.ensures.taken
