use Rattle.host_core.proofs.ByteSteps.{just_freed, others_left}
use Rattle.host_core.proofs.TalkSteps.{same_others}
use Rattle.host_core.proofs.feeding.free_if_closed.Goals as goal

pub returns-in-Some-clause-freed : goal.returns-in-Some-clause-freed
returns-in-Some-clause-freed c = rw c.in-Some.is (just_freed c.args.conn c.args.pool.now c.give_back.new.self c.give_back.ensures.held)

pub returns-in-Some-clause-others : goal.returns-in-Some-clause-others
returns-in-Some-clause-others c = others_left c.args.conn c.args.pool.now c.give_back.new.self c.give_back.ensures.held

pub returns-in-None-clause-others : goal.returns-in-None-clause-others
returns-in-None-clause-others c = same_others c.args.conn c.args.pool.now
