use Rattle.host_core.proofs.TalkSteps.{just_granted, others_hold}
use Rattle.host_core.proofs.talking.ask.Goals as goal

pub returns-in-Some-clause-holds : goal.returns-in-Some-clause-holds
returns-in-Some-clause-holds c = just_granted c.args.conn c.args.pool.now c.ask.new.self c.ask.result c.requires c.ask.ensures.held

pub returns-in-Some-clause-others : goal.returns-in-Some-clause-others
returns-in-Some-clause-others c = others_hold c.args.conn c.args.pool.now c.ask.new.self c.ask.result c.ask.ensures.held

pub returns-in-None-clause-holds : goal.returns-in-None-clause-holds
returns-in-None-clause-holds c = just_granted c.args.conn c.args.pool.now c.ask-in-None.new.self c.ask-in-None.result c.requires c.ask-in-None.ensures.held

pub returns-in-None-clause-others : goal.returns-in-None-clause-others
returns-in-None-clause-others c = others_hold c.args.conn c.args.pool.now c.ask-in-None.new.self c.ask-in-None.result c.ask-in-None.ensures.held
