use Rattle.host_core.proofs.TalkSteps.{asks_with_none, awaits_answer, granted_by_pool, holds_unless_closed, none_held, replies, replies_by_pool, same_others, unless_closed_then}
use Rattle.telnet_wire.specs.Items.{item_of}
use Rattle.tn3270e_msg.specs.HostTable.{granted}
use Rattle.host_core.proofs.talking.talk_on.Goals as goal

pub ask-answer-requires : goal.ask-answer-requires
ask-answer-requires c =
    none_held c.args.conn c.args.pool.now (granted c.args.talk.now.state) c.requires.holder
    (asks_with_none c.args.talk.now c.take.new.self (item_of c.args.item.now) c.in-AskPool.name c.in-AskPool.ensures)

pub answered-reply-requires : goal.answered-reply-requires
answered-reply-requires c = awaits_answer c.args.talk.now c.take.new.self (item_of c.args.item.now) c.in-AskPool.name c.in-AskPool.ensures

pub returns-in-AskPool-clause-taken : goal.returns-in-AskPool-clause-taken
returns-in-AskPool-clause-taken c =
    replies_by_pool _ _ _ _ c.take.new.self _ _ c.in-AskPool.name c.ask-answer.result c.answered-reply.result _ _ _ c.in-AskPool.ensures c.ask-answer.ensures.answer c.answered-reply.ensures
    c.ask-answer.ensures.becomes c.put_reply.ensures.closes c.put_reply.ensures.sent _ _ c.keep_rejection.ensures

pub returns-in-AskPool-clause-holds : goal.returns-in-AskPool-clause-holds
returns-in-AskPool-clause-holds c =
    unless_closed_then c.args.conn c.ask-answer.new.pool c.put_reply.result (granted c.answered-reply.new.self.state)
    (granted_by_pool c.args.conn c.ask-answer.new.pool c.take.new.self c.answered-reply.new.self c.ask-answer.result c.answered-reply.result c.answered-reply.ensures c.ask-answer.ensures.holds)

pub returns-in_default-clause-taken : goal.returns-in_default-clause-taken
returns-in_default-clause-taken c =
    replies _ _ _ _ _ c.take.result _ _ _ c.in_default.not-AskPool c.take.ensures c.put_reply-in_default.ensures.closes c.put_reply-in_default.ensures.sent _ _ c.keep_rejection-in_default.ensures

pub returns-in_default-clause-holds : goal.returns-in_default-clause-holds
returns-in_default-clause-holds c =
    holds_unless_closed c.args.conn c.args.pool.now c.args.talk.now c.take.new.self (item_of c.args.item.now) c.take.result c.put_reply-in_default.result
    c.in_default.not-AskPool c.take.ensures c.put_reply-in_default.ensures.closes c.requires.holder

pub returns-in_default-clause-others : goal.returns-in_default-clause-others
returns-in_default-clause-others c = same_others c.args.conn c.args.pool.now
