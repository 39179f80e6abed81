use Rattle.std.proofs.Common.{refl, sym, ◌∙◌, ap, subst}
use Rattle.tn3270e_msg.specs.HostTable.{is_agreed}
use Rattle.telnet_wire.specs.Items.{item_of}
use Rattle.tn3270e_msg.specs.HostTable.{granted}
use Rattle.host_core.specs.Sound.{HoldsJust}
use Rattle.host_core.specs.Session.{Session}
use Rattle.host_core.proofs.TalkSteps.{not_record, record_dropped, record_taken, same_talk, talk_taken, unless_closed_then}
use Rattle.host_core.proofs.talking.take_item.Goals as goal

pub talk_on-closes-requires-clause-holder : goal.talk_on-closes-requires-clause-holder
talk_on-closes-requires-clause-holder c = subst (λ (conn : Session). HoldsJust c.args.conn c.args.pool.now (granted conn.talk.state)) (sym c.session.view_is) c.requires.holder

pub returns-in_default-clause-taken : goal.returns-in_default-clause-taken
returns-in_default-clause-taken c =
    talk_taken _ _ _ _ _ _ c.talk_on-closes.new.talk _ _ _ _ (not_record c.args.item.now c.in_default.not-Record) c.session.view_is _ _ _ c.talk_on-closes.ensures.taken refl
    _ _ c.lu-before.ensures c.lu.ensures c.keep_bound.ensures

pub returns-in_default-clause-panel : goal.returns-in_default-clause-panel
returns-in_default-clause-panel c = ap (λ (conn : Session). conn.panel) c.session.view_is

pub returns-then-is_agreed-clause-taken : goal.returns-then-is_agreed-clause-taken
returns-then-is_agreed-clause-taken c =
    record_taken _ _ _ c.take_record-after.new.self _ c.in-Record.bytes.now _ c.take_record-after.result.0 c.take_record-after.result.1 _ _ c.keep_replaced.new.self _ (ap item_of c.in-Record.is)
    (ap (λ (conn : Session). is_agreed conn.talk.state) (sym c.session.view_is) ∙ sym c.is_agreed.ensures ∙ c.if-is_agreed.true) c.take_record-after.ensures.taken
    (c.keep_report.ensures.closes c.take_record-after.new.self) c.keep_replaced.ensures (c.keep_report.ensures.kept c.take_record-after.new.self)

pub returns-then-is_agreed-clause-holds : goal.returns-then-is_agreed-clause-holds
returns-then-is_agreed-clause-holds c =
    unless_closed_then c.args.conn c.args.pool.now c.keep_report.result (granted c.take_record-after.new.self.talk.state)
    (same_talk c.args.conn c.args.pool.now c.args.session.now c.take_record-after.new.self c.take_record-after.ensures.talk c.requires.holder)

pub returns-else-is_agreed-clause-taken : goal.returns-else-is_agreed-clause-taken
returns-else-is_agreed-clause-taken c =
    record_dropped _ _ _ _ c.in-Record.bytes.now _ _ (ap item_of c.in-Record.is)
    (ap (λ (conn : Session). is_agreed conn.talk.state) (sym c.session.view_is) ∙ sym c.is_agreed.ensures ∙ c.if-is_agreed.false)
