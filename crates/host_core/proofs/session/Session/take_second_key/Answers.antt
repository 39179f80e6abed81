use Rattle.std.proofs.Common.{subst, sym, ◌∙◌}
use Rattle.codes3270.specs.Size.{ScreenSize}
use Rattle.datastream.specs.InboundText.{IsNoInbound}
use Rattle.datastream.specs.declared.inbound_part.Form.TheVariants.{Modified}
use Rattle.host_core.proofs.RecordsTaken.{no_paint_sized, of_no_data, of_no_key, of_second_key}
use Rattle.host_core.proofs.session.Session.take_second_key.Goals as goal

pub returns-then-not-may_be_second_key-clause-taken : goal.returns-then-not-may_be_second_key-clause-taken
returns-then-not-may_be_second_key-clause-taken c =
    of_no_key c.args.self.now c.drop_unbelieved.new.self c.drop_unbelieved.result c.args.body.now c.requires.0 c.requires.1 (sym c.may_be_second_key.ensures ∙ c.if-not-may_be_second_key.true) c.drop_unbelieved.ensures.came

pub returns-in-Ok-clause-taken : goal.returns-in-Ok-clause-taken
returns-in-Ok-clause-taken c =
    of_second_key c.args.self.now c.drop_key.new.self c.drop_key.result c.args.body.now c.requires.0 c.in-Ok.inbound c.requires.1
    (sym c.may_be_second_key.ensures ∙ c.if-not-may_be_second_key.false) c.in-Ok.ensures.found.0
    (c.in-Ok.ensures.found.1 ∙ c.second_key_size.ensures) c.in-Ok.ensures.found.2
    c.drop_key.ensures.came

pub drop_key-requires : goal.drop_key-requires
drop_key-requires c = record { size = λ none. no_paint_sized c.args.self.now c.in-Ok.inbound.size (c.in-Ok.ensures.found.1 ∙ c.second_key_size.ensures) none }

pub returns-in-Err-clause-taken : goal.returns-in-Err-clause-taken
returns-in-Err-clause-taken c =
    of_no_data c.args.self.now c.drop_unbelieved-in-Err.new.self c.drop_unbelieved-in-Err.result c.args.body.now c.requires.0 c.in-Err.field-0 c.requires.1
    (subst (λ (size : ScreenSize). IsNoInbound size Modified c.in-Err.field-0 c.args.body.now) c.second_key_size.ensures c.in-Err.ensures.found)
    c.drop_unbelieved-in-Err.ensures.came
