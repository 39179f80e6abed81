use Rattle.std.proofs.Common.{sym, ◌∙◌, ap}
use Rattle.telnet_wire.specs.Items.{item_of}
use Rattle.term_core.proofs.Steps.{for_screen, for_talk, not_record}
use Rattle.term_core.proofs.feeding.take_item.Goals as goal

pub returns-in-Agreed-clause-taken : goal.returns-in-Agreed-clause-taken
returns-in-Agreed-clause-taken c =
    for_screen _ _ _ _ c.in-Agreed.field-0 c.in-Record.bytes.now _ _ _ (sym c.state.ensures ∙ c.in-Agreed.is) (ap item_of c.in-Record.is) c.take_record.ensures.taken

pub returns-in_default-clause-taken : goal.returns-in_default-clause-taken
returns-in_default-clause-taken c =
    for_talk _ _ _ _ c.take-in_default.result _ _ _ (not_record c.args.item.now c.in_default.not-Record) c.take-in_default.ensures c.put_reply-in_default.ensures.closes c.put_reply-in_default.ensures.sent
