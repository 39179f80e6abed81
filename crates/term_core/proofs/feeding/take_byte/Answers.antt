use Rattle.std.proofs.Common.{sym, ◌∙◌}
use Rattle.term_core.proofs.Steps.{byte_breaks, byte_goes_on, byte_completes}
use Rattle.term_core.proofs.feeding.take_byte.Goals as goal

pub returns-in-Err-clause-taken : goal.returns-in-Err-clause-taken
returns-in-Err-clause-taken c =
    byte_breaks c.args.decoder.now c.push.new.self c.args.talk.now c.args.station.now c.begin_byte.new.self c.args.out.now c.args.byte c.in-Err.field-0 c.requires.running c.in-Err.ensures.refused.0 c.begin_byte.ensures

pub returns-in-Ok-More-clause-taken : goal.returns-in-Ok-More-clause-taken
returns-in-Ok-More-clause-taken c =
    byte_goes_on c.args.decoder.now c.push.new.self c.args.talk.now c.args.station.now c.begin_byte.new.self c.args.out.now c.args.byte c.requires.running c.in-Ok-More.ensures.taken.0 (sym c.in-Ok-More.field-0-is ∙ c.in-Ok-More.ensures.taken.1) c.begin_byte.ensures

pub returns-in-Ok-Ready-clause-taken : goal.returns-in-Ok-Ready-clause-taken
returns-in-Ok-Ready-clause-taken c =
    byte_completes _ _ _ _ _ _ _ _ _ _ _ _ c.requires.running c.in-Ok-Ready.ensures.taken.0 c.item.ensures c.begin_byte.ensures c.take_item.ensures.taken
