use Rattle.world3270.proofs.ProtocolErrors.{events_make_no_errors, refusals_are_negative, worlds_have_no_error}
use Rattle.world3270.proofs.laws.no_protocol_errors.Goals as goal

pub returns-clause-worlds : goal.returns-clause-worlds
returns-clause-worlds c = worlds_have_no_error c.what_is_known.ensures.worlds

pub returns-clause-events : goal.returns-clause-events
returns-clause-events c =
    let laws = c.bytes_follow_messages.ensures in
    events_make_no_errors laws.steps laws.nobody_closes laws.say_no_refusal

pub returns-clause-refusals : goal.returns-clause-refusals
returns-clause-refusals c = refusals_are_negative
