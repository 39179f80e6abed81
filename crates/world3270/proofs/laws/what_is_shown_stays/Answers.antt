use Rattle.world3270.proofs.Leading.{keys_lead_to_one}
use Rattle.world3270.proofs.ScreensFound.{decisions_are_shown, others_are_not_shown, paints_find}
use Rattle.world3270.proofs.ScreensStay.{turns_keep, turns_keep_over_bytes}
use Rattle.world3270.proofs.ShownSince.{answers_are_shown, steps_keep, waiting_keeps}
use Rattle.world3270.proofs.laws.what_is_shown_stays.Goals as goal

pub returns-clause-steps : goal.returns-clause-steps
returns-clause-steps c = steps_keep c.bytes_follow_messages.ensures.steps c.bytes_follow_messages.ensures.skipped

pub returns-clause-answers : goal.returns-clause-answers
returns-clause-answers c =
    answers_are_shown c.bytes_follow_messages.ensures.steps c.bytes_follow_messages.ensures.skipped c.what_is_answered_is_shown.ensures.bytes

pub returns-clause-waiting : goal.returns-clause-waiting
returns-clause-waiting c = waiting_keeps

pub returns-clause-found : goal.returns-clause-found
returns-clause-found c = paints_find c.what_is_given.ensures

pub returns-clause-decisions : goal.returns-clause-decisions
returns-clause-decisions c =
    decisions_are_shown c.what_is_given.ensures c.panels_are_shown.ensures.application c.fields_are_on_the_screen.ensures c.bytes_follow_messages.ensures.steps c.bytes_follow_messages.ensures.skipped
    c.what_is_answered_is_shown.ensures.bytes

pub returns-clause-keys : goal.returns-clause-keys
returns-clause-keys c = keys_lead_to_one

pub returns-clause-others : goal.returns-clause-others
returns-clause-others c = others_are_not_shown c.what_is_answered_is_shown.ensures.others

pub returns-clause-turns : goal.returns-clause-turns
returns-clause-turns c = turns_keep c.what_is_given.ensures

pub returns-clause-turns_over_bytes : goal.returns-clause-turns_over_bytes
returns-clause-turns_over_bytes c =
    turns_keep_over_bytes c.what_is_given.ensures c.panels_are_shown.ensures.application c.bytes_follow_messages.ensures.steps c.bytes_follow_messages.ensures.skipped
