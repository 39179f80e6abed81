use Rattle.world3270.proofs.Sendable.{screens_have_a_size, screens_are_sendable, data_can_be_spelt, paints_are_screens, paints_are_spelt, values_are_texts}
use Rattle.world3270.proofs.laws.screens_can_be_sent.Goals as goal

pub returns-clause-size : goal.returns-clause-size
returns-clause-size c = screens_have_a_size c.what_is_given.ensures

pub returns-clause-screens : goal.returns-clause-screens
returns-clause-screens c = screens_are_sendable c.sent_is_read.ensures c.what_is_given.ensures

pub returns-clause-data : goal.returns-clause-data
returns-clause-data c = data_can_be_spelt c.sent_is_read.ensures c.what_is_given.ensures

pub returns-clause-paints : goal.returns-clause-paints
returns-clause-paints c = paints_are_screens c.sent_is_read.ensures c.what_is_given.ensures

pub returns-clause-encoded : goal.returns-clause-encoded
returns-clause-encoded c = paints_are_spelt c.sent_is_read.ensures c.what_is_given.ensures

pub returns-clause-values : goal.returns-clause-values
returns-clause-values c = values_are_texts c.sent_is_read.ensures c.what_is_given.ensures
