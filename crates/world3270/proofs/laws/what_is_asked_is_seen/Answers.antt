use Rattle.world3270.proofs.Asked.{asked_is_seen, each_is_seen, screens_are_as_left}
use Rattle.world3270.proofs.AskedOverBytes.{asked_over_bytes}
use Rattle.world3270.proofs.AskedPanels.{other_panels_are_not, panels_are_asked}
use Rattle.world3270.proofs.KeysAsked.{keys_are_asked, keys_asked_over_bytes}
use Rattle.world3270.proofs.laws.what_is_asked_is_seen.Goals as goal

pub returns-clause-messages : goal.returns-clause-messages
returns-clause-messages c = asked_is_seen c.what_is_given.ensures

pub returns-clause-fields : goal.returns-clause-fields
returns-clause-fields c = each_is_seen c.what_is_given.ensures

pub returns-clause-panels : goal.returns-clause-panels
returns-clause-panels c = panels_are_asked c.what_is_answered_is_shown.ensures.fields

pub returns-clause-others : goal.returns-clause-others
returns-clause-others c = other_panels_are_not

pub returns-clause-screens : goal.returns-clause-screens
returns-clause-screens c = screens_are_as_left c.what_is_given.ensures

pub returns-clause-bytes : goal.returns-clause-bytes
returns-clause-bytes c =
    asked_over_bytes c.panels_are_shown.ensures.application c.fields_are_on_the_screen.ensures c.what_is_answered_is_shown.ensures.bytes
    (keys_asked_over_bytes c.what_is_given.ensures c.panels_are_shown.ensures.application c.fields_are_on_the_screen.ensures) (asked_is_seen c.what_is_given.ensures) (each_is_seen c.what_is_given.ensures)
    (screens_are_as_left c.what_is_given.ensures)

pub returns-clause-keys : goal.returns-clause-keys
returns-clause-keys c = keys_are_asked c.what_is_given.ensures
