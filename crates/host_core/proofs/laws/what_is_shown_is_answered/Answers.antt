use Rattle.host_core.proofs.Answering.{believes_no_sooner, believes_notes_no_sooner, commands_are_numbered, notes_are_numbered, only_its_response}
use Rattle.host_core.proofs.laws.what_is_shown_is_answered.Goals as goal

pub returns-clause-no_sooner : goal.returns-clause-no_sooner
returns-clause-no_sooner c = believes_no_sooner

pub returns-clause-numbered : goal.returns-clause-numbered
returns-clause-numbered c = commands_are_numbered

pub returns-clause-only_its : goal.returns-clause-only_its
returns-clause-only_its c = only_its_response

pub returns-clause-notes_no_sooner : goal.returns-clause-notes_no_sooner
returns-clause-notes_no_sooner c = believes_notes_no_sooner

pub returns-clause-notes_numbered : goal.returns-clause-notes_numbered
returns-clause-notes_numbered c = notes_are_numbered
