use Rattle.datastream.proofs.Notes.{keeps_bounds, keeps_form, leaves_unprotected, keeps_sendable, keeps_held, stays_protected, are_characters, compose}
use Rattle.datastream.proofs.laws.what_a_note_keeps.Goals as goal

pub returns-clause-bounds : goal.returns-clause-bounds
returns-clause-bounds c = keeps_bounds

pub returns-clause-form : goal.returns-clause-form
returns-clause-form c = keeps_form

pub returns-clause-unprotected : goal.returns-clause-unprotected
returns-clause-unprotected c = leaves_unprotected

pub returns-clause-sendable : goal.returns-clause-sendable
returns-clause-sendable c = keeps_sendable

pub returns-clause-held : goal.returns-clause-held
returns-clause-held c = keeps_held

pub returns-clause-still_protected : goal.returns-clause-still_protected
returns-clause-still_protected c = stays_protected

pub returns-clause-characters : goal.returns-clause-characters
returns-clause-characters c = are_characters

pub returns-clause-composes : goal.returns-clause-composes
returns-clause-composes c = compose
