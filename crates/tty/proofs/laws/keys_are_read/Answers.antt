use Rattle.tty.proofs.Listed.{sequences_are_read, sequences_type_nothing}
use Rattle.tty.proofs.Encoded.{characters_are_read}
use Rattle.tty.proofs.LongSequences.{control_sequences_are_one, controls_break_off, late_rests_are_read, mouse_reports_are_one, strings_type_nothing}
use Rattle.tty.proofs.laws.keys_are_read.Goals as goal

pub returns-clause-sequences : goal.returns-clause-sequences
returns-clause-sequences c = sequences_are_read

pub returns-clause-characters : goal.returns-clause-characters
returns-clause-characters c = characters_are_read

pub returns-clause-any_length : goal.returns-clause-any_length
returns-clause-any_length c = control_sequences_are_one

pub returns-clause-types_nothing : goal.returns-clause-types_nothing
returns-clause-types_nothing c = sequences_type_nothing

pub returns-clause-breaks_off : goal.returns-clause-breaks_off
returns-clause-breaks_off c = controls_break_off

pub returns-clause-mouse : goal.returns-clause-mouse
returns-clause-mouse c = mouse_reports_are_one

pub returns-clause-strings : goal.returns-clause-strings
returns-clause-strings c = strings_type_nothing

pub returns-clause-late : goal.returns-clause-late
returns-clause-late c = late_rests_are_read
