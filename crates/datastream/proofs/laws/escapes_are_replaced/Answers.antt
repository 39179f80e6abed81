use Rattle.datastream.proofs.Replacing.{escape_is_one, read_as_it_is, unchanged_without, no_longer}
use Rattle.datastream.proofs.laws.escapes_are_replaced.Goals as goal

pub returns-clause-one_character : goal.returns-clause-one_character
returns-clause-one_character c = escape_is_one

pub returns-clause-as_it_is : goal.returns-clause-as_it_is
returns-clause-as_it_is c = read_as_it_is

pub returns-clause-unchanged : goal.returns-clause-unchanged
returns-clause-unchanged c = unchanged_without

pub returns-clause-no_longer : goal.returns-clause-no_longer
returns-clause-no_longer c = no_longer 3
