use Rattle.datastream.proofs.HeldRounds.{held_round, round_held, held_at_first, held_composes, erase_input_holds}
use Rattle.datastream.proofs.laws.kept_since_the_write.Goals as goal

pub returns-clause-round : goal.returns-clause-round
returns-clause-round c = λ erased left now. (held_round erased left now, round_held erased left now)

pub returns-clause-at_first : goal.returns-clause-at_first
returns-clause-at_first c = held_at_first

pub returns-clause-composes : goal.returns-clause-composes
returns-clause-composes c = held_composes

pub returns-clause-erase_input : goal.returns-clause-erase_input
returns-clause-erase_input c = erase_input_holds
