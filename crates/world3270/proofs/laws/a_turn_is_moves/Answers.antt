use Rattle.world3270.proofs.ServingMoves.{every_terminal_served, turns_are_elsewhere, turns_are_moves}
use Rattle.world3270.proofs.laws.a_turn_is_moves.Goals as goal

pub returns-clause-moves : goal.returns-clause-moves
returns-clause-moves g c = turns_are_moves g.L.Links.gave g.L.Links.took

pub returns-clause-elsewhere : goal.returns-clause-elsewhere
returns-clause-elsewhere g c = turns_are_elsewhere c.what_is_given.ensures.pool.sound_granted c.what_is_given.ensures.pool.sound_back g.L.Links.gave g.L.Links.took

pub returns-clause-served : goal.returns-clause-served
returns-clause-served g c = every_terminal_served g.L.Links.gave g.L.Links.took c.every_terminal_over_bytes.ensures
