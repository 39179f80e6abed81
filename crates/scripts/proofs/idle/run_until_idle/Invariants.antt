use Rattle.scripts.proofs.Rounds.{RoundsMade}
use Rattle.scripts.proofs.idle.run_until_idle.Given as goal

abbrev pub invariant-loop : goal.invariant-loop
invariant-loop l = RoundsMade l.counter l.initial.world l.world
