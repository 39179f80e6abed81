use Rattle.scripts.specs.Happenings.{RunsEvents, round_below}
use Rattle.scripts.proofs.idle.run_round.Given as goal

abbrev pub invariant-loop-number : goal.invariant-loop-number
invariant-loop-number l = RunsEvents (round_below l.number) l.initial.world l.quiet l.world
