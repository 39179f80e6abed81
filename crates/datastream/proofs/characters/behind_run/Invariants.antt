use Rattle.std.proofs.Common.{◌≡◌, length}
use Rattle.datastream.proofs.CharacterRuns.{behind}
use Rattle.datastream.proofs.characters.behind_run.Given as goal

abbrev pub invariant-loop-rest : goal.invariant-loop-rest
invariant-loop-rest l = behind l.rest ≡ behind l.fn.text

abbrev pub decreases-loop-rest : goal.decreases-loop-rest
decreases-loop-rest l = length l.rest
