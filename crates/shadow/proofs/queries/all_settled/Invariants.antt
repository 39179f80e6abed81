use Rattle.std.proofs.Common.{◌≡◌, ◌-◌, drop}
use Rattle.shadow.specs.InPlace.{beliefs_held}
use Rattle.shadow.specs.Settled.{are_settled}
use Rattle.shadow.proofs.queries.all_settled.Given as goal

abbrev pub invariant-loop-place : goal.invariant-loop-place
invariant-loop-place l = are_settled (beliefs_held l.beliefs 0 l.beliefs) ≡ are_settled (beliefs_held l.beliefs l.place (drop l.place l.beliefs))

abbrev pub decreases-loop-place : goal.decreases-loop-place
decreases-loop-place l = l.cells - l.place
