use Rattle.std.proofs.Common.{◌≡◌, ◌-◌, length, drop}
use Rattle.datastream.specs.Fields.{fields}
use Rattle.shadow.specs.InPlace.{beliefs_held}
use Rattle.shadow.specs.RuleBreaks.{first_break}
use Rattle.shadow.proofs.RuleWalk.{BreakLeft}
use Rattle.shadow.proofs.verifying.first_break.Given as goal

abbrev pub invariant-loop-from : goal.invariant-loop-from
invariant-loop-from l = record {
  breaks : first_break (beliefs_held l.beliefs 0 l.beliefs) (fields l.cells) ≡ BreakLeft l.beliefs l.cells l.from (drop l.from l.beliefs) l.rest;
  left : length l.rest ≡ length l.beliefs - l.from;
}

abbrev pub decreases-loop-from : goal.decreases-loop-from
decreases-loop-from l = length l.beliefs - l.from
