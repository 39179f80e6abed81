use Rattle.std.proofs.Common.{◌≡◌, ◌-◌, length, drop}
use Rattle.datastream.specs.Fields.{fields}
use Rattle.shadow.specs.InPlace.{beliefs_held}
use Rattle.shadow.specs.AfterReadBuffer.{others}
use Rattle.shadow.proofs.Reading.{Left}
use Rattle.shadow.proofs.buffer.any_other.Given as goal

abbrev pub invariant-loop-from : goal.invariant-loop-from
invariant-loop-from l = record {
  others : others (beliefs_held l.beliefs 0 l.beliefs) (fields l.cells) ≡ Left l.beliefs l.cells l.from (drop l.from l.beliefs) l.rest;
  left : length l.rest ≡ length l.beliefs - l.from;
}

abbrev pub decreases-loop-from : goal.decreases-loop-from
decreases-loop-from l = length l.beliefs - l.from
