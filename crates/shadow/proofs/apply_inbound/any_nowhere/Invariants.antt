use Rattle.std.proofs.Common.{◌≡◌, length, All}
use Rattle.datastream.specs.InboundFields.{IsProperReturned}
use Rattle.std.specs.List.{list_any}
use Rattle.shadow.specs.Heard.{is_nowhere}
use Rattle.shadow.specs.InPlace.{beliefs_held}
use Rattle.shadow.proofs.apply_inbound.any_nowhere.Given as goal

abbrev pub invariant-loop-field : goal.invariant-loop-field
invariant-loop-field l = record {
  same : list_any (is_nowhere (length l.beliefs) (beliefs_held l.beliefs 0 l.beliefs)) l.fn.came ≡ list_any (is_nowhere (length l.beliefs) (beliefs_held l.beliefs 0 l.beliefs)) l.field-iterator;
  proper : All (IsProperReturned (length l.beliefs)) l.field-iterator;
}
