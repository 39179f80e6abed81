use Rattle.std.specs.Prelude.{option_map}
use Rattle.panels.specs.Put.{cell_with}
use Rattle.panels.proofs.Putting.{IsPutFrom}
use Rattle.panels.proofs.screen.put_item.Given as goal

abbrev pub invariant-loop-distance : goal.invariant-loop-distance
invariant-loop-distance l = IsPutFrom l.start l.distance (cell_with l.attr (option_map (λ bytes. bytes.now) l.content)) l.initial.wanted l.wanted
