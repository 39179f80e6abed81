use Rattle.std.proofs.Common.{drop}
use Rattle.panels.specs.Screen.{first_some, stopper_cell}
use Rattle.panels.specs.Put.{IsPut}
use Rattle.panels.proofs.screen.put_stoppers.Given as goal

abbrev pub invariant-loop-index : goal.invariant-loop-index
invariant-loop-index l = IsPut (λ cell. first_some (stopper_cell cell) (drop l.index l.fields)) l.initial.wanted l.wanted
