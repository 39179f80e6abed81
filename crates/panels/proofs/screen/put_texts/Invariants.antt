use Rattle.std.proofs.Common.{drop}
use Rattle.panels.specs.Screen.{first_some, text_cell}
use Rattle.panels.specs.Put.{IsPut}
use Rattle.panels.proofs.screen.put_texts.Given as goal

abbrev pub invariant-loop-index : goal.invariant-loop-index
invariant-loop-index l = IsPut (λ cell. first_some (text_cell l.values cell) (drop l.index l.texts)) l.initial.wanted l.wanted
