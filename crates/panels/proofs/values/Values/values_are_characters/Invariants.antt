use Rattle.std.specs.Prelude.{All}
use Rattle.std.specs.Map.{values_of}
use Rattle.panels.specs.Characters.{AreCharacters}
use Rattle.panels.proofs.values.Values.values_are_characters.Given as goal

-- if the rest are, all are
abbrev pub invariant-loop-value : goal.invariant-loop-value
invariant-loop-value l = All AreCharacters l.value-iterator → All AreCharacters (values_of l.self)
