use Rattle.std.proofs.Common.{◌≡◌, ◌++◌, map, drop}
use Rattle.std.specs.Prelude.{string_bytes}
use Rattle.panels.specs.Defines.{IsPanelOf}
use Rattle.panels.proofs.Building.{AreBuilt}
use Rattle.panels.proofs.draft.Draft.build.Given as goal

abbrev pub invariant-loop-lu : goal.invariant-loop-lu
invariant-loop-lu l = l.self.lus ≡ map string_bytes l.lus.items ++ map (λ lu. lu.now) (drop l.lu-index l.lu-items)

abbrev pub invariant-loop-index : goal.invariant-loop-index
invariant-loop-index l = AreBuilt (IsPanelOf l.self.panels) l.self.panels l.index l.panels.items
