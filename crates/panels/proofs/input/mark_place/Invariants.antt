use Rattle.std.proofs.Common.{◌≡◌, ◌+◌, true, drop}
use Rattle.panels.specs.PanelText.{mark_place}
use Rattle.panels.proofs.input.mark_place.Given as goal

abbrev pub invariant-loop-place : goal.invariant-loop-place
invariant-loop-place l = mark_place true l.text ≡ l.place + mark_place l.begins (drop l.place l.text)
