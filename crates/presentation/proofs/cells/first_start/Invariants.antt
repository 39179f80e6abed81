use Rattle.std.proofs.Common.{◌≡◌, ◌-◌, drop, length, get_or}
use Rattle.codes3270.specs.declared.attribute.Cell.TheVariants.{Char}
use Rattle.presentation.proofs.Starts.{start_from}
use Rattle.presentation.proofs.cells.first_start.Given as goal

abbrev pub invariant-loop-place : goal.invariant-loop-place
invariant-loop-place l =
    start_from l.before l.place (drop l.place l.cells) ≡ start_from (get_or l.cells (length l.cells - 1) (Char 0)) 0 l.cells
