use Rattle.std.proofs.Common.{◌≡◌, ◌++◌, map}
use Rattle.std.specs.List.{range_with_len}
use Rattle.tty.specs.Painting.{painted_at}
use Rattle.tty.proofs.picture.put_screen.Given as goal

abbrev pub invariant-loop-index : goal.invariant-loop-index
invariant-loop-index l = l.cells.items ≡ l.fn.cells.items ++ map (painted_at l.screen.screen.cells) (range_with_len 0 l.index)
