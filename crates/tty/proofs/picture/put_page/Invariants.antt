use Rattle.std.specs.Prelude.{string_bytes}
use Rattle.std.proofs.Common.{◌≡◌, ◌++◌, map}
use Rattle.tty.specs.Painting.{page_cells}
use Rattle.tty.proofs.picture.put_page.Given as goal

abbrev pub invariant-loop-row : goal.invariant-loop-row
invariant-loop-row l = l.cells.items ≡ l.fn.cells.items ++ page_cells l.row l.columns (map (λ line. string_bytes line) l.lines)
