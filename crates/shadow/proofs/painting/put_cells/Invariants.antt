use Rattle.std.proofs.Common.{length, None}
use Rattle.codes3270.specs.Size.{cells_in}
use Rattle.datastream.specs.Writing.{orders_bytes}
use Rattle.shadow.specs.Base.{known_base}
use Rattle.shadow.specs.Looks.{stores_from, IsSearch}
use Rattle.shadow.specs.Paint.{painting, to_store}
use Rattle.shadow.proofs.Appendings.{IsUnderWay}
use Rattle.shadow.proofs.painting.put_cells.Given as goal

abbrev pub invariant-loop-store : goal.invariant-loop-store
invariant-loop-store l = record {
  search : IsSearch l.wanted.cells (known_base l.base) l.search;
  under_way : IsUnderWay l.fn.writer.out l.writer.out (orders_bytes (painting (cells_in l.wanted.size) l.cursor l.at (stores_from l.wanted.cells (known_base l.base) l.search.from)))
      (orders_bytes (painting (cells_in l.wanted.size) l.cursor None (to_store l.wanted.cells 0 l.wanted.cells (known_base l.base))));
}

abbrev pub decreases-loop-store : goal.decreases-loop-store
decreases-loop-store l = length (stores_from l.wanted.cells (known_base l.base) l.search.from)
