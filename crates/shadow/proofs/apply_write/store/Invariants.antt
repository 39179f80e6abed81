use Rattle.std.proofs.Common.{◌≡◌, ◌<◌, length, List, All}
use Rattle.codes3270.specs.Size.{cells_in}
use Rattle.datastream.specs.Grammar.{IsProper}
use Rattle.shadow.specs.declared.cell_belief.CellBelief.{CellBelief}
use Rattle.shadow.specs.Since.{cells_written, Since}
use Rattle.shadow.specs.Stores.{stores}
use Rattle.shadow.specs.Taken.{known_stored}
use Rattle.shadow.proofs.apply_write.store.Given as goal

abbrev pub invariant-loop-order : goal.invariant-loop-order
invariant-loop-order l = record {
  cells : known_stored (stores (cells_in l.size) 0 l.fn.orders) (cells_written l.fn.beliefs l.fn.pasts) ≡ known_stored (stores (cells_in l.size) l.at l.orders) (cells_written l.beliefs l.pasts);
  since : (old : List CellBelief) → Since old l.fn.beliefs l.fn.pasts → Since old l.beliefs l.pasts;
  size : length l.pasts ≡ length l.beliefs;
  same_size : length l.beliefs ≡ length l.fn.beliefs;
  proper : All (IsProper (cells_in l.size)) l.orders;
  placed : l.at < cells_in l.size;
}

abbrev pub decreases-loop-order : goal.decreases-loop-order
decreases-loop-order l = length l.orders
