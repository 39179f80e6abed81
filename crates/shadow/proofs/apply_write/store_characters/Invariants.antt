use Rattle.std.proofs.Common.{◌≡◌, ◌<◌, ◌++◌, length, map, List}
use Rattle.codes3270.specs.Size.{cells_in}
use Rattle.datastream.specs.declared.order.Order.{Order}
use Rattle.datastream.specs.declared.order.Order.TheVariants.{Char as CharData}
use Rattle.shadow.specs.declared.cell_belief.CellBelief.{CellBelief}
use Rattle.shadow.specs.Since.{cells_written, Since}
use Rattle.shadow.specs.Stores.{stores}
use Rattle.shadow.specs.Taken.{known_stored}
use Rattle.shadow.proofs.apply_write.store_characters.Given as goal

abbrev pub invariant-loop-rest : goal.invariant-loop-rest
invariant-loop-rest l = record {
  cells : (more : List Order) → known_stored (stores (cells_in l.size) l.fn.at (map CharData l.fn.text ++ more)) (cells_written l.fn.beliefs l.fn.pasts)
      ≡ known_stored (stores (cells_in l.size) l.at (map CharData l.rest ++ more)) (cells_written l.beliefs l.pasts);
  since : (old : List CellBelief) → Since old l.fn.beliefs l.fn.pasts → Since old l.beliefs l.pasts;
  size : length l.pasts ≡ length l.beliefs;
  same_size : length l.beliefs ≡ length l.fn.beliefs;
  in_range : l.at < cells_in l.size;
}

abbrev pub decreases-loop-rest : goal.decreases-loop-rest
decreases-loop-rest l = length l.rest
