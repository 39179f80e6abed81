use Rattle.std.proofs.Common.{◌≡◌, ◌<◌, false, length}
use Rattle.std.specs.List.{All}
use Rattle.codes3270.specs.Size.{cells_in}
use Rattle.datastream.specs.Grammar.{IsProper}
use Rattle.datastream.specs.Meaning.{all_executed}
use Rattle.presentation.proofs.buffer.Buffer.execute_all.Given as goal

abbrev pub invariant-loop-order : goal.invariant-loop-order
invariant-loop-order l = record {
  so_far : all_executed l.orders (record { screen = l.self.screen; address = l.position.address; after_data = l.position.nulls })
      ≡ all_executed l.fn.orders (record { screen = l.fn.self.screen; address = l.fn.self.screen.cursor; after_data = false });
  size : l.self ≡ record l.fn.self { screen = l.self.screen };
  address : l.position.address < cells_in l.fn.self.size;
  proper : All (IsProper (cells_in l.fn.self.size)) l.orders;
}

abbrev pub decreases-loop-order : goal.decreases-loop-order
decreases-loop-order l = length l.orders
