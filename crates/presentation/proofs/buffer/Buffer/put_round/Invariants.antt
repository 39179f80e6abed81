use Rattle.std.proofs.Common.{◌≡◌, ◌<◌, true, map, length}
use Rattle.std.specs.List.{All}
use Rattle.codes3270.specs.Size.{cells_in}
use Rattle.codes3270.specs.Storable.{is_storable}
use Rattle.datastream.specs.declared.order.Order.TheVariants.{Char as CharData}
use Rattle.datastream.specs.Meaning.{all_executed}
use Rattle.presentation.proofs.buffer.Buffer.put_round.Given as goal

abbrev pub invariant-loop-rest : goal.invariant-loop-rest
invariant-loop-rest l = record {
  so_far : all_executed (map CharData l.rest) (record { screen = l.self.screen; address = l.position.address; after_data = l.position.nulls })
      ≡ all_executed (map CharData l.fn.text) (record { screen = l.fn.self.screen; address = l.fn.position.address; after_data = l.fn.position.nulls });
  size : l.self ≡ record l.fn.self { screen = l.self.screen };
  address : l.position.address < cells_in l.fn.self.size;
  storable : All (λ byte. is_storable byte ≡ true) l.rest;
}

abbrev pub decreases-loop-rest : goal.decreases-loop-rest
decreases-loop-rest l = length l.rest
