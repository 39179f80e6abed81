use Rattle.std.proofs.Common.{◌≡◌}
use Rattle.shadow.specs.Stores.{stores_unplaced}
use Rattle.shadow.proofs.writing.stores_unplaced.Given as goal

abbrev pub invariant-loop-order : goal.invariant-loop-order
invariant-loop-order l = stores_unplaced l.fn.orders ≡ stores_unplaced l.order-iterator
