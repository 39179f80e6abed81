use Rattle.std.proofs.Common.{◌≡◌}
use Rattle.std.specs.List.{list_all}
use Rattle.shadow.specs.Stores.{is_plain_order}
use Rattle.shadow.proofs.writing.are_plain.Given as goal

abbrev pub invariant-loop-order : goal.invariant-loop-order
invariant-loop-order l = list_all is_plain_order l.fn.orders ≡ list_all is_plain_order l.order-iterator
