use Rattle.std.proofs.Common.{◌≡◌, ◌-◌}
use Rattle.shadow.specs.Base.{known_base}
use Rattle.shadow.specs.Looks.{stores_from, IsSearch}
use Rattle.shadow.proofs.searching.Search.next_to_store.Given as goal

abbrev pub invariant-loop-self : goal.invariant-loop-self
invariant-loop-self l = record {
  search : IsSearch l.wanted.cells (known_base l.base) l.self;
  left : stores_from l.wanted.cells (known_base l.base) l.fn.self.from ≡ stores_from l.wanted.cells (known_base l.base) l.self.from;
}

abbrev pub decreases-loop-self : goal.decreases-loop-self
decreases-loop-self l = l.cells - l.self.from
