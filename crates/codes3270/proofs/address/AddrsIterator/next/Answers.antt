use Rattle.std.proofs.Common.{◌≡◌, ◌+◌, ◌-◌, ◌∷◌, rules}
use Rattle.std.specs.List.{range_with_len}
use Rattle.codes3270.specs.Size.{cells_in}
use Rattle.codes3270.proofs.Addresses.{next_address}
use Rattle.codes3270.proofs.address.AddrsIterator.next.Goals as goal

pub returns-in-Some-clause-steps : goal.returns-in-Some-clause-steps
returns-in-Some-clause-steps c = next_address _ _ (cells_in c.self.inside.size) _ c.self.view_is c.in-Some.ensures

pub returns-in-Some-clause-goes : goal.returns-in-Some-clause-goes
returns-in-Some-clause-goes c =
    let step : c.args.self.now ≡ c.in-Some.addr ∷ range_with_len (c.self.inside.next + 1) ((cells_in c.self.inside.size) - (c.self.inside.next + 1)) =
    next_address _ _ (cells_in c.self.inside.size) _ c.self.view_is c.in-Some.ensures in
    search rules
