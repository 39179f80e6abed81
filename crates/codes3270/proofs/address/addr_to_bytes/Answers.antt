use Rattle.codes3270.proofs.RoundTrips.{address_read_back}
use Rattle.codes3270.proofs.address.addr_to_bytes.Goals as goal

pub returns-clause-read_back : goal.returns-clause-read_back
returns-clause-read_back c =
    rw (c.code_of_value.ensures.code, c.code_of_value-2.ensures.code, ← c.addr.view_is) (address_read_back c.addr.inside.position c.addr.invariant)
