use Rattle.server.proofs.proxy_listener.leave.Goals as goal

pub returns : goal.returns
returns g c =
    (c.remove.result, record { inside = c.requires; is_one = c.remove.ensures.value }, c.arrival_of.ensures, c.remove.ensures.items)
