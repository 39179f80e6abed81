use Rattle.std.proofs.Common.{◌∙◌, ap}
use Rattle.server.specs.ProxyListener.{outcome_of}
use Rattle.server.proofs.proxy_listener.ConnectionAwaitingHeader.serve.Goals as goal

pub returns : goal.returns
returns g c =
    (c.read_on.result, c.read_on.ensures, c.outcome_of.ensures ∙ ap (λ late. outcome_of c.read_on.result c.args.self.now.accepted.peer late) c.is_late-late.ensures)
