use Rattle.std.proofs.Common.{Ok, ◌∙◌, ap, refl}
use Rattle.applications.specs.ExchangeTurns.{ends, connection_after, moves, waits}
use Rattle.applications.proofs.exchanges.go_on.Goals as goal
use Rattle.applications.proofs.exchanges.go_on.Goals.{in-Moved, in-Still}

pub returns : goal.returns
returns g c =
    elim c.match-go_on.branch [
      | in-Moved w ↦ moves c.go_on.new.self w.in-Moved.ensures refl refl (ap (λ did. Ok did) w.has_moved-is)
      | in-Still w ↦ waits c.go_on.new.self w.in-Still.ensures refl refl (ap (λ did. Ok did) w.has_moved-is)
    ]

pub returns-in-Over : goal.returns-in-Over
returns-in-Over g c =
    ends c.in-Over.outcome c.go_on.new.self c.in-Over.ensures
    (c.connection_after.ensures ∙ ap (connection_after c.in-Over.outcome c.args.asking.now) c.into_stream.ensures) c.end.ensures
