use Rattle.std.proofs.Common.{refl}
use Rattle.applications.specs.declared.exchange.IoProgress.TheVariants.{Moved, Still}
use Rattle.applications.proofs.notifications.go_on.Goals as goal
use Rattle.applications.proofs.notifications.go_on.Goals.{in-Moved, in-Still}

pub returns : goal.returns
returns g c =
    elim c.match-go_on.branch [
      | in-Moved w ↦ record { progress = Moved; next = c.go_on.new.self; goes_on = w.in-Moved.ensures; did_is = w.has_moved-is; after_is = refl }
      | in-Still w ↦ record { progress = Still; next = c.go_on.new.self; goes_on = w.in-Still.ensures; did_is = w.has_moved-is; after_is = refl }
    ]
