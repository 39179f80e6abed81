-- A run in pieces is one run.
use Rattle.std.proofs.Common.{[], ◌∷◌, refl}
use Rattle.world3270.specs.model.Steps.{stepped_by, RunsCompose}

pub runs_compose : RunsCompose
runs_compose app [] more world = refl
runs_compose app (event ∷ events) more world = runs_compose app events more (stepped_by app event world)
