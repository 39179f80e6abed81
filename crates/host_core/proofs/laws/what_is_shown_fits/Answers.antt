use Rattle.host_core.proofs.Fitting.{acts_fit, sizes_are}
use Rattle.host_core.proofs.laws.what_is_shown_fits.Goals as goal

pub returns : goal.returns
returns c = record { fits = acts_fit; sizes = sizes_are }
