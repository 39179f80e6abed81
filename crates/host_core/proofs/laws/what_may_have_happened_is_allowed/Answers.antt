use Rattle.host_core.proofs.Fitting.{unheard_allowed}
use Rattle.host_core.proofs.laws.what_may_have_happened_is_allowed.Goals as goal

pub returns : goal.returns
returns c = unheard_allowed c.what_is_in_doubt_is_allowed.ensures.input
