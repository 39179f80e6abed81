use Rattle.world3270.proofs.Headline.{headline}
use Rattle.world3270.proofs.Worlds.{run-append}
use Rattle.world3270.proofs.laws.the_headline_holds.Goals as goal

pub returns : goal.returns
returns c = record { headline = headline c.what_is_given.ensures; pieces = run-append }
