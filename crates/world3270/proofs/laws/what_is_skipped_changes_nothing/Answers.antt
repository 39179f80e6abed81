use Rattle.world3270.proofs.Skipped.{skipped_changes_nothing}
use Rattle.world3270.proofs.laws.what_is_skipped_changes_nothing.Goals as goal

pub returns : goal.returns
returns c = skipped_changes_nothing
