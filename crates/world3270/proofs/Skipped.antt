-- An event that is skipped changes nothing.
use Rattle.std.proofs.Common.{◌≡◌, not, Bool, true, false, refl, if◌then◌else◌}
use Rattle.world3270.specs.model.Steps.{done}
use Rattle.world3270.specs.model.Enabled.{is_enabled}
use Rattle.world3270.specs.statement.Skipped.{SkippedChangesNothing}

pub skipped_changes_nothing : SkippedChangesNothing
skipped_changes_nothing app event world = by_test (is_enabled app event world)
  where
    by_test : (b : Bool) → not b ≡ true → (if b then done app event world else world) ≡ world
    by_test true e = absurd (cc)
    by_test false e = refl
