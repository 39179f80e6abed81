-- An event that is skipped changes nothing (our profile).
use Rattle.std.specs.Prelude.{◌≡◌, true}
use Rattle.host_core.specs.Application.{Application}
use Rattle.world3270.specs.model.Steps.{stepped_by}
use Rattle.world3270.specs.model.Enabled.{is_skipped}
use Rattle.world3270.specs.model.World.{World, Event}

abbrev pub SkippedChangesNothing : Type 0
SkippedChangesNothing = (app : Application) (event : Event) (world : World) → is_skipped app event world ≡ true
    → stepped_by app event world ≡ world
