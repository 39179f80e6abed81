use Rattle.std.proofs.Common.{subst}
use Rattle.world3270.specs.model.ByteWorld.{ByteWorld}
use Rattle.world3270.specs.statement.Shown.{WhatIsAnsweredIsShown}
use Rattle.world3270.proofs.world.World.what_is_answered_is_shown.Goals as goal

pub returns : goal.returns
returns c =
    subst (λ (w : ByteWorld). WhatIsAnsweredIsShown w) c.self.view_is
    (c.what_is_answered_is_shown.ensures.bytes c.self.inside.network c.self.invariant)
