use Rattle.std.proofs.Common.{subst}
use Rattle.world3270.specs.statement.Asked.{WhatIsAskedIsSeen}
use Rattle.world3270.specs.model.ByteWorld.{ByteWorld}
use Rattle.world3270.proofs.world.World.what_is_asked_is_seen.Goals as goal

pub returns : goal.returns
returns c =
    subst (λ (w : ByteWorld). WhatIsAskedIsSeen w) c.self.view_is
    (c.what_is_asked_is_seen.ensures.bytes c.self.inside.network c.self.invariant)
