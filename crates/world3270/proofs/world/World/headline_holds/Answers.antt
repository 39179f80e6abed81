use Rattle.std.proofs.Common.{subst}
use Rattle.world3270.specs.model.ByteWorld.{ByteWorld}
use Rattle.world3270.specs.statement.Headline.{Headline}
use Rattle.world3270.specs.statement.ByteObservation.{seen_bytes}
use Rattle.world3270.proofs.world.World.headline_holds.Goals as goal

pub returns : goal.returns
returns c =
    subst (λ (w : ByteWorld). Headline (seen_bytes w)) c.self.view_is
    (c.bytes_follow_messages.ensures.headline c.self.inside.network c.self.invariant)
