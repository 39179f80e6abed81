use Rattle.std.proofs.Common.{subst}
use Rattle.world3270.specs.model.ByteWorld.{ByteWorld}
use Rattle.world3270.specs.statement.ProtocolErrors.{HasNoProtocolError}
use Rattle.world3270.proofs.world.World.has_no_protocol_error.Goals as goal

pub returns : goal.returns
returns c =
    subst (λ (w : ByteWorld). HasNoProtocolError w) c.self.view_is
    (c.no_protocol_errors.ensures.worlds c.self.inside.network c.self.invariant)
