-- The form of inbound data (our profile). Its bytes don't say whether they are modified fields or a whole buffer, nor
-- the size of the screen: the host reads them in the form that it awaits, by the size that it knows.
use Rattle.std.specs.Prelude.{◌≡◌, ℕ, List, ◌∷◌}
use Rattle.datastream.specs.InboundText.{InboundParts}
use Rattle.host_core.specs.Messages.{ToHost}
use Rattle.host_core.specs.Session.{Session}
use Rattle.host_core.specs.Takes.{form_awaited}
use Rattle.world3270.specs.model.World.{World}

-- Holds if data has the form and the size that the host awaits.
pub record IsAwaitedBy (conn : Session) (parts : InboundParts) : Type 0 where
  pub form : parts.form ≡ form_awaited conn.pending
  pub size : parts.size ≡ conn.size

-- On each connection data that the host takes next has the form and the size that it awaits.
abbrev pub FormsAreAwaited : World → Type 0
FormsAreAwaited world = (number : ℕ) (parts : InboundParts) (rest : List ToHost)
    → (world.link number).up ≡ ToHost.Data parts ∷ rest → IsAwaitedBy (world.link number).host parts
