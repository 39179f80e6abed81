-- The two ends of a connection agree on the size of the screen, unless a paint waits for its answer (our profile): an
-- Erase/Write or Erase/Write Alternate sets the size at the host when it is sent, and at the terminal when it is taken.
use Rattle.std.specs.Prelude.{◌≡◌, ℕ, Bool, true, false}
use Rattle.host_core.specs.Application.{Application, IsSizeOf}
use Rattle.host_core.specs.Session.{Pending}
use Rattle.world3270.specs.model.Link.{Link}
use Rattle.world3270.specs.model.World.{World}

-- whether a paint waits for its answer
abbrev pub is_painting : Pending → Bool
is_painting (Pending.Writing number command) = true
is_painting Pending.Nothing = false
is_painting (Pending.Reading number) = false
is_painting (Pending.Noting number command) = false

-- Holds if the size that the host set last and the size of the screen are sizes of the terminal's model, and equal
-- unless a paint waits for its answer.
pub record SizesAgree (app : Application) (link : Link) : Type 0 where
  pub host : IsSizeOf app link.term.display.model link.host.size
  pub screen : IsSizeOf app link.term.display.model link.term.display.size
  pub same : is_painting link.host.pending ≡ false → link.term.display.size ≡ link.host.size

abbrev pub AllSizesAgree : Application → World → Type 0
AllSizesAgree app world = (number : ℕ) → SizesAgree app (world.link number)
