-- Numbers of commands and of their responses (RFC 1647, section 8.1: SEQ-NUMBER; that they have 15 bits is our
-- profile).
use Rattle.std.specs.Prelude.{◌<◌, ◌^◌, ℕ, Option, None, Some, All, IfSome}
use Rattle.host_core.specs.Answering.{number_of, number_in}
use Rattle.host_core.specs.Messages.{ToHost}
use Rattle.world3270.specs.model.Link.{Link}
use Rattle.world3270.specs.model.World.{World}

abbrev pub IsNumber : ℕ → Type 0
IsNumber number = number < 2 ^ 15

-- the number of the command that a message answers, if one
abbrev pub number_answered : ToHost → Option ℕ
number_answered (ToHost.TalksUp saying) = None
number_answered (ToHost.Data parts) = None
number_answered (ToHost.Response number verdict) = Some number

-- Holds if these numbers have 15 bits: of the host's next command, of the pending one, of each command under way, and
-- of each response under way.
pub record AreNumbered (link : Link) : Type 0 where
  pub next : IsNumber link.host.next_seq
  pub pending : IfSome (number_of link.host.pending) IsNumber
  pub down : All (λ message. IfSome (number_in message) IsNumber) link.down
  pub up : All (λ message. IfSome (number_answered message) IsNumber) link.up

abbrev pub NumbersFit : World → Type 0
NumbersFit world = (number : ℕ) → AreNumbered (world.link number)
