-- The size of the believed screen (our profile).
use Rattle.std.specs.Prelude.{◌≡◌, true, length, IfOk}
use Rattle.codes3270.specs.Size.{cells_in}
use Rattle.datastream.specs.Grammar.{CommandParts, IsSpelt}
use Rattle.datastream.specs.InboundText.{InboundParts, IsSent}
use Rattle.datastream.specs.Screen.{Screen}
use Rattle.datastream.specs.declared.command_code.CommandCode.TheVariants.{Write}
use Rattle.shadow.specs.Belief.{Shadow, IsOfSize}
use Rattle.shadow.specs.Exactness.{KnownIsExact}
use Rattle.shadow.specs.Heard.{heard}
use Rattle.shadow.specs.Meets.{Meets}
use Rattle.shadow.specs.Stores.{is_plain}
use Rattle.shadow.specs.Taken.{taken}

-- A screen that meets the belief has the believed size.
abbrev pub MeetsIsOfSize : Type 0
MeetsIsOfSize = (shadow : Shadow) (screen : Screen) → Meets shadow screen → IsOfSize (length screen.cells) shadow

-- After inbound data that was read for the believed size, the size is the same. If nothing was known before, it is the
-- size that the data was read for.
abbrev pub HeardIsOfSize : Type 0
HeardIsOfSize = (shadow : Shadow) (inbound : InboundParts) → IsSent inbound → IsOfSize (cells_in inbound.size) shadow
    → IfOk (heard (cells_in inbound.size) shadow inbound) (IsOfSize (cells_in inbound.size))

-- After a plain write the believed size is the command's. A Write must have been read for the believed size.
abbrev pub TakenIsOfSize : Type 0
TakenIsOfSize = (command : CommandParts) (shadow : Shadow) → IsSpelt command → is_plain command ≡ true
    → KnownIsExact shadow
    → (command.code ≡ Write → IsOfSize (cells_in command.size) shadow)
    → IsOfSize (cells_in command.size) (taken (cells_in command.size) command shadow)
