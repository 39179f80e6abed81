-- A terminal that keeps the rules executes what comes down, whatever its screen has: when it may, and that it does over bytes what it does over
-- messages.
use Rattle.std.proofs.Common.{◌≡◌}
use Rattle.telnet_wire.specs.Items.{WireItem}
use Rattle.host_core.specs.Messages.{ToTerminal}
use Rattle.world3270.specs.model.Terminal.{TermEnd}
use Rattle.world3270.specs.model.TrackedTerminals.{ByteEnd, ByteStep, EndTakes}
use Rattle.world3270.specs.refinement.Represents.{IsEnd, RepresentsDown}
use Rattle.world3270.specs.refinement.RepresentsEnds.{MayCome, SameStep, is_painted}
use Rattle.world3270.specs.refinement.Sendable.{CanBeSent}
use Rattle.world3270.specs.statement.EveryTerminal.{executed}
use Rattle.world3270.proofs.RepresentsSizes.{MayExecute}

-- as `MayCome`, but a paint may find any screen
abbrev pub MayTake : TermEnd → ToTerminal → Type 0
MayTake end (ToTerminal.Paint number wanted believed) = MayExecute wanted believed end
MayTake end (ToTerminal.TalksDown saying) = MayCome end (ToTerminal.TalksDown saying)
MayTake end (ToTerminal.ReadBuffer number) = MayCome end (ToTerminal.ReadBuffer number)
MayTake end (ToTerminal.Note number command) = MayCome end (ToTerminal.Note number command)

-- an item comes that represents a message which the terminal may take
pub record ItemExecutes (message : ToTerminal) (item : WireItem) (old : ByteEnd) (end : TermEnd) (step : ByteStep) : Type 0 where
  pub stands : RepresentsDown item message
  pub may : MayTake end message
  pub sendable : CanBeSent end.display.size end.display.screen
  pub is_end : IsEnd old end
  pub takes : EndTakes old item step

-- it executes it, and marks a write where it is a paint that finds the terminal bound
pub record IsExecuted (message : ToTerminal) (end : TermEnd) (step : ByteStep) : Type 0 where
  pub same : SameStep step (executed end message)
  pub marked : step.end.station.took_write ≡ is_painted end message

abbrev pub AnyTermTakes : Type 0
AnyTermTakes = (message : ToTerminal) (item : WireItem) (old : ByteEnd) (end : TermEnd) (step : ByteStep) → ItemExecutes message item old end step → IsExecuted message end step

-- after it the screen can still be sent
abbrev pub ExecutedStaysSendable : Type 0
ExecutedStaysSendable = (message : ToTerminal) (item : WireItem) (end : TermEnd) → RepresentsDown item message → MayTake end message → CanBeSent end.display.size end.display.screen
    → let after = (executed end message).end.display in
    CanBeSent after.size after.screen
