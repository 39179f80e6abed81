-- Runs of the world over bytes: events one after another (our profile).
use Rattle.std.specs.Prelude.{◌≡◌, ◌≤◌, ℕ, List, [], ◌∷◌, Option, Some, None, drop, length, take}
use Rattle.world3270.specs.model.ByteSteps.{Steps}
use Rattle.world3270.specs.model.ByteWorld.{ByteWorld}
use Rattle.world3270.specs.declared.event.Event.{Event}
use Rattle.world3270.specs.declared.event.Ran.{Ran}
use Rattle.world3270.specs.declared.event.Stepped.{Stepped}
use Rattle.world3270.specs.declared.event.Stepped.TheVariants as stepped

-- the number of bytes after which memory was refused; None if it wasn't
abbrev pub refused_at : Stepped → Option ℕ
refused_at stepped.Done = None
refused_at (stepped.Refused why) = None
refused_at stepped.Skipped = None
refused_at (stepped.Part taken) = Some taken
refused_at stepped.Memory = Some 0

-- All of these events happen or are skipped, and memory is refused for none.
abbrev pub AllHappen : List Event → ByteWorld → ByteWorld → Type 0
AllHappen [] old new = new ≡ old
AllHappen (event ∷ events) old new =
    (answer : Stepped) × (mid : ByteWorld) × Steps event old answer mid × (refused_at answer ≡ None)
    × AllHappen events mid new

-- Memory is refused for the first of these events, after `part` of its bytes; or there is no event.
abbrev pub StopsAt : List Event → ℕ → ByteWorld → ByteWorld → Type 0
StopsAt [] part old new = (part ≡ 0) × (new ≡ old)
StopsAt (event ∷ events) part old new = (answer : Stepped) × Steps event old answer new
    × (refused_at answer ≡ Some part)

-- A run: the first `whole` events happen or are skipped. Then there is no more, or memory is refused
-- for the next one, after `part` of its bytes.
pub record Runs (events : List Event) (old : ByteWorld) (ran : Ran) (new : ByteWorld) : Type 0 where
  pub few : ran.whole ≤ length events
  pub mid : ByteWorld
  pub whole : AllHappen (take ran.whole events) old mid
  pub rest : StopsAt (drop ran.whole events) ran.part mid new
