-- A world over bytes is deterministic: the world and the outcome after an event are a function of the world before it,
-- if memory isn't refused (our profile).
use Rattle.std.specs.Prelude.{◌≡◌, List, None, length}
use Rattle.world3270.specs.model.ByteRuns.{AllHappen, Runs, refused_at}
use Rattle.world3270.specs.model.ByteSteps.{Steps}
use Rattle.world3270.specs.model.ByteWorld.{ByteWorld}
use Rattle.world3270.specs.declared.event.Event.{Event}
use Rattle.world3270.specs.declared.event.Ran.{Ran}
use Rattle.world3270.specs.declared.event.Stepped.{Stepped}

-- An event has one outcome, and leads to one world.
abbrev pub StepsAreOne : Type 0
StepsAreOne = (event : Event) (old new other : ByteWorld) (answer reply : Stepped)
    → Steps event old answer new → refused_at answer ≡ None → Steps event old reply other → refused_at reply ≡ None
    → (answer ≡ reply) × (new ≡ other)

-- A list of events leads to one world.
abbrev pub EventsAreOne : Type 0
EventsAreOne = (events : List Event) (old new other : ByteWorld) → AllHappen events old new → AllHappen events old other
    → new ≡ other

-- Two runs of the same events from the same world, to the end, are equal.
abbrev pub RunsAreOne : Type 0
RunsAreOne = (events : List Event) (old new other : ByteWorld) (ran run : Ran)
    → Runs events old ran new → ran.whole ≡ length events → Runs events old run other → run.whole ≡ length events
    → (ran ≡ run) × (new ≡ other)
