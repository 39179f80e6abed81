-- A lost connection still delivers what was under way, and takes nothing new (our profile).
use Rattle.std.specs.Prelude.{◌≡◌, ◌++◌, ℕ, true, List}
use Rattle.host_core.specs.Application.{Application}
use Rattle.world3270.specs.model.Link.{Link}
use Rattle.world3270.specs.model.Steps.{stepped_by}
use Rattle.world3270.specs.model.World.{World, Event}

-- Holds if `rest` is what is left of a queue after some of its first messages were taken.
abbrev pub IsRest : {X : Type 0} → List X → List X → Type 0
IsRest queue rest = (taken : List _) × (queue ≡ taken ++ rest)

-- Holds if nothing was added to what is under way in either direction.
pub record NothingNew (old new : Link) : Type 0 where
  pub down : IsRest old.down new.down
  pub up : IsRest old.up new.up

-- An event adds nothing to what is under way on a connection that is lost before it and after it.
abbrev pub LostTakesNothing : Type 0
LostTakesNothing = (app : Application) (event : Event) (world : World) (number : ℕ)
    → (world.link number).lost ≡ true → ((stepped_by app event world).link number).lost ≡ true
    → NothingNew (world.link number) ((stepped_by app event world).link number)
