-- Where terminals are, and which connections an event concerns (our profile).
use Rattle.std.specs.Prelude.{◌≡◌, ◌↔◌, ◌==◌, ℕ, Bool, true, false, List, Option, Some, None, is_some}
use Rattle.host_core.specs.Application.{Application}
use Rattle.lu_pool.specs.Holders.{holder}
use Rattle.lu_pool.specs.HolderLaws.{IsSound}
use Rattle.world3270.specs.model.Link.{Link}
use Rattle.world3270.specs.model.Steps.{stepped_by}
use Rattle.world3270.specs.model.Enabled.{free_number}
use Rattle.world3270.specs.model.World.{Place, World, Event}

-- ---- both ends agree

-- A terminal is at a connection exactly if it holds that connection's end. So the display there is the terminal's.
abbrev pub EndsAgree : World → Type 0
EndsAgree world = (terminal number : ℕ) → (world.place terminal ≡ Place.At number)
    ↔ ((world.link number).term_here ≡ Some terminal)

-- Holds if both ends of a connection are attached.
pub record IsHeld (link : Link) : Type 0 where
  pub host : link.host_here ≡ true
  pub terminal : is_some link.term_here ≡ true

-- A connection that isn't lost has both ends attached.
abbrev pub UpIsHeld : World → Type 0
UpIsHeld world = (number : ℕ) → (world.link number).lost ≡ false → IsHeld (world.link number)

-- An LU is held by no connection that the host has left.
abbrev pub HoldersAreHere : World → Type 0
HoldersAreHere world = (number : ℕ) (lu : List ℕ) → holder world.pool lu ≡ Some number
    → (world.link number).host_here ≡ true

-- ---- others stay

-- whether a terminal is at this connection
abbrev pub is_at : ℕ → Place → Bool
is_at number (Place.At at) = number == at
is_at number (Place.Alone display) = false

-- whether this number was found
abbrev pub is_found : ℕ → Option ℕ → Bool
is_found number None = false
is_found number (Some found) = number == found

-- whether a terminal that is at this place connects by this number
abbrev pub takes_number : ℕ → Option ℕ → Place → Bool
takes_number number free (Place.At at) = false
takes_number number free (Place.Alone display) = is_found number free

-- whether an event concerns the connection with this number
abbrev pub concerns : Event → World → ℕ → Bool
concerns (Event.Press terminal key) world number = is_at number (world.place terminal)
concerns (Event.Up at) world number = number == at
concerns (Event.Down at) world number = number == at
concerns (Event.Act at) world number = number == at
concerns (Event.Answer at said) world number = number == at
concerns (Event.Note at text) world number = number == at
concerns (Event.Lose at) world number = number == at
concerns (Event.HostSees at) world number = number == at
concerns (Event.TermSees terminal) world number = is_at number (world.place terminal)
concerns (Event.Connect terminal wanted) world number = takes_number number (free_number world.link)
    (world.place terminal)
concerns (Event.RestartTerm terminal) world number = is_at number (world.place terminal)
concerns Event.RestartHost world number = true

-- An event leaves each connection that it doesn't concern as it is.
abbrev pub LinksStay : Type 0
LinksStay = (app : Application) (event : Event) (world : World) (number : ℕ)
    → concerns event world number ≡ false → (stepped_by app event world).link number ≡ world.link number

-- A connection that an event doesn't concern holds the LUs that it held before, and no others.
abbrev pub HoldersStay : Type 0
HoldersStay = (app : Application) (event : Event) (world : World) (number : ℕ) (lu : List ℕ) → IsSound world.pool
    → concerns event world number ≡ false → (holder world.pool lu ≡ Some number)
    ↔ (holder (stepped_by app event world).pool lu ≡ Some number)

-- Holds if the world's pool lists names of LUs, each once.
abbrev pub PoolIsSound : World → Type 0
PoolIsSound world = IsSound world.pool
