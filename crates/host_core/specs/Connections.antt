-- How the host keeps a connection number (our profile); only private contracts and proofs need it.
use Rattle.std.specs.Prelude.{◌≡◌, ◌≤◌, ⊤, ℕ, Option, Some, None, Vec}
use Rattle.std.specs.Vec.{vec_capacity}
use Rattle.std.specs.declared.alloc.Global.{Global}
use Rattle.std.specs.Borrow.{Bor}
use Rattle.panels.specs.Panel.{Panels}
use Rattle.shadow.specs.Belief.{Shadow}
use Rattle.host_core.specs.Representation.{IsRunning}
use Rattle.host_core.specs.Rooms.{out_room}
use Rattle.host_core.specs.Sound.{IsShown}
use Rattle.host_core.specs.State.{Service, shadow_of}
use Rattle.host_core.specs.declared.connection.Service.{Service as ServiceValue}
use Rattle.host_core.specs.declared.connection.Service.TheVariants as kept

-- the state of a connection number, from what the code keeps
abbrev pub service_of : ServiceValue → Service
service_of kept.Free = Service.Free
service_of (kept.Open held) = Service.Open held.value.decoder.rest held.value.session
service_of (kept.Closed cause) = Service.Closed cause

-- holds if, while the number is open, its decoder may go on and it has the room for output
abbrev pub IsSoundConnection : ServiceValue → Vec ℕ Global → Type 0
IsSoundConnection kept.Free out = ⊤
IsSoundConnection (kept.Open held) out = IsRunning held.value.decoder × (out_room ≤ vec_capacity out)
IsSoundConnection (kept.Closed cause) out = ⊤

-- holds if the new state shows a panel that exists whenever the old one does
abbrev pub StaysShown : Service → Service → Type 0
StaysShown old new = (panels : Panels) → IsShown panels old → IsShown panels new

-- holds if this is what is believed of a number's screen; None means that nothing is known
abbrev pub ShadowIf : Option (Bor Shadow) → Service → Type 0
ShadowIf None service = shadow_of service ≡ Shadow.NothingKnown
ShadowIf (Some shadow) service = shadow.now ≡ shadow_of service
