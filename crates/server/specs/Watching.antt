-- What a watcher receives from a server, one call after another (our profile).
use Rattle.std.specs.Prelude.{◌≡◌, ◌⊎◌, ℕ, List, [], ◌∷◌, Option, Some, None, Result, Ok, Err}
use Rattle.host_core.specs.State.{Host}
use Rattle.jobs.specs.declared.fault.Fault.{Fault}
use Rattle.service_events.specs.declared.notice.Notice.{Notice}

-- A call of the watcher: a notice, or the report that the host, which it sees, showed a screen on a connection.
pub data Event : Type 0 where
  Noticed : Notice → Event
  Showed : Host → (conn : ℕ) → Event

-- the event of an optional value: none or one
abbrev pub if_any : {A : Type 0} → (A → Event) → Option A → List Event
if_any event None = []
if_any event (Some one) = event one ∷ []

module _ {W : Type 0} (noticed : W → Notice → Result Unit Fault → W → Type 0)
    (showed : W → Host → ℕ → Result Unit Fault → W → Type 0) where
  -- holds for one call with its answer
  abbrev pub Hears : Event → W → Result Unit Fault → W → Type 0
  Hears (Noticed notice) old answer new = noticed old notice answer new
  Hears (Showed host conn) old answer new = showed old host conn answer new

  -- holds if it receives these events, each once and in this order, and nothing else
  abbrev pub HearsEach : List Event → W → W → Type 0
  HearsEach [] old new = new ≡ old
  HearsEach (event ∷ events) old new = (mid : W) × Hears event old (Ok tt) mid × HearsEach events mid new

  -- holds if it receives them up to the first one that it answers with a fault, and nothing after that
  abbrev pub FailsAmong : List Event → W → Fault → W → Type 0
  FailsAmong [] old why new = ⊥
  FailsAmong (event ∷ events) old why new = Hears event old (Err why) new
      ⊎ ((mid : W) × Hears event old (Ok tt) mid × FailsAmong events mid why new)

  -- `HearsEach` if the caller answers Ok, `FailsAmong` if it answers a fault
  abbrev pub Told : List Event → W → Result Unit Fault → W → Type 0
  Told events old (Ok done) new = HearsEach events old new
  Told events old (Err why) new = FailsAmong events old why new
