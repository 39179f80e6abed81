-- A call for each connection number, one after another (our profile).
use Rattle.std.specs.Prelude.{◌≡◌, ◌<◌, ◌||◌, ℕ, zero, suc, Bool, false, Result, Ok, Err}
use Rattle.host_core.specs.State.{most_connections}
use Rattle.jobs.specs.declared.fault.Fault.{Fault}

-- `visited` relates a number, a server and a watcher before a visit, the visit's answer, and both after it.
module _ {A W : Type 0} (visited : ℕ → A → W → Result Bool Fault → A → W → Type 0) where
  -- holds if the numbers below this one were visited, each once and in order; `did`: whether a visit did something
  unfoldable pub VisitsBelow : ℕ → A → W → (did : Bool) → A → W → Type 0
  VisitsBelow zero old watcher did new after = (did ≡ false) × (new ≡ old) × (after ≡ watcher)
  VisitsBelow (suc conn) old watcher did new after = (before one : Bool) × (mid : A) × (hearing : W)
      × VisitsBelow conn old watcher before mid hearing × visited conn mid hearing (Ok one) new after
      × (did ≡ (before || one))

  -- holds if the visit to a number failed, and no later number was visited
  pub record FailsAt (old : A) (watcher : W) (why : Fault) (new : A) (after : W) : Type 0 where
    pub conn : ℕ
    pub is_number : conn < most_connections
    pub before : Bool
    pub mid : A
    pub hearing : W
    pub visits : VisitsBelow conn old watcher before mid hearing
    pub fails : visited conn mid hearing (Err why) new after

  -- holds if each number is visited, once and in order, up to the first visit that fails
  abbrev pub VisitsEach : A → W → Result Bool Fault → A → W → Type 0
  VisitsEach old watcher (Ok did) new after = VisitsBelow most_connections old watcher did new after
  VisitsEach old watcher (Err why) new after = FailsAt old watcher why new after
