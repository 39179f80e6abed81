-- A turn of serving, at the host of ExampleBytes. Readers and proofs need it, and nothing rests on it (our profile).
use Rattle.std.specs.Prelude.{◌≡◌, ◌++◌, ℕ, List, [], take}
use Rattle.host_core.specs.Serves.{Serves, taken_by}
use Rattle.host_core.specs.State.{Host}
use Rattle.host_core.specs.declared.links.LinkRead.{LinkRead}
use Rattle.host_core.specs.declared.links.LinkWrite.{LinkWrite}
use Rattle.host_core.specs.declared.serving.Served.TheVariants.{Going}
use Rattle.world3270.specs.examples.ExampleBytes.{agreed_host, behind_offer, client_said, refusal}
use Rattle.world3270.specs.statement.Serving.{AreQueues}

-- the one socket: what it will give, and what it has taken
pub record Socket : Type 0 where
  pub up : List ℕ
  pub down : List ℕ

abbrev pub gave : Socket → ℕ → ℕ → List ℕ → LinkRead → Socket → Type 0
gave old number room bytes got new = (old.up ≡ bytes ++ new.up) × (new.down ≡ old.down)

abbrev pub took : Socket → ℕ → List ℕ → LinkWrite → Socket → Type 0
took old number bytes wrote new = (new.down ≡ old.down ++ take (taken_by wrote) bytes) × (new.up ≡ old.up)

-- Holds if that socket is two queues, as `EveryTerminalServed` asks for, and a turn of serving reads the client's offer
-- there, and writes the host's refusal.
pub record ATurnIsThere : Type 0 where
  pub queues : AreQueues gave took 0 (λ socket. socket.up) (λ socket. socket.down)
  pub host : Host
  pub serves : Serves gave took 0 agreed_host (record { up = client_said.up; down = [] }) Going host
      (record { up = behind_offer; down = refusal })
