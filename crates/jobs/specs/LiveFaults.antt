-- The exit status for each fault that ends a live terminal (our profile).
use Rattle.std.specs.Prelude.{ℕ}
use Rattle.jobs.specs.declared.live_fault.LiveFault.{LiveFault}
use Rattle.jobs.specs.declared.live_fault.LiveFault.TheVariants.{NotRaw, TooSmall, CannotConnect, LuRefused, Closed, HostEnded}

-- the exit status for a fault of a live terminal
abbrev pub live_status : LiveFault → ℕ
live_status NotRaw = 2
live_status (TooSmall fault) = 2
live_status (CannotConnect address kind) = 4
live_status (LuRefused reason) = 4
live_status (Closed cause) = 4
live_status HostEnded = 4
