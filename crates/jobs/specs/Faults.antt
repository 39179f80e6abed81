-- The exit status for each fault that ends a run early (our profile).
use Rattle.std.specs.Prelude.{ℕ}
use Rattle.jobs.specs.LiveFaults.{live_status}
use Rattle.jobs.specs.declared.fault.Fault.{Fault}
use Rattle.jobs.specs.declared.fault.Fault.TheVariants.{InputNotRead, Panels, Pool, NotHex, NotUnderstood, NoMemory, SocketFailed, NotRandom, CannotListen, NotAnApplication, TurnsOver, OutputFailed, Live}

-- the exit status for a fault
abbrev pub status_of : Fault → ℕ
status_of InputNotRead = 1
status_of (Panels fault) = 1
status_of (Pool fault) = 1
status_of (NotHex line) = 1
status_of (NotUnderstood line) = 1
status_of (NotAnApplication why) = 2
status_of NoMemory = 3
status_of SocketFailed = 4
status_of NotRandom = 4
status_of (CannotListen address kind) = 4
status_of TurnsOver = 5
status_of OutputFailed = 6
status_of (Live fault) = live_status fault
