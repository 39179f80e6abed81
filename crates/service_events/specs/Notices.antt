-- Why a connection is over (our profile).
use Rattle.std.specs.Prelude.{ℕ, List, codes, Option, None, Some, unwrap_or}
use Rattle.host_core.specs.declared.serving.Served.{Served}
use Rattle.host_core.specs.declared.serving.Served.TheVariants as served
use Rattle.service_events.specs.declared.limits.Overdue.TheVariants as overdue
use Rattle.service_events.specs.declared.notice.Ending.{Ending}
use Rattle.service_events.specs.declared.notice.Ending.TheVariants as ending

-- why a connection is over after a turn of serving: the host closed it, for this reason, or it was lost; None if it
-- continues. Refused memory ends the program instead
abbrev pub ending_of : (closed : Option Ending) → Served → Option Ending
ending_of closed served.Going = None
ending_of closed served.Lost = Some (unwrap_or closed ending.Lost)
ending_of closed served.Memory = None

-- the event of the log, which is also the reason that an application gets
abbrev pub ending_word : Ending → List ℕ
ending_word (ending.Closed why) = codes "closed"
ending_word ending.Lost = codes "lost"
ending_word (ending.Dropped overdue.NoAgreement) = codes "no-agreement"
ending_word (ending.Dropped overdue.Idle) = codes "idle"
ending_word ending.ByApplication = codes "ended-by-application"
ending_word ending.Stopped = codes "stopped"
ending_word ending.Reloaded = codes "reloaded"
