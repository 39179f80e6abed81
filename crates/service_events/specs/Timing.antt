-- The time limits of a connection (our profile). Times are milliseconds of the server's time; limits are seconds.
use Rattle.std.specs.Prelude.{ℕ, ◌-◌, ◌*◌, Bool, true, false, ◌&&◌, ◌||◌, ◌==◌, not, nat_lt, nat_le, Option, None, Some, if◌then◌else◌}
use Rattle.host_core.specs.declared.phase.Phase.{Phase}
use Rattle.host_core.specs.declared.phase.Phase.TheVariants as phase
use Rattle.host_core.specs.declared.turn.Turn.{Turn}
use Rattle.host_core.specs.declared.turn.Turn.TheVariants as turn
use Rattle.jobs.specs.declared.service.TimeLimits.{TimeLimits}
use Rattle.service_events.specs.declared.limits.Activity.{Activity}
use Rattle.service_events.specs.declared.limits.Awaited.{Awaited}
use Rattle.service_events.specs.declared.limits.Awaited.TheVariants.{Agreement, Operator, Decision, Response}
use Rattle.service_events.specs.declared.limits.Due.{Due}
use Rattle.service_events.specs.declared.limits.Due.TheVariants as due_now
use Rattle.service_events.specs.declared.limits.Overdue.TheVariants as overdue

-- whether a limit is reached after this time; a limit of 0 seconds never is
abbrev pub is_over : (seconds millis : ℕ) → Bool
is_over seconds millis = nat_lt 0 seconds && nat_le (seconds * 1000) millis

-- ---- what a connection waits for

-- What a connection waits for. The operator can act in the terminal's turn, once the terminal has answered the command
-- that gave it the turn. At any other time a bound session waits for the host: for its decision in its turn, or for the
-- response to its pending command.
abbrev pub awaited_on : Phase → Turn → (pending : Option ℕ) → Awaited
awaited_on (phase.Bound lu) turn.Terminal None = Operator
awaited_on (phase.Bound lu) turn.Host None = Decision
awaited_on (phase.Bound lu) whose (Some number) = Response
awaited_on _ whose pending = Agreement

-- whether the ends have agreed on a session
abbrev pub is_agreed : Awaited → Bool
is_agreed Agreement = false
is_agreed Operator = true
is_agreed Decision = true
is_agreed Response = true

abbrev pub is_operator : Awaited → Bool
is_operator Agreement = false
is_operator Operator = true
is_operator Decision = false
is_operator Response = false

abbrev pub is_host : Awaited → Bool
is_host Agreement = false
is_host Operator = false
is_host Decision = true
is_host Response = true

-- What the limits require. A connection is dropped if it isn't bound in time, or if it was silent for too long while it
-- didn't wait for the host. A bound one that sent nothing is sent IAC NOP.
abbrev pub due : TimeLimits → Awaited → Activity → (now : ℕ) → Due
due limits awaited activity now =
    if not (is_agreed awaited) && is_over limits.negotiate (now - activity.began)
    then due_now.Disconnect overdue.NoAgreement else
    if not (is_host awaited) && is_over limits.idle (now - activity.silent_since) then due_now.Disconnect overdue.Idle
    else
    if is_agreed awaited && is_over limits.keepalive (now - activity.kept_alive) then due_now.KeepAlive else
    due_now.Nothing

-- the milliseconds after which the limits are applied although no byte moved
abbrev pub limits_interval : ℕ
limits_interval = 100

-- Whether the limits are applied after a turn: a byte moved in it, or they were last applied this long before.
abbrev pub are_applied : (moved : Bool) → (applied now : ℕ) → Bool
are_applied moved applied now = moved || nat_le limits_interval (now - applied)

-- ---- the activity of a connection

-- the activity of a connection that begins
abbrev pub new_activity : (now : ℕ) → Activity
new_activity now = record { began = now; silent_since = now; kept_alive = now; received = 0; sent = 0 }

-- Whether bytes were received since the last record, and none were sent. A decision that is awaited will answer them.
abbrev pub is_unanswered : Activity → (received sent : ℕ) → Awaited → Bool
is_unanswered activity received sent Decision = false
is_unanswered activity received sent _ = not (activity.received == received) && activity.sent == sent

-- the activity after a record of the bytes received and sent until now
abbrev pub counted_now : (received sent now : ℕ) → Activity → Activity
counted_now received sent now activity =
    if activity.received == received then record activity { sent = sent }
    else record activity { silent_since = now; kept_alive = now; received = received; sent = sent }

-- The activity after a record of these bytes on a connection that waits for `awaited`; waiting for the host is no
-- silence.
abbrev pub heard : (received sent : ℕ) → Awaited → (now : ℕ) → Activity → Activity
heard received sent awaited now activity =
    if is_host awaited then record (counted_now received sent now activity) { silent_since = now }
    else counted_now received sent now activity

-- the activity once IAC NOP was due
abbrev pub kept_alive : (now : ℕ) → Activity → Activity
kept_alive now activity = record activity { kept_alive = now }
