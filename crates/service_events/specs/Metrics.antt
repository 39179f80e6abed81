-- The counts that `serve` keeps (our profile).
use Rattle.std.specs.Prelude.{ℕ, ◌+◌, ◌-◌, ◌^◌, ◌==◌, min, nat_lt, if◌then◌else◌, List, [], ◌∷◌, length, filter, replicate, slice_index_or, slice_set}
use Rattle.application_http.specs.declared.fault.ReplyFault.TheVariants as reply
use Rattle.applications.specs.declared.application_fault.Absence.TheVariants as absence
use Rattle.applications.specs.declared.application_fault.ApplicationFault.{ApplicationFault}
use Rattle.applications.specs.declared.application_fault.ApplicationFault.TheVariants as why
use Rattle.applications.specs.declared.application_reply.AnswerFault.TheVariants as answer
use Rattle.tn3270e_msg.specs.Words.{cause_number}
use Rattle.tn3270e_msg.specs.declared.reply.Reason.{Reason}
use Rattle.service_events.specs.declared.metrics.Metrics.{Metrics}
use Rattle.service_events.specs.declared.limits.Overdue.TheVariants as overdue
use Rattle.service_events.specs.declared.notice.Ending.{Ending}
use Rattle.service_events.specs.declared.notice.Ending.TheVariants as ending
use Rattle.service_events.specs.declared.notice.Notice.{Notice}
use Rattle.service_events.specs.declared.notice.Notice.TheVariants as notice

-- all counts begin at 0
abbrev pub nothing_counted : Metrics
nothing_counted = record {
  current = 0;
  begun = 0;
  closed = replicate 10 0;
  lost = 0;
  idle = 0;
  no_agreement = 0;
  by_application = 0;
  turned_away = 0;
  rejected = replicate 5 0;
  dropped_keys = 0;
  rule_breaks = 0;
  restored_screens = 0;
  turns = 0;
  paints = 0;
  received = 0;
  sent = 0;
  asked = 0;
  failed = replicate 7 0;
  answered = replicate 13 0;
  answer_millis = 0;
}

-- a count stops at its greatest value, 2^64 - 1
abbrev pub raised : ℕ → ℕ → ℕ
raised count by = min (count + by) (2 ^ 64 - 1)

-- one more at a place of several counts
abbrev pub raised_at : (place : ℕ) → List ℕ → List ℕ
raised_at place counts = slice_set counts place (raised (slice_index_or counts place 0) 1)

-- counts a session that ended; those that the host closed by the cause's number, 1 to 10. A stopped service has no page
-- any more.
abbrev pub ended_by : Ending → Metrics → Metrics
ended_by (ending.Closed cause) counts = record counts { closed = raised_at (cause_number cause - 1) counts.closed }
ended_by ending.Lost counts = record counts { lost = raised counts.lost 1 }
ended_by (ending.Dropped overdue.Idle) counts = record counts { idle = raised counts.idle 1 }
ended_by (ending.Dropped overdue.NoAgreement) counts = record counts { no_agreement = raised counts.no_agreement 1 }
ended_by ending.ByApplication counts = record counts { by_application = raised counts.by_application 1 }
ended_by ending.Stopped counts = counts
ended_by ending.Reloaded counts = counts

-- one open connection fewer, and one more that ended in this way
abbrev pub with_end : Ending → Metrics → Metrics
with_end how counts = ended_by how (record counts { current = counts.current - 1 })

-- The place of the count of a rejection's reason, by its code in RFC 1647, section 3: DEVICE-IN-USE, INV-NAME,
-- INV-DEVICE-TYPE, UNSUPPORTED-REQ, and any other.
abbrev pub reason_place : Reason → ℕ
reason_place reason =
    if reason.0 == 1 then 0 else (if reason.0 == 3 then 1 else (if reason.0 == 4 then 2 else
    (if reason.0 == 7 then 3 else 4)))

-- counts what a connection used: turns, and bytes in each direction
abbrev pub with_usage : (turns received sent : ℕ) → Metrics → Metrics
with_usage turns received sent counts =
    record counts {
      turns = raised counts.turns turns;
      received = raised counts.received received;
      sent = raised counts.sent sent;
    }

-- counts a screen that was sent
abbrev pub with_paint : Metrics → Metrics
with_paint counts = record counts { paints = raised counts.paints 1 }

-- The place of the count of a failure's reason: refused, broken, timeout, no memory, a status that isn't 200, any other
-- fault of the reply, and an operator who left.
abbrev pub failure_place : ApplicationFault → ℕ
failure_place (why.Absent absence.Refused) = 0
failure_place (why.Absent absence.Broken) = 1
failure_place (why.Absent absence.Late) = 2
failure_place (why.Absent absence.NoMemory) = 3
failure_place (why.Reply reply.CutShort) = 1
failure_place (why.Reply reply.Memory) = 3
failure_place (why.Reply (reply.Status number)) = 4
failure_place (why.Reply _) = 5
failure_place (why.Answer answer.Memory) = 3
failure_place (why.Answer _) = 5
failure_place why.Left = 6

-- counts a question that the application didn't answer
abbrev pub with_failure : ApplicationFault → Metrics → Metrics
with_failure fault counts = record counts { failed = raised_at (failure_place fault) counts.failed }

-- the bounds of the times from a question to its answer, in milliseconds
abbrev pub bounds : List ℕ
bounds = 5 ∷ 10 ∷ 25 ∷ 50 ∷ 100 ∷ 250 ∷ 500 ∷ 1000 ∷ 2500 ∷ 5000 ∷ 10000 ∷ 30000 ∷ []

-- the place of the count of a time: the number of bounds below it
abbrev pub bucket_of : (millis : ℕ) → ℕ
bucket_of millis = length (filter (λ bound. nat_lt bound millis) bounds)

-- counts a notice
abbrev pub counted : Notice → Metrics → Metrics
counted (notice.Listening address) counts = counts
counted (notice.TurnedAway peer) counts = record counts { turned_away = raised counts.turned_away 1 }
counted (notice.BadProxyHeader peer why) counts = counts
counted (notice.Connected client) counts =
    record counts { current = raised counts.current 1; begun = raised counts.begun 1 }
counted (notice.Rejected client rejection) counts =
    record counts { rejected = raised_at (reason_place rejection.reason) counts.rejected }
counted (notice.Bound client lu) counts = counts
counted (notice.KeyDropped client dropped) counts = record counts { dropped_keys = raised counts.dropped_keys 1 }
counted (notice.RuleBroken client broken) counts = record counts { rule_breaks = raised counts.rule_breaks 1 }
counted (notice.CharacterReplaced client) counts = counts
counted (notice.ScreenRestored client why) counts = record counts { restored_screens = raised counts.restored_screens 1 }
counted (notice.Ended client how usage) counts = with_usage usage.turns usage.received usage.sent (with_end how counts)
counted notice.Asked counts = record counts { asked = raised counts.asked 1 }
counted (notice.Commanded commanded) counts = counts
counted (notice.Reloaded sizes) counts = counts
counted (notice.LogLinesDropped lines) counts = counts
counted (notice.Answered millis) counts = record counts {
  answered = raised_at (bucket_of millis) counts.answered;
  answer_millis = raised counts.answer_millis millis;
}
