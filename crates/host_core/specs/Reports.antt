-- The events that a connection keeps until they are reported (our profile).
use Rattle.std.specs.Prelude.{ℕ, Bool, true, false, not, ◌&&◌, ◌||◌, List, [], ◌∷◌, ◌++◌, map, Option, Some, None, length, ltb, if◌then◌else◌}
use Rattle.std.specs.Option.{option_or}
use Rattle.shadow.specs.declared.rule_break.RuleBreak.{RuleBreak}
use Rattle.host_core.specs.declared.disbelief.Disbelief.{Disbelief}
use Rattle.host_core.specs.declared.dropped_key.DroppedKey.{DroppedKey}
use Rattle.host_core.specs.declared.event.HostEvent.{HostEvent}
use Rattle.host_core.specs.declared.event.HostEvent.TheVariants as event
use Rattle.host_core.specs.declared.rejection.Rejection.{Rejection}
use Rattle.tn3270e_msg.specs.declared.cause.Cause.{Cause}

-- the unreported events; of each kind the oldest first
pub record Reports : Type 0 where
  pub rejections : List Rejection
  pub bound : Option (List ℕ)
  pub dropped_keys : List DroppedKey
  pub rule_break : Option RuleBreak
  pub replaced : Bool
  pub restorations : List Disbelief
  pub asked : Bool
  pub shown : Bool
  pub closed : Option Cause
  pub waits : Bool  -- no event: the host waits for the answer to a question that was reported, or will be

-- no unreported event
abbrev pub none_left : (waits : Bool) → Reports
none_left waits = record {
  rejections = [];
  bound = None;
  dropped_keys = [];
  rule_break = None;
  replaced = false;
  restorations = [];
  asked = false;
  shown = false;
  closed = None;
  waits = waits;
}

-- no unreported event, and no question
abbrev pub no_reports : Reports
no_reports = none_left false

-- ---- what is kept

-- The most rejections, dropped keys and restorations that are kept. A negotiation sends no more rejections, and no more
-- screens are restored in a row.
abbrev pub most_reports : ℕ
most_reports = 8

-- one more, if there is one, is added at the end, unless there are `most_reports`
abbrev pub kept_with : {A : Type 0} → Option A → List A → List A
kept_with None kept = kept
kept_with (Some one) kept = if ltb (length kept) most_reports then kept ++ one ∷ [] else kept

-- the events after a rejection, a dropped key and a broken rule, each if there is one
abbrev pub reported : Option Rejection → Option DroppedKey → Option RuleBreak → Reports → Reports
reported rejection dropped broken reports = record reports {
  rejections = kept_with rejection reports.rejections;
  dropped_keys = kept_with dropped reports.dropped_keys;
  rule_break = option_or broken reports.rule_break;
}

-- the events after data was received in which characters were replaced, if they were
abbrev pub with_replaced : Bool → Reports → Reports
with_replaced true reports = record reports { replaced = true }
with_replaced false reports = reports

-- the events after data that can't be believed for this reason, if there was such data
abbrev pub with_restored : Option Disbelief → Reports → Reports
with_restored why reports = record reports { restorations = kept_with why reports.restorations }

-- the LU that both ends agreed on, if they hadn't agreed before
abbrev pub newly_bound : (before after : Option (List ℕ)) → Option (List ℕ)
newly_bound None after = after
newly_bound (Some lu) after = None

-- the events after the terminal is bound to this LU, if it is
abbrev pub with_bound : Option (List ℕ) → Reports → Reports
with_bound lu reports = record reports { bound = option_or lu reports.bound }

-- The events once the host waits for the answer to a question, if it does: that it asks is an event once.
abbrev pub with_question : (asks : Bool) → Reports → Reports
with_question asks reports =
    record reports { asked = (asks && not reports.waits) || reports.asked; waits = asks || reports.waits }

-- the events after something is sent, a screen if `shown`: no question waits for its answer
abbrev pub with_sent : (shown : Bool) → Reports → Reports
with_sent shown reports = record reports { shown = shown || reports.shown; waits = false }

-- the events after the connection is closed, if there is a cause
abbrev pub with_cause : Option Cause → Reports → Reports
with_cause None reports = reports
with_cause (Some cause) reports = record reports { closed = Some cause }

-- ---- what is handed out

-- the event of this, if there is one
abbrev pub event_if : {A : Type 0} → (A → HostEvent) → Option A → List HostEvent
event_if event None = []
event_if event (Some one) = event one ∷ []

abbrev pub event_when : HostEvent → Bool → List HostEvent
event_when event happened = if happened then event ∷ [] else []

-- all unreported events, in the order in which they are handed out
abbrev pub events_of : Reports → List HostEvent
events_of reports =
    map event.Rejected reports.rejections
    ++ (event_if event.Bound reports.bound
    ++ (map event.KeyDropped reports.dropped_keys
    ++ (event_if event.RuleBroken reports.rule_break
    ++ (event_when event.CharacterReplaced reports.replaced
    ++ (map event.ScreenRestored reports.restorations
    ++ (event_when event.Asked reports.asked
    ++ (event_when event.Shown reports.shown
    ++ event_if event.Closed reports.closed)))))))

-- the first of a list: the event that is handed out next
abbrev pub oldest : {A : Type 0} → List A → Option A
oldest [] = None
oldest (one ∷ others) = Some one

-- a list without its first
abbrev pub without_oldest : {A : Type 0} → List A → List A
without_oldest [] = []
without_oldest (one ∷ others) = others
