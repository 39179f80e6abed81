-- How what a connection has to report is handed to the watcher, one after another.
use Rattle.std.proofs.Common.{◌≡◌, ◌<◌, ◌∙◌, arith, ℕ, Bool, true, false, List, [], ◌∷◌, ◌++◌, Option, Some, None, Result, Ok, Err, length, set, refl, ap, sym, subst, inl, inr}
use Rattle.std.proofs.lemmas.List.{get_or-set_same, length-set, set-set, set-get_or}
use Rattle.host_core.specs.Reports.{Reports, events_of, oldest, without_oldest}
use Rattle.host_core.specs.State.{Host, connection_at, reports_at, unused, with_reports}
use Rattle.host_core.specs.declared.disbelief.Disbelief.{Disbelief}
use Rattle.host_core.specs.declared.dropped_key.DroppedKey.{DroppedKey}
use Rattle.host_core.specs.declared.event.HostEvent.{HostEvent}
use Rattle.host_core.specs.declared.event.HostEvent.TheVariants as event
use Rattle.host_core.specs.declared.rejection.Rejection.{Rejection}
use Rattle.shadow.specs.declared.rule_break.RuleBreak.{RuleBreak}
use Rattle.server.specs.Hosts.{Hosts, host_at, with_host}
use Rattle.server.proofs.Lookups.{put_again}
use Rattle.jobs.specs.declared.fault.Fault.{Fault}
use Rattle.service_events.specs.declared.notice.Client.{Client}
use Rattle.service_events.specs.declared.notice.Notice.{Notice}
use Rattle.server.specs.ConnectionInfos.{with_event, with_events}
use Rattle.server.specs.NumberTurns.{info_after, left_by, reported, reports_of, told_each, told_of, with_left}
use Rattle.server.specs.Watching.{Event, FailsAmong, Hears, HearsEach, Showed, Told}
use Rattle.tn3270e_msg.specs.declared.cause.Cause.{Cause}
use Rattle.server.specs.declared.connection_info.ConnectionInfo.{ConnectionInfo}

-- ---- what a connection has to report

pub none_found : {A : Type 0} (found : Option A) → ((one : A) → found ≡ Some one → ⊥) → found ≡ None
none_found None none = refl
none_found (Some one) none = absurd (none one refl)

oldest_first : {A : Type 0} (items : List A) (one : A) → Some one ≡ oldest items → items ≡ one ∷ without_oldest items
oldest_first [] one e = cc
oldest_first (first ∷ others) one e = let same : first ≡ one = cc in ap (λ it. it ∷ others) same

none_more : {A : Type 0} (items : List A) → None ≡ oldest items → items ≡ []
none_more [] e = refl
none_more (first ∷ others) e = cc

none_behind : {A : Type 0} (items : List A) → items ≡ [] → without_oldest items ≡ []
none_behind items e = ap without_oldest e

pub fewer : {A : Type 0} (items others : List A) (one : A) → Some one ≡ oldest items → others ≡ without_oldest items → length others < length items
fewer [] others one first rest = cc
fewer (head ∷ tail) others one first rest = let same : length others ≡ length tail = ap length rest in omega (arith, same)

abbrev all_of : List Rejection → Option (List ℕ) → List DroppedKey → Option RuleBreak → (replaced : Bool) → List Disbelief → (asked shown : Bool) → Option Cause → (waits : Bool) → Reports
all_of rejections lu keys broken replaced restored asked shown closed waits =
    record { rejections = rejections; bound = lu; dropped_keys = keys; rule_break = broken; replaced = replaced; restorations = restored; asked = asked; shown = shown; closed = closed; waits = waits }

-- nothing is left, or the end
abbrev is_end : List HostEvent → Bool
is_end [] = true
is_end (event.Closed cause ∷ events) = true
is_end _ = false

-- behind a screen that was shown only the end is told
shown_late : (rejections : List Rejection) (lu : Option (List ℕ)) (keys : List DroppedKey) (broken : Option RuleBreak) (replaced : Bool) (restored : List Disbelief) (asked shown : Bool) (closed : Option Cause) (waits : Bool)
    → Some event.Shown ≡ oldest (events_of (all_of rejections lu keys broken replaced restored asked shown closed waits)) → is_end (without_oldest (events_of (all_of rejections lu keys broken replaced restored asked shown closed waits))) ≡ true
shown_late (one ∷ rejections) lu keys broken replaced restored asked shown closed waits e = cc
shown_late [] (Some lu) keys broken replaced restored asked shown closed waits e = cc
shown_late [] None (key ∷ keys) broken replaced restored asked shown closed waits e = cc
shown_late [] None [] (Some broken) replaced restored asked shown closed waits e = cc
shown_late [] None [] None true restored asked shown closed waits e = cc
shown_late [] None [] None false (one ∷ restored) asked shown closed waits e = cc
shown_late [] None [] None false [] true shown closed waits e = cc
shown_late [] None [] None false [] false true None waits e = refl
shown_late [] None [] None false [] false true (Some cause) waits e = refl
shown_late [] None [] None false [] false false None waits e = cc
shown_late [] None [] None false [] false false (Some cause) waits e = cc

end_kept : (rejections : List Rejection) (lu : Option (List ℕ)) (keys : List DroppedKey) (broken : Option RuleBreak) (replaced : Bool) (restored : List Disbelief) (asked shown : Bool) (closed : Option Cause) (waits : Bool)
    → is_end (events_of (all_of rejections lu keys broken replaced restored asked shown closed waits)) ≡ true
    → all_of rejections lu keys broken replaced restored asked shown closed waits ≡ left_by (events_of (all_of rejections lu keys broken replaced restored asked shown closed waits)) waits
end_kept (one ∷ rejections) lu keys broken replaced restored asked shown closed waits e = cc
end_kept [] (Some lu) keys broken replaced restored asked shown closed waits e = cc
end_kept [] None (key ∷ keys) broken replaced restored asked shown closed waits e = cc
end_kept [] None [] (Some broken) replaced restored asked shown closed waits e = cc
end_kept [] None [] None true restored asked shown closed waits e = cc
end_kept [] None [] None false (one ∷ restored) asked shown closed waits e = cc
end_kept [] None [] None false [] true shown closed waits e = cc
end_kept [] None [] None false [] false true closed waits e = cc
end_kept [] None [] None false [] false false None waits e = refl
end_kept [] None [] None false [] false false (Some cause) waits e = refl

only_the_end : (reports : Reports) → Some event.Shown ≡ oldest (events_of reports) → is_end (without_oldest (events_of reports)) ≡ true
only_the_end reports e = shown_late reports.rejections reports.bound reports.dropped_keys reports.rule_break reports.replaced reports.restorations reports.asked reports.shown reports.closed reports.waits e

-- the reports of which nothing is left but the end
just_the_end : (reports : Reports) → is_end (events_of reports) ≡ true → reports ≡ left_by (events_of reports) reports.waits
just_the_end reports e = end_kept reports.rejections reports.bound reports.dropped_keys reports.rule_break reports.replaced reports.restorations reports.asked reports.shown reports.closed reports.waits e

-- all but a screen that was shown is told of a connection whatever the watcher sees of the host
told_same : (client : Client) (conn : ℕ) (one other : Host) (happened : HostEvent) → (happened ≡ event.Shown → one ≡ other)
    → told_of client conn one happened ≡ told_of client conn other happened
told_same client conn one other (event.Rejected rejection) same = refl
told_same client conn one other (event.Bound lu) same = refl
told_same client conn one other (event.KeyDropped key) same = refl
told_same client conn one other (event.RuleBroken broken) same = refl
told_same client conn one other event.CharacterReplaced same = refl
told_same client conn one other (event.ScreenRestored why) same = refl
told_same client conn one other event.Asked same = refl
told_same client conn one other event.Shown same = ap (λ (host : Host). Showed host conn ∷ []) (same refl)
told_same client conn one other (event.Closed cause) same = refl

-- ---- hosts

pub reports_got : (conn : ℕ) (reports : Reports) (host : Host) → conn < length host.connections → reports_at conn (with_reports conn reports host) ≡ reports
reports_got conn reports host there =
    ap (λ it. it.reports) (get_or-set_same host.connections conn (record (connection_at conn host) { reports = reports }) unused there)

pub reports_set : (conn : ℕ) (former reports : Reports) (host : Host) → conn < length host.connections
    → with_reports conn reports (with_reports conn former host) ≡ with_reports conn reports host
reports_set conn former reports host there =
    let got = get_or-set_same host.connections conn (record (connection_at conn host) { reports = former }) unused there in
    subst (λ it. record host { connections = set (set host.connections conn (record (connection_at conn host) { reports = former })) conn (record it { reports = reports }) } ≡ with_reports conn reports host)
    (sym got)
    (ap (λ it. record host { connections = it }) (set-set host.connections conn (record (connection_at conn host) { reports = former }) (record (connection_at conn host) { reports = reports })))

pub reports_same : (conn : ℕ) (host : Host) → host ≡ with_reports conn (reports_at conn host) host
reports_same conn host = ap (λ it. record host { connections = it }) (sym (set-get_or host.connections conn unused))

pub still_there : (conn : ℕ) (reports : Reports) (host : Host) → conn < length host.connections → conn < length (with_reports conn reports host).connections
still_there conn reports host there =
    subst (λ n. conn < n) (sym (length-set host.connections conn (record (connection_at conn host) { reports = reports }))) there

pub taken_more : (conn : ℕ) (reports : Reports) (start host taken : Host) → conn < length start.connections
    → host ≡ with_reports conn (reports_at conn host) start → taken ≡ with_reports conn reports host
    → (taken ≡ with_reports conn reports start) × (reports_at conn taken ≡ reports)
taken_more conn reports start host taken there just_reports takes =
    let from_start : taken ≡ with_reports conn reports start =
    takes ∙ ap (with_reports conn reports) just_reports ∙ reports_set conn (reports_at conn host) reports start there in
    (from_start, ap (reports_at conn) from_start ∙ reports_got conn reports start there)

-- still nothing but this connection's reports has changed
pub just_reports_still : (conn : ℕ) (reports : Reports) (start host taken : Host) → conn < length start.connections
    → host ≡ with_reports conn (reports_at conn host) start → taken ≡ with_reports conn reports host
    → taken ≡ with_reports conn (reports_at conn taken) start
just_reports_still conn reports start host taken there just_reports takes =
    let more = taken_more conn reports start host taken there just_reports takes in
    more.0 ∙ ap (λ it. with_reports conn it start) (sym more.1)

-- the hosts after one more call
pub later_hosts : (conn : ℕ) (start hosts taken : Hosts) → hosts ≡ with_host conn (host_at conn hosts) start → taken ≡ with_host conn (host_at conn taken) hosts
    → taken ≡ with_host conn (host_at conn taken) start
later_hosts conn start hosts taken so_far takes =
    takes ∙ ap (with_host conn (host_at conn taken)) so_far ∙ put_again conn (host_at conn hosts) (host_at conn taken) start

-- ---- what is told

module _ {W : Type 0} (noticed : W → Notice → Result Unit Fault → W → Type 0) (showed : W → Host → ℕ → Result Unit Fault → W → Type 0) where
  pub fails_within : (front rest : List Event) (old new : W) (why : Fault) → FailsAmong noticed showed front old why new
      → FailsAmong noticed showed (front ++ rest) old why new
  fails_within [] rest old new why fails = absurd fails
  fails_within (event ∷ events) rest old new why fails =
      elim fails [ inl now ↦ inl now | inr later ↦ inr (later.0, later.1, fails_within events rest later.0 new why later.2) ]

  pub told_after : (front rest : List Event) (old mid new : W) (answer : Result Unit Fault) → HearsEach noticed showed front old mid
      → Told noticed showed rest mid answer new → Told noticed showed (front ++ rest) old answer new
  told_after [] rest old mid new answer hears told = subst (λ w. Told noticed showed rest w answer new) hears told
  told_after (event ∷ events) rest old mid new (Ok done) hears told = (hears.0, hears.1, told_after events rest hears.0 mid new (Ok done) hears.2 told)
  told_after (event ∷ events) rest old mid new (Err why) hears told = inr (hears.0, hears.1, told_after events rest hears.0 mid new (Err why) hears.2 told)

  pub told_once : (event : Event) (old new : W) (answer : Result Unit Fault) → Hears noticed showed event old answer new
      → Told noticed showed (event ∷ []) old answer new
  told_once event old new (Ok done) hears = (new, hears, refl)
  told_once event old new (Err why) hears = inl hears

  -- what is told from `now` on is, from `old` on, all of `whole`
  abbrev pub GoesOn : List Event → W → List Event → W → Type 0
  GoesOn rest now whole old = (answer : Result Unit Fault) (new : W) → Told noticed showed rest now answer new → Told noticed showed whole old answer new

  -- What happened on a connection is taken from a host, told and taken down, one event after another.
  pub record IsReporting (conn : ℕ) (start : Host) (known : ConnectionInfo) (hearing : W) (host : Host) (info : ConnectionInfo) (watcher : W) : Type 0 where
    pub there : conn < length start.connections
    pub just_reports : host ≡ with_reports conn (reports_at conn host) start
    pub waits : (reports_at conn host).waits ≡ (reports_at conn start).waits
    pub counts : with_events (events_of (reports_at conn host)) info ≡ info_after conn start known
    pub goes_on : GoesOn (told_each known.client conn start (events_of (reports_at conn host))) watcher (reports_of known.client conn start) hearing

  module _ (conn : ℕ) (start : Host) (known : ConnectionInfo) (hearing : W) where
    pub begins : conn < length start.connections → IsReporting conn start known hearing start known hearing
    begins there = record { there = there; just_reports = reports_same conn start; waits = refl; counts = refl; goes_on = λ answer new it. it }

    module _ (host taken : Host) (info : ConnectionInfo) (watcher : W) (so_far : IsReporting conn start known hearing host info watcher)
        (takes : taken ≡ with_reports conn (reports_at conn taken) host)
        (removed : events_of (reports_at conn taken) ≡ without_oldest (events_of (reports_at conn host)))
        (waits : (reports_at conn taken).waits ≡ (reports_at conn host).waits) where
      pub just_taken : taken ≡ with_reports conn (reports_at conn taken) start
      just_taken = just_reports_still conn (reports_at conn taken) start host taken so_far.there so_far.just_reports takes

      -- nothing is left of it but the end
      just_left : is_end (without_oldest (events_of (reports_at conn host))) ≡ true → taken ≡ with_left (events_of (reports_at conn taken)) conn start
      just_left ends = just_taken
          ∙ ap (λ reports. with_reports conn reports start) (just_the_end (reports_at conn taken) (ap is_end removed ∙ ends))
          ∙ ap (λ asks. with_reports conn (left_by (events_of (reports_at conn taken)) asks) start) (waits ∙ so_far.waits)

      module _ (happened : HostEvent) (next : Some happened ≡ oldest (events_of (reports_at conn host))) where
        told_now : told_of known.client conn taken happened ≡ told_of known.client conn (with_left (events_of (reports_at conn taken)) conn start) happened
        told_now = told_same known.client conn taken (with_left (events_of (reports_at conn taken)) conn start) happened
            (λ is. just_left (only_the_end (reports_at conn host) (ap (λ (it : HostEvent). Some it) (sym is) ∙ next)))

        is_next : events_of (reports_at conn host) ≡ happened ∷ events_of (reports_at conn taken)
        is_next = oldest_first (events_of (reports_at conn host)) happened next ∙ ap (λ events. happened ∷ events) (sym removed)

        goes_on_from : (answer : Result Unit Fault) (new : W)
            → Told noticed showed (told_of known.client conn taken happened ++ told_each known.client conn start (events_of (reports_at conn taken))) watcher answer new
            → Told noticed showed (reports_of known.client conn start) hearing answer new
        goes_on_from answer new told = so_far.goes_on answer new
            (subst (λ events. Told noticed showed (told_each known.client conn start events) watcher answer new) (sym is_next)
            (subst (λ first. Told noticed showed (first ++ told_each known.client conn start (events_of (reports_at conn taken))) watcher answer new) told_now told))

        pub one_told : (after : W) → HearsEach noticed showed (told_of known.client conn taken happened) watcher after
            → IsReporting conn start known hearing taken (with_event happened info) after
        one_told after hears = record {
          there = so_far.there;
          just_reports = just_taken;
          waits = waits ∙ so_far.waits;
          counts = ap (λ events. with_events events info) (sym is_next) ∙ so_far.counts;
          goes_on = λ answer new it. goes_on_from answer new
              (told_after (told_of known.client conn taken happened) (told_each known.client conn start (events_of (reports_at conn taken))) watcher after new answer hears it);
        }

        pub one_failed : (why : Fault) (after : W) → FailsAmong noticed showed (told_of known.client conn taken happened) watcher why after
            → FailsAmong noticed showed (reports_of known.client conn start) hearing why after
        one_failed why after fails = goes_on_from (Err why) after
            (fails_within (told_of known.client conn taken happened) (told_each known.client conn start (events_of (reports_at conn taken))) watcher after why fails)

      module _ (none : None ≡ oldest (events_of (reports_at conn host))) where
        pub all_told : HearsEach noticed showed (reports_of known.client conn start) hearing watcher
        all_told = so_far.goes_on (Ok tt) watcher
            (subst (λ events. HearsEach noticed showed (told_each known.client conn start events) watcher watcher) (sym (none_more (events_of (reports_at conn host)) none)) refl)

        pub all_taken : taken ≡ reported conn start
        all_taken = just_left (ap is_end nothing) ∙ ap (λ events. with_left events conn start) (removed ∙ nothing)
          where
            nothing : without_oldest (events_of (reports_at conn host)) ≡ []
            nothing = none_behind (events_of (reports_at conn host)) (none_more (events_of (reports_at conn host)) none)

        pub all_known : info ≡ info_after conn start known
        all_known = ap (λ events. with_events events info) (sym (none_more (events_of (reports_at conn host)) none)) ∙ so_far.counts
