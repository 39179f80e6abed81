-- From one world the same event leads to one world, where memory isn't refused.
use Rattle.std.proofs.Common.{◌≡◌, ◌<◌, ◌≤◌, ℕ, zero, suc, Bool, true, false, List, [], ◌∷◌, length, take, Option, Some, None, refl, ap, sym, ◌∙◌, subst, inl, inr, arith}
use Rattle.std.proofs.lemmas.Bool.{cases_order}
use Rattle.std.proofs.lemmas.List.{drop_all, take_all}
use Rattle.keyboard.specs.declared.key.Key.{Key}
use Rattle.tn3270e_msg.specs.declared.cause.Cause.{Cause}
use Rattle.tn3270e_msg.specs.declared.cause.Fed.{Fed}
use Rattle.tn3270e_msg.specs.declared.cause.Stop.{Stop}
use Rattle.tn3270e_msg.specs.declared.cause.Stop.TheVariants as stop
use Rattle.host_core.specs.Acts.{Sent}
use Rattle.host_core.specs.Application.{Application, application_of}
use Rattle.host_core.specs.Bytes.{ConnectionAndPool, TakesByte, TakesBytes}
use Rattle.host_core.specs.Does.{Does as HostDoes, acted_by, noted_by, DoesAnswer}
use Rattle.host_core.specs.Feeds.{Feeds, IsOpen, StopsFor as HostStopsFor, connection_and_pool_at, with_connection_and_pool}
use Rattle.host_core.specs.Machine.{OneOutcome as OneOutcomeOfHost}
use Rattle.host_core.specs.State.{Host, Connection, Service, connection_at, state_at, with_connection, session_at}
use Rattle.host_core.specs.declared.acted.Acted.{Acted}
use Rattle.host_core.specs.declared.question.Answer.{Answer as ApplicationAnswer}
use Rattle.host_core.specs.declared.acted.Acted.TheVariants as acted
use Rattle.term_core.specs.Bytes.{TakesByte as TermTakesByte}
use Rattle.term_core.specs.Feeds.{IsAttached, StopsFor as TermStopsFor}
use Rattle.term_core.specs.Laws.{OneOutcome as OneOutcomeOfTerminal}
use Rattle.term_core.specs.Room.{out_room}
use Rattle.term_core.specs.State.{Link, Terminal, Detached, Closed}
use Rattle.host_core.specs.Questions.{answered_by}
use Rattle.world3270.proofs.Answered.{IsDone, by_act, by_answer}
use Rattle.world3270.specs.model.ByteRuns.{AllHappen, Runs, StopsAt, refused_at}
use Rattle.world3270.specs.model.ByteSteps.{OnConnection, ComesDown, ComesUp, Connects, ConnectsIf, GoesDown, IsStep, IsStepIf, Is, Presses, TrackedFeeds, answer_acted, answer_fed, down_came, free_number, is_enabled, host_gone_if, terminal_gone_if, up_came}
use Rattle.world3270.specs.model.ByteWorld.{ByteWorld, down_of, slot_at, terminal_at, up_of, with_host, with_slot}
use Rattle.world3270.specs.statement.OneOutcome.{EventsAreOne, RunsAreOne, StepsAreOne}
use Rattle.world3270.specs.model.TrackedTerminals.{History, TrackedTerminal, TrackedTakes, TrackedTakesByte, marked}
use Rattle.world3270.specs.declared.event.Event.{Event}
use Rattle.world3270.specs.declared.event.Event.TheVariants as event
use Rattle.world3270.specs.declared.event.Ran.{Ran}
use Rattle.world3270.specs.declared.event.Stepped.{Stepped}
use Rattle.world3270.specs.declared.event.Stepped.TheVariants as stepped

-- ---- where memory isn't refused

abbrev Alike : Stepped → Stepped → ByteWorld → ByteWorld → Type 0
Alike answer reply new other = (answer ≡ reply) × (new ≡ other)

not_memory : (answer : Stepped) → answer ≡ stepped.Memory → refused_at answer ≡ None → ⊥
not_memory answer is none =
    let both : Some zero ≡ None = sym (ap refused_at is) ∙ none in
    cc

no_stop : (why : Stop) (taken : ℕ) → refused_at (answer_fed why taken) ≡ None → why ≡ stop.Memory → ⊥
no_stop stop.Going taken none is = cc
no_stop stop.Memory zero none is = cc
no_stop stop.Memory (suc taken) none is = cc
no_stop (stop.Closed cause) taken none is = cc

-- ---- bytes come up

abbrev fed_of : ℕ → Stop → Fed
fed_of taken why = record { taken = taken; stop = why }

abbrev up_made : ℕ → ByteWorld → Fed → ConnectionAndPool → ByteWorld
up_made number old fed counter = host_gone_if fed.stop number (up_came fed.taken number (with_host (with_connection_and_pool number counter old.host) old))

byte_wants_open : (number : ℕ) (old new : ConnectionAndPool) (byte : ℕ) → TakesByte number old byte new → IsOpen old.connection.service
byte_wants_open number old new byte (TakesByte.goes_on rest to conn is delivers new_is) = subst IsOpen (sym is) tt
byte_wants_open number old new byte (TakesByte.completes rest to conn item step is delivers takes new_is) = subst IsOpen (sym is) tt
byte_wants_open number old new byte (TakesByte.breaks rest conn fault is wrong new_is) = subst IsOpen (sym is) tt

-- where more bytes were taken, the line was open behind the fewer
open_behind : (number : ℕ) (old new : ConnectionAndPool) (bytes : List ℕ) (fewer more : ℕ) → fewer < more → more ≤ length bytes → TakesBytes number old (take more bytes) new
    → (mid : ConnectionAndPool) × TakesBytes number old (take fewer bytes) mid × IsOpen mid.connection.service
open_behind number old new bytes fewer zero less few takes = absurd (omega arith)
open_behind number old new [] fewer (suc more) less few takes = absurd (omega arith)
open_behind number old new (byte ∷ bytes) zero (suc more) less few takes = (old, refl, byte_wants_open number old takes.0 byte takes.1)
open_behind number old new (byte ∷ bytes) (suc fewer) (suc more) less few takes =
    let behind = open_behind number takes.0 new bytes fewer more (omega arith) (omega arith) takes.2 in
    (behind.0, (takes.0, takes.1, behind.1), behind.2)

open_or_closed : (service : Service) (cause : Cause) → IsOpen service → service ≡ Service.Closed cause → ⊥
open_or_closed service cause is closed = subst IsOpen closed is

open_or_free : (service : Service) → IsOpen service → service ≡ Service.Free → ⊥
open_or_free service is free = subst IsOpen free is

free_or_closed : (service : Service) (cause : Cause) → service ≡ Service.Free → service ≡ Service.Closed cause → ⊥
free_or_closed service cause free closed = cc

same_cause : (service : Service) (cause other : Cause) → service ≡ Service.Closed cause → service ≡ Service.Closed other → cause ≡ other
same_cause service cause other is also = cc

module _ (one_host : OneOutcomeOfHost) where
  -- it doesn't stop while another goes on from the same line with the same bytes
  host_stops : (number : ℕ) (old one other : ConnectionAndPool) (bytes : List ℕ) (m n : ℕ) (why : Stop) → n ≤ length bytes → TakesBytes number old (take m bytes) one
      → TakesBytes number old (take n bytes) other → HostStopsFor why old bytes m one → (why ≡ stop.Memory → ⊥) → m < n → ⊥
  host_stops number old one other bytes m n stop.Going few takes also (inl at_end) going less =
      let whole = at_end.0 in
      omega (arith, whole)
  host_stops number old one other bytes m n stop.Going few takes also (inr free) going less =
      let begin : 0 < n = omega arith in
      let (mid, none, is) = open_behind number old other bytes 0 n begin few also in
      open_or_free old.connection.service (subst (λ (c : ConnectionAndPool). IsOpen c.connection.service) none is) free.1
  host_stops number old one other bytes m n stop.Memory few takes also stops going less = going refl
  host_stops number old one other bytes m n (stop.Closed cause) few takes also stops going less =
      let (mid, mid_takes, is) = open_behind number old other bytes m n less few also in
      open_or_closed one.connection.service cause (subst (λ (c : ConnectionAndPool). IsOpen c.connection.service) (one_host number old mid one (take m bytes) mid_takes takes) is) stops

  -- of a line that is free no byte is taken
  free_stays : (number : ℕ) (old one : ConnectionAndPool) (bytes : List ℕ) (m : ℕ) → m ≡ 0 → TakesBytes number old (take m bytes) one → one ≡ old
  free_stays number old one bytes m none takes = subst (λ (n : ℕ). TakesBytes number old (take n bytes) one) none takes

  host_stops_so : (number : ℕ) (old one : ConnectionAndPool) (bytes : List ℕ) (m : ℕ) (why also : Stop) → TakesBytes number old (take m bytes) one → HostStopsFor why old bytes m one
      → HostStopsFor also old bytes m one → (why ≡ stop.Memory → ⊥) → (also ≡ stop.Memory → ⊥) → why ≡ also
  host_stops_so number old one bytes m stop.Memory also takes is other_is going also_going = absurd (going refl)
  host_stops_so number old one bytes m stop.Going stop.Memory takes is other_is going also_going = absurd (also_going refl)
  host_stops_so number old one bytes m (stop.Closed cause) stop.Memory takes is other_is going also_going = absurd (also_going refl)
  host_stops_so number old one bytes m stop.Going stop.Going takes is other_is going also_going = refl
  host_stops_so number old one bytes m stop.Going (stop.Closed cause) takes (inl is) other_is going also_going = absurd (open_or_closed one.connection.service cause is.1 other_is)
  host_stops_so number old one bytes m stop.Going (stop.Closed cause) takes (inr is) other_is going also_going =
      absurd (free_or_closed old.connection.service cause is.1 (subst (λ (c : ConnectionAndPool). c.connection.service ≡ Service.Closed cause) (free_stays number old one bytes m is.0 takes) other_is))
  host_stops_so number old one bytes m (stop.Closed cause) stop.Going takes is (inl other_is) going also_going = absurd (open_or_closed one.connection.service cause other_is.1 is)
  host_stops_so number old one bytes m (stop.Closed cause) stop.Going takes is (inr other_is) going also_going =
      absurd (free_or_closed old.connection.service cause other_is.1 (subst (λ (c : ConnectionAndPool). c.connection.service ≡ Service.Closed cause) (free_stays number old one bytes m other_is.0 takes) is))
  host_stops_so number old one bytes m (stop.Closed cause) (stop.Closed other) takes is other_is going also_going =
      ap stop.Closed (same_cause one.connection.service cause other is other_is)

  one_count : (number : ℕ) (old one other : ConnectionAndPool) (bytes : List ℕ) (fed run : Fed) → Feeds number old bytes fed one → Feeds number old bytes run other
      → (fed.stop ≡ stop.Memory → ⊥) → (run.stop ≡ stop.Memory → ⊥) → fed.taken ≡ run.taken
  one_count number old one other bytes fed run is also going also_going =
      elim (cases_order fed.taken run.taken) [
        | inl same ↦ same
        | inr (inl less) ↦ absurd (host_stops number old one other bytes fed.taken run.taken fed.stop also.few is.takes also.takes is.stops going less)
        | inr (inr more) ↦ absurd (host_stops number old other one bytes run.taken fed.taken run.stop is.few also.takes is.takes also.stops also_going more)
      ]

  one_feeding : (number : ℕ) (old one other : ConnectionAndPool) (bytes : List ℕ) (fed run : Fed) → Feeds number old bytes fed one → Feeds number old bytes run other
      → (fed.stop ≡ stop.Memory → ⊥) → (run.stop ≡ stop.Memory → ⊥) → (fed ≡ run) × (one ≡ other)
  one_feeding number old one other bytes fed run is also going also_going =
      let count : fed.taken ≡ run.taken = one_count number old one other bytes fed run is also going also_going in
      let here : TakesBytes number old (take fed.taken bytes) other = subst (λ (n : ℕ). TakesBytes number old (take n bytes) other) (sym count) also.takes in
      let same : one ≡ other = one_host number old one other (take fed.taken bytes) is.takes here in
      let stops : HostStopsFor run.stop old bytes fed.taken other = subst (λ (n : ℕ). HostStopsFor run.stop old bytes n other) (sym count) also.stops in
      let why : fed.stop ≡ run.stop =
      host_stops_so number old one bytes fed.taken fed.stop run.stop is.takes is.stops (subst (λ (c : ConnectionAndPool). HostStopsFor run.stop old bytes fed.taken c) (sym same) stops) going also_going in
      (ap (λ (taken : ℕ). fed_of taken fed.stop) count ∙ ap (λ (s : Stop). fed_of run.taken s) why, same)

  one_up : (number : ℕ) (bytes : List ℕ) (old new other : ByteWorld) (answer reply : Stepped) → ComesUp number bytes old answer new → refused_at answer ≡ None
      → ComesUp number bytes old reply other → refused_at reply ≡ None → Alike answer reply new other
  one_up number bytes old new other answer reply is none also other_none =
      let going = no_stop is.fed.stop is.fed.taken (sym (ap refused_at is.answers) ∙ none) in
      let also_going = no_stop also.fed.stop also.fed.taken (sym (ap refused_at also.answers) ∙ other_none) in
      let same = one_feeding number (connection_and_pool_at number old.host) is.counter also.counter bytes is.fed also.fed is.feeds also.feeds going also_going in (
        is.answers ∙ ap (λ (fed : Fed). answer_fed fed.stop fed.taken) same.0 ∙ sym also.answers,
        is.leaves ∙ ap (λ (fed : Fed). up_made number old fed is.counter) same.0 ∙ ap (λ (counter : ConnectionAndPool). up_made number old also.fed counter) same.1 ∙ sym also.leaves,
      )

-- ---- bytes come down

tracked_wants_attached : (old new : Terminal) (byte : ℕ) → TermTakesByte old byte new → IsAttached old.link
tracked_wants_attached old new byte (TermTakesByte.goes_on rest to talk is delivers new_is) = subst IsAttached (sym is) tt
tracked_wants_attached old new byte (TermTakesByte.completes rest to talk after item says closes station is delivers takes new_is) = subst IsAttached (sym is) tt
tracked_wants_attached old new byte (TermTakesByte.breaks rest talk fault is wrong new_is) = subst IsAttached (sym is) tt

-- where more bytes were taken, the terminal was attached behind the fewer
attached_behind : (old new : TrackedTerminal) (bytes : List ℕ) (fewer more : ℕ) → fewer < more → more ≤ length bytes → TrackedTakes old (take more bytes) new
    → (mid : TrackedTerminal) × TrackedTakes old (take fewer bytes) mid × IsAttached mid.terminal.link
attached_behind old new bytes fewer zero less few takes = absurd (omega arith)
attached_behind old new [] fewer (suc more) less few takes = absurd (omega arith)
attached_behind old new (byte ∷ bytes) zero (suc more) less few takes = (old, refl, tracked_wants_attached old.terminal takes.0.terminal byte takes.1.takes)
attached_behind old new (byte ∷ bytes) (suc fewer) (suc more) less few takes =
    let behind = attached_behind takes.0 new bytes fewer more (omega arith) (omega arith) takes.2 in
    (behind.0, (takes.0, takes.1, behind.1), behind.2)

attached_or_closed : (link : Link) (cause : Cause) → IsAttached link → link ≡ Closed cause → ⊥
attached_or_closed link cause is closed = subst IsAttached closed is

attached_or_detached : (link : Link) → IsAttached link → link ≡ Detached → ⊥
attached_or_detached link is detached = subst IsAttached detached is

detached_or_closed : (link : Link) (cause : Cause) → link ≡ Detached → link ≡ Closed cause → ⊥
detached_or_closed link cause detached closed = cc

same_link_cause : (link : Link) (cause other : Cause) → link ≡ Closed cause → link ≡ Closed other → cause ≡ other
same_link_cause link cause other is also = cc

abbrev tracked_of : Terminal → History → TrackedTerminal
tracked_of terminal history = record { terminal = terminal; history = history }

abbrev down_made : ℕ → ℕ → ByteWorld → Fed → TrackedTerminal → ByteWorld
down_made terminal number old fed tracked =
    terminal_gone_if fed.stop terminal number (down_came fed.taken number (with_slot terminal (record (slot_at terminal old) { tracked = tracked }) old))

module _ (one_terminal : OneOutcomeOfTerminal) where
  one_tracked_byte : (old one other : TrackedTerminal) (byte : ℕ) → TrackedTakesByte old byte one → TrackedTakesByte old byte other → one ≡ other
  one_tracked_byte old one other byte is also =
      let same : one.terminal ≡ other.terminal = one_terminal old.terminal one.terminal other.terminal (byte ∷ []) (one.terminal, is.takes, refl) (other.terminal, also.takes, refl) in
      let history : one.history ≡ other.history = is.history ∙ ap (λ (t : Terminal). marked old.terminal.station t.station old.history) same ∙ sym also.history in
      ap (λ (t : Terminal). tracked_of t one.history) same ∙ ap (λ (h : History). tracked_of other.terminal h) history

  one_tracked : (old one other : TrackedTerminal) (bytes : List ℕ) → TrackedTakes old bytes one → TrackedTakes old bytes other → one ≡ other
  one_tracked old one other [] is also = is ∙ sym also
  one_tracked old one other (byte ∷ bytes) is also =
      let same = one_tracked_byte old is.0 also.0 byte is.1 also.1 in
      one_tracked is.0 one other bytes is.2 (subst (λ (mid : TrackedTerminal). TrackedTakes mid bytes other) (sym same) also.2)

  -- it doesn't stop while another goes on from the same seat with the same bytes
  tracked_stops : (old one other : TrackedTerminal) (bytes : List ℕ) (m n : ℕ) (why : Stop) → n ≤ length bytes → TrackedTakes old (take m bytes) one → TrackedTakes old (take n bytes) other
      → TermStopsFor out_room why old.terminal bytes m one.terminal → (why ≡ stop.Memory → ⊥) → m < n → ⊥
  tracked_stops old one other bytes m n stop.Going few takes also (inl at_end) going less =
      let whole = at_end.0 in
      omega (arith, whole)
  tracked_stops old one other bytes m n stop.Going few takes also (inr detached) going less =
      let begin : 0 < n = omega arith in
      let (mid, none, is) = attached_behind old other bytes 0 n begin few also in
      attached_or_detached old.terminal.link (subst (λ (s : TrackedTerminal). IsAttached s.terminal.link) none is) detached.1
  tracked_stops old one other bytes m n stop.Memory few takes also stops going less = going refl
  tracked_stops old one other bytes m n (stop.Closed cause) few takes also stops going less =
      let (mid, mid_takes, is) = attached_behind old other bytes m n less few also in
      attached_or_closed one.terminal.link cause (subst (λ (s : TrackedTerminal). IsAttached s.terminal.link) (one_tracked old mid one (take m bytes) mid_takes takes) is) stops

  tracked_stays : (old one : TrackedTerminal) (bytes : List ℕ) (m : ℕ) → m ≡ 0 → TrackedTakes old (take m bytes) one → one ≡ old
  tracked_stays old one bytes m none takes = subst (λ (n : ℕ). TrackedTakes old (take n bytes) one) none takes

  tracked_stops_so : (old one : TrackedTerminal) (bytes : List ℕ) (m : ℕ) (why also : Stop) → TrackedTakes old (take m bytes) one → TermStopsFor out_room why old.terminal bytes m one.terminal
      → TermStopsFor out_room also old.terminal bytes m one.terminal → (why ≡ stop.Memory → ⊥) → (also ≡ stop.Memory → ⊥) → why ≡ also
  tracked_stops_so old one bytes m stop.Memory also takes is other_is going also_going = absurd (going refl)
  tracked_stops_so old one bytes m stop.Going stop.Memory takes is other_is going also_going = absurd (also_going refl)
  tracked_stops_so old one bytes m (stop.Closed cause) stop.Memory takes is other_is going also_going = absurd (also_going refl)
  tracked_stops_so old one bytes m stop.Going stop.Going takes is other_is going also_going = refl
  tracked_stops_so old one bytes m stop.Going (stop.Closed cause) takes (inl is) other_is going also_going = absurd (attached_or_closed one.terminal.link cause is.1 other_is)
  tracked_stops_so old one bytes m stop.Going (stop.Closed cause) takes (inr is) other_is going also_going =
      absurd (detached_or_closed old.terminal.link cause is.1 (subst (λ (s : TrackedTerminal). s.terminal.link ≡ Closed cause) (tracked_stays old one bytes m is.0 takes) other_is))
  tracked_stops_so old one bytes m (stop.Closed cause) stop.Going takes is (inl other_is) going also_going = absurd (attached_or_closed one.terminal.link cause other_is.1 is)
  tracked_stops_so old one bytes m (stop.Closed cause) stop.Going takes is (inr other_is) going also_going =
      absurd (detached_or_closed old.terminal.link cause other_is.1 (subst (λ (s : TrackedTerminal). s.terminal.link ≡ Closed cause) (tracked_stays old one bytes m other_is.0 takes) is))
  tracked_stops_so old one bytes m (stop.Closed cause) (stop.Closed other) takes is other_is going also_going =
      ap stop.Closed (same_link_cause one.terminal.link cause other is other_is)

  one_tracked_count : (old one other : TrackedTerminal) (bytes : List ℕ) (fed run : Fed) → TrackedFeeds old bytes fed one → TrackedFeeds old bytes run other
      → (fed.stop ≡ stop.Memory → ⊥) → (run.stop ≡ stop.Memory → ⊥) → fed.taken ≡ run.taken
  one_tracked_count old one other bytes fed run is also going also_going =
      elim (cases_order fed.taken run.taken) [
        | inl same ↦ same
        | inr (inl less) ↦ absurd (tracked_stops old one other bytes fed.taken run.taken fed.stop also.few is.takes also.takes is.stops going less)
        | inr (inr more) ↦ absurd (tracked_stops old other one bytes run.taken fed.taken run.stop is.few also.takes is.takes also.stops also_going more)
      ]

  one_tracked_feeding : (old one other : TrackedTerminal) (bytes : List ℕ) (fed run : Fed) → TrackedFeeds old bytes fed one → TrackedFeeds old bytes run other
      → (fed.stop ≡ stop.Memory → ⊥) → (run.stop ≡ stop.Memory → ⊥) → (fed ≡ run) × (one ≡ other)
  one_tracked_feeding old one other bytes fed run is also going also_going =
      let count : fed.taken ≡ run.taken = one_tracked_count old one other bytes fed run is also going also_going in
      let here : TrackedTakes old (take fed.taken bytes) other = subst (λ (n : ℕ). TrackedTakes old (take n bytes) other) (sym count) also.takes in
      let same : one ≡ other = one_tracked old one other (take fed.taken bytes) is.takes here in
      let stops : TermStopsFor out_room run.stop old.terminal bytes fed.taken other.terminal = subst (λ (n : ℕ). TermStopsFor out_room run.stop old.terminal bytes n other.terminal) (sym count) also.stops in
      let why : fed.stop ≡ run.stop =
      tracked_stops_so old one bytes fed.taken fed.stop run.stop is.takes is.stops (subst (λ (s : TrackedTerminal). TermStopsFor out_room run.stop old.terminal bytes fed.taken s.terminal) (sym same) stops) going also_going in
      (ap (λ (taken : ℕ). fed_of taken fed.stop) count ∙ ap (λ (s : Stop). fed_of run.taken s) why, same)

  one_down : (terminal number : ℕ) (bytes : List ℕ) (old new other : ByteWorld) (answer reply : Stepped) → ComesDown terminal number bytes old answer new
      → refused_at answer ≡ None → ComesDown terminal number bytes old reply other → refused_at reply ≡ None → Alike answer reply new other
  one_down terminal number bytes old new other answer reply is none also other_none =
      let going = no_stop is.fed.stop is.fed.taken (sym (ap refused_at is.answers) ∙ none) in
      let also_going = no_stop also.fed.stop also.fed.taken (sym (ap refused_at also.answers) ∙ other_none) in
      let same = one_tracked_feeding (slot_at terminal old).tracked is.tracked also.tracked bytes is.fed also.fed is.feeds also.feeds going also_going in (
        is.answers ∙ ap (λ (fed : Fed). answer_fed fed.stop fed.taken) same.0 ∙ sym also.answers,
        is.leaves ∙ ap (λ (fed : Fed). down_made terminal number old fed is.tracked) same.0
            ∙ ap (λ (tracked : TrackedTerminal). down_made terminal number old also.fed tracked) same.1 ∙ sym also.leaves,
      )

  one_going_down : (at : Option ℕ) (number : ℕ) (bytes : List ℕ) (old new other : ByteWorld) (answer reply : Stepped) → GoesDown at number bytes old answer new
      → refused_at answer ≡ None → GoesDown at number bytes old reply other → refused_at reply ≡ None → Alike answer reply new other
  one_going_down None number bytes old new other answer reply is none also other_none = absurd is
  one_going_down (Some terminal) number bytes old new other answer reply is none also other_none =
      one_down terminal number bytes old new other answer reply is none also other_none

-- ---- keys, acts and connections

one_press : (terminal : ℕ) (key : Key) (old new other : ByteWorld) (answer reply : Stepped) → Presses terminal key old answer new → refused_at answer ≡ None
    → Presses terminal key old reply other → refused_at reply ≡ None → Alike answer reply new other
one_press terminal key old new other answer reply (Presses.refused lacks is new_is) none also other_none = absurd (not_memory answer is none)
one_press terminal key old new other answer reply (Presses.done is new_is) none (Presses.refused lacks also other_is) other_none = absurd (not_memory reply also other_none)
one_press terminal key old new other answer reply (Presses.done is new_is) none (Presses.done also other_is) other_none = (is ∙ sym also, new_is ∙ sym other_is)

one_answering : (does : Option Sent) (old one other : Connection) (act reply : Acted) → IsDone does old act one → refused_at (answer_acted act) ≡ None
    → IsDone does old reply other → refused_at (answer_acted reply) ≡ None → (act ≡ reply) × (one ≡ other)
one_answering None old one other act reply is none also other_none = (is.0 ∙ sym also.0, is.1 ∙ sym also.1)
one_answering (Some sent) old one other acted.Sent acted.Sent is none also other_none = (refl, is ∙ sym also)
one_answering (Some sent) old one other acted.Sent acted.Memory is none also other_none = absurd (not_memory stepped.Memory refl other_none)
one_answering (Some sent) old one other acted.Sent acted.Nothing is none also other_none = absurd also
one_answering (Some sent) old one other acted.Memory reply is none also other_none = absurd (not_memory stepped.Memory refl none)
one_answering (Some sent) old one other acted.Nothing reply is none also other_none = absurd is

one_doing : (does : Option Sent) (old one other : Connection) (act reply : Acted) → HostDoes does old act one → refused_at (answer_acted act) ≡ None
    → HostDoes does old reply other → refused_at (answer_acted reply) ≡ None → (act ≡ reply) × (one ≡ other)
one_doing does old one other act reply is none also other_none = one_answering does old one other act reply (by_act does old act one is) none (by_act does old reply other also) other_none

one_call : (becomes : Connection → Acted → Connection → Type 0) (number : ℕ) (old new other : ByteWorld) (answer reply : Stepped)
    → ((one two : Connection) (act again : Acted) → becomes (connection_at number old.host) act one → refused_at (answer_acted act) ≡ None
    → becomes (connection_at number old.host) again two → refused_at (answer_acted again) ≡ None → (act ≡ again) × (one ≡ two))
    → OnConnection becomes number old answer new → refused_at answer ≡ None → OnConnection becomes number old reply other → refused_at reply ≡ None
    → Alike answer reply new other
one_call becomes number old new other answer reply alike is none also other_none =
    let same =
    alike (connection_at number is.host) (connection_at number also.host) is.act also.act is.acts (sym (ap refused_at is.answers) ∙ none)
    also.acts (sym (ap refused_at also.answers) ∙ other_none) in
    let host : is.host ≡ also.host = is.others ∙ ap (λ (connection : Connection). with_connection number connection old.host) same.1 ∙ sym also.others in
    (is.answers ∙ ap answer_acted same.0 ∙ sym also.answers, is.leaves ∙ ap (λ (h : Host). with_host h old) host ∙ sym also.leaves)

one_act : (does : Option Sent) (number : ℕ) (old new other : ByteWorld) (answer reply : Stepped) → OnConnection (HostDoes does) number old answer new → refused_at answer ≡ None
    → OnConnection (HostDoes does) number old reply other → refused_at reply ≡ None → Alike answer reply new other
one_act does number old new other answer reply =
    one_call (HostDoes does) number old new other answer reply (one_doing does (connection_at number old.host))

one_said : (app : Application) (said : ApplicationAnswer) (does : Option Sent) (old one other : Connection) (act reply : Acted) → DoesAnswer app said does old act one → refused_at (answer_acted act) ≡ None
    → DoesAnswer app said does old reply other → refused_at (answer_acted reply) ≡ None → (act ≡ reply) × (one ≡ other)
one_said app said does old one other act reply is none also other_none =
    one_answering does old one other act reply (by_answer app said does old act one is) none (by_answer app said does old reply other also) other_none

one_answer : (app : Application) (said : ApplicationAnswer) (does : Option Sent) (number : ℕ) (old new other : ByteWorld) (answer reply : Stepped) → OnConnection (DoesAnswer app said does) number old answer new
    → refused_at answer ≡ None → OnConnection (DoesAnswer app said does) number old reply other → refused_at reply ≡ None → Alike answer reply new other
one_answer app said does number old new other answer reply =
    one_call (DoesAnswer app said does) number old new other answer reply (one_said app said does (connection_at number old.host))

one_connection : (terminal : ℕ) (wanted : Option (List ℕ)) (number : ℕ) (old new other : ByteWorld) (answer reply : Stepped) → Connects terminal wanted number old answer new
    → refused_at answer ≡ None → Connects terminal wanted number old reply other → refused_at reply ≡ None → Alike answer reply new other
one_connection terminal wanted number old new other answer reply (Connects.refused is new_is) none also other_none = absurd (not_memory answer is none)
one_connection terminal wanted number old new other answer reply (Connects.done is new_is) none (Connects.refused also other_is) other_none =
    absurd (not_memory reply also other_none)
one_connection terminal wanted number old new other answer reply (Connects.done is new_is) none (Connects.done also other_is) other_none =
    (is ∙ sym also, new_is ∙ sym other_is)

one_connecting : (terminal : ℕ) (wanted : Option (List ℕ)) (free : Option ℕ) (old new other : ByteWorld) (answer reply : Stepped) → ConnectsIf terminal wanted free old answer new
    → refused_at answer ≡ None → ConnectsIf terminal wanted free old reply other → refused_at reply ≡ None → Alike answer reply new other
one_connecting terminal wanted None old new other answer reply is none also other_none = absurd is
one_connecting terminal wanted (Some number) old new other answer reply is none also other_none =
    one_connection terminal wanted number old new other answer reply is none also other_none

one_made : (made new other : ByteWorld) (answer reply : Stepped) → Is made answer new → Is made reply other → Alike answer reply new other
one_made made new other answer reply is also = (is.0 ∙ sym also.0, is.1 ∙ sym also.1)

-- ---- events

abbrev ran_of : ℕ → ℕ → Ran
ran_of whole part = record { whole = whole; part = part }

module _ (one_host : OneOutcomeOfHost) (one_terminal : OneOutcomeOfTerminal) where
  one_happening : (event : Event) (old new other : ByteWorld) (answer reply : Stepped) → IsStep event old answer new → refused_at answer ≡ None
      → IsStep event old reply other → refused_at reply ≡ None → Alike answer reply new other
  one_happening (event.Key terminal key) old new other answer reply is none also other_none = one_press terminal key old new other answer reply is none also other_none
  one_happening (event.Up number count) old new other answer reply is none also other_none =
      one_up one_host number (take count (up_of number old)) old new other answer reply is none also other_none
  one_happening (event.Down number count) old new other answer reply is none also other_none =
      one_going_down one_terminal (terminal_at number old.slots) number (take count (down_of number old)) old new other answer reply is none also other_none
  one_happening (event.Act number) old new other answer reply is none also other_none =
      one_act (acted_by (application_of old.host.panels) (state_at number old.host)) number old new other answer reply is none also other_none
  one_happening (event.Answer number ticket said) old new other answer reply is none also other_none =
      one_answer (application_of old.host.panels) said (answered_by (application_of old.host.panels) (session_at number old.host) ticket said (state_at number old.host)) number old new other answer reply is none also other_none
  one_happening (event.Note number text) old new other answer reply is none also other_none =
      one_act (noted_by text (state_at number old.host)) number old new other answer reply is none also other_none
  one_happening (event.KeepAlive number) old new other answer reply is none also other_none = one_made _ new other answer reply is also
  one_happening (event.Lose number) old new other answer reply is none also other_none = one_made _ new other answer reply is also
  one_happening (event.HostSees number) old new other answer reply is none also other_none = one_made _ new other answer reply is also
  one_happening (event.TermSees terminal) old new other answer reply is none also other_none = one_made _ new other answer reply is also
  one_happening (event.Connect terminal wanted) old new other answer reply is none also other_none =
      one_connecting terminal wanted (free_number old) old new other answer reply is none also other_none
  one_happening (event.RestartTerm terminal) old new other answer reply is none also other_none = one_made _ new other answer reply is also
  one_happening event.RestartHost old new other answer reply is none also other_none = one_made _ new other answer reply is also

  one_if : (has : Bool) (event : Event) (old new other : ByteWorld) (answer reply : Stepped) → IsStepIf has event old answer new → refused_at answer ≡ None
      → IsStepIf has event old reply other → refused_at reply ≡ None → Alike answer reply new other
  one_if true event old new other answer reply is none also other_none = one_happening event old new other answer reply is none also other_none
  one_if false event old new other answer reply is none also other_none = (is.0 ∙ sym also.0, is.1 ∙ sym also.1)

  pub steps_are_one : StepsAreOne
  steps_are_one event old new other answer reply is none also other_none = one_if (is_enabled event old) event old new other answer reply is none also other_none

  pub events_are_one : EventsAreOne
  events_are_one [] old new other is also = is ∙ sym also
  events_are_one (event ∷ events) old new other is also =
      let same = steps_are_one event old is.1 also.1 is.0 also.0 is.2 is.3 also.2 also.3 in
      events_are_one events is.1 new other is.4 (subst (λ (mid : ByteWorld). AllHappen events mid other) (sym same.1) also.4)

  -- of a run in which each event happens whole: all happen, and nothing is left
  all_of_them : (events : List Event) (old new : ByteWorld) (ran : Ran) → Runs events old ran new → ran.whole ≡ length events → (ran.part ≡ 0) × AllHappen events old new
  all_of_them events old new ran is whole =
      let least : length events ≤ ran.whole = omega (arith, whole) in
      let rest : StopsAt [] ran.part is.mid new = subst (λ (left : List Event). StopsAt left ran.part is.mid new) (drop_all ran.whole events least) is.rest in
      let all : AllHappen events old is.mid = subst (λ (done : List Event). AllHappen done old is.mid) (take_all ran.whole events least) is.whole in
      (rest.0, subst (λ (mid : ByteWorld). AllHappen events old mid) (sym rest.1) all)

  pub runs_are_one : RunsAreOne
  runs_are_one events old new other ran run is whole also other_whole =
      let all = all_of_them events old new ran is whole in
      let other_all = all_of_them events old other run also other_whole in (
        ap (λ (count : ℕ). ran_of count ran.part) (whole ∙ sym other_whole) ∙ ap (λ (part : ℕ). ran_of run.whole part) (all.0 ∙ sym other_all.0),
        events_are_one events old new other all.1 other_all.1,
      )
