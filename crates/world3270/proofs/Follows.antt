-- The world over bytes follows the world over messages, whatever happens.
use Rattle.std.proofs.Common.{◌≡◌, ◌<◌, ◌≤◌, ◌+◌, ℕ, zero, suc, Bool, true, false, Option, Some, None, List, [], ◌∷◌, ◌++◌, drop, get_or, length, take, append_assoc, refl, ap, sym, subst, ◌∙◌, if◌then◌else◌}
use Rattle.std.proofs.Math.Seq.{drop-length, take-length}
use Rattle.std.proofs.lemmas.List.{append-nil, at_drop_more, take_all, take_more}
use Rattle.std.proofs.lemmas.List.Elements.{All-cons, All-nil}
use Rattle.keyboard.specs.declared.key.Key.{Key}
use Rattle.telnet_wire.specs.Items.{WireItem}
use Rattle.telnet_wire.specs.Reading.{Rest, IsRest}
use Rattle.tn3270e_msg.specs.Header.{record_limit}
use Rattle.host_core.specs.Application.{application_of}
use Rattle.host_core.specs.declared.question.Answer.{Answer as ApplicationAnswer}
use Rattle.host_core.specs.declared.question.Ticket.{Ticket}
use Rattle.world3270.specs.model.ByteRuns.{AllHappen, StopsAt, refused_at}
use Rattle.world3270.specs.model.ByteSteps.{IsStepIf, Steps, is_enabled}
use Rattle.world3270.specs.model.ByteWorld.{ByteWorld, down_of, up_of}
use Rattle.world3270.specs.refinement.Deliveries.{AreDeliveries, host_rest, taken_by, terminal_rest}
use Rattle.world3270.specs.model.Steps.{done, stepped_by}
use Rattle.world3270.specs.refinement.MessageLaws.{MessageLaws}
use Rattle.world3270.specs.model.Enabled.{is_enabled as is_enabled_over_messages}
use Rattle.world3270.specs.refinement.Refines.{WorldSetup, IsWorldSetup, Reached, IsReached, IsValidEvent, GoesOn, CorrespondsTo, StepsAreSimulated, SameSkips, CorrespondTo, NextCorrespondsTo, RunIsSimulated, RunsAreSimulated, StepOverMessages, RunOverMessages, AreValidEvents, after, once, once_taken}
use Rattle.world3270.specs.refinement.Sendable.{IsWellFormed}
use Rattle.world3270.specs.refinement.Representation.{WorldRepresents}
use Rattle.world3270.specs.refinement.Represents.{all_items, without_nops}
use Rattle.world3270.specs.model.World.{World, Event as MessageEvent, IsEvent}
use Rattle.world3270.specs.declared.event.Event.{Event}
use Rattle.world3270.specs.declared.event.Event.TheVariants as event
use Rattle.world3270.specs.declared.event.Ran.{Ran}
use Rattle.world3270.specs.declared.event.Stepped.{Stepped}
use Rattle.world3270.specs.declared.event.Stepped.TheVariants as stepped
use Rattle.world3270.proofs.Completed.{host_rest_is, none_delivered, terminal_rest_is}
use Rattle.world3270.proofs.Known.{Goes, reached_more, reached_still}

-- what each event comes to, where it has a place
pub record EventsGo : Type 0 where
  pub key : (terminal : ℕ) (key : Key) → Goes (event.Key terminal key)
  pub up : (number count : ℕ) → Goes (event.Up number count)
  pub down : (number count : ℕ) → Goes (event.Down number count)
  pub act : (number : ℕ) → Goes (event.Act number)
  pub answer : (number : ℕ) (ticket : Ticket) (said : ApplicationAnswer) → Goes (event.Answer number ticket said)
  pub note : (number : ℕ) (text : List ℕ) → Goes (event.Note number text)
  pub keep_alive : (number : ℕ) → Goes (event.KeepAlive number)
  pub lose : (number : ℕ) → Goes (event.Lose number)
  pub host_sees : (number : ℕ) → Goes (event.HostSees number)
  pub term_sees : (terminal : ℕ) → Goes (event.TermSees terminal)
  pub connect : (terminal : ℕ) (wanted : Option (List ℕ)) → Goes (event.Connect terminal wanted)
  pub restart_term : (terminal : ℕ) → Goes (event.RestartTerm terminal)
  pub restart_host : Goes event.RestartHost

goes : EventsGo → (event : Event) → Goes event
goes go (event.Key terminal key) = go.key terminal key
goes go (event.Up number count) = go.up number count
goes go (event.Down number count) = go.down number count
goes go (event.Act number) = go.act number
goes go (event.Answer number ticket said) = go.answer number ticket said
goes go (event.Note number text) = go.note number text
goes go (event.KeepAlive number) = go.keep_alive number
goes go (event.Lose number) = go.lose number
goes go (event.HostSees number) = go.host_sees number
goes go (event.TermSees terminal) = go.term_sees terminal
goes go (event.Connect terminal wanted) = go.connect terminal wanted
goes go (event.RestartTerm terminal) = go.restart_term terminal
goes go event.RestartHost = go.restart_host

-- ---- an event that has no place

module _ (begin : WorldSetup) (events : List MessageEvent) (old new : ByteWorld) (reached : Reached begin events old) (same : new ≡ old) where
  -- what happens over messages is skipped too
  skipped : (message : MessageEvent) → IsEvent message × IsWellFormed message → is_enabled_over_messages (application_of begin.panels) message (after begin events) ≡ false
      → Reached begin (events ++ message ∷ []) new
  skipped message real place =
      let app = application_of begin.panels in
      let world : World = after begin events in
      let stays : stepped_by app message world ≡ world =
      ap (λ (b : Bool). if b then done app message world else world) place in
      reached_more begin events (message ∷ []) old new reached (real.0, tt) (All-cons IsWellFormed message [] real.1 (All-nil IsWellFormed))
      (ap (λ (b : ByteWorld). b.host.panels) same)
      (subst (λ (w : World). WorldRepresents new w) (sym stays) (subst (λ (b : ByteWorld). WorldRepresents b world) (sym same) reached.stands))

module _ (known : MessageLaws) (skips : SameSkips) (begin : WorldSetup) (events : List MessageEvent) (old : ByteWorld) (answer : Stepped) (new : ByteWorld)
    (is : IsWorldSetup begin) (reached : Reached begin events old) (skip : answer ≡ stepped.Skipped) (same : new ≡ old) where
  is_once : (event : MessageEvent) → event ∷ [] ≡ once event answer
  is_once event = sym (ap (once event) skip)

  skips_once : (event : Event) (message : MessageEvent) → IsEvent message × IsWellFormed message → is_enabled event old ≡ is_enabled_over_messages (application_of begin.panels) message (after begin events)
      → is_enabled event old ≡ false → CorrespondsTo event old answer (message ∷ []) → GoesOn begin events event old answer new
  skips_once event message real alike place comes = record {
    more = message ∷ [];
    comes_to = comes;
    reached = skipped begin events old new reached same message real (sym alike ∙ place);
  }

  -- nothing was taken of bytes that come
  none_taken : (spoken : List WireItem → List WireItem) (rest : Rest) (bytes : List ℕ) (delivery : MessageEvent) → spoken [] ≡ [] → IsRest record_limit rest
      → AreDeliveries spoken rest (taken_by answer bytes) delivery []
  none_taken spoken rest bytes delivery none held =
      subst (λ (a : Stepped). AreDeliveries spoken rest (taken_by a bytes) delivery []) (sym skip) (none_delivered known spoken rest delivery none held)

  skips_go : (event : Event) → IsValidEvent event → is_enabled event old ≡ false → GoesOn begin events event old answer new
  skips_go (event.Up number count) real place = record {
    more = [];
    comes_to = none_taken all_items (host_rest number old) (take count (up_of number old)) (MessageEvent.Up number) refl (host_rest_is known number old (after begin events) reached.stands);
    reached = reached_still begin events old new reached same;
  }
  skips_go (event.Down number count) real place = record {
    more = [];
    comes_to = none_taken without_nops (terminal_rest number old) (take count (down_of number old)) (MessageEvent.Down number) refl
        (terminal_rest_is known number old (after begin events) reached.stands);
    reached = reached_still begin events old new reached same;
  }
  skips_go (event.Key terminal key) real place = skips_once (event.Key terminal key) (MessageEvent.Press terminal key) real (skips begin events (event.Key terminal key) old is reached tt) place (is_once (MessageEvent.Press terminal key))
  skips_go (event.Act number) real place = skips_once (event.Act number) (MessageEvent.Act number) real (skips begin events (event.Act number) old is reached tt) place (is_once (MessageEvent.Act number))
  skips_go (event.Answer number ticket said) real place =
      record { more = []; comes_to = sym (ap (once_taken (MessageEvent.Answer number said)) skip); reached = reached_still begin events old new reached same }
  skips_go (event.Note number text) real place = skips_once (event.Note number text) (MessageEvent.Note number text) real (skips begin events (event.Note number text) old is reached tt) place (is_once (MessageEvent.Note number text))
  skips_go (event.Lose number) real place = skips_once (event.Lose number) (MessageEvent.Lose number) real (skips begin events (event.Lose number) old is reached tt) place (is_once (MessageEvent.Lose number))
  skips_go (event.HostSees number) real place = skips_once (event.HostSees number) (MessageEvent.HostSees number) real (skips begin events (event.HostSees number) old is reached tt) place (is_once (MessageEvent.HostSees number))
  skips_go (event.TermSees terminal) real place = skips_once (event.TermSees terminal) (MessageEvent.TermSees terminal) real (skips begin events (event.TermSees terminal) old is reached tt) place (is_once (MessageEvent.TermSees terminal))
  skips_go (event.Connect terminal wanted) real place = skips_once (event.Connect terminal wanted) (MessageEvent.Connect terminal wanted) real (skips begin events (event.Connect terminal wanted) old is reached tt) place (is_once (MessageEvent.Connect terminal wanted))
  skips_go (event.RestartTerm terminal) real place = skips_once (event.RestartTerm terminal) (MessageEvent.RestartTerm terminal) real (skips begin events (event.RestartTerm terminal) old is reached tt) place (is_once (MessageEvent.RestartTerm terminal))
  skips_go (event.KeepAlive number) real place = record { more = []; comes_to = refl; reached = reached_still begin events old new reached same }
  skips_go event.RestartHost real place = absurd (cc)

-- ---- each event

pub steps_go_on : MessageLaws → EventsGo → SameSkips → StepsAreSimulated
steps_go_on known go skips begin events event old answer new is reached real steps = by_place (is_enabled event old) refl steps
  where
    by_place : (b : Bool) → is_enabled event old ≡ b → IsStepIf b event old answer new → GoesOn begin events event old answer new
    by_place true place stepped_by = goes go event begin events old answer new is reached real place stepped_by
    by_place false place nothing = skips_go known skips begin events old answer new is reached nothing.0 nothing.1 event real place

-- So a world that was reached is still one that is.
pub step_reaches : StepsAreSimulated → (event : Event) (old : ByteWorld) (answer : Stepped) (new : ByteWorld) → IsValidEvent event → Steps event old answer new → IsReached old → IsReached new
step_reaches go event old answer new real steps is =
    let goes_on = go is.begin is.events event old answer new is.is_begin is.reached real steps in
    record { begin = is.begin; is_begin = is.is_begin; events = is.events ++ goes_on.more; reached = goes_on.reached }

-- ---- many events

-- what events that happened are over messages
pub record AllSimulated (begin : WorldSetup) (before : List MessageEvent) (events : List Event) (old new : ByteWorld) : Type 0 where
  pub more : List MessageEvent
  pub come : CorrespondTo begin before events old new more
  pub reached : Reached begin (before ++ more) new

grouped : (begin : WorldSetup) (before first others : List MessageEvent) (new : ByteWorld) → Reached begin ((before ++ first) ++ others) new → Reached begin (before ++ (first ++ others)) new
grouped begin before first others new reached = subst (λ (es : List MessageEvent). Reached begin es new) (append_assoc before first others) reached

all_gone : StepsAreSimulated → (begin : WorldSetup) (before : List MessageEvent) (events : List Event) (old new : ByteWorld)
    → IsWorldSetup begin → Reached begin before old → AreValidEvents events → AllHappen events old new → AllSimulated begin before events old new
all_gone go begin before [] old new is reached real none =
    record { more = []; come = (none, refl); reached = reached_still begin before old new reached none }
all_gone go begin before (event ∷ events) old new is reached real all =
    let one = go begin before event old all.0 all.1 is reached real.0 all.2 in
    let others = all_gone go begin (before ++ one.more) events all.1 new is one.reached real.1 all.4 in
    record {
      more = one.more ++ others.more;
      come = (all.0, all.1, others.more, all.2, all.3, one, refl, others.come);
      reached = grouped begin before one.more others.more new others.reached;
    }

-- the next of the events
pub record HasStopped (begin : WorldSetup) (before : List MessageEvent) (events : List Event) (part : ℕ) (old new : ByteWorld) : Type 0 where
  pub more : List MessageEvent
  pub comes : NextCorrespondsTo begin before events part old new more
  pub reached : Reached begin (before ++ more) new

stopped : StepsAreSimulated → (begin : WorldSetup) (before : List MessageEvent) (events : List Event) (part : ℕ) (old new : ByteWorld)
    → IsWorldSetup begin → Reached begin before old → AreValidEvents events → StopsAt events part old new → HasStopped begin before events part old new
stopped go begin before [] part old new is reached real stops =
    record { more = []; comes = (stops.0, stops.1, refl); reached = reached_still begin before old new reached stops.1 }
stopped go begin before (event ∷ events) part old new is reached real stops =
    let one = go begin before event old stops.0 new is reached real.0 stops.1 in
    record { more = one.more; comes = (stops.0, stops.1, stops.2, one, refl); reached = one.reached }

real_first : (count : ℕ) (events : List Event) → AreValidEvents events → AreValidEvents (take count events)
real_first zero events real = tt
real_first (suc count) [] real = tt
real_first (suc count) (event ∷ events) real = (real.0, real_first count events real.1)

real_others : (count : ℕ) (events : List Event) → AreValidEvents events → AreValidEvents (drop count events)
real_others zero events real = real
real_others (suc count) [] real = tt
real_others (suc count) (event ∷ events) real = real_others count events real.1

whole_and_next : (begin : WorldSetup) (before : List MessageEvent) (events : List Event) (old mid : ByteWorld) (ran : Ran) (new : ByteWorld)
    → (whole : AllSimulated begin before (take ran.whole events) old mid) → HasStopped begin (before ++ whole.more) (drop ran.whole events) ran.part mid new
    → RunIsSimulated begin before events old ran new
whole_and_next begin before events old mid ran new whole next = record {
  first = whole.more;
  last = next.more;
  mid = mid;
  whole = whole.come;
  next = next.comes;
  between = whole.reached;
  reached = grouped begin before whole.more next.more new next.reached;
}

pub runs_go_on : StepsAreSimulated → RunsAreSimulated
runs_go_on go begin before events old ran new is reached real runs =
    let whole = all_gone go begin before (take ran.whole events) old runs.mid is reached (real_first ran.whole events real) runs.whole in
    whole_and_next begin before events old runs.mid ran new whole
    (stopped go begin (before ++ whole.more) (drop ran.whole events) ran.part runs.mid new is whole.reached (real_others ran.whole events real) runs.rest)

-- ---- events one after another, and one more

-- whatever world over messages the old bytes represent
abbrev pub Gone : List Event → ByteWorld → ByteWorld → Type 0
Gone events old new = (begin : WorldSetup) (before : List MessageEvent) → IsWorldSetup begin → Reached begin before old → AllSimulated begin before events old new

pub none_gone : (old new : ByteWorld) → new ≡ old → Gone [] old new
none_gone old new same begin before is reached = record { more = []; come = (same, refl); reached = reached_still begin before old new reached same }

-- the same step, of a world and after events that are the same
abbrev goes_on_from : (begin : WorldSetup) (before others : List MessageEvent) (event : Event) (mid old : ByteWorld) (answer : Stepped) (new : ByteWorld)
    → before ≡ others → mid ≡ old → GoesOn begin before event mid answer new → GoesOn begin others event old answer new
goes_on_from begin before others event mid old answer new same world one = record {
  more = one.more;
  comes_to = subst (λ (w : ByteWorld). CorrespondsTo event w answer one.more) world one.comes_to;
  reached = subst (λ (es : List MessageEvent). Reached begin (es ++ one.more) new) same one.reached;
}

come_more : (begin : WorldSetup) (before : List MessageEvent) (events : List Event) (event : Event) (old mid new : ByteWorld) (answer : Stepped) (first : List MessageEvent)
    → CorrespondTo begin before events old mid first → Steps event mid answer new → refused_at answer ≡ None → (one : GoesOn begin (before ++ first) event mid answer new)
    → CorrespondTo begin before (events ++ event ∷ []) old new (first ++ one.more)
come_more begin before [] event old mid new answer first come steps goes one =
    let none : before ++ first ≡ before = ap (λ (m : List MessageEvent). before ++ m) come.1 ∙ append-nil before in (
      answer,
      new,
      [],
      subst (λ (w : ByteWorld). Steps event w answer new) come.0 steps,
      goes,
      goes_on_from begin (before ++ first) before event mid old answer new none come.0 one,
      ap (λ (m : List MessageEvent). m ++ one.more) come.1 ∙ sym (append-nil one.more),
      (refl, refl),
    )
come_more begin before (next ∷ events) event old mid new answer first come steps goes one =
    let begun = come.5 in
    let same : before ++ first ≡ (before ++ begun.more) ++ come.2 =
    ap (λ (m : List MessageEvent). before ++ m) come.6 ∙ sym (append_assoc before begun.more come.2) in (
      come.0,
      come.1,
      come.2 ++ one.more,
      come.3,
      come.4,
      begun,
      ap (λ (m : List MessageEvent). m ++ one.more) come.6 ∙ append_assoc begun.more come.2 one.more,
      come_more begin (before ++ begun.more) events event come.1 mid new answer come.2 come.7 steps goes
          (goes_on_from begin (before ++ first) ((before ++ begun.more) ++ come.2) event mid mid answer new same refl one),
    )

pub gone_more : (events : List Event) (index : ℕ) (d : Event) (old mid new : ByteWorld) (answer : Stepped) → index < length events → Gone (take index events) old mid
    → Steps (get_or events index d) mid answer new → StepOverMessages (get_or events index d) mid answer new → refused_at answer ≡ None
    → Gone (take (index + 1) events) old new
gone_more events index d old mid new answer below gone steps over goes begin before is reached =
    let whole = gone begin before is reached in
    let one = over.goes_on begin (before ++ whole.more) is whole.reached in
    record {
      more = whole.more ++ one.more;
      come = subst (λ (es : List Event). CorrespondTo begin before es old new (whole.more ++ one.more)) (sym (take_more events index d below))
          (come_more begin before (take index events) (get_or events index d) old mid new answer whole.more whole.come steps goes one);
      reached = grouped begin before whole.more one.more new one.reached;
    }

-- all happened
pub all_ran : (events : List Event) (index : ℕ) (ran : Ran) (old new : ByteWorld) → length events ≤ index → ran.whole ≡ length events → ran.part ≡ 0
    → Gone (take index events) old new → IsReached old → RunOverMessages events old ran new
all_ran events index ran old new past whole part gone represents = record {
  represents = represents;
  goes_on = λ begin before is reached.
      let have = gone begin before is reached in
      let all : take index events ≡ take ran.whole events =
      take_all index events past ∙ sym (take-length events) ∙ ap (λ (n : ℕ). take n events) (sym whole) in
      let none : drop ran.whole events ≡ [] = ap (λ (n : ℕ). drop n events) whole ∙ drop-length events in
      whole_and_next begin before events old new ran new
      (record {
        more = have.more;
        come = subst (λ (es : List Event). CorrespondTo begin before es old new have.more) all have.come;
        reached = have.reached;
      })
      (record {
        more = [];
        comes = subst (λ (es : List Event). NextCorrespondsTo begin (before ++ have.more) es ran.part new new []) (sym none) (part, refl, refl);
        reached = reached_still begin (before ++ have.more) new new have.reached refl;
      });
}

-- memory was refused to one
pub part_ran : (events : List Event) (index : ℕ) (d : Event) (ran : Ran) (old mid new : ByteWorld) (answer : Stepped) → index < length events → ran.whole ≡ index
    → Gone (take index events) old mid → Steps (get_or events index d) mid answer new → StepOverMessages (get_or events index d) mid answer new
    → refused_at answer ≡ Some ran.part → IsReached old → RunOverMessages events old ran new
part_ran events index d ran old mid new answer below whole gone steps over refused represents = record {
  represents = represents;
  goes_on = λ begin before is reached.
      let have = gone begin before is reached in
      let one = over.goes_on begin (before ++ have.more) is have.reached in
      whole_and_next begin before events old mid ran new
      (record {
        more = have.more;
        come = subst (λ (n : ℕ). CorrespondTo begin before (take n events) old mid have.more) (sym whole) have.come;
        reached = have.reached;
      })
      (record {
        more = one.more;
        comes = subst (λ (n : ℕ). NextCorrespondsTo begin (before ++ have.more) (drop n events) ran.part mid new one.more) (sym whole)
            (subst (λ (es : List Event). NextCorrespondsTo begin (before ++ have.more) es ran.part mid new one.more)
            (sym (at_drop_more (λ (es : List Event). es) events index d below)) (answer, steps, refused, one, refl));
        reached = one.reached;
      });
}
