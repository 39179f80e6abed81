-- Clear is pressed in the wait; and what an operator does after that, until the answer to the next paint is heard.
use Rattle.std.proofs.Common.{◌≡◌, ◌<◌, ◌||◌, ◌&&◌, not, inr, Bool, true, false, ℕ, Some, List, [], ◌∷◌, ◌++◌, length, refl, ap, sym, subst, ◌∙◌, if◌then◌else◌}
use Rattle.std.specs.Prelude.{is_some, replicate}
use Rattle.codes3270.specs.declared.attention.Aid.{Aid}
use Rattle.codes3270.specs.declared.attention.Aid.TheVariants.{NoAid, Enter, Clear, Pf, Pa}
use Rattle.codes3270.specs.declared.attribute.Cell.{Cell}
use Rattle.codes3270.specs.declared.attribute.Cell.TheVariants.{Char}
use Rattle.datastream.specs.Fields.{fields}
use Rattle.shadow.proofs.HeardOthers.{no_field}
use Rattle.datastream.specs.InboundFields.{buffer_data, modified_data}
use Rattle.datastream.specs.InboundText.{InboundParts}
use Rattle.datastream.specs.KeptByKeys.{KeptByKeys}
use Rattle.datastream.specs.Screen.{Screen}
use Rattle.datastream.specs.declared.inbound_part.Form.TheVariants.{Modified, Buffer}
use Rattle.keyboard.specs.State.{Keyboard, freed}
use Rattle.keyboard.specs.declared.key.Lock.{Lock}
use Rattle.keyboard.specs.declared.key.Lock.TheVariants.{Free, Wait, Error}
use Rattle.keyboard.specs.declared.key.Pressed.TheVariants.{Send}
use Rattle.host_core.specs.Application.{Application}
use Rattle.host_core.specs.Laws.{MarksInput}
use Rattle.host_core.specs.Messages.{ToHost, ToTerminal, Verdict}
use Rattle.host_core.specs.Session.{Pending, Session, agreed_lu}
use Rattle.host_core.specs.Takes.{is_unread, may_have_changed}
use Rattle.host_core.specs.declared.turn.Turn.{Turn}
use Rattle.host_core.specs.declared.turn.Turn.TheVariants as whose
use Rattle.world3270.specs.statement.EveryTerminal.{HasAnswered, LinkWithReport, is_answered, is_clear, is_pa, key_pressed, operated, sends_clear}
use Rattle.world3270.specs.statement.Shown.{is_painting}
use Rattle.world3270.specs.refinement.Invariant.{ConnectionInvariant, Fact, local_state_of}
use Rattle.world3270.specs.refinement.Phases.{IsAt, IsInFlight, Kind, LinkPhase, SessionPhase, pending_at, pending_in}
use Rattle.world3270.specs.refinement.LowerLaws.{LowerLaws}
use Rattle.world3270.specs.refinement.View.{view_of}
use Rattle.world3270.specs.model.Link.{Link, sent, term_stepped}
use Rattle.world3270.specs.model.Enabled.{is_queued}
use Rattle.world3270.specs.statement.Rules.{Operates, after_sending, data_by, edited, shows, with_aid}
use Rattle.world3270.specs.model.Terminal.{Display, TermEnd, TermStep, bound_to, data_of, is_bound}
use Rattle.world3270.proofs.Cleared.{Cleared, DisplaysAlike, Follows, HasRead, HostsAlike, IsPlain, PaintAnswered, Stage, but_belief, hearing_clear, paint_answers}
use Rattle.world3270.proofs.ClearedHost.{IsClearOr, clear_or, paints_so}
use Rattle.world3270.proofs.ClearedQueue.{AddsKeys, AnswersAlike, SaysToo, answer_behind, answer_first, answer_lost, answer_queued, answer_vanished, answers_more, answers_unread, any_keys, any_last, both_say_too, erases, is_any_key, with_clears}
use Rattle.world3270.proofs.ClearsDue.{Fate, clears_after, clears_due, due_after, due_in, due_still, is_clear_data}
use Rattle.world3270.proofs.Queues.{empty_queue, front, nothing_sent}
use Rattle.world3270.proofs.ReadsInput.{still_unformatted}
use Rattle.world3270.proofs.Returning.{HostReturns}
use Rattle.world3270.proofs.RuleKeys.{edited_link, edits_kept, sends_kept, sent_link, with_aid-aid, with_aid-cursor, with_aid-whole}
use Rattle.world3270.proofs.SecondKeys.{AddsSecondKeys, SaysAlike, alike_silent, drops_behind, is_reading, waits_drop}
use Rattle.world3270.proofs.Sent.{key_aid, key_form}
use Rattle.world3270.proofs.SimulatedKeys.{clears_unbound, keys_but_clear, operates_still, or_again, same_cells}
use Rattle.world3270.proofs.Simulation.{Simulated, Since, is_waiting, since_same}
use Rattle.world3270.proofs.WithoutClear.{both_no, operated_none}

pub any_key : (aid : Aid) → (aid ≡ NoAid → ⊥) → is_any_key aid ≡ true
any_key NoAid some = absurd (some refl)
any_key Enter some = refl
any_key (Pf number) some = refl
any_key (Pa number) some = refl
any_key Clear some = refl

is_locked : (lock : Lock) → true ≡ is_waiting lock → lock ≡ Wait
is_locked Wait is = refl
is_locked Free is = absurd (cc)
is_locked Error is = absurd (cc)

nulled : (aid : Aid) (screen : Screen) → aid ≡ Clear → fields (with_aid aid screen).cells ≡ []
nulled Clear screen clear = no_field (replicate (length screen.cells) (Char 0)) 0 (length screen.cells)
nulled NoAid screen clear = absurd (cc)
nulled Enter screen clear = absurd (cc)
nulled (Pf number) screen clear = absurd (cc)
nulled (Pa number) screen clear = absurd (cc)

bare_key : (aid : Aid) (screen : Screen) → fields screen.cells ≡ [] → fields (with_aid aid screen).cells ≡ []
bare_key Clear screen none = no_field (replicate (length screen.cells) (Char 0)) 0 (length screen.cells)
bare_key NoAid screen none = none
bare_key Enter screen none = none
bare_key (Pf number) screen none = none
bare_key (Pa number) screen none = none

-- ---- in the wait

-- A terminal at which keys are dropped, Clear too.
pub record IsLocked (app : Application) (lu : List ℕ) (t : LinkWithReport) : Type 0 where
  pub told : Link
  pub kept : ConnectionInvariant app (view_of told)
  pub agreed : agreed_lu told.host.talk.state ≡ Some lu
  pub any : may_have_changed told.host.unheard ≡ true
  pub unsure : told.term.waits ≡ false
  pub marks : MarksInput app
  pub returning : HostReturns told.host
  pub display : told.term.display ≡ record t.told { keyboard = told.term.display.keyboard }
  pub waits : t.waits ≡ true
  pub locked : told.term.display.keyboard.lock ≡ Wait
  pub read : HasRead t told
  pub bound : is_bound told.term ≡ true
  pub host_here : t.link.host_here ≡ true
  pub term_here : is_some t.link.term_here ≡ true
  pub host : HostsAlike told t.link.host
  pub lost : t.link.lost ≡ told.lost
  pub down : t.link.down ≡ told.down
  pub talk : t.link.term.talk ≡ told.term.talk
  pub said : List ToHost
  pub alike : AnswersAlike told.host told.up said t.link.up
  pub keys : AddsKeys true true told.host.turn told.host.pending said t.link.up
  pub model : t.link.term.display.model ≡ told.term.display.model
  pub rest : DisplaysAlike told t.link

-- what both say ends where keys are dropped
drops_said : (conn : Session) (told said real : List ToHost) → AnswersAlike conn told said real → drops_behind told conn.turn conn.pending ≡ true → drops_behind said conn.turn conn.pending ≡ true
drops_said conn told said real (AnswersAlike.by_saying (SaysAlike.same is_same)) drops = ap (λ (l : List ToHost). drops_behind l conn.turn conn.pending) is_same ∙ drops
drops_said conn told said real (AnswersAlike.behind_clear number one other rest pends skips one_kept is_told is_said heard) drops =
    ap (λ (l : List ToHost). drops_behind l conn.turn conn.pending) is_said
    ∙ sym (ap (λ (l : List ToHost). drops_behind l conn.turn conn.pending) is_told)
    ∙ drops
drops_said conn told said real (AnswersAlike.by_saying (SaysAlike.checked number one other rest pends skips one_kept other_kept is_told is_said)) drops =
    ap (λ (l : List ToHost). drops_behind l conn.turn conn.pending) is_said
    ∙ sym (ap (λ (l : List ToHost). drops_behind l conn.turn conn.pending) is_told)
    ∙ drops

abbrev key_data : Aid → TermEnd → InboundParts
key_data aid end = modified_data Modified end.display.size (with_aid aid end.display.screen)

key_is : (aid : Aid) (end : TermEnd) → (key_data aid end).aid ≡ aid
key_is aid end = key_aid end.display.size (with_aid aid end.display.screen) ∙ with_aid-aid aid end.display.screen

-- what a key sends comes last
key_queued : (app : Application) (told now : Link) (clears later : Bool) (said : List ToHost) → ConnectionInvariant app (view_of told) → AnswersAlike told.host told.up said now.up → told.term.display.keyboard.lock ≡ Wait → now.lost ≡ told.lost → (bound lost : Bool) (aid : Aid) → (aid ≡ NoAid → ⊥)
    → (aid ≡ Clear → (clears ≡ true) × (later ≡ true)) → now.lost ≡ lost → AddsKeys clears later told.host.turn told.host.pending said now.up
    → AddsKeys clears later told.host.turn told.host.pending said (sent lost now.up (data_of bound (Send aid) now.term.display.size (with_aid aid now.term.display.screen)))
key_queued app told now clears later said kept alike locked same false lost aid some may is keys = subst (λ (up : List ToHost). AddsKeys clears later told.host.turn told.host.pending said up) (sym (nothing_sent lost now.up)) keys
key_queued app told now clears later said kept alike locked same true true aid some may is keys = keys
key_queued app told now clears later said kept alike locked same true false aid some may is keys =
    any_last clears later told.host.turn told.host.pending said now.up (ToHost.Data (key_data aid now.term)) (key_data aid now.term) refl (key_form now.term.display.size (with_aid aid now.term.display.screen))
    (ap is_any_key (key_is aid now.term) ∙ any_key aid some) (λ clear. may (sym (key_is aid now.term) ∙ clear)) (drops_said told.host told.up said now.up alike (waits_drop app told kept (sym same ∙ is) locked)) keys

module _ (app : Application) (lu : List ℕ) (t : LinkWithReport) (l : IsLocked app lu t) where
  abbrev told : Link
  told = l.told

  abbrev now : Link
  now = t.link

  abbrev untold : TermStep → LinkWithReport
  untold step = record { link = term_stepped step now.down now; told = t.told; waits = true; cleared = true }

  -- the fate of Clear, once these messages are queued
  abbrev FateBehind : List ToHost → Type 0
  FateBehind sends = Fate told l.said (record now { up = sent now.lost now.up sends })

  -- whatever the operator changes
  changes : (screen : Screen) (keyboard : Keyboard) (erased : Bool) (up : List ToHost) → AnswersAlike told.host told.up l.said up → HasRead (record t { link = record now { up = up } }) told → AddsKeys true true told.host.turn told.host.pending l.said up → Fate told l.said (record now { up = up }) → IsPlain told screen
      → Cleared app lu (record { link = record now { term = record now.term { display = record now.term.display { screen = screen; keyboard = keyboard; erased = erased } }; up = up }; told = t.told; waits = true; cleared = true })
  changes screen keyboard erased up alike read keys fate plain = record {
    told = told;
    kept = l.kept;
    agreed = l.agreed;
    any = l.any;
    unsure = l.unsure;
    marks = l.marks;
    returning = l.returning;
    display = l.display;
    waits = sym (ap is_waiting l.locked);
    bound = l.bound;
    host_here = l.host_here;
    term_here = l.term_here;
    host = l.host;
    lost = l.lost;
    down = l.down;
    talk = l.talk;
    clears = true;
    up = record { said = l.said; alike = alike; up = keys };
    stage = Stage.gone refl l.locked (by_read read) (by_fate fate);
    model = l.model;
    rest = λ shown. ap (λ (d : Display). record d { screen = screen; keyboard = keyboard; erased = erased }) (l.rest shown);
    plain = λ cleared. plain;
  }
    where
      link : Link
      link = record now { term = record now.term { display = record now.term.display { screen = screen; keyboard = keyboard; erased = erased } }; up = up }

      by_read : HasRead (record t { link = record now { up = up } }) told → HasRead (record { link = link; told = t.told; waits = true; cleared = true }) told
      by_read (HasRead.no_pa none) = HasRead.no_pa none
      by_read (HasRead.was_read turns was) = HasRead.was_read turns was
      by_read (HasRead.is_read turns reads silent first) = HasRead.is_read turns reads silent first
      by_read (HasRead.was_shown paints silent) = HasRead.was_shown paints silent

      by_fate : Fate told l.said (record now { up = up }) → Fate told l.said link
      by_fate (Fate.is_lost is) = Fate.is_lost is
      by_fate (Fate.is_due due) = Fate.is_due due
      by_fate (Fate.was_heard none unheard) = Fate.was_heard none unheard
      by_fate (Fate.erases_next erasing silent) = Fate.erases_next erasing silent

  alike_queued : (lost : Bool) (more : List ToHost) → AnswersAlike told.host told.up l.said (sent lost now.up more)
  alike_queued true more = l.alike
  alike_queued false more = answers_more told.host told.up l.said now.up more l.alike

  read_queued : (more : List ToHost) → HasRead t told → HasRead (record t { link = record now { up = sent now.lost now.up more } }) told
  read_queued more (HasRead.no_pa none) = HasRead.no_pa none
  read_queued more (HasRead.was_read turns was) = HasRead.was_read turns was
  read_queued more (HasRead.is_read turns reads silent first) = HasRead.is_read turns reads silent (answer_queued now.lost now.up more first)
  read_queued more (HasRead.was_shown paints silent) = HasRead.was_shown paints silent

  does_so : (step : TermStep) → Operates now.term step → FateBehind step.sends → IsPlain told step.end.display.screen → Cleared app lu (untold step)
  does_so step (Operates.edits keyboard cells cursor nulls held on is) fate plain =
      subst (λ (s : TermStep). Cleared app lu (untold s)) (sym is)
      (changes (record now.term.display.screen { cells = cells; cursor = cursor }) keyboard (now.term.display.erased || nulls) (sent now.lost now.up []) (alike_queued now.lost []) (read_queued [] l.read)
      (subst (λ (up : List ToHost). AddsKeys true true told.host.turn told.host.pending l.said up) (sym (nothing_sent now.lost now.up)) l.keys)
      (subst (λ (s : TermStep). FateBehind s.sends) is fate) (subst (λ (s : TermStep). IsPlain told s.end.display.screen) is plain))
  does_so step (Operates.sends keyboard aid some is) fate plain =
      subst (λ (s : TermStep). Cleared app lu (untold s)) (sym is)
      (changes (with_aid aid now.term.display.screen) keyboard now.term.display.erased (sent now.lost now.up (data_by aid now.term)) (alike_queued now.lost (data_by aid now.term)) (read_queued (data_by aid now.term) l.read)
      (key_queued app told now true true l.said l.kept l.alike l.locked l.lost (is_bound now.term) now.lost aid some (λ clear. (refl, refl)) refl l.keys)
      (subst (λ (s : TermStep). FateBehind s.sends) is fate) (subst (λ (s : TermStep). IsPlain told s.end.display.screen) is plain))

  does_locked : (step : TermStep) → Operates now.term step → FateBehind step.sends → IsPlain told step.end.display.screen → (t.cleared || (t.waits && sends_clear step)) ≡ true → Cleared app lu (operated step t)
  does_locked step does fate plain cleared =
      subst (λ (b : Bool). Cleared app lu (record (operated step t) { cleared = b })) (sym cleared)
      (subst (λ (waits : Bool). Cleared app lu (record { link = term_stepped step now.down now; told = if waits then t.told else step.end.display; waits = waits || is_queued step.sends; cleared = true })) (sym l.waits)
      (does_so step does fate plain))

  -- ---- Clear is pressed

  clear_sends : (bound : Bool) (aid : Aid) (end : TermEnd) → bound ≡ true → aid ≡ Clear → (is_queued (data_of bound (Send aid) end.display.size (with_aid aid end.display.screen)) && is_clear (with_aid aid end.display.screen).aid) ≡ true
  clear_sends true aid end is clear = ap is_clear (with_aid-aid aid end.display.screen) ∙ ap is_clear clear
  clear_sends false aid end is clear = absurd (cc)

  -- the host hears of it
  fate_pressed : (bound : Bool) (aid : Aid) → bound ≡ true → aid ≡ Clear → FateBehind (data_of bound (Send aid) now.term.display.size (with_aid aid now.term.display.screen))
  fate_pressed false aid is_bound clear = absurd (cc)
  fate_pressed true aid is_bound clear = by_lost now.lost refl
    where
      key : ToHost
      key = ToHost.Data (key_data aid now.term)

      is_clear_key : is_clear_data key ≡ true
      is_clear_key = ap is_clear (key_is aid now.term) ∙ ap is_clear clear

      by_up : (lost : Bool) → now.lost ≡ lost → lost ≡ false → erases told.host.pending ≡ true → (up : List ToHost) → told.up ≡ up → Fate told l.said (record now { up = now.up ++ key ∷ [] })
      by_up lost is live erasing [] silent = Fate.erases_next erasing silent
      by_up lost is live erasing (first ∷ others) some =
          let it : PaintAnswered told first = paint_answers app told first others l.kept (paints_so told.host.pending erasing) some in
          Fate.is_due (subst (λ (b : Bool). clears_due b l.said < clears_due b (now.up ++ key ∷ [])) (sym erasing)
          (subst (λ (said : List ToHost). clears_after said < clears_after (now.up ++ key ∷ [])) (sym (said_is it))
          (due_after true true told.host.turn told.host.pending it.number Verdict.Positive others now.up key is_clear_key
          (subst (λ (said : List ToHost). AddsKeys true true told.host.turn told.host.pending said now.up) (said_is it) l.keys))))
        where
          said_is : (it : PaintAnswered told first) → l.said ≡ ToHost.Response it.number Verdict.Positive ∷ others
          said_is it =
              answers_unread told.host told.up l.said now.up (λ number reads. absurd (let wrong : Pending.Reading number ≡ Pending.Writing it.number it.command = sym reads ∙ it.pending in cc)) l.alike
              ∙ some ∙ ap (λ (m : ToHost). m ∷ others) it.first_is

      by_erasing : now.lost ≡ false → (erasing : Bool) → erases told.host.pending ≡ erasing → Fate told l.said (record now { up = now.up ++ key ∷ [] })
      by_erasing live true erasing = by_up now.lost refl live erasing told.up refl
      by_erasing live false none =
          Fate.is_due (subst (λ (b : Bool). clears_due b l.said < clears_due b (now.up ++ key ∷ [])) (sym none)
          (due_in true true told.host.turn told.host.pending l.said now.up key is_clear_key l.keys))

      by_lost : (lost : Bool) → now.lost ≡ lost → FateBehind (key ∷ [])
      by_lost true is = Fate.is_lost is
      by_lost false is = subst (λ (lost : Bool). Fate told l.said (record now { up = sent lost now.up (key ∷ []) })) (sym is) (by_erasing is false_or refl)
        where
          false_or : Bool
          false_or = erases told.host.pending

  pub clears_now : length now.term.display.screen.cells ≡ length told.term.display.screen.cells → (step : TermStep) (does : Operates now.term step) → key_pressed does ≡ Clear → is_bound now.term ≡ true → Cleared app lu (operated step t)
  clears_now size step (Operates.edits keyboard cells cursor nulls held on is) clear bound = absurd (cc)
  clears_now size step (Operates.sends keyboard aid some is) clear bound =
      does_locked step (Operates.sends keyboard aid some is) (subst (λ (s : TermStep). FateBehind s.sends) (sym is) (fate_pressed (is_bound now.term) aid bound clear))
      (subst (λ (s : TermStep). IsPlain told s.end.display.screen) (sym is) (IsPlain.bare (nulled aid now.term.display.screen clear) (with_aid-whole aid now.term.display.screen ∙ size)))
      (both t.cleared t.waits (sends_clear step) l.waits (ap sends_clear is ∙ clear_sends (is_bound now.term) aid now.term bound clear))
    where
      both : (cleared waits sends : Bool) → waits ≡ true → sends ≡ true → (cleared || (waits && sends)) ≡ true
      both true waits sends is_waits is_sent = refl
      both false waits sends is_waits is_sent = ap (λ (b : Bool). b && sends) is_waits ∙ is_sent

-- ---- after PA

not_so : (b : Bool) → not b ≡ true → b ≡ false
not_so false is = refl
not_so true is = absurd (cc)

nothing_queued : {X : Type 0} (queue : List X) → is_queued queue ≡ false → queue ≡ []
nothing_queued [] is = refl
nothing_queued (first ∷ rest) is = absurd (cc)

-- The answer to the Read Buffer is under way before any Clear, unless it vanished.
answer_under_way : (app : Application) (t : LinkWithReport) (told : Link) (said : List ToHost) → ConnectionInvariant app (view_of told) → SaysAlike told.host told.up said → AddsSecondKeys told.host.turn told.host.pending said t.link.up → t.link.lost ≡ told.lost
    → is_reading told.host.pending ≡ true → told.down ≡ [] → answer_first t.link.lost t.link.up ≡ true
answer_under_way app t told said k alike keys same_lost reads silent = by_moment k.moment k.at k.fact (sym (ap is_reading k.at.pending) ∙ reads)
  where
    lost_to : told.lost ≡ true → told.up ≡ [] → answer_first t.link.lost t.link.up ≡ true
    lost_to lost none =
        subst (λ (l : Bool). answer_first l t.link.up ≡ true) (sym (same_lost ∙ lost))
        (answer_vanished told.host.turn told.host.pending t.link.up (subst (λ (s : List ToHost). AddsSecondKeys told.host.turn told.host.pending s t.link.up) (alike_silent told.host told.up said none alike) keys))

    is_lost : {X : Type 0} (queue : List X) (message : X) (lost : Bool) → IsInFlight lost queue (message ∷ []) → queue ≡ [] → lost ≡ true
    is_lost {X} queue message true way none = refl
    is_lost {X} queue message false way none =
        absurd (let whole : queue ++ [] ≡ message ∷ [] = subst (λ (vanished : List X). queue ++ vanished ≡ message ∷ []) (way.none refl) way.whole in
        let wrong : [] ≡ message ∷ [] = sym (ap (λ (l : List X). l ++ []) none) ∙ whole in cc)

    -- it is what both say first
    said_first : (parts : InboundParts) (rest : List ToHost) → parts.form ≡ Buffer → told.up ≡ ToHost.Data parts ∷ rest → SaysAlike told.host told.up said → answer_first false t.link.up ≡ true
    said_first parts rest form up (SaysAlike.same is) = answer_behind told.host.turn told.host.pending parts rest t.link.up form (subst (λ (s : List ToHost). AddsSecondKeys told.host.turn told.host.pending s t.link.up) (is ∙ up) keys)
    said_first parts rest form up (SaysAlike.checked number one other more pends skips one_kept other_kept is_told is_said) =
        answer_behind told.host.turn told.host.pending (buffer_data told.host.size other) more t.link.up refl (subst (λ (s : List ToHost). AddsSecondKeys told.host.turn told.host.pending s t.link.up) is_said keys)

    returning : (parts : InboundParts) → parts.form ≡ Buffer → IsInFlight told.lost told.up (ToHost.Data parts ∷ []) → (up : List ToHost) → told.up ≡ up → answer_first t.link.lost t.link.up ≡ true
    returning parts form way [] none = lost_to (is_lost told.up (ToHost.Data parts) told.lost way none) none
    returning parts form way (first ∷ rest) some =
        let is : first ≡ ToHost.Data parts = (front told.lost told.up first rest (ToHost.Data parts) [] some way).0 in
        any_lost t.link.lost (said_first parts rest form (some ∙ ap (λ (m : ToHost). m ∷ rest) is) alike)
      where
        any_lost : (lost : Bool) → answer_first false t.link.up ≡ true → answer_first lost t.link.up ≡ true
        any_lost false is = is
        any_lost true is = answer_lost false t.link.up is

    by_serving : (lu : List ℕ) (serving : SessionPhase) → IsAt (view_of told) k.wanted (LinkPhase.InSession lu serving) → Fact k.wanted (local_state_of (view_of told)) (LinkPhase.InSession lu serving) → is_reading (pending_in serving) ≡ true → answer_first t.link.lost t.link.up ≡ true
    by_serving lu (SessionPhase.Reading number) at f reads = lost_to (is_lost told.down (ToTerminal.ReadBuffer number) told.lost at.goes_down silent) (empty_queue told.lost told.up at.goes_up)
    by_serving lu (SessionPhase.BufferReturning number parts) at f reads = returning parts (ap (λ (p : InboundParts). p.form) f.says) at.goes_up told.up refl
    by_serving lu SessionPhase.Deciding at f reads = absurd (cc)
    by_serving lu (SessionPhase.DecidingNoteSent number command) at f reads = absurd (cc)
    by_serving lu (SessionPhase.DecidingNoteAnswered number command) at f reads = absurd (cc)
    by_serving lu (SessionPhase.Painting number command wanted over) at f reads = absurd (cc)
    by_serving lu (SessionPhase.AwaitingWriteResponse Kind.APaint number command) at f reads = absurd (cc)
    by_serving lu (SessionPhase.AwaitingWriteResponse Kind.ANote number command) at f reads = absurd (cc)
    by_serving lu SessionPhase.OperatorTyping at f reads = absurd (cc)
    by_serving lu (SessionPhase.Noting number command) at f reads = absurd (cc)
    by_serving lu (SessionPhase.KeySent parts) at f reads = absurd (cc)
    by_serving lu (SessionPhase.KeySentAfterResponse Kind.APaint number command parts) at f reads = absurd (cc)
    by_serving lu (SessionPhase.KeySentAfterResponse Kind.ANote number command parts) at f reads = absurd (cc)
    by_serving lu (SessionPhase.KeyCrossingNote number command parts) at f reads = absurd (cc)
    by_serving lu (SessionPhase.KeyBeforeNoteResponse number command parts) at f reads = absurd (cc)

    by_moment : (moment : LinkPhase) → IsAt (view_of told) k.wanted moment → Fact k.wanted (local_state_of (view_of told)) moment → is_reading (pending_at moment) ≡ true → answer_first t.link.lost t.link.up ≡ true
    by_moment (LinkPhase.Negotiating talking) at f reads = absurd (cc)
    by_moment (LinkPhase.FirstPaint lu number command wanted over) at f reads = absurd (cc)
    by_moment (LinkPhase.InSession lu serving) at f reads = by_serving lu serving at f reads

-- While a paint is under way, nothing comes up.
silent_painting : (app : Application) (told : Link) → ConnectionInvariant app (view_of told) → is_painting told.host.pending ≡ true → is_queued told.down ≡ true → told.up ≡ []
silent_painting app told k paints queued = by_moment k.moment k.at (sym (ap is_painting k.at.pending) ∙ paints)
  where
    silent : IsInFlight told.lost told.up [] → told.up ≡ []
    silent way = empty_queue told.lost told.up way

    none_down : IsInFlight told.lost told.down [] → told.up ≡ []
    none_down way = absurd (let wrong : false ≡ true = sym (ap is_queued (empty_queue told.lost told.down way)) ∙ queued in cc)

    by_serving : (lu : List ℕ) (serving : SessionPhase) → IsAt (view_of told) k.wanted (LinkPhase.InSession lu serving) → is_painting (pending_in serving) ≡ true → told.up ≡ []
    by_serving lu (SessionPhase.Painting number command wanted over) at paints = silent at.goes_up
    by_serving lu (SessionPhase.AwaitingWriteResponse kind number command) at paints = none_down at.goes_down
    by_serving lu (SessionPhase.KeySentAfterResponse kind number command parts) at paints = none_down at.goes_down
    by_serving lu (SessionPhase.Reading number) at paints = absurd (cc)
    by_serving lu (SessionPhase.BufferReturning number parts) at paints = absurd (cc)
    by_serving lu SessionPhase.Deciding at paints = absurd (cc)
    by_serving lu (SessionPhase.DecidingNoteSent number command) at paints = absurd (cc)
    by_serving lu (SessionPhase.DecidingNoteAnswered number command) at paints = absurd (cc)
    by_serving lu SessionPhase.OperatorTyping at paints = absurd (cc)
    by_serving lu (SessionPhase.Noting number command) at paints = absurd (cc)
    by_serving lu (SessionPhase.KeySent parts) at paints = absurd (cc)
    by_serving lu (SessionPhase.KeyCrossingNote number command parts) at paints = absurd (cc)
    by_serving lu (SessionPhase.KeyBeforeNoteResponse number command parts) at paints = absurd (cc)

    by_moment : (moment : LinkPhase) → IsAt (view_of told) k.wanted moment → is_painting (pending_at moment) ≡ true → told.up ≡ []
    by_moment (LinkPhase.Negotiating talking) at paints = absurd (cc)
    by_moment (LinkPhase.FirstPaint lu number command wanted over) at paints = silent at.goes_up
    by_moment (LinkPhase.InSession lu serving) at paints = by_serving lu serving at paints

-- the first key wasn't PA, or the screen is read
read_if_pa : (t : LinkWithReport) (told : Link) → (is_pa t.told.screen.aid ≡ true → HasRead t told) → HasRead t told
read_if_pa t told if_pa = by_pa (is_pa t.told.screen.aid) refl
  where
    by_pa : (pa : Bool) → is_pa t.told.screen.aid ≡ pa → HasRead t told
    by_pa true pa = if_pa pa
    by_pa false none = HasRead.no_pa none

module _ (app : Application) (lu : List ℕ) (t : LinkWithReport) where
  read_first : (s : Simulated app lu t) → HasAnswered t → HasRead t s.told
  read_first s answered = read_if_pa t s.told (λ pa. by_turn s.told.host.turn s.told.host.pending refl refl (subst (λ (h : Session). is_answered h.turn h.pending h.turn_reason s.told.down ≡ true) s.simulates.host (subst (λ (down : List ToTerminal). is_answered t.link.host.turn t.link.host.pending t.link.host.turn_reason down ≡ true) s.simulates.down (answered pa))))
    where
      by_turn : (turn : Turn) (pending : Pending) → s.told.host.turn ≡ turn → s.told.host.pending ≡ pending → is_answered turn pending s.told.host.turn_reason s.told.down ≡ true → HasRead t s.told
      by_turn whose.Host Pending.Nothing turns pends is = HasRead.was_read turns (not_so (is_unread s.told.host.turn_reason) is)
      by_turn whose.Host (Pending.Writing number command) turns pends is = HasRead.was_read turns (not_so (is_unread s.told.host.turn_reason) is)
      by_turn whose.Host (Pending.Noting number command) turns pends is = HasRead.was_read turns (not_so (is_unread s.told.host.turn_reason) is)
      by_turn whose.Host (Pending.Reading number) turns pends is =
          let silent : s.told.down ≡ [] = nothing_queued s.told.down (not_so (is_queued s.told.down) is) in
          HasRead.is_read turns (ap is_reading pends) silent
          (answer_under_way app t s.told s.simulates.up.said s.kept s.simulates.up.alike s.simulates.up.up s.simulates.lost (ap is_reading pends) silent)
      by_turn whose.Terminal (Pending.Writing number command) turns pends is = HasRead.was_shown (ap is_painting pends) (silent_painting app s.told s.kept (ap is_painting pends) is)
      by_turn whose.Terminal Pending.Nothing turns pends is = absurd (cc)
      by_turn whose.Terminal (Pending.Reading number) turns pends is = absurd (cc)
      by_turn whose.Terminal (Pending.Noting number command) turns pends is = absurd (cc)

  -- once a paint erased
  read_erased : (c : Cleared app lu t) → erases c.told.host.pending ≡ true → c.told.down ≡ [] → HasAnswered t → HasRead t c.told
  read_erased c erasing silent answered =
      read_if_pa t c.told (λ pa. by_turn c.told.host.turn c.told.host.pending refl erasing
      (subst (λ (h : Session). is_answered h.turn h.pending h.turn_reason [] ≡ true) (but_belief c.told t.link.host c.host) (subst (λ (down : List ToTerminal). is_answered t.link.host.turn t.link.host.pending t.link.host.turn_reason down ≡ true) (c.down ∙ silent) (answered pa))))
    where
      by_turn : (turn : Turn) (pending : Pending) → c.told.host.turn ≡ turn → erases pending ≡ true → is_answered turn pending c.told.host.turn_reason [] ≡ true → HasRead t c.told
      by_turn whose.Host (Pending.Writing number command) turns erasing is = HasRead.was_read turns (not_so (is_unread c.told.host.turn_reason) is)
      by_turn whose.Terminal (Pending.Writing number command) turns erasing is = absurd (cc)
      by_turn turn Pending.Nothing turns erasing is = absurd (cc)
      by_turn turn (Pending.Reading number) turns erasing is = absurd (cc)
      by_turn turn (Pending.Noting number command) turns erasing is = absurd (cc)

  abbrev locked_first : (s : Simulated app lu t) → t.waits ≡ true → is_bound t.link.term ≡ true → HasRead t s.told → IsLocked app lu t
  locked_first s waits bound read = record {
    told = s.told;
    kept = s.kept;
    agreed = s.agreed;
    any = s.any;
    unsure = s.unsure;
    marks = s.marks;
    returning = s.returning;
    display = s.display;
    waits = waits;
    locked = is_locked s.told.term.display.keyboard.lock (sym waits ∙ s.waits);
    read = read;
    bound = sym (ap (λ talk. is_some (bound_to talk.talk.state)) s.simulates.talk) ∙ bound;
    host_here = s.host_here;
    term_here = s.term_here;
    host = HostsAlike.same s.simulates.host;
    lost = s.simulates.lost;
    down = s.simulates.down;
    talk = s.simulates.talk;
    said = s.simulates.up.said;
    alike = AnswersAlike.by_saying s.simulates.up.alike;
    keys = any_keys true true s.told.host.turn s.told.host.pending s.simulates.up.said t.link.up s.simulates.up.up;
    model = ap (λ (d : Display). d.model) s.simulates.since.rest;
    rest = λ shown. s.simulates.since.rest;
  }

  abbrev locked_again : (c : Cleared app lu t) → t.waits ≡ true → HasRead t c.told → IsLocked app lu t
  locked_again c waits read = record {
    told = c.told;
    kept = c.kept;
    agreed = c.agreed;
    any = c.any;
    unsure = c.unsure;
    marks = c.marks;
    returning = c.returning;
    display = c.display;
    waits = waits;
    locked = is_locked c.told.term.display.keyboard.lock (sym waits ∙ c.waits);
    read = read;
    bound = c.bound;
    host_here = c.host_here;
    term_here = c.term_here;
    host = c.host;
    lost = c.lost;
    down = c.down;
    talk = c.talk;
    said = c.up.said;
    alike = c.up.alike;
    keys = with_clears c.clears t.cleared c.told.host.turn c.told.host.pending c.up.said t.link.up c.up.up;
    model = c.model;
    rest = c.rest;
  }

  -- after Clear: more is queued
  fate_still : (c : Cleared app lu t) (more : List ToHost) → Fate c.told c.up.said t.link → Fate c.told c.up.said (record t.link { up = sent t.link.lost t.link.up more })
  fate_still c more (Fate.is_lost is) = Fate.is_lost is
  fate_still c more (Fate.was_heard none unheard) = Fate.was_heard none unheard
  fate_still c more (Fate.erases_next erasing silent) = Fate.erases_next erasing silent
  fate_still c more (Fate.is_due due) = Fate.is_due (by_lost t.link.lost)
    where
      by_lost : (b : Bool) → clears_due (erases c.told.host.pending) c.up.said < clears_due (erases c.told.host.pending) (sent b t.link.up more)
      by_lost true = due
      by_lost false = due_still (erases c.told.host.pending) c.up.said t.link.up more due

  -- without fields it stays
  still_plain : LowerLaws → (c : Cleared app lu t) → IsPlain c.told t.link.term.display.screen → (step : TermStep) → Operates t.link.term step → IsPlain c.told step.end.display.screen
  still_plain given c (IsPlain.over_nothing nothing paints silent) step does = IsPlain.over_nothing nothing paints silent
  still_plain given c (IsPlain.bare none size) step (Operates.edits keyboard cells cursor nulls held on is) =
      subst (λ (s : TermStep). IsPlain c.told s.end.display.screen) (sym is) (IsPlain.bare (still_unformatted given.keys.round nulls t.link.term.display.screen.cells cells held none) (held.same_length ∙ size))
  still_plain given c (IsPlain.bare none size) step (Operates.sends keyboard aid some is) =
      subst (λ (s : TermStep). IsPlain c.told s.end.display.screen) (sym is) (IsPlain.bare (bare_key aid t.link.term.display.screen none) (with_aid-whole aid t.link.term.display.screen ∙ size))

  pub operates_gone : LowerLaws → (c : Cleared app lu t) → t.cleared ≡ true → c.told.term.display.keyboard.lock ≡ Wait → HasRead t c.told → Fate c.told c.up.said t.link → (step : TermStep) → Operates t.link.term step → Cleared app lu (operated step t)
  operates_gone given c gone locked read fate step does =
      does_locked app lu t (locked_again c (c.waits ∙ ap is_waiting locked) read) step does (fate_still c step.sends fate) (still_plain given c (c.plain gone) step does) (ap (λ (b : Bool). b || (t.waits && sends_clear step)) gone)

-- ---- once a paint erased

module _ (given : LowerLaws) (app : Application) (lu : List ℕ) (t : LinkWithReport) (c : Cleared app lu t) (uncleared : t.cleared ≡ false) (erasing : erases c.told.host.pending ≡ true) (silent : c.told.down ≡ []) (since : Since c.told.term.display t.link.term.display)
  where
    abbrev waiting : Link
    waiting = c.told

    abbrev here : Link
    here = t.link

    keys_now : AddsKeys c.clears false waiting.host.turn waiting.host.pending c.up.said here.up
    keys_now = subst (λ (later : Bool). AddsKeys c.clears later waiting.host.turn waiting.host.pending c.up.said here.up) uncleared c.up.up

    up_now : SaysToo c.clears false waiting.host waiting.up here.up
    up_now = record { said = c.up.said; alike = c.up.alike; up = keys_now }

    -- the waiting terminal is at this display and queue then, and this one at that
    typed_on : (end : Link) (link : Link) (told : Display) (waits : Bool) → end ≡ record waiting { term = record waiting.term { display = end.term.display }; up = end.up } → link ≡ record here { term = record here.term { display = link.term.display }; up = link.up }
        → ConnectionInvariant app (view_of end) → end.term.display ≡ record told { keyboard = end.term.display.keyboard } → waits ≡ is_waiting end.term.display.keyboard.lock
        → SaysToo c.clears false waiting.host end.up link.up → Since end.term.display link.term.display → Cleared app lu (record { link = link; told = told; waits = waits; cleared = false })
    typed_on end link told waits end_is link_is kept display waits_is up since = record {
      told = end;
      kept = kept;
      agreed = ap (λ (l : Link). agreed_lu l.host.talk.state) end_is ∙ c.agreed;
      any = ap (λ (l : Link). may_have_changed l.host.unheard) end_is ∙ c.any;
      unsure = ap (λ (l : Link). l.term.waits) end_is ∙ c.unsure;
      marks = c.marks;
      returning = subst (λ (h : Session). HostReturns h) (sym host_is) c.returning;
      display = display;
      waits = waits_is;
      bound = ap (λ (l : Link). is_bound l.term) end_is ∙ c.bound;
      host_here = ap (λ (l : Link). l.host_here) link_is ∙ c.host_here;
      term_here = ap (λ (l : Link). is_some l.term_here) link_is ∙ c.term_here;
      host = subst (λ (h : Session). HostsAlike end h) (sym (ap (λ (l : Link). l.host) link_is)) (hosts c.host);
      lost = ap (λ (l : Link). l.lost) link_is ∙ c.lost ∙ sym (ap (λ (l : Link). l.lost) end_is);
      down = ap (λ (l : Link). l.down) link_is ∙ c.down ∙ sym (ap (λ (l : Link). l.down) end_is);
      talk = ap (λ (l : Link). l.term.talk) link_is ∙ c.talk ∙ sym (ap (λ (l : Link). l.term.talk) end_is);
      clears = c.clears;
      up = subst (λ (h : Session). SaysToo c.clears false h end.up link.up) (sym host_is) up;
      stage = Stage.erased refl (ap (λ (h : Session). erases h.pending) host_is ∙ erasing) (ap (λ (l : Link). l.down) end_is ∙ silent) since;
      model = ap (λ (d : Display). d.model) since.rest;
      rest = λ shown. since.rest;
      plain = λ cleared. absurd (cc);
    }
      where
        host_is : end.host ≡ waiting.host
        host_is = ap (λ (l : Link). l.host) end_is

        hosts : HostsAlike waiting here.host → HostsAlike end here.host
        hosts (HostsAlike.same is) = HostsAlike.same (is ∙ sym host_is)
        hosts (HostsAlike.erasing is_erasing is any) =
            HostsAlike.erasing (ap (λ (h : Session). erases h.pending) host_is ∙ is_erasing) (is ∙ ap (λ (h : Session). record h { shadow = here.host.shadow; unheard = here.host.unheard }) (sym host_is)) any
        hosts (HostsAlike.crossed paints harmless is) =
            HostsAlike.crossed (ap (λ (h : Session). is_painting h.pending) host_is ∙ paints) (λ paints. inr (ap (λ (h : Session). erases h.pending) host_is ∙ erasing)) (is ∙ ap hearing_clear (sym host_is))

    -- in the operator's turn
    abbrev typed : TermStep → LinkWithReport
    typed step = record { link = term_stepped step here.down here; told = step.end.display; waits = is_queued step.sends; cleared = false }

    silent_up : SaysToo c.clears false waiting.host (sent waiting.lost waiting.up []) (sent here.lost here.up [])
    silent_up =
        subst (λ (up : List ToHost). SaysToo c.clears false waiting.host up (sent here.lost here.up [])) (sym (nothing_sent waiting.lost waiting.up))
        (subst (λ (up : List ToHost). SaysToo c.clears false waiting.host waiting.up up) (sym (nothing_sent here.lost here.up)) up_now)

    alike_still : (lost : Bool) (more : List ToHost) → AnswersAlike waiting.host waiting.up c.up.said (sent lost here.up more)
    alike_still true more = c.up.alike
    alike_still false more = answers_more waiting.host waiting.up c.up.said here.up more c.up.alike

    edits_typing : (waiting.term.display.keyboard.lock ≡ Wait → ⊥) → (keyboard : Keyboard) (cells : List Cell) (cursor : ℕ) (nulls : Bool) → KeptByKeys nulls here.term.display.screen.cells cells → cursor < length cells
        → Cleared app lu (typed (shows keyboard (edited cells cursor nulls here.term.display) [] here.term))
    edits_typing free keyboard cells cursor nulls held on =
        let same : here.term.display ≡ record waiting.term.display { keyboard = here.term.display.keyboard } = since.same free in
        let held_told : KeptByKeys nulls waiting.term.display.screen.cells cells = subst (λ (d : Display). KeptByKeys nulls d.screen.cells cells) same held in
        let step : TermStep = shows keyboard (edited cells cursor nulls here.term.display) [] here.term in
        typed_on (edited_link cells cursor nulls waiting) (typed step).link step.end.display false refl refl
        (edits_kept given app waiting cells cursor nulls c.kept free held_told on)
        (ap (λ (d : Display). record (edited cells cursor nulls d) { keyboard = freed waiting.term.display.keyboard }) (sym same)) refl silent_up
        (since_same given (edited_link cells cursor nulls waiting).term.display step.end.display (ap (λ (d : Display). record (edited cells cursor nulls d) { keyboard = keyboard }) same) on)

    sends_typing : (waiting.term.display.keyboard.lock ≡ Wait → ⊥) → (keyboard : Keyboard) (aid : Aid) → (aid ≡ NoAid → ⊥) → Cleared app lu (typed (shows keyboard (after_sending aid here.term.display) (data_by aid here.term) here.term))
    sends_typing free keyboard aid some =
        let same : here.term.display ≡ record waiting.term.display { keyboard = here.term.display.keyboard } = since.same free in
        let end : Link = sent_link aid waiting in
        let step : TermStep = shows keyboard (after_sending aid here.term.display) (data_by aid here.term) here.term in
        let bound_here : is_bound here.term ≡ true = ap (λ talk. is_some (bound_to talk.talk.state)) c.talk ∙ c.bound in
        let screen_told : Screen = with_aid aid waiting.term.display.screen in
        let data_told : ToHost = ToHost.Data (modified_data Modified waiting.term.display.size screen_told) in
        let says_told : data_by aid waiting.term ≡ data_told ∷ [] = ap (λ (bound : Bool). data_of bound (Send aid) waiting.term.display.size screen_told) c.bound in
        let says_so : data_by aid here.term ≡ data_told ∷ [] =
        ap (λ (bound : Bool). data_of bound (Send aid) here.term.display.size (with_aid aid here.term.display.screen)) bound_here
        ∙ ap (λ (d : Display). ToHost.Data (modified_data Modified d.size (with_aid aid d.screen)) ∷ []) same in
        typed_on end (typed step).link step.end.display (is_queued (data_by aid here.term)) refl refl
        (sends_kept given app waiting aid c.kept free some)
        (ap (λ (d : Display). record (after_sending aid d) { keyboard = record waiting.term.display.keyboard { lock = Wait } }) (sym same))
        (ap (λ (bound : Bool). is_queued (data_of bound (Send aid) here.term.display.size (with_aid aid here.term.display.screen))) bound_here)
        (subst (λ (says : List ToHost). SaysToo c.clears false waiting.host (sent waiting.lost waiting.up says) (sent here.lost here.up (data_by aid here.term))) (sym says_told)
        (subst (λ (says : List ToHost). SaysToo c.clears false waiting.host (sent waiting.lost waiting.up (data_told ∷ [])) (sent here.lost here.up says)) (sym says_so)
        (both_say_too c.clears false waiting.host waiting.lost here.lost waiting.up here.up data_told c.lost (λ paints. erasing) up_now)))
        (since_same given end.term.display step.end.display (ap (λ (d : Display). record (after_sending aid d) { keyboard = keyboard }) same)
        (subst (λ (size : ℕ). (with_aid aid here.term.display.screen).cursor < size) (sym (with_aid-whole aid here.term.display.screen)) (with_aid-cursor aid here.term.display.screen (length here.term.display.screen.cells) since.cursor)))

    -- in the wait
    abbrev untold_so : TermStep → LinkWithReport
    untold_so step = record { link = term_stepped step here.down here; told = t.told; waits = true; cleared = false }

    edits_waiting : waiting.term.display.keyboard.lock ≡ Wait → (keyboard : Keyboard) (cells : List Cell) (cursor : ℕ) (nulls : Bool) → KeptByKeys nulls here.term.display.screen.cells cells → cursor < length cells
        → Cleared app lu (untold_so (shows keyboard (edited cells cursor nulls here.term.display) [] here.term))
    edits_waiting waits keyboard cells cursor nulls held on =
        typed_on waiting (untold_so (shows keyboard (edited cells cursor nulls here.term.display) [] here.term)).link t.told true refl refl c.kept c.display (sym (ap is_waiting waits))
        (subst (λ (up : List ToHost). SaysToo c.clears false waiting.host waiting.up up) (sym (nothing_sent here.lost here.up)) up_now)
        (record {
          erased = since.erased || nulls;
          held = given.keys.composes since.erased nulls waiting.term.display.screen.cells here.term.display.screen.cells cells since.held held;
          rest = ap (λ (d : Display). record (edited cells cursor nulls d) { keyboard = keyboard }) since.rest;
          erasing = ap (λ (b : Bool). b || nulls) since.erasing ∙ or_again waiting.term.display.erased since.erased nulls;
          same = λ free. absurd (free waits);
          cursor = on;
        })

    sends_waiting : waiting.term.display.keyboard.lock ≡ Wait → (keyboard : Keyboard) (aid : Aid) → (aid ≡ NoAid → ⊥) → (aid ≡ Clear → ⊥) → Cleared app lu (untold_so (shows keyboard (after_sending aid here.term.display) (data_by aid here.term) here.term))
    sends_waiting waits keyboard aid some unclear =
        typed_on waiting (untold_so (shows keyboard (after_sending aid here.term.display) (data_by aid here.term) here.term)).link t.told true refl refl c.kept c.display (sym (ap is_waiting waits))
        (record { said = c.up.said; alike = alike_still here.lost (data_by aid here.term); up = key_queued app waiting here c.clears false c.up.said c.kept c.up.alike waits c.lost (is_bound here.term) here.lost aid some (λ clear. absurd (unclear clear)) refl keys_now })
        (record {
          erased = since.erased;
          held = subst (λ (cells : List Cell). KeptByKeys since.erased waiting.term.display.screen.cells cells) (sym (same_cells aid here.term.display.screen (keys_but_clear aid some unclear))) since.held;
          rest = ap (λ (d : Display). record (after_sending aid d) { keyboard = keyboard }) since.rest;
          erasing = since.erasing;
          same = λ free. absurd (free waits);
          cursor = subst (λ (size : ℕ). (with_aid aid here.term.display.screen).cursor < size) (sym (with_aid-whole aid here.term.display.screen))
              (with_aid-cursor aid here.term.display.screen (length here.term.display.screen.cells) since.cursor);
        })

    typing : (waiting.term.display.keyboard.lock ≡ Wait → ⊥) → (step : TermStep) → Operates here.term step → Cleared app lu (typed step)
    typing free step (Operates.edits keyboard cells cursor nulls held on is) = subst (λ (step : TermStep). Cleared app lu (typed step)) (sym is) (edits_typing free keyboard cells cursor nulls held on)
    typing free step (Operates.sends keyboard aid some is) = subst (λ (step : TermStep). Cleared app lu (typed step)) (sym is) (sends_typing free keyboard aid some)

    waits_on : waiting.term.display.keyboard.lock ≡ Wait → (step : TermStep) (does : Operates here.term step) → (key_pressed does ≡ Clear → ⊥) → Cleared app lu (untold_so step)
    waits_on waits step (Operates.edits keyboard cells cursor nulls held on is) unclear = subst (λ (step : TermStep). Cleared app lu (untold_so step)) (sym is) (edits_waiting waits keyboard cells cursor nulls held on)
    waits_on waits step (Operates.sends keyboard aid some is) unclear = subst (λ (step : TermStep). Cleared app lu (untold_so step)) (sym is) (sends_waiting waits keyboard aid some unclear)

    pub operates_erased : (step : TermStep) (does : Operates here.term step) → (t.waits ≡ true → key_pressed does ≡ Clear → ⊥) → Cleared app lu (operated step t)
    operates_erased step does unclear = by_lock waiting.term.display.keyboard.lock refl
      where
        by_waits : (waits : Bool) → t.waits ≡ waits → Cleared app lu (record { link = term_stepped step here.down here; told = if waits then t.told else step.end.display; waits = waits || is_queued step.sends; cleared = false }) → Cleared app lu (operated step t)
        by_waits waits is goes =
            subst (λ (b : Bool). Cleared app lu (record (operated step t) { cleared = b })) (sym (operated_none t step does uncleared unclear))
            (subst (λ (b : Bool). Cleared app lu (record { link = term_stepped step here.down here; told = if b then t.told else step.end.display; waits = b || is_queued step.sends; cleared = false })) (sym is) goes)

        by_lock : (lock : Lock) → waiting.term.display.keyboard.lock ≡ lock → Cleared app lu (operated step t)
        by_lock Wait is = by_waits true (c.waits ∙ ap is_waiting is) (waits_on is step does (unclear (c.waits ∙ ap is_waiting is)))
        by_lock Free is = by_waits false (c.waits ∙ ap is_waiting is) (typing (λ waits. let both = sym is ∙ waits in absurd (cc)) step does)
        by_lock Error is = by_waits false (c.waits ∙ ap is_waiting is) (typing (λ waits. let both = sym is ∙ waits in absurd (cc)) step does)

-- ---- the operator does something

module _ (given : LowerLaws) (app : Application) (lu : List ℕ) (t : LinkWithReport) where
  abbrev Rules : TermStep → Type 0
  Rules step = (does : Operates t.link.term step) × (t.waits ≡ true → t.cleared ≡ false → key_pressed does ≡ Clear → HasAnswered t)

  pub operates_cleared : (step : TermStep) → Rules step → (c : Cleared app lu t) → Cleared app lu (operated step t)
  operates_cleared step rules c = by_stage c.stage
    where
      by_stage : Stage t c.told c.up.said → Cleared app lu (operated step t)
      by_stage (Stage.gone cleared locked read fate) = operates_gone app lu t given c cleared locked read fate step rules.0
      by_stage (Stage.erased uncleared erasing silent since) = by_waits t.waits refl (clear_or (key_pressed rules.0))
        where
          bound_here : is_bound t.link.term ≡ true
          bound_here = ap (λ talk. is_some (bound_to talk.talk.state)) c.talk ∙ c.bound

          by_waits : (waits : Bool) → t.waits ≡ waits → IsClearOr (key_pressed rules.0) → Cleared app lu (operated step t)
          by_waits true waits (IsClearOr.pressed_clear clear) = clears_now app lu t (locked_again app lu t c waits (read_erased app lu t c erasing silent (rules.1 waits uncleared clear))) since.held.same_length step rules.0 clear bound_here
          by_waits true waits (IsClearOr.pressed_another unclear) = operates_erased given app lu t c uncleared erasing silent since step rules.0 (λ waits. unclear)
          by_waits false free key = operates_erased given app lu t c uncleared erasing silent since step rules.0 (λ waits. absurd (let wrong : false ≡ true = sym free ∙ waits in cc))

  pub operates_first : (step : TermStep) → Rules step → (s : Simulated app lu t) → Follows app lu (operated step t)
  operates_first step rules s = by_waits t.waits refl (clear_or (key_pressed rules.0))
    where
      by_waits : (waits : Bool) → t.waits ≡ waits → IsClearOr (key_pressed rules.0) → Follows app lu (operated step t)
      by_waits true waits (IsClearOr.pressed_clear clear) = by_bound (is_bound t.link.term) refl
        where
          -- before the terminal is bound, nothing is sent
          unbound : (step : TermStep) (does : Operates t.link.term step) → key_pressed does ≡ Clear → is_bound t.link.term ≡ false → Follows app lu (operated step t)
          unbound step (Operates.edits keyboard cells cursor nulls held on is) clear not_bound = absurd (cc)
          unbound step (Operates.sends keyboard aid some is) clear not_bound =
              let so : step ≡ shows keyboard (after_sending Clear t.link.term.display) (data_by Clear t.link.term) t.link.term = is ∙ ap (λ (a : Aid). shows keyboard (after_sending a t.link.term.display) (data_by a t.link.term) t.link.term) clear in
              let silent : sends_clear step ≡ false = ap sends_clear so ∙ ap (λ (bound : Bool). is_queued (data_of bound (Send Clear) t.link.term.display.size (with_aid Clear t.link.term.display.screen)) && true) not_bound in
              let nothing : (t.cleared || (t.waits && sends_clear step)) ≡ false = ap (λ (b : Bool). b || (t.waits && sends_clear step)) s.uncleared ∙ both_no t.waits (sends_clear step) silent in
              Follows.simulated
              (subst (λ (b : Bool). Simulated app lu (record (operated step t) { cleared = b })) (sym nothing)
              (subst (λ (waits : Bool). Simulated app lu (record { link = term_stepped step t.link.down t.link; told = if waits then t.told else step.end.display; waits = waits || is_queued step.sends; cleared = false })) (sym waits)
              (subst (λ (step : TermStep). Simulated app lu (record { link = term_stepped step t.link.down t.link; told = t.told; waits = true; cleared = false })) (sym so)
              (clears_unbound given app lu t s (is_locked s.told.term.display.keyboard.lock (sym waits ∙ s.waits)) not_bound keyboard))))

          by_bound : (bound : Bool) → is_bound t.link.term ≡ bound → Follows app lu (operated step t)
          by_bound true bound = Follows.cleared (clears_now app lu t (locked_first app lu t s waits bound (read_first app lu t s (rules.1 waits s.uncleared clear))) s.simulates.since.held.same_length step rules.0 clear bound)
          by_bound false not_bound = unbound step rules.0 clear not_bound
      by_waits true waits (IsClearOr.pressed_another unclear) = Follows.simulated (operates_still given app lu t s step rules.0 (λ waits. unclear))
      by_waits false free key = Follows.simulated (operates_still given app lu t s step rules.0 (λ waits. absurd (let wrong : false ≡ true = sym free ∙ waits in cc)))
