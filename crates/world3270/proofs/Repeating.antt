-- A paint that doesn't erase, and that Clear crossed: what it left isn't the panel, so the host shows the panel again. Until then the terminal
-- that waits stays where that paint is under way.
use Rattle.std.proofs.Common.{◌≡◌, ◌⊎◌, inl, inr, ◌<◌, ◌&&◌, ◌||◌, not, ℕ, Bool, true, false, Option, None, Some, List, [], ◌∷◌, ◌++◌, arith, refl, ap, sym, subst, ◌∙◌, if◌then◌else◌}
use Rattle.std.specs.Prelude.{⊤, is_some}
use Rattle.std.specs.Option.{option_and_then, option_map_or}
use Rattle.codes3270.specs.Size.{cells_in}
use Rattle.codes3270.specs.declared.attention.Aid.{Aid}
use Rattle.codes3270.specs.declared.attention.Aid.TheVariants.{Clear, NoAid}
use Rattle.codes3270.specs.declared.size.Model.{Model}
use Rattle.datastream.specs.Grammar.{CommandParts}
use Rattle.datastream.specs.InboundFields.{modified_data}
use Rattle.datastream.specs.InboundText.{InboundParts}
use Rattle.datastream.specs.Wanted.{WantedScreen}
use Rattle.datastream.specs.declared.inbound_part.Form.TheVariants.{Modified}
use Rattle.keyboard.specs.declared.key.Lock.TheVariants.{Wait}
use Rattle.keyboard.specs.declared.key.Pressed.TheVariants.{Send}
use Rattle.lu_pool.specs.Asking.{answer_to}
use Rattle.lu_pool.specs.declared.entry.Entry.{Entry}
use Rattle.panels.specs.Screen.{Values}
use Rattle.shadow.specs.Belief.{Shadow}
use Rattle.shadow.specs.Exactness.{is_erase}
use Rattle.shadow.specs.Paint.{paint}
use Rattle.host_core.specs.Acts.{Act, Sent, acted, decided, decision_on, done, repeated, values_shown, wanted_by, when_shown}
use Rattle.host_core.specs.Application.{Application, IsApplication, IsSizeOf}
use Rattle.host_core.specs.Laws.{IsPaintable, MarksInput}
use Rattle.host_core.specs.Messages.{ToHost, ToTerminal, Verdict}
use Rattle.host_core.specs.Notes.{noted}
use Rattle.host_core.specs.Questions.{act_by, answered_on, has_its_panel, is_ask, is_asking, panel_for}
use Rattle.host_core.specs.Session.{Session, Pending, agreed_lu, is_agreed, model_in}
use Rattle.host_core.specs.Takes.{Answers, HostStep, answered, if_answers, is_unread, may_be_read, may_have_changed, once_agreed, paint_answered, quiet, refused, response_came, took as host_took}
use Rattle.host_core.specs.declared.question.Answer.{Answer as ApplicationAnswer}
use Rattle.host_core.specs.declared.turn.Turn.TheVariants as whose
use Rattle.host_core.specs.declared.unheard.Unheard.{Unheard}
use Rattle.host_core.specs.declared.unheard.Unheard.TheVariants as unheards
use Rattle.tn3270e_msg.specs.TermTable.{Term}
use Rattle.world3270.specs.model.Enabled.{is_queued}
use Rattle.world3270.specs.model.Link.{Link, cut, host_sent, host_stepped, sent, term_stepped}
use Rattle.world3270.specs.model.Terminal.{Display, TermStep, bound_to, data_of, is_bound, once_bound}
use Rattle.world3270.specs.refinement.Invariant.{ConnectionInvariant}
use Rattle.world3270.specs.refinement.LowerLaws.{LowerLaws}
use Rattle.world3270.specs.refinement.Phases.{IsAt, IsInFlight, LinkPhase, SessionPhase}
use Rattle.world3270.specs.refinement.View.{view_of}
use Rattle.world3270.specs.statement.EveryTerminal.{LinkWithReport, is_clear, operated, paint_executed, sends_clear, told_if}
use Rattle.world3270.specs.statement.Rules.{Operates, after_sending, data_by, edited, with_aid}
use Rattle.world3270.specs.statement.Showing.{IsDecided}
use Rattle.world3270.specs.statement.Shown.{is_painting}
use Rattle.world3270.proofs.Acting.{loses, model_here}
use Rattle.world3270.proofs.Cleared.{Cleared, HasRead, HostsAlike, IsPlain, Stage, agrees_still, hearing_clear, may_change}
use Rattle.world3270.proofs.ClearedHost.{IsClearOr, clear_or, key_unclear, no_act, no_answer, no_note, nothing_erases}
use Rattle.world3270.proofs.ClearedQueue.{AddsKeys, AnswersAlike, answers_silent, clear_dropped, erases, is_any_key, other_key}
use Rattle.world3270.proofs.ClearsDue.{Fate, clears_due, clears_in, is_clear_data, one_more}
use Rattle.world3270.proofs.ClearedKeys.{any_key}
use Rattle.world3270.proofs.ComesDown.{PaintComes, paint_comes}
use Rattle.world3270.proofs.OneOfMany.{same_number}
use Rattle.world3270.proofs.Queues.{empty_queue, more, nothing_sent, still}
use Rattle.world3270.proofs.Returning.{HostReturns}
use Rattle.world3270.proofs.RuleKeys.{with_aid-aid}
use Rattle.world3270.proofs.SecondKeys.{SaysAlike, is_dropping, second_key_dropped}
use Rattle.world3270.proofs.Sent.{key_aid, key_form}
use Rattle.world3270.proofs.Simulation.{has_agreed, is_waiting}

-- ---- what comes up

-- a key's data
pub record IsKeyData (message : ToHost) : Type 0 where
  pub parts : InboundParts
  pub is : message ≡ ToHost.Data parts
  pub form : parts.form ≡ Modified
  pub key : is_any_key parts.aid ≡ true

abbrev pub AreKeys : List ToHost → Type 0
AreKeys [] = ⊤
AreKeys (message ∷ up) = IsKeyData message × AreKeys up

-- keys, and the answer to the paint, before which the host hears of Clear
abbrev pub AnswersBehind : (number : ℕ) → (heard : Bool) → List ToHost → Type 0
AnswersBehind number heard [] = ⊤
AnswersBehind number heard (message ∷ up) =
    ((key : IsKeyData message) × AnswersBehind number (heard || is_clear key.parts.aid) up)
    ⊎ ((message ≡ ToHost.Response number Verdict.Positive) × (heard ≡ true) × AreKeys up)

-- where keys alone are queued
all_keys : (clears later : Bool) (told : Link) (up : List ToHost) → AddsKeys clears later told.host.turn told.host.pending [] up → AreKeys up
all_keys clears later told [] x = tt
all_keys clears later told (message ∷ up) (inl x) = (record { parts = x.1.parts; is = x.1.is; form = x.1.form; key = x.1.key }, all_keys clears later told up x.2)
all_keys clears later told (message ∷ up) (inr x) = absurd (let some = x.1 in cc)

no_answer_yet : (number : ℕ) (heard : Bool) (up : List ToHost) → AreKeys up → AnswersBehind number heard up
no_answer_yet number heard [] keys = tt
no_answer_yet number heard (message ∷ up) keys = inl (keys.0, no_answer_yet number (heard || is_clear keys.0.parts.aid) up keys.1)

or_true : (b c : Bool) → c ≡ true → (b || c) ≡ true
or_true true c is = refl
or_true false c is = is

one_left : (heard b : Bool) (n : ℕ) → (heard ≡ true) ⊎ (0 < one_more b n) → ((heard || b) ≡ true) ⊎ (0 < n)
one_left heard true n h = inl (or_true heard true refl)
one_left heard false n (inl is) = inl (ap (λ (b : Bool). b || false) is)
one_left heard false n (inr some) = inr some

-- the answer comes last
answered_last : (number : ℕ) (heard : Bool) (up : List ToHost) → AreKeys up → (heard ≡ true) ⊎ (0 < clears_in up) → AnswersBehind number heard (up ++ ToHost.Response number Verdict.Positive ∷ [])
answered_last number heard [] keys (inl is) = inr (refl, is, tt)
answered_last number heard [] keys (inr some) = absurd (let wrong : ⊥ = omega arith in wrong)
answered_last number heard (message ∷ up) keys h =
    let key = keys.0 in
    inl (
      key,
      answered_last number (heard || is_clear key.parts.aid) up keys.1
          (one_left heard (is_clear key.parts.aid) (clears_in up) (subst (λ (m : ToHost). (heard ≡ true) ⊎ (0 < one_more (is_clear_data m) (clears_in up))) key.is h)),
    )

keys_last : (up : List ToHost) (key : ToHost) → IsKeyData key → AreKeys up → AreKeys (up ++ key ∷ [])
keys_last [] key is keys = (is, tt)
keys_last (message ∷ up) key is keys = (keys.0, keys_last up key is keys.1)

behind_last : (number : ℕ) (heard : Bool) (up : List ToHost) (key : ToHost) → IsKeyData key → AnswersBehind number heard up → AnswersBehind number heard (up ++ key ∷ [])
behind_last number heard [] key is x = inl (is, tt)
behind_last number heard (message ∷ up) key is (inl x) = inl (x.0, behind_last number (heard || is_clear x.0.parts.aid) up key is x.1)
behind_last number heard (message ∷ up) key is (inr x) = inr (x.0, x.1, keys_last up key is x.2)

-- ---- the connection

-- the paint was taken, and its answer is under way; or the host has heard it, and knows nothing of the screen
pub data AfterPaint (told : Link) (now : Link) : Type 0 where
  answering : (number : ℕ) (command : CommandParts) → told.host.pending ≡ Pending.Writing number command → is_erase command.code ≡ false → now.host ≡ record told.host { unheard = now.host.unheard }
      → may_have_changed now.host.unheard ≡ true → AnswersBehind number (not (may_be_read now.host.unheard)) now.up → AfterPaint told now
  refusing : now.host ≡ refused (hearing_clear told.host) → AreKeys now.up → AfterPaint told now

-- `told`: the connection of a terminal that waits; the paint is still under way to it
pub record Repeating (app : Application) (lu : List ℕ) (t : LinkWithReport) : Type 0 where
  pub told : Link
  pub kept : ConnectionInvariant app (view_of told)
  pub agreed : agreed_lu told.host.talk.state ≡ Some lu
  pub any : may_have_changed told.host.unheard ≡ true
  pub unsure : told.term.waits ≡ false
  pub marks : MarksInput app
  pub display : told.term.display ≡ record t.told { keyboard = told.term.display.keyboard }
  pub locked : told.term.display.keyboard.lock ≡ Wait
  pub bound : is_bound told.term ≡ true
  pub waits : t.waits ≡ true
  pub cleared : t.cleared ≡ true
  pub host_here : t.link.host_here ≡ true
  pub term_here : is_some t.link.term_here ≡ true
  pub lost : t.link.lost ≡ told.lost
  pub down : t.link.down ≡ []
  pub talk : t.link.term.talk ≡ told.term.talk
  pub model : t.link.term.display.model ≡ told.term.display.model
  pub session : List ℕ
  pub number : ℕ
  pub command : CommandParts
  pub wanted : WantedScreen
  pub over : Shadow
  pub at : IsAt (view_of told) kept.wanted (LinkPhase.InSession session (SessionPhase.Painting number command wanted over))
  pub after : AfterPaint told t.link

pub agrees_there : {app : Application} {lu : List ℕ} {t : LinkWithReport} (r : Repeating app lu t) → is_agreed r.told.host.talk.state ≡ true
agrees_there {app} {lu} r = has_agreed lu r.told.host.talk.state r.agreed

-- the same, with another queue, host or display
changed : (app : Application) (lu : List ℕ) (t : LinkWithReport) (r : Repeating app lu t) (link : Link) → link.host_here ≡ t.link.host_here → link.term_here ≡ t.link.term_here → link.lost ≡ t.link.lost → link.down ≡ [] → link.term.talk ≡ t.link.term.talk
    → link.term.display.model ≡ t.link.term.display.model → AfterPaint r.told link → Repeating app lu (record t { link = link })
changed app lu t r link host_here term_here lost down talk model after = record {
  told = r.told;
  kept = r.kept;
  agreed = r.agreed;
  any = r.any;
  unsure = r.unsure;
  marks = r.marks;
  display = r.display;
  locked = r.locked;
  bound = r.bound;
  waits = r.waits;
  cleared = r.cleared;
  host_here = host_here ∙ r.host_here;
  term_here = ap is_some term_here ∙ r.term_here;
  lost = lost ∙ r.lost;
  down = down;
  talk = talk ∙ r.talk;
  model = model ∙ r.model;
  session = r.session;
  number = r.number;
  command = r.command;
  wanted = r.wanted;
  over = r.over;
  at = r.at;
  after = after;
}

-- ---- the paint is taken

module _ (app : Application) (is : IsApplication app) (lu : List ℕ) (t : LinkWithReport) (c : Cleared app lu t) (cleared : t.cleared ≡ true) (locked : c.told.term.display.keyboard.lock ≡ Wait) (fate : Fate c.told c.up.said t.link) where
  abbrev end : Link
  end = c.told

  abbrev now : Link
  now = t.link

  abbrev ruined_so : (shown : Bool) → ℕ → WantedScreen → Shadow → List ToTerminal → LinkWithReport
  ruined_so shown number wanted over rest =
      let link : Link = term_stepped (paint_executed number wanted over now.term) rest now in
      record { link = link; told = if shown then link.term.display else t.told; waits = if shown then false else t.waits; cleared = if shown then false else t.cleared }

  pub paint_ruined : (number : ℕ) (wanted : WantedScreen) (over : Shadow) (rest : List ToTerminal) → now.down ≡ ToTerminal.Paint number wanted over ∷ rest → is_erase (paint (cells_in wanted.size) over wanted).code ≡ false
      → Repeating app lu (told_if (is_bound now.term) (ToTerminal.Paint number wanted over) t (term_stepped (once_bound (is_bound now.term) (paint_executed number wanted over now.term) now.term) rest now))
  paint_ruined number wanted over rest e no_erase =
      subst (λ (b : Bool). Repeating app lu (told_if b (ToTerminal.Paint number wanted over) t (term_stepped (once_bound b (paint_executed number wanted over now.term) now.term) rest now))) (sym bound_now)
      (subst (λ (shown : Bool). Repeating app lu (ruined_so shown number wanted over rest)) (sym (ap (λ (b : Bool). not b || is_erase (paint (cells_in wanted.size) over wanted).code) cleared ∙ no_erase)) goes)
    where
      bound_now : is_bound now.term ≡ true
      bound_now = ap (λ (talk : Term). is_some (bound_to talk.talk.state)) c.talk ∙ c.bound

      comes : PaintComes app end c.kept.wanted rest number wanted over
      comes = paint_comes app end number wanted over rest (sym c.down ∙ e) c.kept (agrees_still c)

      silent : end.up ≡ []
      silent = empty_queue end.lost end.up comes.at.goes_up

      unerased : erases end.host.pending ≡ false
      unerased = ap erases comes.at.pending ∙ ap (λ (command : CommandParts). is_erase command.code) comes.fact.command_is ∙ no_erase

      exact_host : erases end.host.pending ≡ false → HostsAlike end now.host → now.host ≡ record end.host { unheard = now.host.unheard }
      exact_host none (HostsAlike.same same) = same ∙ sym (ap (λ (s : Session). record end.host { unheard = s.unheard }) same)
      exact_host none (HostsAlike.crossed paints harmless crossed) = crossed ∙ sym (ap (λ (s : Session). record end.host { unheard = s.unheard }) crossed)
      exact_host none (HostsAlike.erasing is_erasing is_now any) = absurd (let wrong : false ≡ true = sym none ∙ is_erasing in cc)

      said_none : c.up.said ≡ []
      said_none = answers_silent end.host end.up c.up.said now.up silent c.up.alike

      keys : AreKeys now.up
      keys = all_keys c.clears t.cleared end now.up (subst (λ (said : List ToHost). AddsKeys c.clears t.cleared end.host.turn end.host.pending said now.up) said_none c.up.up)

      heard_or_due : now.lost ≡ false → Fate end c.up.said now → (not (may_be_read now.host.unheard) ≡ true) ⊎ (0 < clears_in now.up)
      heard_or_due live (Fate.is_lost is_lost) = absurd (let wrong : false ≡ true = sym live ∙ is_lost in cc)
      heard_or_due live (Fate.is_due due) =
          inr (subst (λ (said : List ToHost). clears_in said < clears_in now.up) said_none
          (subst (λ (b : Bool). clears_due b c.up.said < clears_due b now.up) unerased due))
      heard_or_due live (Fate.was_heard none unheard) = inl (ap not unheard)
      heard_or_due live (Fate.erases_next erasing none) = absurd (let wrong : false ≡ true = sym unerased ∙ erasing in cc)

      by_lost : (lost : Bool) → now.lost ≡ lost → AnswersBehind number (not (may_be_read now.host.unheard)) (sent lost now.up (ToHost.Response number Verdict.Positive ∷ []))
      by_lost true is_lost = no_answer_yet number (not (may_be_read now.host.unheard)) now.up keys
      by_lost false live = answered_last number (not (may_be_read now.host.unheard)) now.up keys (heard_or_due live fate)

      goes : Repeating app lu (ruined_so false number wanted over rest)
      goes = record {
        told = end;
        kept = c.kept;
        agreed = c.agreed;
        any = c.any;
        unsure = c.unsure;
        marks = c.marks;
        display = c.display;
        locked = locked;
        bound = c.bound;
        waits = c.waits ∙ ap is_waiting locked;
        cleared = cleared;
        host_here = c.host_here;
        term_here = c.term_here;
        lost = c.lost;
        down = empty_queue end.lost rest comes.left;
        talk = c.talk;
        model = c.model;
        session = comes.lu;
        number = number;
        command = comes.command;
        wanted = wanted;
        over = over;
        at = comes.at;
        after = AfterPaint.answering number comes.command comes.at.pending (sym (ap erases comes.at.pending) ∙ unerased) (exact_host unerased c.host) (may_change end now.host c.host c.any) (by_lost now.lost refl);
      }

-- ---- the host hears

module _ (app : Application) (lu : List ℕ) (t : LinkWithReport) (r : Repeating app lu t) where
  abbrev waiting : Link
  waiting = r.told

  abbrev here : Link
  here = t.link

  abbrev heard_by : Session → List ToHost → LinkWithReport
  heard_by conn rest = record t { link = record here { up = rest; host = conn; down = sent here.lost here.down [] } }

  heard_so : (conn : Session) (rest : List ToHost) → AfterPaint waiting (record here { up = rest; host = conn; down = sent here.lost here.down [] }) → Repeating app lu (heard_by conn rest)
  heard_so conn rest after = changed app lu t r (heard_by conn rest).link refl refl refl (nothing_sent here.lost here.down ∙ r.down) refl refl after

  -- a key
  module _ (pool : Answers) (message : ToHost) (rest : List ToHost) (key : IsKeyData message) where
    abbrev Heard : Type 0
    Heard = Repeating app lu (record t { link = host_stepped (host_took pool here.host message) rest here })

    -- it is dropped
    another : is_agreed here.host.talk.state ≡ true → may_have_changed here.host.unheard ≡ true → is_dropping here.host.turn here.host.pending ≡ true → (key.parts.aid ≡ Clear → ⊥)
        → AfterPaint waiting (record here { up = rest; host = here.host; down = sent here.lost here.down [] }) → Heard
    another agrees any drops unclear after =
        subst (λ (step : HostStep). Repeating app lu (record t { link = host_stepped step rest here }))
        (sym (second_key_dropped pool here.host message (record { parts = key.parts; is = key.is; form = key.form; key = other_key key.parts.aid key.key unclear }) agrees any drops))
        (heard_so here.host rest after)

    -- so is Clear
    its_clear : is_agreed here.host.talk.state ≡ true → may_have_changed here.host.unheard ≡ true → is_dropping here.host.turn here.host.pending ≡ true → key.parts.aid ≡ Clear
        → (is_painting here.host.pending ≡ false → is_unread here.host.turn_reason ≡ false) → AfterPaint waiting (record here { up = rest; host = hearing_clear here.host; down = sent here.lost here.down [] }) → Heard
    its_clear agrees any drops clear read after =
        subst (λ (step : HostStep). Repeating app lu (record t { link = host_stepped step rest here }))
        (sym (clear_dropped pool here.host message key.parts key.is key.form clear agrees any drops read))
        (heard_so (hearing_clear here.host) rest after)

  -- the answer to the paint: what it left isn't the panel
  ruined_answered : (pool : Answers) (number : ℕ) (command : CommandParts) → waiting.host.pending ≡ Pending.Writing number command → is_erase command.code ≡ false → here.host ≡ hearing_clear waiting.host
      → host_took pool here.host (ToHost.Response number Verdict.Positive) ≡ quiet (refused (hearing_clear waiting.host))
  ruined_answered pool number command pends no_erase host_is =
      ap (λ (s : Session). host_took pool s (ToHost.Response number Verdict.Positive)) host_is
      ∙ ap (λ (b : Bool). once_agreed b (response_came number Verdict.Positive waiting.host.pending (hearing_clear waiting.host)) (hearing_clear waiting.host)) (agrees_there r)
      ∙ ap (λ (p : Pending). response_came number Verdict.Positive p (hearing_clear waiting.host)) pends
      ∙ ap (λ (b : Bool). if_answers b (quiet (paint_answered command (hearing_clear waiting.host))) (hearing_clear waiting.host)) (same_number number)
      ∙ ap (λ (b : Bool). quiet (if b then answered command (record waiting.host { unheard = unheards.Input }) else refused (hearing_clear waiting.host))) no_erase

  only_clear : (unheard : Unheard) → not (may_be_read unheard) ≡ true → unheard ≡ unheards.Clear
  only_clear unheards.Clear is = refl
  only_clear unheards.Nothing is = absurd (cc)
  only_clear unheards.Input is = absurd (cc)

  pub hears_repeating : (entries : List Entry) (message : ToHost) (rest : List ToHost) → here.up ≡ message ∷ rest → Repeating app lu (record t { link = host_stepped (host_took (answer_to entries) here.host message) rest here })
  hears_repeating entries message rest is = by_after r.after
    where
      pool : Answers
      pool = answer_to entries

      by_after : AfterPaint waiting here → Repeating app lu (record t { link = host_stepped (host_took pool here.host message) rest here })
      by_after (AfterPaint.answering number command pends no_erase host_is any behind) = by_message (subst (AnswersBehind number (not (may_be_read here.host.unheard))) is behind)
        where
          agrees : is_agreed here.host.talk.state ≡ true
          agrees = ap (λ (s : Session). is_agreed s.talk.state) host_is ∙ agrees_there r

          pending_is : here.host.pending ≡ Pending.Writing number command
          pending_is = ap (λ (s : Session). s.pending) host_is ∙ pends

          drops : is_dropping here.host.turn here.host.pending ≡ true
          drops = ap (λ (s : Session). is_dropping s.turn s.pending) host_is ∙ ap (λ turn. is_dropping turn waiting.host.pending) r.at.turn ∙ ap (is_dropping whose.Terminal) pends

          by_key : (key : IsKeyData message) → AnswersBehind number (not (may_be_read here.host.unheard) || is_clear key.parts.aid) rest → IsClearOr key.parts.aid → Repeating app lu (record t { link = host_stepped (host_took pool here.host message) rest here })
          by_key key behind (IsClearOr.pressed_clear clear) =
              its_clear pool message rest key agrees any drops clear (λ unpainted. absurd (let wrong : true ≡ false = sym (ap is_painting pending_is) ∙ unpainted in cc))
              (AfterPaint.answering number command pends no_erase (ap hearing_clear host_is) refl
              (subst (λ (b : Bool). AnswersBehind number b rest) (or_true (not (may_be_read here.host.unheard)) (is_clear key.parts.aid) (ap is_clear clear)) behind))
          by_key key behind (IsClearOr.pressed_another unclear) =
              another pool message rest key agrees any drops unclear
              (AfterPaint.answering number command pends no_erase host_is any
              (subst (λ (b : Bool). AnswersBehind number b rest) (or_no (not (may_be_read here.host.unheard)) (is_clear key.parts.aid) (key_unclear key.parts.aid (other_key key.parts.aid key.key unclear))) behind))
            where
              or_no : (b c : Bool) → c ≡ false → (b || c) ≡ b
              or_no true c is = refl
              or_no false c is = is

          by_message : AnswersBehind number (not (may_be_read here.host.unheard)) (message ∷ rest) → Repeating app lu (record t { link = host_stepped (host_took pool here.host message) rest here })
          by_message (inl x) = by_key x.0 x.1 (clear_or x.0.parts.aid)
          by_message (inr x) =
              let crossed : here.host ≡ hearing_clear waiting.host = host_is ∙ ap (λ (u : Unheard). record waiting.host { unheard = u }) (only_clear here.host.unheard x.1) in
              subst (λ (step : HostStep). Repeating app lu (record t { link = host_stepped step rest here })) (sym (ap (host_took pool here.host) x.0 ∙ ruined_answered pool number command pends no_erase crossed))
              (heard_so (refused (hearing_clear waiting.host)) rest (AfterPaint.refusing refl x.2))
      by_after (AfterPaint.refusing host_is keys) = by_message (subst AreKeys is keys)
        where
          agrees : is_agreed here.host.talk.state ≡ true
          agrees = ap (λ (s : Session). is_agreed s.talk.state) host_is ∙ agrees_there r

          any : may_have_changed here.host.unheard ≡ true
          any = ap (λ (s : Session). may_have_changed s.unheard) host_is

          drops : is_dropping here.host.turn here.host.pending ≡ true
          drops = ap (λ (s : Session). is_dropping s.turn s.pending) host_is

          by_key : (key : IsKeyData message) → AreKeys rest → IsClearOr key.parts.aid → Repeating app lu (record t { link = host_stepped (host_took pool here.host message) rest here })
          by_key key keys (IsClearOr.pressed_clear clear) =
              its_clear pool message rest key agrees any drops clear (λ unpainted. ap (λ (s : Session). is_unread s.turn_reason) host_is) (AfterPaint.refusing (ap hearing_clear host_is) keys)
          by_key key keys (IsClearOr.pressed_another unclear) = another pool message rest key agrees any drops unclear (AfterPaint.refusing host_is keys)

          by_message : AreKeys (message ∷ rest) → Repeating app lu (record t { link = host_stepped (host_took pool here.host message) rest here })
          by_message keys = by_key keys.0 keys.1 (clear_or keys.0.parts.aid)

-- ---- the operator does something, or the connection is lost

module _ (app : Application) (lu : List ℕ) (t : LinkWithReport) (r : Repeating app lu t) where
  abbrev doing : Link
  doing = t.link

  abbrev untold : TermStep → LinkWithReport
  untold step = record { link = term_stepped step doing.down doing; told = t.told; waits = true; cleared = true }

  -- what is queued behind
  after_queued : (lost : Bool) (sends : List ToHost) (display : Display) → (sends ≡ []) ⊎ ((key : ToHost) × (sends ≡ key ∷ []) × IsKeyData key) → AfterPaint r.told doing
      → AfterPaint r.told (record doing { term = record doing.term { display = display }; up = sent lost doing.up sends })
  after_queued true sends display either (AfterPaint.answering number command pends no_erase host_is any behind) = AfterPaint.answering number command pends no_erase host_is any behind
  after_queued true sends display either (AfterPaint.refusing host_is keys) = AfterPaint.refusing host_is keys
  after_queued false sends display (inl none) (AfterPaint.answering number command pends no_erase host_is any behind) =
      AfterPaint.answering number command pends no_erase host_is any (subst (AnswersBehind number (not (may_be_read doing.host.unheard))) (sym (ap (sent false doing.up) none ∙ nothing_sent false doing.up)) behind)
  after_queued false sends display (inl none) (AfterPaint.refusing host_is keys) = AfterPaint.refusing host_is (subst AreKeys (sym (ap (sent false doing.up) none ∙ nothing_sent false doing.up)) keys)
  after_queued false sends display (inr x) (AfterPaint.answering number command pends no_erase host_is any behind) =
      AfterPaint.answering number command pends no_erase host_is any (subst (AnswersBehind number (not (may_be_read doing.host.unheard))) (sym (ap (sent false doing.up) x.1)) (behind_last number (not (may_be_read doing.host.unheard)) doing.up x.0 x.2 behind))
  after_queued false sends display (inr x) (AfterPaint.refusing host_is keys) = AfterPaint.refusing host_is (subst AreKeys (sym (ap (sent false doing.up) x.1)) (keys_last doing.up x.0 x.2 keys))

  does_it : (display : Display) (sends : List ToHost) → display.model ≡ doing.term.display.model → (sends ≡ []) ⊎ ((key : ToHost) × (sends ≡ key ∷ []) × IsKeyData key)
      → Repeating app lu (record { link = record doing { term = record doing.term { display = display }; up = sent doing.lost doing.up sends }; told = t.told; waits = true; cleared = true })
  does_it display sends model either = record {
    told = r.told;
    kept = r.kept;
    agreed = r.agreed;
    any = r.any;
    unsure = r.unsure;
    marks = r.marks;
    display = r.display;
    locked = r.locked;
    bound = r.bound;
    waits = refl;
    cleared = refl;
    host_here = r.host_here;
    term_here = r.term_here;
    lost = r.lost;
    down = r.down;
    talk = r.talk;
    model = model ∙ r.model;
    session = r.session;
    number = r.number;
    command = r.command;
    wanted = r.wanted;
    over = r.over;
    at = r.at;
    after = after_queued doing.lost sends display either r.after;
  }

  key_or_none : (bound : Bool) (aid : Aid) → (aid ≡ NoAid → ⊥) → let sends = data_of bound (Send aid) doing.term.display.size (with_aid aid doing.term.display.screen) in (sends ≡ []) ⊎ ((key : ToHost) × (sends ≡ key ∷ []) × IsKeyData key)
  key_or_none false aid some = inl refl
  key_or_none true aid some =
      let parts : InboundParts = modified_data Modified doing.term.display.size (with_aid aid doing.term.display.screen) in
      inr (
        ToHost.Data parts,
        refl,
        record {
          parts = parts;
          is = refl;
          form = key_form doing.term.display.size (with_aid aid doing.term.display.screen);
          key = ap is_any_key (key_aid doing.term.display.size (with_aid aid doing.term.display.screen) ∙ with_aid-aid aid doing.term.display.screen) ∙ any_key aid some;
        },
      )

  does_so : (step : TermStep) → Operates doing.term step → Repeating app lu (untold step)
  does_so step (Operates.edits keyboard cells cursor nulls held on is) =
      subst (λ (s : TermStep). Repeating app lu (untold s)) (sym is) (does_it (record (edited cells cursor nulls doing.term.display) { keyboard = keyboard }) [] refl (inl refl))
  does_so step (Operates.sends keyboard aid some is) =
      subst (λ (s : TermStep). Repeating app lu (untold s)) (sym is) (does_it (record (after_sending aid doing.term.display) { keyboard = keyboard }) (data_by aid doing.term) refl (key_or_none (is_bound doing.term) aid some))

  pub operates_repeating : (step : TermStep) → Operates doing.term step → Repeating app lu (operated step t)
  operates_repeating step does =
      subst (λ (b : Bool). Repeating app lu (record (operated step t) { cleared = b })) (sym (ap (λ (b : Bool). b || (t.waits && sends_clear step)) r.cleared))
      (subst (λ (waits : Bool). Repeating app lu (record { link = term_stepped step doing.down doing; told = if waits then t.told else step.end.display; waits = waits || is_queued step.sends; cleared = true })) (sym r.waits)
      (does_so step does))

  pub loses_repeating : Repeating app lu (record t { link = cut t.link })
  loses_repeating = record {
    told = cut r.told;
    kept = loses app (view_of r.told) r.kept;
    agreed = r.agreed;
    any = r.any;
    unsure = r.unsure;
    marks = r.marks;
    display = r.display;
    locked = r.locked;
    bound = r.bound;
    waits = r.waits;
    cleared = r.cleared;
    host_here = r.host_here;
    term_here = r.term_here;
    lost = refl;
    down = r.down;
    talk = r.talk;
    model = r.model;
    session = r.session;
    number = r.number;
    command = r.command;
    wanted = r.wanted;
    over = r.over;
    at = record {
      host_talk = r.at.host_talk;
      term_talk = r.at.term_talk;
      turn = r.at.turn;
      pending = r.at.pending;
      goes_down = still r.told.lost r.told.down _ r.at.goes_down;
      goes_up = still r.told.lost r.told.up _ r.at.goes_up;
    };
    after = lost_so r.after;
  }
    where
      lost_so : AfterPaint r.told t.link → AfterPaint (cut r.told) (cut t.link)
      lost_so (AfterPaint.answering number command pends no_erase host_is any behind) = AfterPaint.answering number command pends no_erase host_is any behind
      lost_so (AfterPaint.refusing host_is keys) = AfterPaint.refusing host_is keys

-- ---- the host sends

-- The host that refuses shows its panel again.
module _ (given : LowerLaws) (app : Application) (is : IsApplication app) (lu : List ℕ) (t : LinkWithReport) (r : Repeating app lu t) where
  abbrev old : Link
  old = r.told

  abbrev refuser : Session
  refuser = refused (hearing_clear old.host)

  abbrev again : Act
  again = Act.Show old.host.panel (repeated old.host.message) false old.host.values

  abbrev sending : Sent
  sending = done app refuser again

  abbrev sends_so : Option Sent → LinkWithReport
  sends_so what = record t { link = host_sent what t.link }

  acts_again : acted app refuser ≡ Some sending
  acts_again = ap (λ (b : Bool). option_and_then (decided app refuser) (if b then Some (decision_on app refuser refuser.turn_reason) else None)) (agrees_there r)

  -- the waiting terminal's link then
  abbrev shown_again : Link
  shown_again = record old { host = sending.conn; down = sent old.lost [] (sending.message ∷ []) }

  abbrev shown : ℕ
  shown = app.shown (model_in refuser) old.host.panel

  abbrev values : Values
  values = values_shown app shown (repeated old.host.message) old.host.values

  abbrev wants : WantedScreen
  wants = wanted_by app (when_shown refuser) shown (repeated old.host.message) false values

  paintable : IsPaintable wants.size Shadow.NothingKnown wants
  paintable = (given.belief.fit app refuser again is).0

  abbrev no_messages : List ToTerminal
  no_messages = []

  silent_down : IsInFlight old.lost no_messages no_messages
  silent_down = record { vanished = []; whole = refl; none = λ live. refl }

  here_model : model_in refuser ≡ old.term.display.model
  here_model = model_here old r.session r.at.host_talk

  kept_again : ConnectionInvariant app (view_of shown_again)
  kept_again = record {
    whole = r.kept.whole;
    cursor = r.kept.cursor;
    unreturned = r.kept.unreturned;
    as_left = r.kept.as_left;
    exact = record { known = given.belief.nothing_exact.0; protected = given.belief.nothing_exact.1 };
    unrestored = r.kept.unrestored;
    wanted = r.kept.wanted;
    moment = LinkPhase.InSession r.session (SessionPhase.Painting refuser.next_seq (paint (cells_in wants.size) Shadow.NothingKnown wants) wants Shadow.NothingKnown);
    sizes = record {
      host = subst (λ (m : Model). IsSizeOf app m wants.size) here_model (given.belief.sizes app refuser again is (subst (λ (m : Model). IsSizeOf app m old.host.size) (sym here_model) r.kept.sizes.host));
      screen = r.kept.sizes.screen;
      same = λ steady. absurd (cc);
    };
    at = record {
      host_talk = r.at.host_talk;
      term_talk = r.at.term_talk;
      turn = refl;
      pending = refl;
      goes_down = more old.lost no_messages no_messages (sending.message ∷ []) silent_down;
      goes_up = r.at.goes_up;
    };
    fact = record {
      lock = r.locked;
      over_is = refl;
      command_is = refl;
      meets = tt;
      closed = λ relies. absurd (cc);
      uncleared = refl;
      doubts = λ changed erased now held. tt;
      paintable = paintable;
    };
    shown = record {
      wants = record {
        conn = refuser;
        same_talk = refl;
        asked = old.host.panel;
        keep = false;
        given = old.host.values;
        is_decided = IsDecided.by_host refl;
        knows = λ keeps. absurd (cc);
        panel_is = refl;
        values_are = refl;
        over_is = refl;
        wanted_is = refl;
      };
      told = λ waits. absurd (let wrong : false ≡ true = sym r.unsure ∙ waits in cc);
    };
  }

  returns_again : HostReturns sending.conn
  returns_again =
      given.belief.paint_returns Shadow.NothingKnown wants old.term.display.screen paintable.showable.cells paintable.fits (is.whole shown values (repeated old.host.message)) (r.marks shown values (repeated old.host.message) false) tt

  keys_added : (later : Bool) (pending : Pending) → is_dropping whose.Terminal pending ≡ true → (up : List ToHost) → AreKeys up → AddsKeys true later whose.Terminal pending [] up
  keys_added later pending drops [] keys = refl
  keys_added later pending drops (message ∷ up) keys =
      let key = keys.0 in
      inl (drops, record { parts = key.parts; is = key.is; form = key.form; key = key.key; fits = λ clear. (refl, λ paints. inl refl) }, keys_added later pending drops up keys.1)

  silent_up : old.up ≡ []
  silent_up = empty_queue old.lost old.up r.at.goes_up

  shows_again : t.link.host ≡ refuser → AreKeys t.link.up → Cleared app lu (sends_so (Some sending))
  shows_again host_is keys = record {
    told = shown_again;
    kept = kept_again;
    agreed = r.agreed;
    any = refl;
    unsure = r.unsure;
    marks = r.marks;
    returning = returns_again;
    display = r.display;
    waits = r.waits ∙ sym (ap is_waiting r.locked);
    bound = r.bound;
    host_here = r.host_here;
    term_here = r.term_here;
    host = HostsAlike.same refl;
    lost = r.lost;
    down = ap (λ (lost : Bool). sent lost t.link.down (sending.message ∷ [])) r.lost ∙ ap (λ (down : List ToTerminal). sent old.lost down (sending.message ∷ [])) r.down;
    talk = r.talk;
    clears = true;
    up = record { said = []; alike = AnswersAlike.by_saying (SaysAlike.same (sym silent_up)); up = keys_added t.cleared sending.conn.pending refl t.link.up keys };
    stage = Stage.gone r.cleared r.locked (HasRead.was_shown refl silent_up) (Fate.erases_next (nothing_erases Shadow.NothingKnown wants refl) silent_up);
    model = r.model;
    rest = λ shown. absurd (shown refl silent_up);
    plain = λ cleared. IsPlain.over_nothing refl refl silent_up;
  }

  -- or it waits for the answer to the paint, and sends nothing
  waits_on : (sends : Session → Option Sent) → ((conn : Session) → is_painting conn.pending ≡ true → sends conn ≡ None) → (Then : LinkWithReport → Type 0) → Then t → (t.link.host ≡ refuser → AreKeys t.link.up → Then (sends_so (sends refuser)))
      → Then (sends_so (sends t.link.host))
  waits_on sends none Then stays goes = by_after r.after
    where
      by_after : AfterPaint old t.link → Then (sends_so (sends t.link.host))
      by_after (AfterPaint.answering number command pends no_erase host_is any behind) =
          subst (λ (what : Option Sent). Then (sends_so what)) (sym (none t.link.host (ap (λ (s : Session). is_painting s.pending) host_is ∙ ap is_painting pends))) stays
      by_after (AfterPaint.refusing host_is keys) = subst (λ (conn : Session). Then (sends_so (sends conn))) (sym host_is) (goes host_is keys)

  pub acts_repeating : (Then : LinkWithReport → Type 0) → ((u : LinkWithReport) → Repeating app lu u → Then u) → ((u : LinkWithReport) → Cleared app lu u → Then u) → Then (sends_so (acted app t.link.host))
  acts_repeating Then repeats clears =
      waits_on (acted app) (no_act app) Then (repeats t r) (λ host_is keys.
      subst (λ (what : Option Sent). Then (sends_so what)) (sym acts_again) (clears (sends_so (Some sending)) (shows_again host_is keys)))

  asks_no_more : is_asking app refuser ≡ false
  asks_no_more = ap (λ (b : Bool). option_map_or is_ask (if b then Some (decision_on app refuser refuser.turn_reason) else None) false) (agrees_there r)

  pub answers_repeating : (said : ApplicationAnswer) → Repeating app lu (sends_so (answered_on app t.link.host said))
  answers_repeating said =
      waits_on (λ (conn : Session). answered_on app conn said) (λ conn. no_answer app conn said) (Repeating app lu) r (λ host_is keys.
      subst (λ (what : Option Sent). Repeating app lu (sends_so what))
      (sym (ap (λ (b : Bool). if b && has_its_panel app said then Some (done app refuser (act_by app refuser said (panel_for app refuser said))) else None) asks_no_more)) r)

  pub notes_repeating : (text : List ℕ) → Repeating app lu (sends_so (noted text t.link.host))
  notes_repeating text = waits_on (noted text) (no_note text) (Repeating app lu) r (λ host_is keys. r)
