-- What the host hears, and what it sends, after Clear in the wait: it can't tell the terminal from one that waits and displays what was told.
use Rattle.std.proofs.Common.{◌≡◌, ◌<◌, ◌⊎◌, inl, inr, ◌&&◌, Bool, true, false, ℕ, Option, None, Some, List, [], ◌∷◌, refl, ap, sym, subst, ◌∙◌, if◌then◌else◌}
use Rattle.std.specs.Option.{option_and_then}
use Rattle.std.specs.Prelude.{is_some}
use Rattle.codes3270.specs.declared.attention.Aid.{Aid}
use Rattle.codes3270.specs.declared.attention.Aid.TheVariants.{NoAid, Enter, Clear, Pf, Pa}
use Rattle.datastream.specs.Grammar.{CommandParts}
use Rattle.codes3270.specs.Size.{cells_in}
use Rattle.datastream.specs.Wanted.{WantedScreen}
use Rattle.datastream.specs.declared.command_code.CommandCode.TheVariants.{EraseWrite, EraseWriteAlternate}
use Rattle.shadow.specs.Belief.{Shadow}
use Rattle.shadow.specs.Exactness.{is_erase}
use Rattle.shadow.specs.Paint.{is_base_size, paint}
use Rattle.tn3270e_msg.specs.declared.cause.Cause.{Cause}
use Rattle.lu_pool.specs.Asking.{answer_to}
use Rattle.lu_pool.specs.HolderLaws.{IsSound}
use Rattle.lu_pool.specs.declared.entry.Entry.{Entry}
use Rattle.host_core.specs.Acts.{Act, Decision, Sent, acted, decided, decision_on, done, known_despite, may_act, values_shown, wanted_by, when_shown}
use Rattle.host_core.specs.Application.{Application, IsApplication}
use Rattle.host_core.specs.Messages.{ToHost, ToTerminal, Verdict}
use Rattle.host_core.specs.Notes.{IsNoteText, may_note, note_command, noted, noted_as}
use Rattle.host_core.specs.Questions.{act_by, answered_on, has_its_panel, is_asking, panel_for}
use Rattle.host_core.specs.Session.{Session, Pending, agreed_lu, is_agreed, model_in}
use Rattle.host_core.specs.Takes.{Answers, HostStep, answered, dropping, if_answers, is_unread, may_be_read, may_have_changed, once_agreed, quiet, refused, response_came, took as host_took}
use Rattle.host_core.specs.declared.question.Answer.{Answer as ApplicationAnswer}
use Rattle.host_core.specs.declared.turn.Turn.{Turn}
use Rattle.host_core.specs.declared.turn.Turn.TheVariants as whose
use Rattle.host_core.specs.declared.unheard.Unheard.{Unheard}
use Rattle.host_core.specs.declared.unheard.Unheard.TheVariants as unheards
use Rattle.world3270.specs.statement.EveryTerminal.{LinkWithReport, is_clear, is_pa}
use Rattle.world3270.specs.statement.Shown.{is_painting}
use Rattle.world3270.specs.refinement.LowerLaws.{LowerLaws}
use Rattle.world3270.specs.model.Link.{Link, cut, host_left_if, host_sent, host_stepped, sent}
use Rattle.world3270.specs.model.Terminal.{Display, TermEnd, bound_to}
use Rattle.world3270.specs.refinement.Invariant.{ConnectionInvariant}
use Rattle.world3270.specs.refinement.Phases.{Kind}
use Rattle.world3270.specs.refinement.View.{view_of}
use Rattle.world3270.proofs.Acting.{acts, answers_are_shown, asking_parts, loses, may_act_at, may_act_when}
use Rattle.world3270.proofs.Cleared.{Cleared, Follows, HasRead, HearsOfClear, HostsAlike, IsPlain, PaintAnswered, Stage, agrees_still, but_belief, hearing_clear, hears_of_clear, may_change, paint_answers, still_cleared}
use Rattle.world3270.proofs.ClearedQueue.{AddsKeys, AnswersAlike, DoesNoHarm, IsAnyKey, SaysToo, answers_hearing, answers_dropped, answers_heard, answers_silent, answers_unread, answer_first, answer_lost, answer_next, clear_dropped, clears_behind, erases, no_clear_first, noted_keys, only_keys, second_keys, second_of}
use Rattle.world3270.proofs.ClearsDue.{Fate, clears_due, clears_in, due_behind, due_dropped, erases_no_more}
use Rattle.world3270.proofs.HeardTurns.{GoesOn, goes_on, is_data}
use Rattle.world3270.proofs.HostSteps.{act_changed, just_talks, still_changed}
use Rattle.world3270.proofs.Noting.{notes}
use Rattle.world3270.proofs.OneOfMany.{same_number}
use Rattle.world3270.proofs.OverNothing.{same_taken}
use Rattle.world3270.proofs.Queues.{nothing_sent}
use Rattle.world3270.proofs.Returning.{HostReturns, returns_acted, returns_heard, returns_noted}
use Rattle.world3270.proofs.SecondKeys.{IsSecondKey, SaysAlike, is_dropping, is_key, is_reading, pending_after, second_key_dropped, turn_after, unless_read}
use Rattle.world3270.proofs.SimulatedHost.{act_drops, act_talk, may_note_when, nothing_up}
use Rattle.world3270.proofs.Simulation.{HeardAlike, heads}
use Rattle.world3270.proofs.Up.{Answered, answers, host_view, response_took}

-- Clear or another key
pub data IsClearOr (aid : Aid) : Type 0 where
  pressed_clear : aid ≡ Clear → IsClearOr aid
  pressed_another : (aid ≡ Clear → ⊥) → IsClearOr aid

pub clear_or : (aid : Aid) → IsClearOr aid
clear_or Clear = IsClearOr.pressed_clear refl
clear_or NoAid = IsClearOr.pressed_another (λ is. absurd (cc))
clear_or Enter = IsClearOr.pressed_another (λ is. absurd (cc))
clear_or (Pf number) = IsClearOr.pressed_another (λ is. absurd (cc))
clear_or (Pa number) = IsClearOr.pressed_another (λ is. absurd (cc))

-- what both say is nothing if the waiting terminal says nothing, and the other way round
silent_told : (conn : Session) (told said real : List ToHost) → said ≡ [] → AnswersAlike conn told said real → told ≡ []
silent_told conn told said real none (AnswersAlike.by_saying (SaysAlike.same is)) = sym is ∙ none
silent_told conn told said real none (AnswersAlike.by_saying (SaysAlike.checked number one other rest pends skips one_kept other_kept is_told is_said)) = absurd (let wrong = sym is_said ∙ none in cc)
silent_told conn told said real none (AnswersAlike.behind_clear number one other rest pends skips one_kept is_told is_said heard) = absurd (let wrong = sym is_said ∙ none in cc)

-- where a paint erases, one waits for its answer
pub paints_so : (pending : Pending) → erases pending ≡ true → is_painting pending ≡ true
paints_so (Pending.Writing number command) is = refl
paints_so Pending.Nothing is = absurd (cc)
paints_so (Pending.Reading number) is = absurd (cc)
paints_so (Pending.Noting number command) is = absurd (cc)

-- ---- an answered paint that erased

only_input : (unheard : Unheard) → may_have_changed unheard ≡ true → may_be_read unheard ≡ true → unheard ≡ unheards.Input
only_input unheards.Nothing any may = absurd (cc)
only_input unheards.Input any may = refl
only_input unheards.Clear any may = absurd (cc)

erases_is : (pending : Pending) (number : ℕ) (command : CommandParts) → pending ≡ Pending.Writing number command → erases pending ≡ true → is_erase command.code ≡ true
erases_is pending number command is erasing = sym (ap erases is) ∙ erasing

-- A host makes the same of the answer to an erase, whatever it believed before, and whether or not it has heard of Clear.
erase_answered_so : (pool : Answers) (told : Session) (shadow : Shadow) (unheard : Unheard) (number : ℕ) (command : CommandParts) → is_agreed told.talk.state ≡ true → told.pending ≡ Pending.Writing number command → is_erase command.code ≡ true
    → may_have_changed told.unheard ≡ true → may_be_read told.unheard ≡ true → may_have_changed unheard ≡ true
    → host_took pool (record told { shadow = shadow; unheard = unheard }) (ToHost.Response number Verdict.Positive) ≡ host_took pool told (ToHost.Response number Verdict.Positive)
erase_answered_so pool told shadow unheards.Nothing number command agrees pends is any may changed = absurd (cc)
erase_answered_so pool told shadow unheards.Input number command agrees pends is any may changed =
    ap (λ (b : Bool). once_agreed b (response_came number Verdict.Positive told.pending (record told { shadow = shadow; unheard = unheards.Input })) (record told { shadow = shadow; unheard = unheards.Input })) agrees
    ∙ ap (λ (p : Pending). response_came number Verdict.Positive p (record told { shadow = shadow; unheard = unheards.Input })) pends
    ∙ ap (λ (b : Bool). if_answers b (quiet (answered command (record told { shadow = shadow; unheard = unheards.Input }))) (record told { shadow = shadow; unheard = unheards.Input })) (same_number number)
    ∙ ap (λ (s : Shadow). quiet (record told { shadow = s; unheard = unheards.Input; pending = Pending.Nothing })) (same_taken (cells_in told.size) command shadow told.shadow is)
    ∙ ap (λ (u : Unheard). quiet (answered command (record told { unheard = u }))) (sym (only_input told.unheard any may))
    ∙ sym (response_took pool told Kind.APaint number command agrees pends may)
erase_answered_so pool told shadow unheards.Clear number command agrees pends is any may changed =
    ap (λ (b : Bool). once_agreed b (response_came number Verdict.Positive told.pending (record told { shadow = shadow; unheard = unheards.Clear })) (record told { shadow = shadow; unheard = unheards.Clear })) agrees
    ∙ ap (λ (p : Pending). response_came number Verdict.Positive p (record told { shadow = shadow; unheard = unheards.Clear })) pends
    ∙ ap (λ (b : Bool). if_answers b (quiet (if is_erase command.code then answered command (record told { shadow = shadow; unheard = unheards.Input }) else refused (record told { shadow = shadow; unheard = unheards.Clear }))) (record told { shadow = shadow; unheard = unheards.Clear }))
    (same_number number)
    ∙ ap (λ (b : Bool). quiet (if b then answered command (record told { shadow = shadow; unheard = unheards.Input }) else refused (record told { shadow = shadow; unheard = unheards.Clear }))) is
    ∙ ap (λ (s : Shadow). quiet (record told { shadow = s; unheard = unheards.Input; pending = Pending.Nothing })) (same_taken (cells_in told.size) command shadow told.shadow is)
    ∙ ap (λ (u : Unheard). quiet (answered command (record told { unheard = u }))) (sym (only_input told.unheard any may))
    ∙ sym (response_took pool told Kind.APaint number command agrees pends may)

-- a paint over nothing erases
pub nothing_erases : (over : Shadow) (wanted : WantedScreen) → over ≡ Shadow.NothingKnown → is_erase (paint (cells_in wanted.size) over wanted).code ≡ true
nothing_erases over wanted is = ap (λ (s : Shadow). is_erase (paint (cells_in wanted.size) s wanted).code) is ∙ by_base (is_base_size wanted.size)
  where
    by_base : (b : Bool) → is_erase (if b then EraseWrite else EraseWriteAlternate) ≡ true
    by_base true = refl
    by_base false = refl

known_nothing : (unheard : Unheard) (shadow : Shadow) → may_be_read unheard ≡ false → known_despite unheard shadow ≡ Shadow.NothingKnown
known_nothing unheards.Clear shadow heard = refl
known_nothing unheards.Nothing shadow heard = absurd (cc)
known_nothing unheards.Input shadow heard = absurd (cc)

pub key_unclear : (aid : Aid) → is_key aid ≡ true → is_clear aid ≡ false
key_unclear Enter key = refl
key_unclear (Pf number) key = refl
key_unclear (Pa number) key = refl
key_unclear NoAid key = refl
key_unclear Clear key = absurd (cc)

-- what is heard leaves the host its turn
turns_then : (message : ToHost) (turn : Turn) → turn ≡ whose.Host → turn_after message turn ≡ whose.Host
turns_then (ToHost.Data parts) turn turns = refl
turns_then (ToHost.Response number verdict) turn turns = turns
turns_then (ToHost.TalksUp saying) turn turns = turns

-- ---- the host hears

module _ (given : LowerLaws) (app : Application) (is_app : IsApplication app) (lu : List ℕ) (t : LinkWithReport) (c : Cleared app lu t) where
  abbrev told : Link
  told = c.told

  abbrev now : Link
  now = t.link

  agreed_now : is_agreed now.host.talk.state ≡ true
  agreed_now = ap (λ (s : Session). is_agreed s.talk.state) (but_belief told now.host c.host) ∙ agrees_still c

  abbrev heard_by : Session → Option Cause → List ToTerminal → List ToHost → LinkWithReport
  heard_by conn closes sends rest = record t { link = host_left_if closes (record now { up = rest; host = conn; down = sent now.lost now.down sends }) }

  -- the host is this one then, and the waiting terminal's that one
  dropped_so : (waiting : Session) (conn : Session) (rest : List ToHost) → ConnectionInvariant app (view_of (record told { host = waiting })) → waiting.talk ≡ told.host.talk → waiting.pending ≡ told.host.pending → waiting.shadow ≡ told.host.shadow → may_have_changed waiting.unheard ≡ true
      → HostsAlike (record told { host = waiting }) conn → HostReturns waiting → (says : SaysToo c.clears t.cleared waiting told.up rest) → (Fate told c.up.said now → Fate (record told { host = waiting }) says.said (heard_by conn None [] rest).link)
      → (HasRead t told → HasRead (heard_by conn None [] rest) (record told { host = waiting })) → Cleared app lu (heard_by conn None [] rest)
  dropped_so waiting conn rest kept talk pending shadow any alike returns says fate read =
      still_cleared app lu t c (record told { host = waiting }) (heard_by conn None [] rest).link c.clears refl refl refl refl kept talk any alike c.lost (nothing_sent now.lost now.down ∙ c.down) returns says (by_stage c.stage)
      (λ shown paints none. shown (ap is_painting pending ∙ paints) none) by_plain
    where
      by_plain : IsPlain told now.term.display.screen → IsPlain (record told { host = waiting }) now.term.display.screen
      by_plain (IsPlain.bare none size) = IsPlain.bare none size
      by_plain (IsPlain.over_nothing nothing paints silent) = IsPlain.over_nothing (shadow ∙ nothing) (ap is_painting pending ∙ paints) silent

      by_stage : Stage t told c.up.said → Stage (heard_by conn None [] rest) (record told { host = waiting }) says.said
      by_stage (Stage.gone cleared locked has_read was) = Stage.gone cleared locked (read has_read) (fate was)
      by_stage (Stage.erased uncleared erasing silent since) = Stage.erased uncleared (ap erases pending ∙ erasing) silent since

  -- another second key is dropped
  drops_key : (pool : Answers) (message : ToHost) (rest : List ToHost) → now.up ≡ message ∷ rest → is_dropping told.host.turn told.host.pending ≡ true → IsSecondKey message → AddsKeys c.clears t.cleared told.host.turn told.host.pending c.up.said rest
      → Cleared app lu (record t { link = host_stepped (host_took pool now.host message) rest now })
  drops_key pool message rest queue drops second x =
      let is : host_took pool now.host message ≡ dropping second.parts.aid now.host =
      second_key_dropped pool now.host message second agreed_now (may_change told now.host c.host c.any) (ap (λ (s : Session). is_dropping s.turn s.pending) (but_belief told now.host c.host) ∙ drops) in
      subst (λ (step : HostStep). Cleared app lu (record t { link = host_stepped step rest now })) (sym is)
      (dropped_so told.host now.host rest c.kept refl refl refl c.any c.host c.returning (record { said = c.up.said; alike = answers_dropped told.host told.up c.up.said message second.parts rest second.is second.form (key_unclear second.parts.aid second.key) (subst (AnswersAlike told.host told.up c.up.said) queue c.up.alike); up = x }) fate read)
    where
      read : HasRead t told → HasRead (heard_by now.host None [] rest) told
      read (HasRead.no_pa none) = HasRead.no_pa none
      read (HasRead.was_read turns was) = HasRead.was_read turns was
      read (HasRead.was_shown paints silent) = HasRead.was_shown paints silent
      read (HasRead.is_read turns reads silent first) =
          HasRead.is_read turns reads silent
          (answer_next now.lost message second.parts rest second.is second.form (key_unclear second.parts.aid second.key) (subst (λ (up : List ToHost). answer_first now.lost up ≡ true) queue first))

      fate : Fate told c.up.said now → Fate told c.up.said (heard_by now.host None [] rest).link
      fate (Fate.is_lost is) = Fate.is_lost is
      fate (Fate.is_due due) =
          Fate.is_due (due_dropped (erases told.host.pending) message second.parts c.up.said rest second.is (λ pending. key_unclear second.parts.aid second.key) (subst (λ (up : List ToHost). clears_due (erases told.host.pending) c.up.said < clears_due (erases told.host.pending) up) queue due))
      fate (Fate.was_heard none unheard) = Fate.was_heard none unheard
      fate (Fate.erases_next erasing none) = Fate.erases_next erasing none

  -- So is Clear, but the host paints the next panel whole.
  drops_clear : (pool : Answers) (message : ToHost) (rest : List ToHost) → now.up ≡ message ∷ rest → is_dropping told.host.turn told.host.pending ≡ true → (key : IsAnyKey c.clears told.host.pending c.up.said message) → key.parts.aid ≡ Clear
      → AddsKeys c.clears t.cleared told.host.turn told.host.pending c.up.said rest → Cleared app lu (record t { link = host_stepped (host_took pool now.host message) rest now })
  drops_clear pool message rest queue drops key clear x = by_painting (is_painting told.host.pending) refl
    where
      dropping_now : is_dropping now.host.turn now.host.pending ≡ true
      dropping_now = ap (λ (s : Session). is_dropping s.turn s.pending) (but_belief told now.host c.host) ∙ drops

      painting_now : is_painting now.host.pending ≡ is_painting told.host.pending
      painting_now = ap (λ (s : Session). is_painting s.pending) (but_belief told now.host c.host)

      harmless : DoesNoHarm told.host.pending told.up
      harmless paints = by_said ((key.fits clear).1 paints)
        where
          by_said : (c.up.said ≡ []) ⊎ (erases told.host.pending ≡ true) → (told.up ≡ []) ⊎ (erases told.host.pending ≡ true)
          by_said (inl none) = inl (silent_told told.host told.up c.up.said now.up none c.up.alike)
          by_said (inr erasing) = inr erasing

      -- while a paint waits for its answer
      hosts_hearing : is_painting told.host.pending ≡ true → HostsAlike told now.host → HostsAlike told (hearing_clear now.host)
      hosts_hearing paints (HostsAlike.same is) = HostsAlike.crossed paints harmless (ap hearing_clear is)
      hosts_hearing paints (HostsAlike.crossed painting harmless is) = HostsAlike.crossed paints harmless (ap hearing_clear is)
      hosts_hearing paints (HostsAlike.erasing is_erasing is any) = HostsAlike.erasing is_erasing (ap hearing_clear is) refl

      -- or none does
      hearing_alike : is_painting told.host.pending ≡ false → HostsAlike told now.host → hearing_clear now.host ≡ hearing_clear told.host
      hearing_alike none (HostsAlike.same is) = ap hearing_clear is
      hearing_alike none (HostsAlike.crossed paints harmless is) = ap hearing_clear is
      hearing_alike none (HostsAlike.erasing is_erasing is any) = absurd (let wrong : false ≡ true = sym none ∙ paints_so told.host.pending is_erasing in cc)

      goes : Cleared app lu (heard_by (hearing_clear now.host) None [] rest) → (is_painting now.host.pending ≡ false → is_unread now.host.turn_reason ≡ false) → Cleared app lu (record t { link = host_stepped (host_took pool now.host message) rest now })
      goes so read =
          subst (λ (step : HostStep). Cleared app lu (record t { link = host_stepped step rest now }))
          (sym (clear_dropped pool now.host message key.parts key.is key.form clear agreed_now (may_change told now.host c.host c.any) dropping_now read)) so

      -- where no erase waits for its answer, the host has heard of it
      fate_at : (waiting : Session) → waiting.pending ≡ told.host.pending → (erasing : Bool) → erases told.host.pending ≡ erasing → Fate told c.up.said now → Fate (record told { host = waiting }) c.up.said (heard_by (hearing_clear now.host) None [] rest).link
      fate_at waiting same erasing is (Fate.is_lost lost) = Fate.is_lost lost
      fate_at waiting same false is was = Fate.was_heard (ap erases same ∙ is) refl
      fate_at waiting same true is (Fate.is_due due) =
          Fate.is_due (subst (λ (p : Pending). clears_due (erases p) c.up.said < clears_due (erases p) rest) (sym same)
          (due_dropped (erases told.host.pending) message key.parts c.up.said rest key.is (λ none. absurd (let wrong : true ≡ false = sym is ∙ none in cc))
          (subst (λ (up : List ToHost). clears_due (erases told.host.pending) c.up.said < clears_due (erases told.host.pending) up) queue due)))
      fate_at waiting same true is (Fate.was_heard none unheard) = absurd (let wrong : true ≡ false = sym is ∙ none in cc)
      fate_at waiting same true is (Fate.erases_next erasing none) = Fate.erases_next (ap erases same ∙ is) none

      -- no answer to a Read Buffer is behind it
      none_behind : {Then : Type 0} → answer_first now.lost now.up ≡ true → Then
      none_behind first = no_clear_first now.lost message key.parts rest key.is key.form clear (subst (λ (up : List ToHost). answer_first now.lost up ≡ true) queue first)

      read_before : is_painting told.host.pending ≡ false → Stage t told c.up.said → (is_pa told.term.display.screen.aid ≡ false) ⊎ (is_unread told.host.turn_reason ≡ false)
      read_before none (Stage.gone cleared locked (HasRead.no_pa it) fate) = inl (ap (λ (d : Display). is_pa d.screen.aid) c.display ∙ it)
      read_before none (Stage.gone cleared locked (HasRead.was_read turns was) fate) = inr was
      read_before none (Stage.gone cleared locked (HasRead.is_read turns reads silent first) fate) = none_behind first
      read_before none (Stage.gone cleared locked (HasRead.was_shown paints silent) fate) = absurd (let wrong : false ≡ true = sym none ∙ paints in cc)
      read_before none (Stage.erased uncleared erasing silent since) = absurd (let wrong : false ≡ true = sym none ∙ paints_so told.host.pending erasing in cc)

      read_still : HasRead t told → HasRead (heard_by (hearing_clear now.host) None [] rest) told
      read_still (HasRead.no_pa none) = HasRead.no_pa none
      read_still (HasRead.was_read turns was) = HasRead.was_read turns was
      read_still (HasRead.is_read turns reads silent first) = none_behind first
      read_still (HasRead.was_shown paints silent) = HasRead.was_shown paints silent

      read_hearing : is_painting told.host.pending ≡ false → HasRead t told → HasRead (heard_by (hearing_clear now.host) None [] rest) (record told { host = hearing_clear told.host })
      read_hearing none (HasRead.no_pa it) = HasRead.no_pa it
      read_hearing none (HasRead.was_read turns was) = HasRead.was_read turns was
      read_hearing none (HasRead.is_read turns reads silent first) = none_behind first
      read_hearing none (HasRead.was_shown paints silent) = absurd (let wrong : false ≡ true = sym none ∙ paints in cc)

      -- while a paint waits for its answer, no read does
      alike_painting : is_painting told.host.pending ≡ true → AnswersAlike told.host told.up c.up.said rest
      alike_painting paints =
          AnswersAlike.by_saying (SaysAlike.same (answers_unread told.host told.up c.up.said now.up (λ number reads. absurd (let wrong : false ≡ true = sym (ap is_painting reads) ∙ paints in cc)) c.up.alike))

      by_painting : (paints : Bool) → is_painting told.host.pending ≡ paints → Cleared app lu (record t { link = host_stepped (host_took pool now.host message) rest now })
      by_painting true paints =
          goes (dropped_so told.host (hearing_clear now.host) rest c.kept refl refl refl c.any
          (hosts_hearing paints c.host) c.returning
          (record { said = c.up.said; alike = alike_painting paints; up = x }) (fate_at told.host refl (erases told.host.pending) refl) read_still)
          (λ none. absurd (let wrong : true ≡ false = sym (painting_now ∙ paints) ∙ none in cc))
      by_painting false none =
          let hears : HearsOfClear app told = hears_of_clear app told c.kept c.any (read_before none c.stage) drops none in
          goes (dropped_so (hearing_clear told.host) (hearing_clear now.host) rest hears.kept refl refl refl refl (HostsAlike.same (hearing_alike none c.host)) c.returning
          (record { said = c.up.said; alike = answers_hearing told.host told.up c.up.said now.up rest c.any c.up.alike; up = x }) (fate_at (hearing_clear told.host) refl (erases told.host.pending) refl) (read_hearing none))
          (λ unpainted. ap (λ (s : Session). is_unread s.turn_reason) (but_belief told now.host c.host) ∙ hears.read)

  -- Any other message is heard of both; of what the waiting terminal says first the host makes the same.
  hears_both : (entries : List Entry) → IsSound entries → (message : ToHost) → host_took (answer_to entries) now.host message ≡ host_took (answer_to entries) told.host message → (rest others : List ToHost) → now.up ≡ message ∷ rest → c.up.said ≡ message ∷ others
      → HeardAlike (answer_to entries) told.host told.up message others
      → AddsKeys (clears_behind message c.clears t.cleared) t.cleared (turn_after message told.host.turn) (pending_after message told.host.pending) others rest
      → Follows app lu (record t { link = host_stepped (host_took (answer_to entries) now.host message) rest now })
  hears_both entries sound message made rest others queue some alike x =
      subst (λ (step : HostStep). Follows app lu (record t { link = host_stepped step rest now })) (alike.same ∙ sym made)
      (subst (λ (closes : Option Cause). Follows app lu (heard_by step.conn closes step.sends rest)) (sym heard.open_end) (by_stage c.stage))
    where
      pool : Answers
      pool = answer_to entries

      first : ToHost
      first = alike.first

      step : HostStep
      step = host_took pool told.host first

      heard : Answered app entries told others step
      heard = answers given app entries sound told first others alike.is c.kept

      goes : GoesOn pool told.host first
      goes = goes_on given app pool told first others alike.is c.kept (agrees_still c)

      up : AddsKeys (clears_behind message c.clears t.cleared) t.cleared step.conn.turn step.conn.pending others rest
      up =
          subst (λ (turn : Turn). AddsKeys (clears_behind message c.clears t.cleared) t.cleared turn step.conn.pending others rest) (sym (goes.turn ∙ alike.turn))
          (subst (λ (pending : Pending). AddsKeys (clears_behind message c.clears t.cleared) t.cleared (turn_after message told.host.turn) pending others rest) (sym (goes.pending ∙ alike.pending)) x)

      down : sent now.lost now.down step.sends ≡ sent told.lost told.down step.sends
      down = ap (λ (lost : Bool). sent lost now.down step.sends) c.lost ∙ ap (λ (down : List ToTerminal). sent told.lost down step.sends) c.down

      returns : HostReturns step.conn
      returns = returns_heard given app is_app pool told first others alike.is c.kept (agrees_still c) c.returning

      any : may_have_changed step.conn.unheard ≡ true
      any = (just_talks pool told.host first).unheard ∙ c.any

      pending_is : step.conn.pending ≡ pending_after message told.host.pending
      pending_is = goes.pending ∙ alike.pending

      -- where the host has heard of Clear, and no paint waits for its answer
      unheard_is : erases told.host.pending ≡ false → HostsAlike told now.host → step.conn.unheard ≡ now.host.unheard
      unheard_is none (HostsAlike.same is) = goes.unheard ∙ sym (ap (λ (s : Session). s.unheard) is)
      unheard_is none (HostsAlike.crossed paints harmless is) = by_harm (harmless paints)
        where
          by_harm : (told.up ≡ []) ⊎ (erases told.host.pending ≡ true) → step.conn.unheard ≡ now.host.unheard
          by_harm (inl silent) = absurd (let wrong = sym silent ∙ alike.is in cc)
          by_harm (inr erasing) = absurd (let wrong : false ≡ true = sym none ∙ erasing in cc)
      unheard_is none (HostsAlike.erasing is_erasing is any) = absurd (let wrong : false ≡ true = sym none ∙ is_erasing in cc)

      fate : Fate told c.up.said now → Fate (host_view step others told) others (heard_by step.conn None step.sends rest).link
      fate (Fate.is_lost lost) = Fate.is_lost lost
      fate (Fate.is_due due) =
          Fate.is_due (subst (λ (p : Pending). clears_due (erases p) others < clears_due (erases p) rest) (sym pending_is)
          (due_behind message told.host.pending others rest
          (subst (λ (up : List ToHost). clears_due (erases told.host.pending) (message ∷ others) < clears_due (erases told.host.pending) up) queue
          (subst (λ (said : List ToHost). clears_due (erases told.host.pending) said < clears_due (erases told.host.pending) now.up) some due))))
      fate (Fate.was_heard none unheard) = Fate.was_heard (ap erases pending_is ∙ erases_no_more message told.host.pending none) (ap may_be_read (unheard_is none c.host) ∙ unheard)
      fate (Fate.erases_next erasing silent) = absurd (let wrong = sym silent ∙ alike.is in cc)

      -- something was displayed, and not painted over
      shown_before : is_painting told.host.pending ≡ true → told.up ≡ [] → ⊥
      shown_before paints silent = absurd (let wrong = sym silent ∙ alike.is in cc)

      by_plain : IsPlain told now.term.display.screen → IsPlain (host_view step others told) now.term.display.screen
      by_plain (IsPlain.bare none size) = IsPlain.bare none size
      by_plain (IsPlain.over_nothing nothing paints silent) = absurd (shown_before paints silent)

      -- after a Read Buffer was answered the screen is read
      read_on : HasRead t told → HasRead (heard_by step.conn None step.sends rest) (host_view step others told)
      read_on (HasRead.no_pa none) = HasRead.no_pa none
      read_on (HasRead.was_shown paints silent) = absurd (shown_before paints silent)
      read_on (HasRead.was_read turns was) = by_data (is_data first) refl
        where
          by_data : (b : Bool) → is_data first ≡ b → HasRead (heard_by step.conn None step.sends rest) (host_view step others told)
          by_data true of_data = HasRead.was_read (goes.turn ∙ turns_then first told.host.turn turns) (goes.reads of_data turns)
          by_data false other = HasRead.was_read (goes.turn ∙ turns_then first told.host.turn turns) (ap is_unread (goes.reason other) ∙ was)
      read_on (HasRead.is_read turns reads silent first_up) = by_data (is_data first) refl
        where
          by_data : (b : Bool) → is_data first ≡ b → HasRead (heard_by step.conn None step.sends rest) (host_view step others told)
          by_data true of_data = HasRead.was_read (goes.turn ∙ turns_then first told.host.turn turns) (goes.reads of_data turns)
          by_data false other = absurd (let wrong : false ≡ true = sym (goes.answers other) ∙ reads in cc)

      by_stage : Stage t told c.up.said → Follows app lu (heard_by step.conn None step.sends rest)
      by_stage (Stage.gone cleared locked has_read was) =
          Follows.cleared (still_cleared app lu t c (host_view step others told) (heard_by step.conn None step.sends rest).link (clears_behind message c.clears t.cleared) refl refl refl refl heard.kept goes.talk any
          (HostsAlike.same refl) c.lost down returns (record { said = others; alike = AnswersAlike.by_saying (SaysAlike.same refl); up = up }) (Stage.gone cleared locked (read_on has_read) (fate was)) (λ shown. shown_before) by_plain)
      by_stage (Stage.erased uncleared erasing silent since) = Follows.simulated (record {
        told = host_view step others told;
        kept = heard.kept;
        agreed = ap (λ talk. agreed_lu talk.state) goes.talk ∙ c.agreed;
        any = any;
        unsure = c.unsure;
        marks = c.marks;
        returning = returns;
        display = c.display;
        waits = c.waits;
        uncleared = uncleared;
        blank = λ unbound. absurd (let wrong : false ≡ true = sym unbound ∙ (ap (λ talk. is_some (bound_to talk.talk.state)) c.talk ∙ c.bound) in cc);
        host_here = c.host_here;
        term_here = c.term_here;
        simulates = record {
          host = refl;
          lost = c.lost;
          down = down;
          talk = c.talk;
          up = record {
            said = others;
            alike = SaysAlike.same refl;
            up = second_keys step.conn.turn step.conn.pending others rest
                (subst (λ (b : Bool). AddsKeys b false step.conn.turn step.conn.pending others rest) (behind_answer uncleared)
                (subst (λ (b : Bool). AddsKeys (clears_behind message c.clears t.cleared) b step.conn.turn step.conn.pending others rest) uncleared up));
          };
          since = since;
        };
      })
        where
          -- what is said first is the answer
          answers_it : PaintAnswered told first
          answers_it = paint_answers app told first others c.kept (paints_so told.host.pending erasing) alike.is

          by_message : (message : ToHost) → pending_after first told.host.pending ≡ pending_after message told.host.pending → clears_behind message c.clears t.cleared ≡ false
          by_message (ToHost.Response number verdict) same = uncleared
          by_message (ToHost.Data parts) same =
              absurd (let wrong : Pending.Nothing ≡ unless_read told.host.pending = sym (ap (λ (m : ToHost). pending_after m told.host.pending) answers_it.first_is) ∙ same in let clash = wrong ∙ ap unless_read answers_it.pending in cc)
          by_message (ToHost.TalksUp saying) same =
              absurd (let wrong : Pending.Nothing ≡ told.host.pending = sym (ap (λ (m : ToHost). pending_after m told.host.pending) answers_it.first_is) ∙ same in let clash = wrong ∙ answers_it.pending in cc)

          behind_answer : t.cleared ≡ false → clears_behind message c.clears t.cleared ≡ false
          behind_answer never = by_message message alike.pending

  -- the host makes the same of it, whether or not it has heard of Clear
  made_alike : (entries : List Entry) (message : ToHost) (others : List ToHost) → c.up.said ≡ message ∷ others → HeardAlike (answer_to entries) told.host told.up message others
      → host_took (answer_to entries) now.host message ≡ host_took (answer_to entries) told.host message
  made_alike entries message others some alike = by_host c.host
    where
      pool : Answers
      pool = answer_to entries

      -- both say the same, since no read is pending
      message_is : (it : PaintAnswered told alike.first) → message ≡ ToHost.Response it.number Verdict.Positive
      message_is it =
          heads message alike.first others others
          (sym some ∙ answers_unread told.host told.up c.up.said now.up (λ number reads. absurd (let wrong : Pending.Reading number ≡ Pending.Writing it.number it.command = sym reads ∙ it.pending in cc)) c.up.alike ∙ alike.is)
          ∙ it.first_is

      by_erase : (shadow : Shadow) (unheard : Unheard) → now.host ≡ record told.host { shadow = shadow; unheard = unheard } → may_have_changed unheard ≡ true → erases told.host.pending ≡ true → host_took pool now.host message ≡ host_took pool told.host message
      by_erase shadow unheard is changed erasing =
          let it : PaintAnswered told alike.first = paint_answers app told alike.first others c.kept (paints_so told.host.pending erasing) alike.is in
          ap (λ (s : Session). host_took pool s message) is
          ∙ ap (λ (m : ToHost). host_took pool (record told.host { shadow = shadow; unheard = unheard }) m) (message_is it)
          ∙ erase_answered_so pool told.host shadow unheard it.number it.command (agrees_still c) it.pending (erases_is told.host.pending it.number it.command it.pending erasing) c.any it.uncleared changed
          ∙ ap (λ (m : ToHost). host_took pool told.host m) (sym (message_is it))

      by_host : HostsAlike told now.host → host_took pool now.host message ≡ host_took pool told.host message
      by_host (HostsAlike.same is) = ap (λ (s : Session). host_took pool s message) is
      by_host (HostsAlike.crossed paints harmless is) = by_harm (harmless paints)
        where
          by_harm : (told.up ≡ []) ⊎ (erases told.host.pending ≡ true) → host_took pool now.host message ≡ host_took pool told.host message
          by_harm (inl none) = absurd (let wrong = sym none ∙ alike.is in cc)
          by_harm (inr erasing) = by_erase told.host.shadow unheards.Clear is refl erasing
      by_host (HostsAlike.erasing is_erasing is any) = by_erase now.host.shadow now.host.unheard is any is_erasing

  pub hears_cleared : (entries : List Entry) → IsSound entries → (message : ToHost) (rest : List ToHost) → now.up ≡ message ∷ rest
      → Follows app lu (record t { link = host_stepped (host_took (answer_to entries) now.host message) rest now })
  hears_cleared entries sound message rest is = by_extra (subst (λ (up : List ToHost). AddsKeys c.clears t.cleared told.host.turn told.host.pending c.up.said up) is c.up.up)
    where
      by_key : is_dropping told.host.turn told.host.pending ≡ true → (key : IsAnyKey c.clears told.host.pending c.up.said message) → AddsKeys c.clears t.cleared told.host.turn told.host.pending c.up.said rest → IsClearOr key.parts.aid
          → Cleared app lu (record t { link = host_stepped (host_took (answer_to entries) now.host message) rest now })
      by_key drops key x (IsClearOr.pressed_clear pressed) = drops_clear (answer_to entries) message rest is drops key pressed x
      by_key drops key x (IsClearOr.pressed_another unclear) = drops_key (answer_to entries) message rest is drops (second_of key unclear) x

      by_extra : AddsKeys c.clears t.cleared told.host.turn told.host.pending c.up.said (message ∷ rest) → Follows app lu (record t { link = host_stepped (host_took (answer_to entries) now.host message) rest now })
      by_extra (inl x) = Follows.cleared (by_key x.0 x.1 x.2 (clear_or x.1.parts.aid))
      by_extra (inr x) =
          let alike = answers_heard (answer_to entries) told.host told.up c.up.said message rest x.0 (agrees_still c) x.1 (subst (AnswersAlike told.host told.up c.up.said) is c.up.alike) in
          hears_both entries sound message (made_alike entries message x.0 x.1 alike) rest x.0 is x.1 alike x.2

-- ---- the host sends

-- while a paint waits for its answer, it sends nothing
pub painting_waits : (turn : Turn) (pending : Pending) (agreed : Bool) → is_painting pending ≡ true → may_act turn pending agreed ≡ false
painting_waits whose.Host Pending.Nothing agreed paints = absurd (cc)
painting_waits whose.Host (Pending.Writing number command) agreed paints = refl
painting_waits whose.Host (Pending.Reading number) agreed paints = absurd (cc)
painting_waits whose.Host (Pending.Noting number command) agreed paints = absurd (cc)
painting_waits whose.Terminal pending agreed paints = refl

painting_notes : (turn : Turn) (pending : Pending) (agreed : Bool) → is_painting pending ≡ true → may_note turn pending agreed ≡ false
painting_notes whose.Terminal Pending.Nothing agreed paints = absurd (cc)
painting_notes whose.Terminal (Pending.Writing number command) agreed paints = refl
painting_notes whose.Terminal (Pending.Reading number) agreed paints = absurd (cc)
painting_notes whose.Terminal (Pending.Noting number command) agreed paints = absurd (cc)
painting_notes whose.Host pending agreed paints = refl

pub no_act : (app : Application) (conn : Session) → is_painting conn.pending ≡ true → acted app conn ≡ None
no_act app conn paints = ap (λ (b : Bool). option_and_then (decided app conn) (if b then Some (decision_on app conn conn.turn_reason) else None)) (painting_waits conn.turn conn.pending (is_agreed conn.talk.state) paints)

pub no_answer : (app : Application) (conn : Session) (said : ApplicationAnswer) → is_painting conn.pending ≡ true → answered_on app conn said ≡ None
no_answer app conn said paints = by_open (is_asking app conn) refl
  where
    by_open : (asks : Bool) → is_asking app conn ≡ asks → (if asks && has_its_panel app said then Some (done app conn (act_by app conn said (panel_for app conn said))) else None) ≡ None
    by_open false none = refl
    by_open true asks =
        absurd (let wrong : false ≡ true = sym (painting_waits conn.turn conn.pending (is_agreed conn.talk.state) paints) ∙ (asking_parts app conn asks).0 in cc)

pub no_note : (text : List ℕ) (conn : Session) → is_painting conn.pending ≡ true → noted text conn ≡ None
no_note text conn paints = ap (λ (b : Bool). if b then Some (noted_as text conn) else None) (painting_notes conn.turn conn.pending (is_agreed conn.talk.state) paints)

module _ (given : LowerLaws) (app : Application) (is : IsApplication app) (lu : List ℕ) (t : LinkWithReport) (c : Cleared app lu t) where
  abbrev end : Link
  end = c.told

  abbrev may_act_now : Bool
  may_act_now = may_act end.host.turn end.host.pending (is_agreed end.host.talk.state)

  abbrev sends_so : Option Sent → LinkWithReport
  sends_so sending = record t { link = host_sent sending t.link }

  -- where no paint waits for its answer, the screen was cleared
  gone_now : {later : LinkWithReport} {link : Link} {said : List ToHost} → is_painting end.host.pending ≡ false → Stage t end c.up.said → later.cleared ≡ t.cleared → link.term ≡ end.term → (Fate end c.up.said t.link → Fate link said later.link)
      → (HasRead t end → HasRead later link) → Stage later link said
  gone_now unpainted (Stage.gone cleared locked has_read was) same term fate read =
      Stage.gone (same ∙ cleared) (ap (λ (e : TermEnd). e.display.keyboard.lock) term ∙ locked) (read has_read) (fate was)
  gone_now unpainted (Stage.erased uncleared erasing silent since) same term fate read = absurd (let wrong : false ≡ true = sym unpainted ∙ paints_so end.host.pending erasing in cc)

  -- both ends send this
  both_send : (sending : Sent) → ConnectionInvariant app (view_of (host_sent (Some sending) end)) → sending.conn.talk ≡ end.host.talk → may_have_changed sending.conn.unheard ≡ true → HostReturns sending.conn
      → AddsKeys c.clears t.cleared sending.conn.turn sending.conn.pending end.up t.link.up → is_painting end.host.pending ≡ false → (Fate end c.up.said t.link → Fate (host_sent (Some sending) end) end.up (host_sent (Some sending) t.link))
      → (HasRead t end → HasRead (sends_so (Some sending)) (host_sent (Some sending) end)) → Cleared app lu (sends_so (Some sending))
  both_send sending kept talk any returning up unpainted fate read =
      still_cleared app lu t c (host_sent (Some sending) end) (host_sent (Some sending) t.link) c.clears refl refl refl refl kept talk any (HostsAlike.same refl) c.lost
      (ap (λ (lost : Bool). sent lost t.link.down (sending.message ∷ [])) c.lost ∙ ap (λ (down : List ToTerminal). sent end.lost down (sending.message ∷ [])) c.down) returning
      (record { said = end.up; alike = AnswersAlike.by_saying (SaysAlike.same refl); up = up }) (gone_now unpainted c.stage refl refl fate read)
      (λ shown paints none. absurd (let wrong : false ≡ true = sym unpainted ∙ paints in cc)) by_plain
    where
      by_plain : IsPlain end t.link.term.display.screen → IsPlain (host_sent (Some sending) end) t.link.term.display.screen
      by_plain (IsPlain.bare none size) = IsPlain.bare none size
      by_plain (IsPlain.over_nothing nothing paints silent) = absurd (let wrong : false ≡ true = sym unpainted ∙ paints in cc)

  -- A host that has heard of Clear knows nothing when it paints.
  fate_acted : (act : Act) → t.link.host ≡ end.host → end.host.pending ≡ Pending.Nothing → end.up ≡ [] → Fate end c.up.said t.link
      → Fate (host_sent (Some (done app end.host act)) end) end.up (host_sent (Some (done app end.host act)) t.link)
  fate_acted act same pends silent (Fate.is_lost lost) = Fate.is_lost lost
  fate_acted act same pends silent (Fate.erases_next erasing none) = absurd (let wrong : false ≡ true = sym (ap erases pends) ∙ erasing in cc)
  fate_acted Act.Read same pends silent (Fate.was_heard none unheard) = Fate.was_heard refl (sym (ap (λ (s : Session). may_be_read s.unheard) same) ∙ unheard)
  fate_acted (Act.Show panel message keep values) same pends silent (Fate.was_heard none unheard) =
      Fate.erases_next (nothing_erases (when_shown end.host).shadow (wanted_by app (when_shown end.host) (app.shown (model_in end.host) panel) message keep (values_shown app (app.shown (model_in end.host) panel) message values))
      (known_nothing end.host.unheard end.host.shadow (sym (ap (λ (s : Session). may_be_read s.unheard) same) ∙ unheard))) silent
  fate_acted act same pends silent (Fate.is_due due) = by_erasing (erases (done app end.host act).conn.pending) refl
    where
      due_now : clears_in end.up < clears_in t.link.up
      due_now =
          subst (λ (said : List ToHost). clears_in said < clears_in t.link.up) (answers_silent end.host end.up c.up.said t.link.up silent c.up.alike ∙ sym silent)
          (subst (λ (b : Bool). clears_due b c.up.said < clears_due b t.link.up) (ap erases pends) due)

      by_erasing : (erasing : Bool) → erases (done app end.host act).conn.pending ≡ erasing → Fate (host_sent (Some (done app end.host act)) end) end.up (host_sent (Some (done app end.host act)) t.link)
      by_erasing true is = Fate.erases_next is silent
      by_erasing false is = Fate.is_due (subst (λ (b : Bool). clears_due b end.up < clears_due b t.link.up) (sym is) due_now)

  read_acted : (act : Act) → end.host.pending ≡ Pending.Nothing → end.up ≡ [] → HasRead t end → HasRead (sends_so (Some (done app end.host act))) (host_sent (Some (done app end.host act)) end)
  read_acted act pends silent (HasRead.no_pa none) = HasRead.no_pa none
  read_acted act pends silent (HasRead.is_read turns reads none first) = absurd (let wrong : false ≡ true = sym (ap is_reading pends) ∙ reads in cc)
  read_acted act pends silent (HasRead.was_shown paints none) = absurd (let wrong : false ≡ true = sym (ap is_painting pends) ∙ paints in cc)
  read_acted Act.Read pends silent (HasRead.was_read turns was) = HasRead.was_read turns was
  read_acted (Act.Show panel message keep values) pends silent (HasRead.was_read turns was) = HasRead.was_shown refl silent

  -- an act
  both_act : (act : Act) → t.link.host ≡ end.host → may_act_now ≡ true → ConnectionInvariant app (view_of (host_sent (Some (done app end.host act)) end)) → Cleared app lu (sends_so (Some (done app end.host act)))
  both_act act same may kept =
      let when = may_act_when end.host.turn end.host.pending (is_agreed end.host.talk.state) may in
      let none : end.up ≡ [] = nothing_up app end c.kept (agrees_still c) when.0 when.1 in
      let sending : Sent = done app end.host act in
      both_send sending kept (act_talk app end.host act) (act_changed app end.host act ∙ c.any)
      (returns_acted given app is c.marks end c.kept (may_act_at given app is end c.kept when.0 when.1 (agrees_still c)) when.0 when.1 (still_changed end.host.unheard ∙ c.any) c.returning act)
      (subst (λ (told : List ToHost). AddsKeys c.clears t.cleared sending.conn.turn sending.conn.pending told t.link.up) (sym none)
      (only_keys c.clears t.cleared end.host.turn sending.conn.turn end.host.pending sending.conn.pending t.link.up (act_drops app end.host act when.0)
      (subst (λ (said : List ToHost). AddsKeys c.clears t.cleared end.host.turn end.host.pending said t.link.up) (answers_silent end.host end.up c.up.said t.link.up none c.up.alike) c.up.up)))
      (ap is_painting when.1) (fate_acted act same when.1 none) (read_acted act when.1 none)

  -- a host that has heard of Clear while a paint is under way sends nothing
  waits_on : (sends : Session → Option Sent) → ((conn : Session) → is_painting conn.pending ≡ true → sends conn ≡ None) → (t.link.host ≡ end.host → Cleared app lu (sends_so (sends end.host))) → Cleared app lu (sends_so (sends t.link.host))
  waits_on sends none goes = by_host c.host
    where
      by_host : HostsAlike end t.link.host → Cleared app lu (sends_so (sends t.link.host))
      by_host (HostsAlike.same same) = subst (λ (conn : Session). Cleared app lu (sends_so (sends conn))) (sym same) (goes same)
      by_host (HostsAlike.erasing is_erasing is_now any) =
          subst (λ (sending : Option Sent). Cleared app lu (sends_so sending)) (sym (none t.link.host (ap (λ (s : Session). is_painting s.pending) is_now ∙ paints_so end.host.pending is_erasing))) c
      by_host (HostsAlike.crossed paints harmless is_now) =
          subst (λ (sending : Option Sent). Cleared app lu (sends_so sending)) (sym (none t.link.host (ap (λ (s : Session). is_painting s.pending) is_now ∙ paints))) c

  pub acts_cleared : Cleared app lu (sends_so (acted app t.link.host))
  acts_cleared =
      waits_on (acted app) (no_act app)
      (λ same. by_may same may_act_now refl (decision_on app end.host end.host.turn_reason) (acts given app is end c.kept))
    where
      by_may : t.link.host ≡ end.host → (may : Bool) → may_act_now ≡ may → (decision : Decision)
          → ConnectionInvariant app (view_of (host_sent (option_and_then (decided app end.host) (if may then Some decision else None)) end)) → Cleared app lu (sends_so (option_and_then (decided app end.host) (if may then Some decision else None)))
      by_may same true may (Decision.Do act) kept = both_act act same may kept
      by_may same true may Decision.Asks kept = c
      by_may same false may decision kept = c

  pub answers_cleared : (said : ApplicationAnswer) → Cleared app lu (sends_so (answered_on app t.link.host said))
  answers_cleared said =
      waits_on (λ (conn : Session). answered_on app conn said) (λ conn. no_answer app conn said)
      (λ same. by_open same (is_asking app end.host) refl (has_its_panel app said) (answers_are_shown given app is end c.kept said))
    where
      act : Act
      act = act_by app end.host said (panel_for app end.host said)

      by_open : t.link.host ≡ end.host → (asked : Bool) → is_asking app end.host ≡ asked → (there : Bool) → ConnectionInvariant app (view_of (host_sent (if asked && there then Some (done app end.host act) else None) end))
          → Cleared app lu (sends_so (if asked && there then Some (done app end.host act) else None))
      by_open same true open_now true kept = both_act act same (asking_parts app end.host open_now).0 kept
      by_open same true open_now false kept = c
      by_open same false open_now there kept = c

  pub notes_cleared : (text : List ℕ) → IsNoteText text → Cleared app lu (sends_so (noted text t.link.host))
  notes_cleared text is_text =
      waits_on (noted text) (no_note text)
      (λ same. by_may same (may_note end.host.turn end.host.pending (is_agreed end.host.talk.state)) refl (notes app text is_text end c.kept))
    where
      by_may : t.link.host ≡ end.host → (may : Bool) → may_note end.host.turn end.host.pending (is_agreed end.host.talk.state) ≡ may
          → ConnectionInvariant app (view_of (host_sent (if may then Some (noted_as text end.host) else None) end)) → Cleared app lu (sends_so (if may then Some (noted_as text end.host) else None))
      by_may same false may kept = c
      by_may same true may kept =
          let when = may_note_when end.host.turn end.host.pending (is_agreed end.host.talk.state) may in
          let command = note_command end.host.size text in
          let up : AddsKeys c.clears t.cleared end.host.turn end.host.pending end.up t.link.up =
          subst (λ (said : List ToHost). AddsKeys c.clears t.cleared end.host.turn end.host.pending said t.link.up) (answers_unread end.host end.up c.up.said t.link.up (unread when.1) c.up.alike) c.up.up in
          both_send (noted_as text end.host) kept refl c.any (returns_noted given app is text is_text end c.kept when.0 when.1 c.returning)
          (subst (λ (turn : Turn). AddsKeys c.clears t.cleared turn (Pending.Noting end.host.next_seq command) end.up t.link.up) (sym when.0)
          (noted_keys c.clears t.cleared end.host.next_seq command end.up t.link.up
          (subst (λ (turn : Turn). AddsKeys c.clears t.cleared turn Pending.Nothing end.up t.link.up) when.0 (subst (λ (pending : Pending). AddsKeys c.clears t.cleared end.host.turn pending end.up t.link.up) when.1 up))))
          (ap is_painting when.1) (fate_noted same when.1) (read_noted when.0 when.1)
        where
          read_noted : end.host.turn ≡ whose.Terminal → end.host.pending ≡ Pending.Nothing → HasRead t end → HasRead (sends_so (Some (noted_as text end.host))) (host_sent (Some (noted_as text end.host)) end)
          read_noted turn pends (HasRead.no_pa none) = HasRead.no_pa none
          read_noted turn pends (HasRead.was_read turns was) = absurd (let wrong = sym turn ∙ turns in cc)
          read_noted turn pends (HasRead.is_read turns reads none first) = absurd (let wrong = sym turn ∙ turns in cc)
          read_noted turn pends (HasRead.was_shown paints none) = absurd (let wrong : false ≡ true = sym (ap is_painting pends) ∙ paints in cc)

          unread : end.host.pending ≡ Pending.Nothing → (number : ℕ) → end.host.pending ≡ Pending.Reading number → ⊥
          unread pends number reads = let wrong : Pending.Nothing ≡ Pending.Reading number = sym pends ∙ reads in absurd (cc)

          fate_noted : t.link.host ≡ end.host → end.host.pending ≡ Pending.Nothing → Fate end c.up.said t.link → Fate (host_sent (Some (noted_as text end.host)) end) end.up (host_sent (Some (noted_as text end.host)) t.link)
          fate_noted same pends (Fate.is_lost lost) = Fate.is_lost lost
          fate_noted same pends (Fate.erases_next erasing none) = absurd (let wrong : false ≡ true = sym (ap erases pends) ∙ erasing in cc)
          fate_noted same pends (Fate.was_heard none unheard) = Fate.was_heard refl (sym (ap (λ (s : Session). may_be_read s.unheard) same) ∙ unheard)
          fate_noted same pends (Fate.is_due due) =
              Fate.is_due (subst (λ (said : List ToHost). clears_in said < clears_in t.link.up) (answers_unread end.host end.up c.up.said t.link.up (unread pends) c.up.alike)
              (subst (λ (b : Bool). clears_due b c.up.said < clears_due b t.link.up) (ap erases pends) due))

  pub loses_cleared : Cleared app lu (record t { link = cut t.link })
  loses_cleared = still_cleared app lu t c (cut end) (cut t.link) c.clears refl refl refl refl (loses app (view_of end) c.kept) refl c.any (hosts_lost c.host) refl c.down c.returning c.up (lost_stage c.stage) (λ shown. shown) lost_plain
    where
      lost_plain : IsPlain end t.link.term.display.screen → IsPlain (cut end) t.link.term.display.screen
      lost_plain (IsPlain.bare none size) = IsPlain.bare none size
      lost_plain (IsPlain.over_nothing nothing paints silent) = IsPlain.over_nothing nothing paints silent

      lost_read : HasRead t end → HasRead (record t { link = cut t.link }) (cut end)
      lost_read (HasRead.no_pa none) = HasRead.no_pa none
      lost_read (HasRead.was_read turns was) = HasRead.was_read turns was
      lost_read (HasRead.was_shown paints silent) = HasRead.was_shown paints silent
      lost_read (HasRead.is_read turns reads silent first) = HasRead.is_read turns reads silent (answer_lost t.link.lost t.link.up first)

      lost_stage : Stage t end c.up.said → Stage (record t { link = cut t.link }) (cut end) c.up.said
      lost_stage (Stage.gone cleared locked has_read fate) = Stage.gone cleared locked (lost_read has_read) (Fate.is_lost refl)
      lost_stage (Stage.erased uncleared erasing silent since) = Stage.erased uncleared erasing silent since

      hosts_lost : HostsAlike end t.link.host → HostsAlike (cut end) t.link.host
      hosts_lost (HostsAlike.same same) = HostsAlike.same same
      hosts_lost (HostsAlike.crossed paints harmless is_now) = HostsAlike.crossed paints harmless is_now
      hosts_lost (HostsAlike.erasing is_erasing is_now any) = HostsAlike.erasing is_erasing is_now any
