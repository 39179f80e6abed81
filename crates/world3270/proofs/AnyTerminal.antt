-- A terminal that keeps the rules takes bytes and is operated: the bytes on its connection then represent that over messages after moves that
-- keep the rules.
use Rattle.std.proofs.Common.{◌≡◌, ◌||◌, ◌&&◌, not, ℕ, Bool, true, false, Option, None, Some, List, [], ◌∷◌, ◌++◌, append-nil, refl, ap, sym, subst, ◌∙◌, if◌then◌else◌}
use Rattle.codes3270.specs.Size.{cells_in}
use Rattle.codes3270.specs.declared.attention.Aid.{Aid}
use Rattle.codes3270.specs.declared.attention.Aid.TheVariants.{Clear}
use Rattle.datastream.specs.NoteLaws.{NoteKeepsBounds}
use Rattle.datastream.specs.declared.command_code.CommandCode.TheVariants.{EraseWrite, EraseWriteAlternate}
use Rattle.shadow.specs.Exactness.{is_erase}
use Rattle.shadow.specs.Paint.{paint}
use Rattle.datastream.specs.Screen.{Screen}
use Rattle.lu_pool.specs.Asking.{answer_to}
use Rattle.lu_pool.specs.HolderLaws.{IsSound as IsSoundPool}
use Rattle.lu_pool.specs.declared.entry.Entry.{Entry}
use Rattle.presentation.specs.Sizes.{SizedScreen}
use Rattle.shadow.specs.Pairs.{Pairwise}
use Rattle.std.specs.Prelude.{⊤, All, IfSome}
use Rattle.std.specs.List.{AllByRecursion}
use Rattle.std.proofs.lemmas.List.Elements.{All-cons, All-nil}
use Rattle.telnet_wire.specs.Items.{WireItem, sent_bytes}
use Rattle.telnet_wire.specs.Laws.{ItemsAreRead, WrongIsFinal}
use Rattle.telnet_wire.specs.Reading.{Rest}
use Rattle.tn3270e_msg.specs.TermTable.{Term}
use Rattle.tn3270e_msg.specs.declared.cause.Cause.{Cause}
use Rattle.term_core.specs.State.{Attached}
use Rattle.host_core.specs.Acts.{acted}
use Rattle.host_core.specs.Application.{Application, AreTexts}
use Rattle.host_core.specs.Messages.{ToHost, ToTerminal}
use Rattle.host_core.specs.Notes.{IsNoteText, noted}
use Rattle.host_core.specs.Questions.{answered_on}
use Rattle.host_core.specs.Session.{is_agreed}
use Rattle.host_core.specs.State.{connection_at}
use Rattle.host_core.specs.Takes.{took as host_took}
use Rattle.host_core.specs.declared.question.Answer.{Answer as ApplicationAnswer}
use Rattle.keyboard.specs.State.{Keyboard}
use Rattle.world3270.specs.statement.EveryTerminal.{AreByTheRules, HasAnswered, IsByTheRules, Move, LinkWithReport, after_moves, came_down, executed, is_pa, is_shown, key_pressed, moved, operated, paint_executed, sends_clear, told_if}
use Rattle.world3270.specs.statement.EveryTerminalBytes.{IsDown, IsOperated, OverBytes, Pressed, Represents, Takes, WasPressed, display_of, displaying, end_of, ended_if, ends_wait, has_code, item_completed, link_over, pressed_by, sends_full}
use Rattle.world3270.specs.model.Link.{Link, sent, term_left_if, term_stepped}
use Rattle.world3270.specs.model.Enabled.{is_queued}
use Rattle.world3270.specs.refinement.Readings.{AreReadAs, IsReadAs, MayBeSent}
use Rattle.world3270.specs.statement.Rules.{Operates}
use Rattle.world3270.specs.refinement.Sendable.{CanBeSent}
use Rattle.world3270.specs.refinement.Representation.{with_out}
use Rattle.world3270.specs.refinement.Represents.{BytesDownBy, BytesRepresent, Holds, LinkRepresentsBy, RepresentsDown, RepresentsUp, TermRepresentsBy, without, without_nops}
use Rattle.world3270.specs.refinement.Ignored.{is_ignored_by_terminal, without_ignored}
use Rattle.world3270.specs.refinement.RepresentsEnds.{NopHasNoEffect, TakesKeepSendable, TermTakes, WritesAreMarked, is_painted}
use Rattle.world3270.specs.refinement.RepresentsLinks.{RepresentsGoOn, RepresentsJoin}
use Rattle.world3270.specs.model.Terminal.{Display, TermEnd, TermStep, is_bound, once_bound}
use Rattle.world3270.specs.model.TrackedTerminals.{TrackedTerminal}
use Rattle.world3270.proofs.HostItems.{stands_read}
use Rattle.world3270.proofs.ItemsSpelt.{IsEncodable}
use Rattle.world3270.proofs.AnyIgnored.{IsNoRefusal, IsNoTalk, all_back, all_heard, ignored_have_no_effect}
use Rattle.world3270.proofs.Represents.{written_stand}
use Rattle.world3270.proofs.RepresentsLinks.{MayTakeNext, OneCame, Ran, any_byte_came, ran_stands}
use Rattle.world3270.proofs.Executing.{AnyTermTakes, ExecutedStaysSendable, MayTake}
use Rattle.world3270.proofs.AnyBeside.{IsSaidDown}
use Rattle.world3270.proofs.ItemCodes.{paint_erases}

-- ---- what is known of a connection over messages after moves that keep the rules

-- What comes down next may be taken, and closes nothing; what comes up next may come, and closes nothing; and what the host sends is encoded.
pub record Ready (app : Application) (t : LinkWithReport) : Type 0 where
  pub next : MayTakeNext t.link
  pub said : AllByRecursion IsSaidDown t.link.down
  pub comes_up : (message : ToHost) (others : List ToHost) → t.link.up ≡ message ∷ others → MayBeSent t.link.host message
  pub agreed : is_agreed t.link.host.talk.state ≡ true
  pub no_talk : AllByRecursion IsNoTalk t.link.up
  pub no_refusal : AllByRecursion IsNoRefusal t.link.down
  pub hears : (pool : List Entry) → IsSoundPool pool → (message : ToHost) (others : List ToHost) → t.link.up ≡ message ∷ others
      → (host_took (answer_to pool) t.link.host message).closes ≡ None
  pub acts : IfSome (acted app t.link.host) (λ sending. IsEncodable sending.message)
  pub answers : (said : ApplicationAnswer) → AreTexts said.values → IfSome (answered_on app t.link.host said) (λ sending. IsEncodable sending.message)
  pub notes : (text : List ℕ) → IsNoteText text → IfSome (noted text t.link.host) (λ sending. IsEncodable sending.message)

-- Over bytes there are characters alone: the operator leaves no others, and values are texts. After Clear in the wait no whole screen of them is
-- sent. On a lost connection nothing more comes.
pub record IsWellFormedStep (step : TermStep) (cleared : Bool) : Type 0 where
  pub stored : CanBeSent step.end.display.size step.end.display.screen
  pub not_full : cleared ≡ true → sends_full step ≡ false

abbrev pub IsWellFormedMove : Move → LinkWithReport → Type 0
IsWellFormedMove (Move.Operate step) t = IsWellFormedStep step t.cleared
IsWellFormedMove (Move.Answer said) t = AreTexts said.values
IsWellFormedMove (Move.Up pool) t = ⊤
IsWellFormedMove Move.Down t = ⊤
IsWellFormedMove Move.Act t = ⊤
IsWellFormedMove (Move.Note text) t = ⊤
IsWellFormedMove Move.Lose t = ⊥

-- some property has this in it, and all such moves that keep the rules keep it
pub record IsKept (app : Application) (Good : LinkWithReport → Type 0) : Type 0 where
  pub ready : (t : LinkWithReport) → Good t → Ready app t
  pub goes_on : (move : Move) (t : LinkWithReport) → Good t → IsByTheRules move t → IsWellFormedMove move t → Good (moved app move t)

-- ---- what a move over bytes is over messages

pub record Goes (app : Application) (Good : LinkWithReport → Type 0) (number : ℕ) (bytes : OverBytes) (t : LinkWithReport) : Type 0 where
  pub moves : List Move
  pub by_the_rules : AreByTheRules app moves t
  pub represents : Represents number bytes (after_moves app moves t)
  pub good : Good (after_moves app moves t)

abbrev pub stays : (app : Application) (Good : LinkWithReport → Type 0) (number : ℕ) (bytes : OverBytes) (t : LinkWithReport) → Good t → Represents number bytes t → Goes app Good number bytes t
stays app Good number bytes t good represents = record { moves = []; by_the_rules = tt; represents = represents; good = good }

abbrev pub moves_once : (app : Application) (Good : LinkWithReport → Type 0) → IsKept app Good → (number : ℕ) (bytes : OverBytes) (t : LinkWithReport) (move : Move) → Good t → IsByTheRules move t → IsWellFormedMove move t
    → Represents number bytes (moved app move t) → Goes app Good number bytes t
moves_once app Good kept number bytes t move good is typed represents = record { moves = move ∷ []; by_the_rules = (is, tt); represents = represents; good = kept.goes_on move t good is typed }

pub more_moves : (app : Application) (one others : List Move) (t : LinkWithReport) → after_moves app (one ++ others) t ≡ after_moves app others (after_moves app one t)
more_moves app [] others t = refl
more_moves app (move ∷ one) others t = more_moves app one others (moved app move t)

pub more_rules : (app : Application) (one others : List Move) (t : LinkWithReport) → AreByTheRules app one t → AreByTheRules app others (after_moves app one t) → AreByTheRules app (one ++ others) t
more_rules app [] others t are behind = behind
more_rules app (move ∷ one) others t are behind = (are.0, more_rules app one others (moved app move t) are.1 behind)

-- the same moves lead to bytes that are the same
abbrev pub goes_as : (app : Application) (Good : LinkWithReport → Type 0) (number : ℕ) (bytes same : OverBytes) (t : LinkWithReport) → same ≡ bytes → Goes app Good number bytes t → Goes app Good number same t
goes_as app Good number bytes same t is goes = record {
  moves = goes.moves;
  by_the_rules = goes.by_the_rules;
  represents = subst (λ (b : OverBytes). Represents number b (after_moves app goes.moves t)) (sym is) goes.represents;
  good = goes.good;
}

-- one after the other
abbrev pub goes_after : (app : Application) (Good : LinkWithReport → Type 0) (number : ℕ) (mid bytes : OverBytes) (t : LinkWithReport) → (first : Goes app Good number mid t) → Goes app Good number bytes (after_moves app first.moves t)
    → Goes app Good number bytes t
goes_after app Good number mid bytes t first second =
    let whole = sym (more_moves app first.moves second.moves t) in
    record {
      moves = first.moves ++ second.moves;
      by_the_rules = more_rules app first.moves second.moves t first.by_the_rules second.by_the_rules;
      represents = subst (λ (u : LinkWithReport). Represents number bytes u) whole second.represents;
      good = subst (λ (u : LinkWithReport). Good u) whole second.good;
    }

-- by these moves
pub record GoesBy (app : Application) (Good : LinkWithReport → Type 0) (number : ℕ) (bytes : OverBytes) (t : LinkWithReport) (those : List Move) : Type 0 where
  pub goes : Goes app Good number bytes t
  pub are : goes.moves ≡ those

-- ---- what is said

pub pairs_become : {X Y : Type 0} (R S : X → Y → Type 0) → ((x : X) (y : Y) → R x y → S x y) → (xs : List X) (ys : List Y) → Pairwise R xs ys → Pairwise S xs ys
pairs_become R S becomes [] [] h = tt
pairs_become R S becomes [] (y ∷ ys) h = absurd h
pairs_become R S becomes (x ∷ xs) [] h = absurd h
pairs_become R S becomes (x ∷ xs) (y ∷ ys) h = (becomes x y h.0, pairs_become R S becomes xs ys h.1)

-- the host reads what our terminal says as what it stands for
ours_read : ItemsAreRead → (link now : Link) (old new : TrackedTerminal) (behind : List ℕ) → old.terminal.out ≡ [] → (ran : Ran is_ignored_by_terminal link now old new behind) → AllByRecursion IsNoTalk ran.sends
    → AreReadAs new.terminal.out ran.sends
ours_read written link now old new behind silent ran none =
    subst (λ (b : List ℕ). AreReadAs b ran.sends) (sym (ran.out ∙ ap (λ (b : List ℕ). b ++ sent_bytes ran.says) silent))
    (written_stand without_ignored IsReadAs written ran.says ran.sends ran.fit
    (subst (λ (items : List WireItem). Pairwise IsReadAs items ran.sends) (sym (all_heard ran.says ran.sends none ran.said))
    (pairs_become RepresentsUp IsReadAs stands_read ran.says ran.sends ran.said)))

-- ---- the terminal takes a byte

pub told_link_is : (bound : Bool) (message : ToTerminal) (t : LinkWithReport) (link : Link) → (told_if bound message t link).link ≡ link
told_link_is true message t link = refl
told_link_is false message t link = refl

-- a terminal keeps its name
bound_waits : (bound : Bool) (step : TermStep) (end : TermEnd) → step.end.waits ≡ end.waits → (once_bound bound step end).end.waits ≡ end.waits
bound_waits true step end is = is
bound_waits false step end is = refl

executed_waits : (end : TermEnd) (message : ToTerminal) → (executed end message).end.waits ≡ end.waits
executed_waits end (ToTerminal.TalksDown saying) = refl
executed_waits end (ToTerminal.Paint number wanted over) = bound_waits (is_bound end) (paint_executed number wanted over end) end refl
executed_waits end (ToTerminal.ReadBuffer number) = bound_waits (is_bound end) _ end refl
executed_waits end (ToTerminal.Note number command) = bound_waits (is_bound end) _ end refl

-- ---- what was pressed in the wait, behind it

no_mark : (cleared : Bool) (item : Option WireItem) (pressed : Pressed) → ended_if (ends_wait cleared false item) pressed ≡ pressed
no_mark cleared item pressed = by_test (not cleared || (has_code EraseWrite item || has_code EraseWriteAlternate item))
  where
    by_test : (b : Bool) → ended_if (b && false) pressed ≡ pressed
    by_test true = refl
    by_test false = refl

a_mark : (b : Bool) → (b && true) ≡ b
a_mark true = refl
a_mark false = refl

unmarked_still : (took : Bool) (item : Option WireItem) (pressed : Pressed) (waits : Bool) (first : Aid) (cleared : Bool) → took ≡ false → WasPressed pressed waits first cleared
    → WasPressed (ended_if (ends_wait pressed.cleared took item) pressed) waits first cleared
unmarked_still took item pressed waits first cleared none was =
    subst (λ (p : Pressed). WasPressed p waits first cleared) (sym (ap (λ (b : Bool). ended_if (ends_wait pressed.cleared b item) pressed) none ∙ no_mark pressed.cleared item pressed)) was

-- what was pressed, behind a paint that finds the terminal bound
behind_paint : (shown ends : Bool) (pressed : Pressed) (told now : Display) (waits cleared : Bool) → ends ≡ shown → WasPressed pressed waits told.screen.aid cleared
    → WasPressed (ended_if ends pressed) (if shown then false else waits) (if shown then now else told).screen.aid (if shown then false else cleared)
behind_paint shown ends pressed told now waits cleared same was =
    subst (λ (b : Bool). WasPressed (ended_if b pressed) (if shown then false else waits) (if shown then now else told).screen.aid (if shown then false else cleared)) (sym same) (by_shown shown)
  where
    by_shown : (b : Bool) → WasPressed (ended_if b pressed) (if b then false else waits) (if b then now else told).screen.aid (if b then false else cleared)
    by_shown true = record { waits_is = refl; first_is = λ waits. absurd (cc); cleared_is = refl }
    by_shown false = was

read_aid : (pa : Bool) (told now : Display) → (if pa then record now { screen = record now.screen { aid = told.screen.aid } } else told).screen.aid ≡ told.screen.aid
read_aid true told now = refl
read_aid false told now = refl

pressed_then : NoteKeepsBounds → (message : ToTerminal) (item : WireItem) (t : LinkWithReport) (link : Link) (pressed : Pressed) (took : Bool) → RepresentsDown item message → MayTake t.link.term message → took ≡ is_painted t.link.term message
    → WasPressed pressed t.waits t.told.screen.aid t.cleared
    → let after = told_if (is_bound t.link.term) message t link in
    WasPressed (ended_if (ends_wait pressed.cleared took (Some item)) pressed) after.waits after.told.screen.aid after.cleared
pressed_then bounds (ToTerminal.Paint number wanted over) item t link pressed took stands may marked was = by_bound (is_bound t.link.term) marked
  where
    erases : Bool
    erases = is_erase (paint (cells_in wanted.size) over wanted).code

    ends : took ≡ true → ends_wait pressed.cleared took (Some item) ≡ is_shown t.cleared wanted over
    ends took_it =
        ap (λ (b : Bool). ends_wait pressed.cleared b (Some item)) took_it
        ∙ a_mark (not pressed.cleared || (has_code EraseWrite (Some item) || has_code EraseWriteAlternate (Some item)))
        ∙ ap (λ (b : Bool). not pressed.cleared || b) (paint_erases number wanted over item stands)
        ∙ ap (λ (c : Bool). not c || erases) was.cleared_is

    by_bound : (bound : Bool) → took ≡ bound → let after = told_if bound (ToTerminal.Paint number wanted over) t link in
        WasPressed (ended_if (ends_wait pressed.cleared took (Some item)) pressed) after.waits after.told.screen.aid after.cleared
    by_bound true is = behind_paint (is_shown t.cleared wanted over) (ends_wait pressed.cleared took (Some item)) pressed t.told link.term.display t.waits t.cleared (ends is) was
    by_bound false is = unmarked_still took (Some item) pressed t.waits t.told.screen.aid t.cleared is was
pressed_then bounds (ToTerminal.TalksDown saying) item t link pressed took stands may marked was = by_bound (is_bound t.link.term)
  where
    by_bound : (bound : Bool) → let after = told_if bound (ToTerminal.TalksDown saying) t link in
        WasPressed (ended_if (ends_wait pressed.cleared took (Some item)) pressed) after.waits after.told.screen.aid after.cleared
    by_bound true = unmarked_still took (Some item) pressed t.waits t.told.screen.aid t.cleared marked was
    by_bound false = unmarked_still took (Some item) pressed t.waits t.told.screen.aid t.cleared marked was
pressed_then bounds (ToTerminal.ReadBuffer number) item t link pressed took stands may marked was = by_bound (is_bound t.link.term)
  where
    by_bound : (bound : Bool) → let after = told_if bound (ToTerminal.ReadBuffer number) t link in
        WasPressed (ended_if (ends_wait pressed.cleared took (Some item)) pressed) after.waits after.told.screen.aid after.cleared
    by_bound true =
        subst (λ (aid : Aid). WasPressed (ended_if (ends_wait pressed.cleared took (Some item)) pressed) t.waits aid t.cleared) (sym (read_aid (is_pa t.told.screen.aid) t.told link.term.display))
        (unmarked_still took (Some item) pressed t.waits t.told.screen.aid t.cleared marked was)
    by_bound false = unmarked_still took (Some item) pressed t.waits t.told.screen.aid t.cleared marked was
pressed_then bounds (ToTerminal.Note number command) item t link pressed took stands may marked was = by_bound (is_bound t.link.term)
  where
    by_bound : (bound : Bool) → let after = told_if bound (ToTerminal.Note number command) t link in
        WasPressed (ended_if (ends_wait pressed.cleared took (Some item)) pressed) after.waits after.told.screen.aid after.cleared
    by_bound true =
        subst (λ (aid : Aid). WasPressed (ended_if (ends_wait pressed.cleared took (Some item)) pressed) t.waits aid t.cleared) (sym (bounds command t.told.screen may.note).aid)
        (unmarked_still took (Some item) pressed t.waits t.told.screen.aid t.cleared marked was)
    by_bound false = unmarked_still took (Some item) pressed t.waits t.told.screen.aid t.cleared marked was

-- behind a step of the operator
operated_then : (step : TermStep) (t : LinkWithReport) (pressed : Pressed) → WasPressed pressed t.waits t.told.screen.aid t.cleared
    → WasPressed (pressed_by step pressed) (operated step t).waits (operated step t).told.screen.aid (operated step t).cleared
operated_then step t pressed was = record {
  waits_is = ap (λ (w : Bool). w || is_queued step.sends) was.waits_is;
  first_is = λ waits. by_wait t.waits pressed.waits was.waits_is was.first_is;
  cleared_is = ap (λ (c : Bool). c || (pressed.waits && sends_clear step)) was.cleared_is ∙ ap (λ (w : Bool). t.cleared || (w && sends_clear step)) was.waits_is;
}
  where
    by_wait : (waits waited : Bool) → waited ≡ waits → (waits ≡ true → pressed.first ≡ t.told.screen.aid)
        → (if waited then pressed.first else step.end.display.screen.aid) ≡ (if waits then t.told else step.end.display).screen.aid
    by_wait true waited is first = ap (λ (w : Bool). if w then pressed.first else step.end.display.screen.aid) is ∙ first refl
    by_wait false waited is first = ap (λ (w : Bool). if w then pressed.first else step.end.display.screen.aid) is

-- messages came down
pub record WentDown (app : Application) (Good : LinkWithReport → Type 0) (number : ℕ) (bytes : OverBytes) (t : LinkWithReport) : Type 0 where
  pub goes : Goes app Good number bytes t
  pub downs : All IsDown goes.moves

pub record TakesLaws : Type 0 where
  pub takes : TermTakes
  pub keeps : TakesKeepSendable
  pub any_takes : AnyTermTakes
  pub any_keeps : ExecutedStaysSendable
  pub nop : NopHasNoEffect
  pub down : RepresentsGoOn without_nops RepresentsDown
  pub any_down : RepresentsGoOn (without is_ignored_by_terminal) RepresentsDown
  pub final : WrongIsFinal
  pub marks : WritesAreMarked
  pub written : ItemsAreRead
  pub join : RepresentsJoin without_ignored IsReadAs
  pub bounds : NoteKeepsBounds

module _ (laws : TakesLaws) (app : Application) (Good : LinkWithReport → Type 0) (kept : IsKept app Good) where
  pub takes_goes : (number : ℕ) (old new : OverBytes) (t : LinkWithReport) → Good t → Represents number old t → Takes old new → WentDown app Good number new t
  takes_goes number old new t good is comes =
      by_one (any_byte_came laws.any_takes laws.any_keeps ignored_have_no_effect laws.any_down laws.final comes.byte (comes.behind ++ out) old.tracked comes.ours term.rest link term.holds
      (subst (λ (d : List ℕ). BytesDownBy is_ignored_by_terminal term.rest d link.down) queue term.down) ready.next is.stored comes.takes)
    where
      out : List ℕ
      out = (connection_at number old.host).out

      link : Link
      link = t.link

      here : link.term_here ≡ Some 0
      here = sym is.stands.term_here

      term : TermRepresentsBy is_ignored_by_terminal (link_over number old) link
      term = is.stands.term 0 here

      queue : (link_over number old).down ≡ comes.byte ∷ (comes.behind ++ out)
      queue = ap (λ (d : List ℕ). d ++ out) comes.next

      ready : Ready app t
      ready = kept.ready t good

      lost : false ≡ link.lost
      lost = is.stands.lost

      took : Bool
      took = comes.ours.terminal.station.took_write

      item : Option WireItem
      item = item_completed comes.takes.takes

      bytes : OverBytes
      bytes = record {
        host = old.host;
        down = comes.behind;
        up = old.up ++ comes.bytes;
        tracked = with_out [] comes.ours;
        pressed = ended_if (ends_wait old.pressed.cleared took item) old.pressed;
      }

      -- the connection then, whatever the terminal said
      stands_then : (now : Link) (ran : Ran is_ignored_by_terminal link now old.tracked comes.ours (comes.behind ++ out)) → AllByRecursion IsNoTalk ran.sends
          → LinkRepresentsBy without_ignored IsReadAs is_ignored_by_terminal (link_over number bytes) now
      stands_then now ran none =
          let said : AreReadAs comes.bytes ran.sends = comes.alike ran.sends (ours_read laws.written link now old.tracked comes.ours (comes.behind ++ out) term.silent ran none) in
          ran_stands (link_over number old) link now (comes.behind ++ out) comes.bytes comes.ours is.stands ran
          (subst (λ (l : Bool). BytesRepresent without_ignored IsReadAs is.stands.read (sent l old.up comes.bytes) (sent l link.up ran.sends)) lost
          (laws.join is.stands.read old.up comes.bytes link.up ran.sends is.stands.up said))

      by_one : OneCame is_ignored_by_terminal link comes.byte old.tracked comes.ours (comes.behind ++ out) comes.takes.takes → WentDown app Good number new t
      by_one (OneCame.no_message unmarked ran) =
          let silent : AllByRecursion IsNoTalk ran.sends =
          all_back IsNoTalk link.up ran.sends (subst (AllByRecursion IsNoTalk) (ran.up ∙ ap (λ (l : Bool). sent l link.up ran.sends) (sym lost)) ready.no_talk) in
          record {
            goes = stays app Good number new t good (subst (λ (b : OverBytes). Represents number b t) (sym comes.leaves) (record {
              is_open = is.is_open;
              stands = stands_then link ran silent;
              pressed = unmarked_still took item old.pressed t.waits t.told.screen.aid t.cleared unmarked is.pressed;
              unnamed = is.unnamed;
              stored = is.stored;
            }));
            downs = All-nil IsDown;
          }
      by_one (OneCame.one_message message others whole_item whole completes represents marked ran) =
          let step : TermStep = executed link.term message in
          let now : Link = record link { down = others; term = step.end; up = sent link.lost link.up step.sends } in
          let after : LinkWithReport = told_if (is_bound link.term) message t now in
          let next : term_stepped step others link ≡ now = ap (λ (c : Option Cause). term_left_if c now) (ready.next.none message others whole) in
          let went : moved app Move.Down t ≡ after =
          ap (λ (d : List ToTerminal). came_down d t) whole ∙ ap (λ (l : Link). told_if (is_bound link.term) message t l) next in
          let good_now : Good (moved app Move.Down t) = kept.goes_on Move.Down t good tt tt in
          let link_is : (moved app Move.Down t).link ≡ now = ap (λ (u : LinkWithReport). u.link) went ∙ told_link_is (is_bound link.term) message t now in
          let after_up : (moved app Move.Down t).link.up ≡ link.up ++ ran.sends =
          ap (λ (l : Link). l.up) link_is ∙ ran.up ∙ ap (λ (l : Bool). sent l link.up ran.sends) (sym lost) in
          let silent : AllByRecursion IsNoTalk ran.sends = all_back IsNoTalk link.up ran.sends (subst (AllByRecursion IsNoTalk) after_up (kept.ready (moved app Move.Down t) good_now).no_talk) in
          let back = sym link_is in
          let pressed = pressed_then laws.bounds message whole_item t now old.pressed took represents (ready.next.may message others whole) marked is.pressed in
          let there : Represents number bytes (moved app Move.Down t) = record {
            is_open = is.is_open;
            stands = subst (λ (l : Link). LinkRepresentsBy without_ignored IsReadAs is_ignored_by_terminal (link_over number bytes) l) back (stands_then now ran silent);
            pressed = subst (λ (u : LinkWithReport). WasPressed bytes.pressed u.waits u.told.screen.aid u.cleared) (sym went)
                (subst (λ (i : Option WireItem). WasPressed (ended_if (ends_wait old.pressed.cleared took i) old.pressed) after.waits after.told.screen.aid after.cleared) (sym completes) pressed);
            unnamed = ap (λ (l : Link). l.term.waits) link_is ∙ executed_waits link.term message ∙ is.unnamed;
            stored = subst (λ (l : Link). CanBeSent l.term.display.size l.term.display.screen) back ran.can;
          } in
          record {
            goes = record {
              moves = Move.Down ∷ [];
              by_the_rules = (tt, tt);
              represents = subst (λ (b : OverBytes). Represents number b (moved app Move.Down t)) (sym comes.leaves) there;
              good = good_now;
            };
            downs = All-cons IsDown Move.Down [] tt (All-nil IsDown);
          }

  -- ---- it is operated

  end_is : (rest : Rest) (talk : Term) (tracked : TrackedTerminal) (end : TermEnd) (holds_rest : Rest) → Holds holds_rest tracked end → end.waits ≡ false → tracked.terminal.link ≡ Attached rest talk
      → end_of talk tracked ≡ end
  end_is rest talk tracked end holds_rest holds unnamed attached =
      let is = holds.is_end in
      let same : Attached rest talk ≡ Attached holds_rest holds.talk = sym attached ∙ holds.attached in
      let talks : talk ≡ end.talk = talk_of rest holds_rest talk holds.talk same ∙ is.talk_is in
      let display : display_of tracked ≡ end.display =
      ap (λ (s : SizedScreen). record (display_of tracked) { model = s.model; size = s.size; screen = s.screen }) is.screen_is
      ∙ ap (λ (k : Keyboard). record (display_of tracked) { model = end.display.model; size = end.display.size; screen = end.display.screen; keyboard = k }) is.keyboard_is
      ∙ ap (λ (s : Screen). record end.display { last_restored = s; before_restored = tracked.history.before_restored; erased = tracked.history.erased }) is.last_restored_is
      ∙ ap (λ (s : Screen). record end.display { before_restored = s; erased = tracked.history.erased }) is.before_restored_is
      ∙ ap (λ (b : Bool). record end.display { erased = b }) is.erased_is in
      ap (λ (t : Term). record { waits = false; talk = t; display = display_of tracked }) talks
      ∙ ap (λ (d : Display). record { waits = false; talk = end.talk; display = d }) display
      ∙ ap (λ (b : Bool). record end { waits = b }) (sym unnamed)
    where
      talk_of : (one other : Rest) (talk after : Term) → Attached one talk ≡ Attached other after → talk ≡ after
      talk_of one other talk after e = cc

  -- what a step that keeps the rules leaves as it was
  record Leaves (end : TermEnd) (step : TermStep) : Type 0 where
    closes : step.closes ≡ None
    talk : step.end.talk ≡ end.talk
    waits : step.end.waits ≡ end.waits

  leaves : (end : TermEnd) (step : TermStep) → Operates end step → Leaves end step
  leaves end step (Operates.edits keyboard cells cursor erases held on is) =
      record { closes = ap (λ (s : TermStep). s.closes) is; talk = ap (λ (s : TermStep). s.end.talk) is; waits = ap (λ (s : TermStep). s.end.waits) is }
  leaves end step (Operates.sends keyboard aid some is) =
      record { closes = ap (λ (s : TermStep). s.closes) is; talk = ap (λ (s : TermStep). s.end.talk) is; waits = ap (λ (s : TermStep). s.end.waits) is }

  pub operates_goes : (number : ℕ) (step : TermStep) (old new : OverBytes) (t : LinkWithReport) → Good t → Represents number old t → IsOperated step old new → GoesBy app Good number new t (Move.Operate step ∷ [])
  operates_goes number step old new t good is does =
      let link : Link = t.link in
      let here : link.term_here ≡ Some 0 = sym is.stands.term_here in
      let term = is.stands.term 0 here in
      let end = end_is does.rest does.talk old.tracked link.term term.rest term.holds is.unnamed does.attached in
      let rules : IsByTheRules (Move.Operate step) t =
      subst (λ (e : TermEnd). (d : Operates e step) × (t.waits ≡ true → t.cleared ≡ false → key_pressed d ≡ Clear → HasAnswered t)) end (
        does.does,
        λ waits uncleared clear pa.
            let other : is_pa t.told.screen.aid ≡ false = ap is_pa (sym (is.pressed.first_is waits)) ∙ does.not_after_pa (is.pressed.waits_is ∙ waits) clear in
            absurd (let wrong : true ≡ false = sym pa ∙ other in cc),
      ) in
      let left = leaves link.term step rules.0 in
      let now : Link = record link { term = step.end; up = sent link.lost link.up step.sends } in
      let link_is : (operated step t).link ≡ now = ap (λ (c : Option Cause). term_left_if c now) left.closes in
      let bytes : OverBytes = record old {
        up = old.up ++ does.bytes;
        tracked = displaying step.end.display does.number old.tracked;
        pressed = pressed_by step old.pressed;
      } in
      let lost : false ≡ link.lost = is.stands.lost in
      let stands : LinkRepresentsBy without_ignored IsReadAs is_ignored_by_terminal (link_over number bytes) now = record {
        lost = is.stands.lost;
        host_here = is.stands.host_here;
        term_here = is.stands.term_here;
        read = is.stands.read;
        up = subst (λ (l : Bool). BytesRepresent without_ignored IsReadAs is.stands.read (sent false old.up does.bytes) (sent l link.up step.sends)) lost
            (laws.join is.stands.read old.up does.bytes link.up step.sends is.stands.up does.encoded);
        host = λ there. let host = is.stands.host there in record { host = host.host; rest_is = host.rest_is };
        term = λ which its. record {
          rest = term.rest;
          holds = record {
            talk = term.holds.talk;
            attached = term.holds.attached;
            is_end = record {
              talk_is = term.holds.is_end.talk_is ∙ sym left.talk;
              screen_is = refl;
              keyboard_is = refl;
              last_restored_is = refl;
              before_restored_is = refl;
              erased_is = refl;
            };
          };
          silent = term.silent;
          down = term.down;
        };
      } in
      let back = sym link_is in
      let represents : Represents number bytes (operated step t) = record {
        is_open = is.is_open;
        stands = subst (λ (l : Link). LinkRepresentsBy without_ignored IsReadAs is_ignored_by_terminal (link_over number bytes) l) back stands;
        pressed = operated_then step t old.pressed is.pressed;
        unnamed = ap (λ (l : Link). l.term.waits) link_is ∙ left.waits ∙ is.unnamed;
        stored = subst (λ (l : Link). CanBeSent l.term.display.size l.term.display.screen) back does.stored;
      } in
      record {
        goes = moves_once app Good kept number new t (Move.Operate step) good rules (record { stored = does.stored; not_full = λ cleared. does.not_full (is.pressed.cleared_is ∙ cleared) })
            (subst (λ (b : OverBytes). Represents number b (operated step t)) (sym does.leaves) represents);
        are = refl;
      }

  -- ---- it sends what the host only answers, or ignores

  pub ignored_goes : (number : ℕ) (bytes : List ℕ) (old : OverBytes) (t : LinkWithReport) → Good t → Represents number old t → AreReadAs bytes [] → GoesBy app Good number (record old { up = old.up ++ bytes }) t []
  ignored_goes number bytes old t good is ignored = record {
    goes = stays app Good number (record old { up = old.up ++ bytes }) t good (record {
      is_open = is.is_open;
      stands = record {
        lost = is.stands.lost;
        host_here = is.stands.host_here;
        term_here = is.stands.term_here;
        read = is.stands.read;
        up = subst (λ (messages : List ToHost). BytesRepresent without_ignored IsReadAs is.stands.read (old.up ++ bytes) messages) (append-nil t.link.up)
            (laws.join is.stands.read old.up bytes t.link.up [] is.stands.up ignored);
        host = λ there. let host = is.stands.host there in record { host = host.host; rest_is = host.rest_is };
        term = λ which its. let term = is.stands.term which its in record {
          rest = term.rest;
          holds = record { talk = term.holds.talk; attached = term.holds.attached; is_end = term.holds.is_end };
          silent = term.silent;
          down = term.down;
        };
      };
      pressed = is.pressed;
      unnamed = is.unnamed;
      stored = is.stored;
    });
    are = refl;
  }
