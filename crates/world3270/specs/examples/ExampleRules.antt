-- Runs of one connection of the example, from agreement on: with a terminal that keeps the rules and doesn't wait, and
-- with terminals that break one rule each. Readers and proofs need them, and nothing rests on them (our profile). The
-- terminals are of model 2.
use Rattle.std.specs.Prelude.{◌≡◌, ◌≢◌, ◌∷◌, ◌++◌, ℕ, true, false, List, [], replicate, slice_get, slice_set, Option, Some, None, option_and_then}
use Rattle.codes3270.specs.declared.attention.Aid.TheVariants.{Clear, Enter, NoAid}
use Rattle.codes3270.specs.declared.attribute.Cell.TheVariants.{Char}
use Rattle.codes3270.specs.declared.size.Model.TheVariants.{M2}
use Rattle.datastream.specs.InboundFields.{modified_data}
use Rattle.datastream.specs.Screen.{Screen}
use Rattle.datastream.specs.declared.inbound_part.Form.TheVariants.{Modified}
use Rattle.keyboard.specs.State.{freed}
use Rattle.keyboard.specs.declared.key.Key.{Key}
use Rattle.keyboard.specs.declared.key.Key.TheVariants as key
use Rattle.panels.specs.Values.{value_of}
use Rattle.tn3270e_msg.specs.Device.{device_for}
use Rattle.tn3270e_msg.specs.Talk.{start_at}
use Rattle.tn3270e_msg.specs.declared.host_talk.HostState.TheVariants.{Agreed as HostAgreed}
use Rattle.tn3270e_msg.specs.declared.term_talk.TermState.TheVariants.{Agreed}
use Rattle.host_core.specs.Application.{Application, IsApplication}
use Rattle.host_core.specs.Messages.{ToTerminal, ToHost, Verdict}
use Rattle.host_core.specs.Questions.{question_in}
use Rattle.host_core.specs.Session.{new_conn}
use Rattle.host_core.specs.declared.question.Answer.{Answer as ApplicationAnswer}
use Rattle.host_core.specs.declared.terminals.Terminals.{Terminals}
use Rattle.host_core.specs.declared.terminals.Terminals.TheVariants.{Any, Verified, Waiting}
use Rattle.world3270.specs.statement.EveryTerminal.{AreByTheRules, FirstPaint, Move, RightOf, LinkWithReport, after_moves, moved}
use Rattle.world3270.specs.examples.ExampleApplication.{example, example_pool, example_with, l1, l2, name_field, small}
use Rattle.world3270.specs.examples.ExampleQuestions.{renamed}
use Rattle.world3270.specs.examples.ExampleScreens.{message_seen, no_message, required_name, sign_on_seen, skipped, typed_into}
use Rattle.world3270.specs.model.Link.{term_stepped}
use Rattle.world3270.specs.statement.RuleLaws.{impatient_key, pasted}
use Rattle.world3270.specs.statement.Rules.{after_sending, data_by, shows}
use Rattle.world3270.specs.model.Terminal.{TermEnd, TermStep, new_display}

-- ---- what happens

-- the example as a host for these terminals shows it: one that doesn't rely on their wait marks its fields
abbrev pub example_for : Terminals → Application
example_for Waiting = example
example_for Any = example_with true
example_for Verified = example_with true

-- A host that serves these terminals has granted L1; the terminal is bound to this LU.
abbrev pub agreed_with : Terminals → List ℕ → LinkWithReport
agreed_with serves mine =
    let end : TermEnd = record {
      waits = false;
      talk = record { model = M2; wanted = None; talk = start_at (Agreed mine) };
      display = new_display M2 small;
    } in
    record {
      link = record {
        lost = false;
        down = [];
        up = [];
        host_here = true;
        host = record (new_conn serves (example_for serves)) { talk = start_at (HostAgreed (device_for M2) l1) };
        term_here = Some 0;
        term = end;
      };
      told = end.display;
      waits = true;
      cleared = false;
    }

-- a step of a run, as a function of the application and of the connection's state
abbrev pub Deed : Type 0
Deed = Application → LinkWithReport → LinkWithReport

abbrev pub after_deeds : Application → List Deed → LinkWithReport → LinkWithReport
after_deeds app [] t = t
after_deeds app (deed ∷ deeds) t = after_deeds app deeds (deed app t)

-- the connection after these, with a host that serves these terminals
abbrev pub after : Terminals → List Deed → LinkWithReport
after serves deeds = after_deeds (example_for serves) deeds (agreed_with serves l1)

abbrev pub acts : Deed
acts app t = moved app Move.Act t

abbrev pub answers : ApplicationAnswer → Deed
answers said app t = moved app (Move.Answer said) t

abbrev pub goes_down : Deed
goes_down app t = moved app Move.Down t

abbrev pub goes_up : Deed
goes_up app t = moved app (Move.Up example_pool) t

abbrev pub does : (TermEnd → TermStep) → Deed
does step app t = moved app (Move.Operate (step t.link.term)) t

-- a key at a terminal whose Reset ends the wait
abbrev pub presses : Key → Deed
presses key = does (impatient_key key)

-- the first panel is shown, and the paint answered
abbrev pub signs_on : List Deed
signs_on = acts ∷ goes_down ∷ goes_up ∷ []

-- ---- the wait is ended

-- `A` in the first field, and PF6: the host asks the application, and if it relies on the wait reads the screen before.
-- Then Reset, and `Q` after the `A`; and the application answers with the second panel, and `B` for the name.
abbrev pub types_in_the_wait : List Deed
types_in_the_wait =
    signs_on ++ presses (key.Char 0x41) ∷ presses (key.Pf 6) ∷ goes_up ∷ acts ∷ goes_down ∷ goes_up ∷ presses key.Reset
    ∷ presses (key.Char 0x51)
    ∷ answers renamed ∷ goes_down ∷ goes_up ∷ []

-- the panel that a model 2 is shown in place of the second one, with a name of 15 cells
abbrev pub small_greeting : List ℕ → Screen
small_greeting name = record { cells = skipped name ++ message_seen no_message; cursor = 0; aid = NoAid }

-- the name `B`, filled up with nulls
abbrev pub renamed_seen : List ℕ
renamed_seen = 0xC2 ∷ replicate 14 0

-- the `Q` that was typed in the wait beside it, in a cell that is protected now
abbrev pub left_behind : List ℕ
left_behind = 0xC2 ∷ replicate 5 0 ++ 0xD8 ∷ replicate 8 0

abbrev pub shown_by : LinkWithReport → Screen
shown_by t = t.link.term.display.screen

-- then a PF key that leads to no panel, which is delivered to the host
abbrev pub decides_behind : List Deed
decides_behind = types_in_the_wait ++ presses (key.Pf 1) ∷ goes_up ∷ []

-- A host that serves any terminal shows its panel, whatever was typed in the wait. One that relies on the wait leaves
-- what was typed, and decides next with a belief that isn't true of the screen.
pub record WaitingRun : Type 0 where
  pub any : shown_by (after Any types_in_the_wait) ≡ small_greeting renamed_seen
  pub relying : shown_by (after Waiting types_in_the_wait) ≡ small_greeting left_behind
  pub wrong : RightOf (example_for Waiting) l1 (after Waiting decides_behind) → ⊥

-- ---- the screen is read in the wait

-- `A` in the first field, and PF6; the host verifies, so it reads the screen. Before it does, Reset, and `Q` after the
-- `A`.
abbrev pub typed_before_read : List Deed
typed_before_read =
    signs_on ++ presses (key.Char 0x41) ∷ presses (key.Pf 6) ∷ goes_up ∷ acts ∷ presses key.Reset
    ∷ presses (key.Char 0x51)
    ∷ goes_down ∷ goes_up ∷ []

-- the text of the first field in the open question
abbrev pub name_asked : LinkWithReport → Option (List ℕ)
name_asked t = option_and_then (λ question. value_of question.values name_field.number)
    (question_in (example_for Verified) 0 t.link.host)

-- The screen has `AQ` then, but the application is asked what PF6 sent, which is what the host was told.
pub record CheckingRun : Type 0 where
  pub typed : slice_get (shown_by (after Verified typed_before_read)).cells 7 ≡ Some (Char 0xD8)
  pub told : slice_get (after Verified typed_before_read).told.screen.cells 7 ≡ Some (Char 0)
  pub asked : name_asked (after Verified typed_before_read) ≡ Some (0xC1 ∷ [])

-- ---- what was told

-- `A`, and Enter, which the host hears; then Reset, `B` after the `A`, and Enter again, which the host drops
abbrev pub enters_twice : List Deed
enters_twice = signs_on ++ presses (key.Char 0x41) ∷ presses key.Enter ∷ goes_up ∷ presses key.Reset
    ∷ presses (key.Char 0x42) ∷ presses key.Enter ∷ goes_up ∷ []

-- the state with the present display as `told`
abbrev pub told_the_newest : LinkWithReport → LinkWithReport
told_the_newest t = record t { told = t.link.term.display }

-- The host was told what the first Enter sent. `RightOf` doesn't hold with what the second one sent as `told`.
pub record ToldRun : Type 0 where
  pub newest : RightOf (example_for Any) l1 (told_the_newest (after Any enters_twice)) → ⊥

-- ---- Clear in the wait

-- `A` in the first field, and PF6, about which the host asks the application; then Reset and Clear, which the host
-- hears
abbrev pub clears_in_the_wait : List Deed
clears_in_the_wait = signs_on ++ presses (key.Char 0x41) ∷ presses (key.Pf 6) ∷ goes_up ∷ presses key.Reset
    ∷ presses key.Clear ∷ goes_up ∷ []

-- the text of the first field in the open question, at a host for any terminal
abbrev pub still_asked : LinkWithReport → Option (List ℕ)
still_asked t = option_and_then (λ question. value_of question.values name_field.number)
    (question_in (example_for Any) 0 t.link.host)

-- The application answers with the second panel, and `B` for the name.
abbrev pub answered_behind : List Deed
answered_behind = clears_in_the_wait ++ answers renamed ∷ goes_down ∷ goes_up ∷ []

-- Enter, though a required field is blank: the host shows the same panel again, by a paint that doesn't erase. Clear
-- crosses the paint; so the host has the turn, and shows the panel once more.
abbrev pub clears_before_paint : List Deed
clears_before_paint = signs_on ++ presses key.Enter ∷ goes_up ∷ acts ∷ presses key.Reset ∷ presses key.Clear
    ∷ goes_down ∷ goes_up ∷ goes_up ∷ []

abbrev pub shown_once_more : List Deed
shown_once_more = clears_before_paint ++ acts ∷ goes_down ∷ goes_up ∷ []

-- the panel, which asks for the name
abbrev pub required_seen : Screen
required_seen = sign_on_seen (typed_into true (0 ∷ 0 ∷ 0 ∷ [])) (typed_into true (0xE8 ∷ [])) required_name

-- `A` and PF6; the host verifies, so it reads the screen. Clear crosses the Read Buffer, so that the answer has the
-- cleared screen.
abbrev pub clears_before_read : List Deed
clears_before_read =
    signs_on ++ presses (key.Char 0x41) ∷ presses (key.Pf 6) ∷ goes_up ∷ acts ∷ presses key.Reset ∷ presses key.Clear
    ∷ goes_down ∷ goes_up ∷ goes_up ∷ []

abbrev pub answered_behind_read : List Deed
answered_behind_read = clears_before_read ++ answers renamed ∷ goes_down ∷ goes_up ∷ []

-- `A` and PA1, after which the host reads the screen; then Clear. The host hears of it once it has the answer.
abbrev pub clears_after_read : List Deed
clears_after_read =
    signs_on ++ presses (key.Char 0x41) ∷ presses (key.Pa 1) ∷ goes_up ∷ acts ∷ goes_down ∷ presses key.Reset
    ∷ presses key.Clear ∷ goes_up ∷ goes_up ∷ []

-- The host drops Clear, and still asks what PF6 sent. Whether it heard of Clear before it sent a panel or after, the
-- panel is on the screen in the end. A Clear that crosses a Read Buffer is dropped, too, and one that comes after the
-- answer: the host was told what was on the screen before. `RightOf` doesn't hold with what the answer has as `told`.
pub record ClearedRun : Type 0 where
  pub cleared : (after Any clears_in_the_wait).cleared ≡ true
  pub asked : still_asked (after Any clears_in_the_wait) ≡ Some (0xC1 ∷ [])
  pub erased : shown_by (after Any answered_behind) ≡ small_greeting renamed_seen
  pub crossed : shown_by (after Any clears_before_paint) ≢ required_seen
  pub repeated : shown_by (after Any shown_once_more) ≡ required_seen
  pub read : name_asked (after Verified clears_before_read) ≡ Some (0xC1 ∷ [])
  pub unread : RightOf (example_for Verified) l1 (told_the_newest (after Verified clears_before_read)) → ⊥
  pub read_erased : shown_by (after Verified answered_behind_read) ≡ small_greeting renamed_seen
  pub told : slice_get (after Any clears_after_read).told.screen.cells 6 ≡ Some (Char 0xC1)
  pub nulled : slice_get (shown_by (after Any clears_after_read)).cells 6 ≡ Some (Char 0)

-- ---- a rule is broken

-- Enter, which is delivered to the host
abbrev pub enters : List Deed
enters = presses key.Enter ∷ goes_up ∷ []

-- It doesn't apply: it answers a paint positively, frees the keyboard, and displays what it displayed before.
abbrev pub unapplied : TermEnd → ToTerminal → TermStep
unapplied end (ToTerminal.Paint number wanted over) =
    record {
      end = record end { display = record end.display { keyboard = freed end.display.keyboard } };
      sends = ToHost.Response number Verdict.Positive ∷ [];
      closes = None;
    }
unapplied end message = record { end = end; sends = []; closes = None }

abbrev pub ignored : List ToTerminal → Deed
ignored [] app t = t
ignored (message ∷ rest) app t =
    record t { link = term_stepped (unapplied t.link.term message) rest t.link; waits = false }

abbrev pub ignores : Deed
ignores app t = ignored t.link.down app t

-- It edits what is protected: the first letter of `NAME`.
abbrev pub relabels : TermEnd → TermStep
relabels end =
    let screen = end.display.screen in
    shows end.display.keyboard
    (record end.display { screen = record screen { cells = slice_set screen.cells 1 (Char 0xE7) } }) [] end

-- It doesn't send what it displays: Enter has the data of the panel as the host left it.
abbrev pub sends_what_was_left : TermEnd → TermStep
sends_what_was_left end =
    let sent = after_sending Enter end.display in
    shows end.display.keyboard sent
    (ToHost.Data (modified_data Modified small (record end.display.last_restored { aid = Enter })) ∷ []) end

-- With one rule broken `RightOf` doesn't hold: a paint isn't applied, a protected field is changed, a text isn't sent,
-- or the terminal is bound to another LU than the host granted.
pub record BrokenRules : Type 0 where
  pub applies : RightOf (example_for Any) l1 (after Any (acts ∷ ignores ∷ goes_up ∷ enters)) → ⊥
  pub edits : RightOf (example_for Any) l1 (after Any (signs_on ++ does relabels ∷ enters)) → ⊥
  pub sends : RightOf (example_for Any) l1
      (after Any (signs_on ++ presses (key.Char 0x41) ∷ does sends_what_was_left ∷ goes_up ∷ [])) → ⊥
  pub binds : RightOf (example_for Any) l1 (agreed_with Any l2) → ⊥

-- ---- the rules are kept

-- Enter, and `A` pasted in the wait
abbrev pub entered : TermStep
entered = impatient_key key.Enter (after Any signs_on).link.term

abbrev pub pasted_behind : TermStep
pasted_behind = pasted (0xC1 ∷ []) entered.end

abbrev pub kept_moves : List Move
kept_moves = Move.Act ∷ Move.Down ∷ Move.Up example_pool ∷ Move.Operate entered ∷ Move.Operate pasted_behind ∷ []

-- Clear, whether or not the keyboard is locked
abbrev pub clears : TermEnd → TermStep
clears end = shows end.display.keyboard (after_sending Clear end.display) (data_by Clear end) end

-- PA1, and Clear once the Read Buffer is answered
abbrev pub paged : TermStep
paged = impatient_key (key.Pa 1) (after Any signs_on).link.term

abbrev pub cleared_behind : TermStep
cleared_behind = clears (after Any (signs_on ++ presses (key.Pa 1) ∷ goes_up ∷ acts ∷ goes_down ∷ [])).link.term

abbrev pub cleared_moves : List Move
cleared_moves = Move.Act ∷ Move.Down ∷ Move.Up example_pool ∷ Move.Operate paged ∷ Move.Up example_pool ∷ Move.Act
    ∷ Move.Down ∷ Move.Operate cleared_behind ∷ []

-- The theorem's premises can be met, also by Clear in the wait, and a terminal that meets them need not wait.
pub record KeptRules : Type 0 where
  pub application : IsApplication (example_for Any)
  pub begins : FirstPaint (example_for Any) l1 (agreed_with Any l1)
  pub kept : AreByTheRules (example_for Any) kept_moves (agreed_with Any l1)
  pub cleared : AreByTheRules (example_for Any) cleared_moves (agreed_with Any l1)
  pub changed : let now = after_moves (example_for Any) kept_moves (agreed_with Any l1) in
      shown_by now ≢ now.told.screen
