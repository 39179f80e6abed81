-- A script is played, one line more at a time.
use Rattle.std.proofs.Common.{◌≡◌, ◌∙◌, ◌+◌, ℕ, Bool, true, false, if◌then◌else◌, List, [], ◌∷◌, ◌++◌, Option, None, Some, is_some, length, refl, sym, ap, subst, append_assoc, append-nil}
use Rattle.host_core.specs.declared.question.Answer.{Answer}
use Rattle.host_core.specs.declared.question.Ticket.{Ticket}
use Rattle.world3270.specs.model.ByteRuns.{refused_at}
use Rattle.world3270.specs.model.ByteSteps.{Steps}
use Rattle.world3270.specs.model.ByteWorld.{ByteWorld}
use Rattle.world3270.specs.declared.event.Event.{Event}
use Rattle.world3270.specs.declared.event.Event.TheVariants as event
use Rattle.world3270.specs.declared.event.Stepped.{Stepped}
use Rattle.applications.specs.AnswerLines.{answer_in}
use Rattle.jobs.specs.HexLines.{lines_of}
use Rattle.scripts.specs.Happenings.{Happening, TakePlace, answer_text, answers_text}
use Rattle.scripts.specs.Plays.{GivesAnswer, IsPlayed, Plays, PlaysNext, PrintsIf, PrintsLine, answer_events, command_in_range, if_in_range, if_understood, is_in_range, playable_command, terminal_count}
use Rattle.applications.specs.QuestionLines.{ticket_on}
use Rattle.scripts.specs.ScriptLines.{typed_text}
use Rattle.scripts.specs.declared.script_line.ScriptCommand.{ScriptCommand}
use Rattle.scripts.specs.declared.script_line.ScriptCommand.TheVariants as command
use Rattle.scripts.proofs.Happenings.{are_one_run, slots_stay, takes_place, then_take_place}

-- ---- what is played takes place

next_takes_place : (found : Option ScriptCommand) (number : ℕ) (line : List ℕ) (others : List (List ℕ)) (old : ByteWorld) (happenings : List Happening) (printed : List ℕ)
    (stopped : Option ℕ) (new : ByteWorld)
    → ((mid : ByteWorld) (back : List Happening) (behind : List ℕ) → Plays (number + 1) others mid back behind stopped new → TakePlace back mid new)
    → PlaysNext found number line (λ mid back behind. Plays (number + 1) others mid back behind stopped new) old happenings printed stopped new
    → TakePlace happenings old new
next_takes_place None number line others old happenings printed stopped new go plays =
    subst (λ (some : List Happening). TakePlace some old new) (sym plays.0) plays.3
next_takes_place (Some command) number line others old happenings printed stopped new go plays =
    subst (λ (some : List Happening). TakePlace some old new) (sym plays.7)
    (then_take_place plays.1 plays.2 old plays.0 new plays.5.take_place (go plays.0 plays.2 plays.4 plays.6))

plays_take_place : (number : ℕ) (lines : List (List ℕ)) (old : ByteWorld) (happenings : List Happening) (printed : List ℕ) (stopped : Option ℕ) (new : ByteWorld)
    → Plays number lines old happenings printed stopped new → TakePlace happenings old new
plays_take_place number [] old happenings printed stopped new plays = subst (λ (some : List Happening). TakePlace some old new) (sym plays.0) plays.3
plays_take_place number (line ∷ others) old happenings printed stopped new plays =
    next_takes_place (playable_command old.host.panels (length old.slots) line) number line others old happenings printed stopped new
    (λ mid back behind. plays_take_place (number + 1) others mid back behind stopped new) plays

-- ---- a line

-- the event that a line names happens
pub does_happen : (event : Event) (line : List ℕ) (old new : ByteWorld) (answer : Stepped) (before behind : List ℕ) → Steps event old answer new
    → refused_at answer ≡ None → behind ≡ before ++ answer_text answer → PrintsLine (command.Happen event) line old new before behind
does_happen event line old new answer before behind steps whole says = record {
  happenings = record { event = event; answer = answer } ∷ [];
  said = answer_text answer ++ [];
  plays = record { are_happenings = refl; take_place = takes_place event answer old new steps whole; said_is = refl };
  printed = says ∙ ap (λ (text : List ℕ). before ++ text) (sym (append-nil (answer_text answer)));
}

-- an answer by hand happens
pub answer_happens : (conn : ℕ) (said : List ℕ) (ticket : Ticket) (answer : Answer) (old new : ByteWorld) (stepped : Stepped) (before behind : List ℕ)
    → answer_in old.host.panels said ≡ Some answer → ticket ≡ ticket_on conn old.host → Steps (event.Answer conn ticket answer) old stepped new
    → refused_at stepped ≡ None → behind ≡ before ++ answer_text stepped → GivesAnswer true conn said old new before behind
answer_happens conn said ticket answer old new stepped before behind some is steps whole says = (
  ap is_some some,
  (
    record { event = event.Answer conn ticket answer; answer = stepped } ∷ [],
    ap (λ (its : Ticket). event.Answer conn its answer ∷ []) is ∙ sym (ap (answer_events conn old) some),
    takes_place (event.Answer conn ticket answer) stepped old new steps whole,
    says ∙ ap (λ (text : List ℕ). before ++ text) (sym (append-nil (answer_text stepped))),
  ),
)

pub gives_answer : (given : Bool) (conn : ℕ) (line : List ℕ) (old new : ByteWorld) (before behind : List ℕ)
    → GivesAnswer given conn (typed_text line) old new before behind → PrintsIf given (command.Answer conn) line old new before behind
gives_answer true conn line old new before behind gives = (
  gives.0,
  record {
    happenings = gives.1.0;
    said = answers_text gives.1.0;
    plays = record { are_happenings = gives.1.1; take_place = gives.1.2; said_is = refl };
    printed = gives.1.3;
  },
)
gives_answer false conn line old new before behind stays = stays

some_is : (found command : ScriptCommand) → Some found ≡ Some command → found ≡ command
some_is found command same = cc

-- a command that is found is in range
pub is_found_in_range : (found : Option ScriptCommand) (command : ScriptCommand) → if_in_range terminal_count found ≡ Some command
    → is_in_range terminal_count command ≡ true
is_found_in_range None command is = absurd (let n : None ≡ Some command = is in cc)
is_found_in_range (Some found) command is = by_test (is_in_range terminal_count found) refl
  where
    by_test : (b : Bool) → is_in_range terminal_count found ≡ b → is_in_range terminal_count command ≡ true
    by_test true in_range =
        let same : Some found ≡ Some command = rw in_range at is in
        subst (λ (it : ScriptCommand). is_in_range terminal_count it ≡ true) (some_is found command same) in_range
    by_test false not_so = absurd (let n : None ≡ Some command = rw not_so at is in cc)

-- ---- one line more

-- Some lines were played, and these are left.
pub record Played (script : List ℕ) (number : ℕ) (left : List (List ℕ)) (old now : ByteWorld) (before behind : List ℕ) : Type 0 where
  pub happenings : List Happening
  pub printed : List ℕ
  pub is_printed : behind ≡ before ++ printed
  pub terminals : length now.slots ≡ terminal_count
  pub with_others : (others : List Happening) (rest : List ℕ) (stopped : Option ℕ) (new : ByteWorld) → Plays number left now others rest stopped new
      → Plays 1 (lines_of script) old (happenings ++ others) (printed ++ rest) stopped new

-- how a play ends
abbrev pub PlayEnds : List ℕ → ByteWorld → Option ℕ → ByteWorld → List ℕ → List ℕ → Type 0
PlayEnds script old stopped new before behind = (printed : List ℕ) × IsPlayed script old printed stopped new × (behind ≡ before ++ printed)

pub nothing_played : (script : List ℕ) (number : ℕ) (left : List (List ℕ)) (old : ByteWorld) (before : List ℕ) → number ≡ 1 → left ≡ lines_of script
    → length old.slots ≡ terminal_count → Played script number left old old before before
nothing_played script number left old before first whole terminals = record {
  happenings = [];
  printed = [];
  is_printed = sym (append-nil before);
  terminals = terminals;
  with_others = λ others rest stopped new plays.
      subst (λ (lines : List (List ℕ)). Plays 1 lines old others rest stopped new) whole
      (subst (λ (n : ℕ). Plays n left old others rest stopped new) first plays);
}

module _ (script : List ℕ) (number : ℕ) (left : List (List ℕ)) (old now : ByteWorld) (before behind : List ℕ) (played : Played script number left old now before behind) where
  -- nothing more is played
  ends_so : (stopped : Option ℕ) → Plays number left now [] [] stopped now → PlayEnds script old stopped now before behind
  ends_so stopped none =
      let all = played.with_others [] [] stopped now none in
      let plays : Plays 1 (lines_of script) old played.happenings played.printed stopped now =
      subst (λ (some : List Happening). Plays 1 (lines_of script) old some played.printed stopped now) (append-nil played.happenings)
      (subst (λ (text : List ℕ). Plays 1 (lines_of script) old (played.happenings ++ []) text stopped now) (append-nil played.printed) all) in (
        played.printed,
        record {
          happenings = played.happenings;
          plays = plays;
          run = are_one_run played.happenings old now (plays_take_place 1 (lines_of script) old played.happenings played.printed stopped now plays);
        },
        played.is_printed,
      )

  pub all_played : left ≡ [] → PlayEnds script old None now before behind
  all_played none = ends_so None (subst (λ (lines : List (List ℕ)). Plays number lines now [] [] None now) (sym none) (refl, refl, refl, refl))

  module _ (line : List ℕ) (others : List (List ℕ)) (is : left ≡ line ∷ others) where
    plays_on : (found : Option ScriptCommand) (happenings : List Happening) (printed : List ℕ) (stopped : Option ℕ) (new : ByteWorld) → playable_command now.host.panels terminal_count line ≡ found
        → PlaysNext found number line (λ mid back behind. Plays (number + 1) others mid back behind stopped new) now happenings printed stopped new
        → Plays number left now happenings printed stopped new
    plays_on found happenings printed stopped new command plays =
        let here : playable_command now.host.panels (length now.slots) line ≡ found =
        ap (λ (terminals : ℕ). playable_command now.host.panels terminals line) played.terminals ∙ command in
        subst (λ (lines : List (List ℕ)). Plays number lines now happenings printed stopped new) (sym is)
        (subst (λ (some : Option ScriptCommand). PlaysNext some number line (λ mid back behind. Plays (number + 1) others mid back behind stopped new) now happenings printed stopped new)
        (sym here) plays)

    ends_here : playable_command now.host.panels terminal_count line ≡ None → PlayEnds script old (Some number) now before behind
    ends_here none = ends_so (Some number) (plays_on None [] [] (Some number) now none (refl, refl, refl, refl))

    pub is_no_command : command_in_range terminal_count line ≡ None → PlayEnds script old (Some number) now before behind
    is_no_command none = ends_here (ap (λ (found : Option ScriptCommand). if_understood now.host.panels found line) none)

    pub is_not_understood : (understood : Bool) (command : ScriptCommand) (new : ByteWorld) (text : List ℕ) → command_in_range terminal_count line ≡ Some command
        → PrintsIf understood command line now new behind text → understood ≡ false → PlayEnds script old (Some number) new before text
    is_not_understood understood command new text some does fails =
        let stays = subst (λ (b : Bool). PrintsIf b command line now new behind text) fails does in
        let none : playable_command now.host.panels terminal_count line ≡ None =
        ap (λ (found : Option ScriptCommand). if_understood now.host.panels found line) some
        ∙ ap (λ (b : Bool). if b then Some command else None) stays.0 in
        subst (λ (world : ByteWorld). PlayEnds script old (Some number) world before text) (sym stays.1)
        (subst (λ (said : List ℕ). PlayEnds script old (Some number) now before said) (sym stays.2) (ends_here none))

    played_on : (command : ScriptCommand) (mid : ByteWorld) (more : List ℕ) (next : ℕ) → playable_command now.host.panels terminal_count line ≡ Some command
        → PrintsLine command line now mid behind more → next ≡ number + 1 → Played script next others old mid before more
    played_on command mid more next some does counted = record {
      happenings = played.happenings ++ does.happenings;
      printed = played.printed ++ does.said;
      is_printed = does.printed ∙ ap (λ (text : List ℕ). text ++ does.said) played.is_printed ∙ append_assoc before played.printed does.said;
      terminals = slots_stay does.happenings now mid does.plays.take_place ∙ played.terminals;
      with_others = λ back rest stopped new plays.
          let behind : Plays (number + 1) others mid back rest stopped new =
          subst (λ (n : ℕ). Plays n others mid back rest stopped new) counted plays in
          let all = played.with_others (does.happenings ++ back) (does.said ++ rest) stopped new
          (plays_on (Some command) (does.happenings ++ back) (does.said ++ rest) stopped new some
          (mid, does.happenings, back, does.said, rest, does.plays, behind, refl, refl)) in
          subst (λ (some : List Happening). Plays 1 (lines_of script) old some ((played.printed ++ does.said) ++ rest) stopped new)
          (sym (append_assoc played.happenings does.happenings back))
          (subst (λ (text : List ℕ). Plays 1 (lines_of script) old (played.happenings ++ (does.happenings ++ back)) text stopped new)
          (sym (append_assoc played.printed does.said rest)) all);
    }

    pub played_more : (understood : Bool) (command : ScriptCommand) (mid : ByteWorld) (more : List ℕ) (next : ℕ) → command_in_range terminal_count line ≡ Some command
        → PrintsIf understood command line now mid behind more → understood ≡ true → next ≡ number + 1 → Played script next others old mid before more
    played_more understood command mid more next found does is_so counted =
        let prints = subst (λ (b : Bool). PrintsIf b command line now mid behind more) is_so does in
        let some : playable_command now.host.panels terminal_count line ≡ Some command =
        ap (λ (it : Option ScriptCommand). if_understood now.host.panels it line) found
        ∙ ap (λ (b : Bool). if b then Some command else None) prints.0 in
        played_on command mid more next some prints.1 counted
