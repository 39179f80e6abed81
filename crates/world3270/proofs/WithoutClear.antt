-- Moves that keep the rules, none of which is Clear in the wait: then nothing is cleared.
use Rattle.std.proofs.Common.{◌≡◌, ◌||◌, ◌&&◌, Bool, true, false, List, [], ◌∷◌, ◌++◌, refl, ap, ◌∙◌, if◌then◌else◌}
use Rattle.std.specs.Prelude.{◌≢◌, ⊤}
use Rattle.codes3270.specs.declared.attention.Aid.{Aid}
use Rattle.codes3270.specs.declared.attention.Aid.TheVariants.{NoAid, Enter, Clear, Pf, Pa}
use Rattle.lu_pool.specs.HolderLaws.{IsSound}
use Rattle.host_core.specs.Application.{Application}
use Rattle.host_core.specs.Messages.{ToHost, ToTerminal}
use Rattle.host_core.specs.Notes.{IsNoteText}
use Rattle.world3270.specs.model.Enabled.{is_queued}
use Rattle.world3270.specs.model.Link.{Link}
use Rattle.world3270.specs.model.Terminal.{TermEnd, TermStep, is_bound}
use Rattle.world3270.specs.statement.EveryTerminal.{AreByTheRules, IsByTheRules, LinkWithReport, Move, after_moves, came_down, came_up, is_clear, is_shown, key_pressed, moved, sends_clear, told_if}
use Rattle.world3270.specs.statement.Rules.{Operates}
use Rattle.world3270.proofs.RuleKeys.{with_aid-aid}

abbrev pub IsWithoutClear : Move → LinkWithReport → Type 0
IsWithoutClear (Move.Up pool) t = IsSound pool
IsWithoutClear (Move.Operate step) t = (does : Operates t.link.term step) × (t.waits ≡ true → key_pressed does ≢ Clear)
IsWithoutClear (Move.Note text) t = IsNoteText text
IsWithoutClear Move.Down t = ⊤
IsWithoutClear Move.Act t = ⊤
IsWithoutClear (Move.Answer said) t = ⊤
IsWithoutClear Move.Lose t = ⊤

abbrev pub AreWithoutClear : Application → List Move → LinkWithReport → Type 0
AreWithoutClear app [] t = ⊤
AreWithoutClear app (move ∷ moves) t = IsWithoutClear move t × AreWithoutClear app moves (moved app move t)

pub more_without : (app : Application) (one others : List Move) (t : LinkWithReport) → AreWithoutClear app one t → AreWithoutClear app others (after_moves app one t) → AreWithoutClear app (one ++ others) t
more_without app [] others t are behind = behind
more_without app (move ∷ one) others t are behind = (are.0, more_without app one others (moved app move t) are.1 behind)

-- ---- Clear isn't sent

other_key : (aid : Aid) → (aid ≡ Clear → ⊥) → is_clear aid ≡ false
other_key Clear unclear = absurd (unclear refl)
other_key NoAid unclear = refl
other_key Enter unclear = refl
other_key (Pf number) unclear = refl
other_key (Pa number) unclear = refl

pub both_no : (b c : Bool) → c ≡ false → (b && c) ≡ false
both_no true c is = is
both_no false c is = refl

pub sends_no_clear : (end : TermEnd) (step : TermStep) (does : Operates end step) → (key_pressed does ≡ Clear → ⊥) → sends_clear step ≡ false
sends_no_clear end step (Operates.edits keyboard cells cursor erases held on is) unclear = ap sends_clear is
sends_no_clear end step (Operates.sends keyboard aid some is) unclear =
    both_no (is_queued step.sends) (is_clear step.end.display.screen.aid)
    (ap (λ (s : TermStep). is_clear s.end.display.screen.aid) is ∙ ap is_clear (with_aid-aid aid end.display.screen) ∙ other_key aid unclear)

-- ---- such moves keep the rules

pub keeps_rules : (move : Move) (t : LinkWithReport) → t.cleared ≡ false → IsWithoutClear move t → IsByTheRules move t
keeps_rules (Move.Up pool) t never rules = rules
keeps_rules (Move.Operate step) t never rules = (rules.0, λ waits uncleared clear. absurd (rules.1 waits clear))
keeps_rules (Move.Note text) t never rules = rules
keeps_rules Move.Down t never rules = tt
keeps_rules Move.Act t never rules = tt
keeps_rules (Move.Answer said) t never rules = tt
keeps_rules Move.Lose t never rules = tt

still_none : (bound : Bool) (message : ToTerminal) (t : LinkWithReport) (link : Link) → t.cleared ≡ false → (told_if bound message t link).cleared ≡ false
still_none true (ToTerminal.Paint number wanted over) t link never = ap (λ (c : Bool). if is_shown c wanted over then false else c) never
still_none true (ToTerminal.ReadBuffer number) t link never = never
still_none true (ToTerminal.Note number command) t link never = never
still_none true (ToTerminal.TalksDown saying) t link never = never
still_none false message t link never = never

pub operated_uncleared : (end : TermEnd) (step : TermStep) (does : Operates end step) (cleared waits : Bool) → cleared ≡ false → (waits ≡ true → key_pressed does ≡ Clear → ⊥) → (cleared || (waits && sends_clear step)) ≡ false
operated_uncleared end step does cleared waits never unclear = ap (λ (b : Bool). b || (waits && sends_clear step)) never ∙ by_waits waits refl
  where
    by_waits : (b : Bool) → waits ≡ b → (b && sends_clear step) ≡ false
    by_waits false is = refl
    by_waits true is = sends_no_clear end step does (unclear is)

pub operated_none : (t : LinkWithReport) (step : TermStep) (does : Operates t.link.term step) → t.cleared ≡ false → (t.waits ≡ true → key_pressed does ≡ Clear → ⊥) → (t.cleared || (t.waits && sends_clear step)) ≡ false
operated_none t step does never unclear = operated_uncleared t.link.term step does t.cleared t.waits never unclear

pub stays_uncleared : (app : Application) (move : Move) (t : LinkWithReport) → t.cleared ≡ false → IsWithoutClear move t → (moved app move t).cleared ≡ false
stays_uncleared app (Move.Up pool) t never rules = by_queue t.link.up
  where
    by_queue : (up : List ToHost) → (came_up pool up t).cleared ≡ false
    by_queue [] = never
    by_queue (message ∷ rest) = never
stays_uncleared app Move.Down t never rules = by_queue t.link.down
  where
    by_queue : (down : List ToTerminal) → (came_down down t).cleared ≡ false
    by_queue [] = never
    by_queue (message ∷ rest) = still_none (is_bound t.link.term) message t _ never
stays_uncleared app (Move.Operate step) t never rules = operated_none t step rules.0 never rules.1
stays_uncleared app Move.Act t never rules = never
stays_uncleared app (Move.Answer said) t never rules = never
stays_uncleared app (Move.Note text) t never rules = never
stays_uncleared app Move.Lose t never rules = never

pub all_keep_rules : (app : Application) (moves : List Move) (t : LinkWithReport) → t.cleared ≡ false → AreWithoutClear app moves t → AreByTheRules app moves t
all_keep_rules app [] t never rules = tt
all_keep_rules app (move ∷ moves) t never rules =
    (keeps_rules move t never rules.0, all_keep_rules app moves (moved app move t) (stays_uncleared app move t never rules.0) rules.1)

pub all_stay_uncleared : (app : Application) (moves : List Move) (t : LinkWithReport) → t.cleared ≡ false → AreWithoutClear app moves t → (after_moves app moves t).cleared ≡ false
all_stay_uncleared app [] t never rules = never
all_stay_uncleared app (move ∷ moves) t never rules = all_stay_uncleared app moves (moved app move t) (stays_uncleared app move t never rules.0) rules.1
