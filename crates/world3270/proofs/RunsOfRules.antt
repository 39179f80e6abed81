-- The runs of the example with terminals that don't wait, and with terminals that break a rule, computed.
use Rattle.std.proofs.Common.{◌≡◌, ◌==◌, Bool, ℕ, zero, suc, true, false, List, [], ◌∷◌, ◌++◌, Some, refl, ap, sym, subst, lit≤, lit<}
use Rattle.std.specs.Prelude.{⊤, slice_get, slice_index_or}
use Rattle.codes3270.specs.declared.attention.Aid.TheVariants.{Clear, Enter, NoAid, Pa}
use Rattle.codes3270.specs.declared.attribute.Attr.{Attr as Attribute}
use Rattle.codes3270.specs.declared.attribute.Cell.{Cell}
use Rattle.codes3270.specs.declared.attribute.Cell.TheVariants.{Char, Attr}
use Rattle.codes3270.specs.declared.size.Model.TheVariants.{M2}
use Rattle.datastream.specs.Screen.{Screen}
use Rattle.datastream.specs.declared.wanted.Want.{Want}
use Rattle.datastream.specs.declared.wanted.Want.TheVariants as want
use Rattle.keyboard.proofs.Kept.{rewritten_held}
use Rattle.keyboard.specs.Places.{onward, backward}
use Rattle.lu_pool.specs.HolderLaws.{IsSound}
use Rattle.tn3270e_msg.specs.Device.{device_for}
use Rattle.host_core.specs.Laws.{MarksInput}
use Rattle.host_core.specs.declared.terminals.Terminals.TheVariants.{Any, Verified, Waiting}
use Rattle.world3270.specs.statement.EveryTerminal.{AreByTheRules, FirstPaint, RightOf, LinkWithReport, after_moves, told_link}
use Rattle.world3270.specs.examples.ExampleApplication.{example_pool, greeting, l1, l2, sign_on, tall_greeting}
use Rattle.world3270.specs.examples.ExampleRules.{BrokenRules, CheckingRun, ClearedRun, KeptRules, ToldRun, WaitingRun, acts, after, agreed_with, answered_behind, answered_behind_read, clears_after_read, cleared_moves, clears, clears_before_paint, clears_before_read, clears_in_the_wait, example_for, decides_behind, does, enters, enters_twice, entered, goes_down, goes_up, ignores, kept_moves, left_behind, name_asked, paged, pasted_behind, presses, relabels, renamed_seen, required_seen, sends_what_was_left, shown_by, shown_once_more, signs_on, small_greeting, still_asked, told_the_newest, types_in_the_wait}
use Rattle.keyboard.specs.declared.key.Key.TheVariants as key
use Rattle.world3270.specs.model.Terminal.{TermEnd}
use Rattle.world3270.specs.statement.Headline.{IsHostsTurn}
use Rattle.world3270.proofs.ExampleGiven.{is_application, is_pool}
use Rattle.world3270.specs.statement.Rules.{Binds, Operates}
use Rattle.world3270.specs.statement.Observation.{conn_seen, end_seen, seen_link}

unlike : true ≡ false → ⊥
unlike e = absurd (cc)

no_clear : NoAid ≡ Clear → ⊥
no_clear e = absurd (cc)

-- ---- the wait is ended

any_is_right : shown_by (after Any types_in_the_wait) ≡ small_greeting renamed_seen
unfolding onward backward
any_is_right = refl

relying_is_wrong : shown_by (after Waiting types_in_the_wait) ≡ small_greeting left_behind
unfolding onward backward
relying_is_wrong = refl

relying_decides : RightOf (example_for Waiting) l1 (after Waiting decides_behind) → ⊥
unfolding onward backward
relying_decides right =
    let t : LinkWithReport = after Waiting decides_behind in
    let turn : IsHostsTurn (seen_link (told_link t)) = record { host = conn_seen t.link.host; host_is = refl; terminal = end_seen 0 (told_link t).term; terminal_is = refl; turn = refl; answered = refl } in
    let first = (right.agrees (λ repeats. absurd (let wrong = repeats.refusal in cc)) turn).sees.meets.1.0 in
    unlike (ap (λ (text : List ℕ). slice_index_or text 6 0 == 0xD8) first.holds)

pub waiting_run : WaitingRun
waiting_run = record { any = any_is_right; relying = relying_is_wrong; wrong = relying_decides }

-- ---- the screen is read in the wait

pub checking_run : CheckingRun
unfolding onward backward
checking_run = record { typed = refl; told = refl; asked = refl }

-- ---- what was told

newest_is_wrong : RightOf (example_for Any) l1 (told_the_newest (after Any enters_twice)) → ⊥
unfolding onward backward
newest_is_wrong right =
    let t : LinkWithReport = told_the_newest (after Any enters_twice) in
    let turn : IsHostsTurn (seen_link (told_link t)) = record { host = conn_seen t.link.host; host_is = refl; terminal = end_seen 0 (told_link t).term; terminal_is = refl; turn = refl; answered = refl } in
    let second = (right.agrees (λ repeats. absurd (let wrong = repeats.refusal in cc)) turn).sees.meets.1.1.0 in
    unlike (ap (λ (text : List ℕ). slice_index_or text 1 0 == 0xC2) second.holds)

pub told_run : ToldRun
told_run = record { newest = newest_is_wrong }

-- ---- Clear in the wait

abbrev is_char : Cell → Bool
is_char (Char byte) = true
is_char (Attr attribute) = false

crossed_is_wrong : shown_by (after Any clears_before_paint) ≡ required_seen → ⊥
unfolding onward backward
crossed_is_wrong same = unlike (ap (λ (screen : Screen). is_char (slice_index_or screen.cells 0 (Char 0))) same)

erased_is_right : shown_by (after Any answered_behind) ≡ small_greeting renamed_seen
unfolding onward backward
erased_is_right = refl

repeated_is_right : shown_by (after Any shown_once_more) ≡ required_seen
unfolding onward backward
repeated_is_right = refl

still_asks : still_asked (after Any clears_in_the_wait) ≡ Some (0xC1 ∷ [])
unfolding onward backward
still_asks = refl

was_cleared : (after Any clears_in_the_wait).cleared ≡ true
unfolding onward backward
was_cleared = refl

asks_behind_read : name_asked (after Verified clears_before_read) ≡ Some (0xC1 ∷ [])
unfolding onward backward
asks_behind_read = refl

answer_is_wrong : RightOf (example_for Verified) l1 (told_the_newest (after Verified clears_before_read)) → ⊥
unfolding onward backward
answer_is_wrong right =
    let t : LinkWithReport = told_the_newest (after Verified clears_before_read) in
    let turn : IsHostsTurn (seen_link (told_link t)) = record { host = conn_seen t.link.host; host_is = refl; terminal = end_seen 0 (told_link t).term; terminal_is = refl; turn = refl; answered = refl } in
    (right.agrees (λ repeats. absurd (let wrong = repeats.refusal in cc)) turn).sees.meets.0 refl

erased_behind_read : shown_by (after Verified answered_behind_read) ≡ small_greeting renamed_seen
unfolding onward backward
erased_behind_read = refl

told_by_read : slice_get (after Any clears_after_read).told.screen.cells 6 ≡ Some (Char 0xC1)
unfolding onward backward
told_by_read = refl

nulled_behind : slice_get (shown_by (after Any clears_after_read)).cells 6 ≡ Some (Char 0)
unfolding onward backward
nulled_behind = refl

pub cleared_run : ClearedRun
cleared_run = record {
  cleared = was_cleared;
  asked = still_asks;
  erased = erased_is_right;
  crossed = crossed_is_wrong;
  repeated = repeated_is_right;
  read = asks_behind_read;
  unread = answer_is_wrong;
  read_erased = erased_behind_read;
  told = told_by_read;
  nulled = nulled_behind;
}

-- ---- a rule is broken

without_applying : RightOf (example_for Any) l1 (after Any (acts ∷ ignores ∷ goes_up ∷ enters)) → ⊥
unfolding onward backward
without_applying right =
    let t : LinkWithReport = after Any (acts ∷ ignores ∷ goes_up ∷ enters) in
    let turn : IsHostsTurn (seen_link (told_link t)) = record { host = conn_seen t.link.host; host_is = refl; terminal = end_seen 0 (told_link t).term; terminal_is = refl; turn = refl; answered = refl } in
    (right.agrees (λ repeats. absurd (let wrong = repeats.refusal in cc)) turn).sees.meets.0 refl

without_edits_of_input : RightOf (example_for Any) l1 (after Any (signs_on ++ does relabels ∷ enters)) → ⊥
unfolding onward backward
without_edits_of_input right =
    let t : LinkWithReport = after Any (signs_on ++ does relabels ∷ enters) in
    let turn : IsHostsTurn (seen_link (told_link t)) = record { host = conn_seen t.link.host; host_is = refl; terminal = end_seen 0 (told_link t).term; terminal_is = refl; turn = refl; answered = refl } in
    let first = (right.agrees (λ repeats. absurd (let wrong = repeats.refusal in cc)) turn).sees.meets.1.0 in
    unlike (ap (λ (text : List ℕ). slice_index_or text 0 0 == 0xE7) first.holds)

without_sending : RightOf (example_for Any) l1 (after Any (signs_on ++ presses (key.Char 0x41) ∷ does sends_what_was_left ∷ goes_up ∷ [])) → ⊥
unfolding onward backward
without_sending right =
    let t : LinkWithReport = after Any (signs_on ++ presses (key.Char 0x41) ∷ does sends_what_was_left ∷ goes_up ∷ []) in
    let turn : IsHostsTurn (seen_link (told_link t)) = record { host = conn_seen t.link.host; host_is = refl; terminal = end_seen 0 (told_link t).term; terminal_is = refl; turn = refl; answered = refl } in
    let second = (right.agrees (λ repeats. absurd (let wrong = repeats.refusal in cc)) turn).sees.meets.1.1.0 in
    unlike (ap (λ (text : List ℕ). slice_index_or text 0 0 == 0xC1) second.holds)

without_binding : RightOf (example_for Any) l1 (agreed_with Any l2) → ⊥
without_binding right = unlike (ap (λ (name : List ℕ). slice_index_or name 1 0 == 0x32) (right.bound l2 refl))

pub broken_rules : BrokenRules
broken_rules = record { applies = without_applying; edits = without_edits_of_input; sends = without_sending; binds = without_binding }

-- ---- the rules are kept

-- each attribute in these cells is protected, or has MDT on
abbrev AreReturned : List Want → Type 0
AreReturned [] = ⊤
AreReturned (want.Attr attribute ∷ cells) = (attribute.protected ≡ false → attribute.mdt ≡ true) × AreReturned cells
AreReturned (want.Char byte ∷ cells) = AreReturned cells
AreReturned (want.Keep ∷ cells) = AreReturned cells

returned : (cells : List Want) → AreReturned cells → (at : ℕ) (attribute : Attribute) → slice_get cells at ≡ Some (want.Attr attribute) → attribute.protected ≡ false → attribute.mdt ≡ true
returned [] all zero attribute is free = absurd (cc)
returned [] all (suc at) attribute is free = absurd (cc)
returned (want.Attr one ∷ cells) all zero attribute is free =
    let same : one ≡ attribute = cc in
    subst (λ (x : Attribute). x.protected ≡ false → x.mdt ≡ true) same all.0 free
returned (want.Char byte ∷ cells) all zero attribute is free = absurd (cc)
returned (want.Keep ∷ cells) all zero attribute is free = absurd (cc)
returned (want.Attr one ∷ cells) all (suc at) attribute is free = returned cells all.1 at attribute is free
returned (want.Char byte ∷ cells) all (suc at) attribute is free = returned cells all at attribute is free
returned (want.Keep ∷ cells) all (suc at) attribute is free = returned cells all at attribute is free

marks : MarksInput (example_for Any)
marks zero values message true = returned (sign_on true values message true).cells (λ free. absurd (cc), (λ free. refl, (λ free. absurd (cc), (λ free. refl, (λ free. absurd (cc), (λ free. absurd (cc), tt))))))
marks zero values message false = returned (sign_on true values message false).cells (λ free. absurd (cc), (λ free. refl, (λ free. absurd (cc), (λ free. refl, (λ free. absurd (cc), (λ free. absurd (cc), tt))))))
marks (suc zero) values message keep = returned (tall_greeting values message).cells (λ free. absurd (cc), (λ free. absurd (cc), tt))
marks (suc (suc panel)) values message keep = returned (greeting values message).cells (λ free. absurd (cc), (λ free. absurd (cc), tt))

begins : FirstPaint (example_for Any) l1 (agreed_with Any l1)
begins = record {
  device = device_for M2;
  agreed = refl;
  serves = Any;
  any = refl;
  returns = marks;
  host = refl;
  binds = Binds.bound refl refl;
  blank = refl;
  nothing_up = refl;
  host_here = refl;
  term_here = refl;
  told = refl;
  waits = refl;
  cleared = refl;
}

sound : IsSound example_pool
sound = record { are_lus = is_pool.are_lus; once = is_pool.listed_once }

enters_by_the_rules : Operates (after Any signs_on).link.term entered
enters_by_the_rules = Operates.sends entered.end.display.keyboard Enter (λ none. absurd (cc)) refl

pastes_by_the_rules : Operates entered.end pasted_behind
unfolding onward backward
pastes_by_the_rules =
    Operates.edits entered.end.display.keyboard pasted_behind.end.display.screen.cells pasted_behind.end.display.screen.cursor false
    (rewritten_held (0xC1 ∷ []) entered.end.display.screen (lit< tt) refl (lit≤ tt)) (lit< tt) refl

keeps_the_rules : AreByTheRules (example_for Any) kept_moves (agreed_with Any l1)
unfolding onward backward pastes_by_the_rules
keeps_the_rules = (tt, (tt, (sound, ((enters_by_the_rules, λ waits. absurd (unlike (sym waits))), ((pastes_by_the_rules, λ waits uncleared clear. absurd (no_clear clear)), tt)))))

pages_by_the_rules : Operates (after Any signs_on).link.term paged
pages_by_the_rules = Operates.sends paged.end.display.keyboard (Pa 1) (λ none. absurd (cc)) refl

clears_by_the_rules : (end : TermEnd) → Operates end (clears end)
clears_by_the_rules end = Operates.sends end.display.keyboard Clear (λ none. absurd (cc)) refl

clears_in_a_run : AreByTheRules (example_for Any) cleared_moves (agreed_with Any l1)
unfolding onward backward
clears_in_a_run =
    let end : TermEnd = (after Any (signs_on ++ presses (key.Pa 1) ∷ goes_up ∷ acts ∷ goes_down ∷ [])).link.term in
    (tt, (tt, (sound, ((pages_by_the_rules, λ waits. absurd (unlike (sym waits))), (sound, (tt, (tt, ((clears_by_the_rules end, λ waits uncleared clear pa. refl), tt))))))))

changes_in_the_wait : shown_by (after_moves (example_for Any) kept_moves (agreed_with Any l1)) ≡ (after_moves (example_for Any) kept_moves (agreed_with Any l1)).told.screen → ⊥
unfolding onward backward
changes_in_the_wait same = unlike (ap (λ (screen : Screen). byte_at 6 screen == 0xC1) same)
  where
    byte_of : Cell → ℕ
    byte_of (Char byte) = byte
    byte_of (Attr attribute) = 0

    byte_at : ℕ → Screen → ℕ
    byte_at place screen = byte_of (slice_index_or screen.cells place (Char 0))

pub kept_rules : KeptRules
kept_rules = record { application = is_application true; begins = begins; kept = keeps_the_rules; cleared = clears_in_a_run; changed = changes_in_the_wait }
