-- That keys keep the rules.
use Rattle.std.proofs.Common.{◌≡◌, ◌<◌, ◌||◌, ℕ, Bool, true, false, Result, Ok, Err, List, [], length, refl, ap, sym, subst, ◌∙◌, None}
use Rattle.codes3270.specs.declared.attention.Aid.{Aid}
use Rattle.codes3270.specs.declared.attention.Aid.TheVariants.{NoAid, Enter as EnterAid, Clear as ClearAid, Pf as PfAid, Pa as PaAid}
use Rattle.codes3270.specs.declared.attribute.Cell.{Cell}
use Rattle.datastream.specs.KeptByKeys.{KeptByKeys}
use Rattle.datastream.specs.HeldLaws.{HeldAtFirst, EraseInputHolds}
use Rattle.datastream.specs.Screen.{Screen}
use Rattle.keyboard.specs.Edits.{typed, with_deleted, with_field_erased}
use Rattle.keyboard.specs.Keys.{Outcome, acted, at_lock, edited as edit_or_refusal, pressed}
use Rattle.keyboard.specs.Laws.{KeysLeave, KeysStayOnTheScreen}
use Rattle.keyboard.specs.Leaves.{LeavesDone, Leaves, erases}
use Rattle.keyboard.specs.Sending.{NothingIsSentAtALock, SendingWaits, SilentKeysKeepTheAid, IsSilent}
use Rattle.keyboard.specs.State.{Keyboard}
use Rattle.keyboard.specs.declared.key.Key.{Key}
use Rattle.keyboard.specs.declared.key.Key.TheVariants.{Char, Tab, BackTab, NewLine, Home, CursorUp, CursorDown, CursorLeft, CursorRight, Backspace, Insert, Delete, EraseEof, EraseInput, Reset, Enter, Pf, Pa, Clear}
use Rattle.keyboard.specs.declared.key.Lock.{Lock}
use Rattle.keyboard.specs.declared.key.Lock.TheVariants.{Free, Wait, Error}
use Rattle.keyboard.specs.declared.key.Pressed.{Pressed}
use Rattle.keyboard.specs.declared.key.Pressed.TheVariants.{Done, Refused, Send}
use Rattle.keyboard.specs.declared.key.Refusal.{Refusal}
use Rattle.host_core.specs.Messages.{ToHost}
use Rattle.world3270.proofs.Keys.{or_false, quiet_done, quiet_refused}
use Rattle.world3270.specs.statement.RuleLaws.{KeepsTheRules}
use Rattle.world3270.specs.statement.Rules.{Operates, with_aid}
use Rattle.world3270.specs.model.Terminal.{Display, TermEnd, TermStep, data_of, erases_if, is_bound, key_came, outcome_of}

-- ---- what a key that is done leaves

done_held : EraseInputHolds → (key : Key) (left now : List Cell) → LeavesDone key left now → KeptByKeys (erases key) left now
done_held holds EraseInput left now e = subst (KeptByKeys true left) (sym e) (holds left)
done_held holds (Char letter) left now held = held
done_held holds Tab left now held = held
done_held holds BackTab left now held = held
done_held holds NewLine left now held = held
done_held holds Home left now held = held
done_held holds CursorUp left now held = held
done_held holds CursorDown left now held = held
done_held holds CursorLeft left now held = held
done_held holds CursorRight left now held = held
done_held holds Backspace left now held = held
done_held holds Insert left now held = held
done_held holds Delete left now held = held
done_held holds EraseEof left now held = held
done_held holds Reset left now held = held
done_held holds Enter left now held = held
done_held holds (Pf number) left now held = held
done_held holds (Pa number) left now held = held
done_held holds Clear left now held = held

-- ---- what a key that sends leaves

abbrev aid_of : Pressed → Aid
aid_of (Send aid) = aid
aid_of Done = NoAid
aid_of (Refused why) = NoAid

edit_is_silent : (r : Result Screen Refusal) (keyboard : Keyboard) (screen : Screen) (aid : Aid) → (edit_or_refusal r keyboard screen).answer ≡ Send aid → ⊥
edit_is_silent (Ok new) keyboard screen aid e = absurd (cc)
edit_is_silent (Err why) keyboard screen aid e = absurd (cc)

sent_at_free : (columns : ℕ) (key : Key) (keyboard : Keyboard) (screen : Screen) (aid : Aid) → (acted columns key keyboard screen).answer ≡ Send aid → (acted columns key keyboard screen).screen ≡ with_aid aid screen
sent_at_free columns Enter keyboard screen aid e = subst (λ a. record screen { aid = EnterAid } ≡ with_aid a screen) (ap aid_of e) refl
sent_at_free columns (Pf number) keyboard screen aid e = subst (λ a. record screen { aid = PfAid number } ≡ with_aid a screen) (ap aid_of e) refl
sent_at_free columns (Pa number) keyboard screen aid e = subst (λ a. record screen { aid = PaAid number } ≡ with_aid a screen) (ap aid_of e) refl
sent_at_free columns Clear keyboard screen aid e = subst (λ a. with_aid ClearAid screen ≡ with_aid a screen) (ap aid_of e) refl
sent_at_free columns (Char letter) keyboard screen aid e = absurd (edit_is_silent (typed keyboard.inserting letter screen) keyboard screen aid e)
sent_at_free columns Delete keyboard screen aid e = absurd (edit_is_silent (with_deleted columns screen) keyboard screen aid e)
sent_at_free columns EraseEof keyboard screen aid e = absurd (edit_is_silent (with_field_erased screen) keyboard screen aid e)
sent_at_free columns Tab keyboard screen aid e = absurd (cc)
sent_at_free columns BackTab keyboard screen aid e = absurd (cc)
sent_at_free columns NewLine keyboard screen aid e = absurd (cc)
sent_at_free columns Home keyboard screen aid e = absurd (cc)
sent_at_free columns CursorUp keyboard screen aid e = absurd (cc)
sent_at_free columns CursorDown keyboard screen aid e = absurd (cc)
sent_at_free columns CursorLeft keyboard screen aid e = absurd (cc)
sent_at_free columns CursorRight keyboard screen aid e = absurd (cc)
sent_at_free columns Backspace keyboard screen aid e = absurd (cc)
sent_at_free columns Insert keyboard screen aid e = absurd (cc)
sent_at_free columns EraseInput keyboard screen aid e = absurd (cc)
sent_at_free columns Reset keyboard screen aid e = absurd (cc)

-- at any lock
sent_screen : NothingIsSentAtALock → (columns : ℕ) (key : Key) (keyboard : Keyboard) (screen : Screen) (aid : Aid) (lock : Lock) → keyboard.lock ≡ lock
    → (pressed columns key keyboard screen).answer ≡ Send aid → (pressed columns key keyboard screen).screen ≡ with_aid aid screen
sent_screen none columns key keyboard screen aid Free free e =
    let as_free : pressed columns key keyboard screen ≡ acted columns key keyboard screen = ap (λ l. at_lock l columns key keyboard screen) free in
    ap (λ (o : Outcome). o.screen) as_free ∙ sent_at_free columns key keyboard screen aid (sym (ap (λ (o : Outcome). o.answer) as_free) ∙ e)
sent_screen none columns key keyboard screen aid Wait locked e = absurd ((none columns key keyboard screen (λ free. let clash = sym locked ∙ free in absurd (cc))).0 aid e)
sent_screen none columns key keyboard screen aid Error locked e = absurd ((none columns key keyboard screen (λ free. let clash = sym locked ∙ free in absurd (cc))).0 aid e)

-- ---- the end after a key

-- part by part
abbrev pub stepped : TermEnd → Keyboard → Screen → Bool → List ToHost → TermStep
stepped end keyboard screen erased sends =
    record { end = record end { display = record end.display { screen = screen; keyboard = keyboard; erased = erased } }; sends = sends; closes = None }

-- a screen is its parts
pub same_parts : (now was : Screen) → now.aid ≡ was.aid → now ≡ record was { cells = now.cells; cursor = now.cursor }
same_parts now was e = ap (λ aid. record now { aid = aid }) e

module _ (leave : KeysLeave) (on_screen : KeysStayOnTheScreen) (keep_aid : SilentKeysKeepTheAid) (none : NothingIsSentAtALock) (sending : SendingWaits) (at_first : HeldAtFirst) (holds : EraseInputHolds)
    (key : Key) (end : TermEnd) (below : end.display.screen.cursor < length end.display.screen.cells) where
  abbrev display : Display
  display = end.display

  abbrev columns : ℕ
  columns = display.size.columns

  abbrev outcome : Outcome
  outcome = outcome_of key display

  abbrev after : Pressed → Screen → TermStep
  after answer screen = stepped end outcome.keyboard screen (display.erased || erases_if answer key) (data_of (is_bound end) answer display.size screen)

  left : Leaves key outcome.answer display.screen.cells outcome.screen.cells
  left = leave columns key display.keyboard display.screen below

  -- a key that sends nothing
  silent : (answer : Pressed) → outcome.answer ≡ answer → IsSilent answer → data_of (is_bound end) answer display.size outcome.screen ≡ [] → KeptByKeys (erases_if answer key) display.screen.cells outcome.screen.cells
      → Operates end (key_came key end)
  silent answer e quiet nothing held =
      let stays = on_screen columns key display.keyboard display.screen below in
      let same_aid = keep_aid columns key display.keyboard display.screen (subst IsSilent (sym e) quiet) in
      Operates.edits outcome.keyboard outcome.screen.cells outcome.screen.cursor (erases_if answer key) held (subst (λ n. outcome.screen.cursor < n) (sym stays.0) stays.1)
      (ap (λ a. after a outcome.screen) e
      ∙ ap (λ sends. stepped end outcome.keyboard outcome.screen (display.erased || erases_if answer key) sends) nothing
      ∙ ap (λ screen. stepped end outcome.keyboard screen (display.erased || erases_if answer key) []) (same_parts outcome.screen display.screen same_aid))

  by_answer : (answer : Pressed) → outcome.answer ≡ answer → Operates end (key_came key end)
  by_answer Done e =
      silent Done e (λ aid sent. absurd (cc)) (quiet_done (is_bound end) display.size outcome.screen)
      (done_held holds key display.screen.cells outcome.screen.cells (subst (λ a. Leaves key a display.screen.cells outcome.screen.cells) e left))
  by_answer (Refused why) e =
      silent (Refused why) e (λ aid sent. absurd (cc)) (quiet_refused (is_bound end) why display.size outcome.screen)
      (subst (KeptByKeys false display.screen.cells) (sym (subst (λ a. Leaves key a display.screen.cells outcome.screen.cells) e left)) (at_first display.screen.cells))
  by_answer (Send aid) e =
      let sent = sending columns key display.keyboard display.screen aid e in
      Operates.sends outcome.keyboard aid sent.1
      (ap (λ a. after a outcome.screen) e
      ∙ ap (λ screen. after (Send aid) screen) (sent_screen none columns key display.keyboard display.screen aid display.keyboard.lock refl e)
      ∙ ap (λ erased. stepped end outcome.keyboard (with_aid aid display.screen) erased (data_of (is_bound end) (Send aid) display.size (with_aid aid display.screen))) (or_false display.erased))

  key_operates : Operates end (key_came key end)
  key_operates = by_answer outcome.answer refl

pub keys_operate : KeysLeave → KeysStayOnTheScreen → SilentKeysKeepTheAid → NothingIsSentAtALock → SendingWaits → HeldAtFirst → EraseInputHolds → KeepsTheRules key_came
keys_operate leave on_screen keep_aid none sending at_first holds key end below = key_operates leave on_screen keep_aid none sending at_first holds key end below
