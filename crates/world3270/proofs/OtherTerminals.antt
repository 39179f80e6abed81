-- Terminals other than ours keep the rules.
use Rattle.std.proofs.Common.{◌≡◌, ◌<◌, ◌≤◌, ◌+◌, ◌%◌, ℕ, Bool, true, false, List, [], ◌∷◌, length, take, drop, Option, Some, None, if◌then◌else◌, arith, ap, sym, subst, refl, ◌∙◌, length-take, length-drop}
use Rattle.std.proofs.Math.Nat.{mod-lt}
use Rattle.codes3270.specs.CodePage.{code_of}
use Rattle.datastream.specs.KeptByKeys.{KeptByKeys}
use Rattle.datastream.specs.HeldLaws.{HeldAtFirst}
use Rattle.datastream.specs.Screen.{Screen}
use Rattle.keyboard.proofs.Kept.{rewritten_held}
use Rattle.keyboard.proofs.Texts.{free_is_char, text_some}
use Rattle.keyboard.specs.Edits.{rewritten, text_from}
use Rattle.keyboard.specs.Places.{is_free_at}
use Rattle.keyboard.specs.State.{Keyboard}
use Rattle.keyboard.specs.declared.key.Key.{Key}
use Rattle.keyboard.specs.declared.key.Key.TheVariants.{Char, Tab, BackTab, NewLine, Home, CursorUp, CursorDown, CursorLeft, CursorRight, Backspace, Insert, Delete, EraseEof, EraseInput, Reset, Enter, Pf, Pa, Clear}
use Rattle.keyboard.specs.declared.key.Lock.{Lock}
use Rattle.keyboard.specs.declared.key.Lock.TheVariants.{Free, Wait, Error}
use Rattle.world3270.proofs.KeyMoves.{same_parts, stepped}
use Rattle.world3270.proofs.Keys.{or_false}
use Rattle.world3270.specs.statement.RuleLaws.{KeepsTheRules, at_lock, careless_key, freed_by_reset, impatient_key, pasted, shows_screen, stored_anyway}
use Rattle.world3270.specs.statement.Rules.{Operates}
use Rattle.world3270.specs.model.Terminal.{TermEnd, TermStep, key_came}

-- ---- Reset ends the wait

-- What is done from another keyboard is done from this one: each move sets the keyboard.
from_any_keyboard : (keyboard : Keyboard) (end : TermEnd) (step : TermStep) → Operates (record end { display = record end.display { keyboard = keyboard } }) step → Operates end step
from_any_keyboard before end step (Operates.edits keyboard cells cursor erases held on is) = Operates.edits keyboard cells cursor erases held on is
from_any_keyboard before end step (Operates.sends keyboard aid some is) = Operates.sends keyboard aid some is

pub impatient_keys_operate : KeepsTheRules key_came → KeepsTheRules impatient_key
impatient_keys_operate operate key end below =
    let keyboard = freed_by_reset key end.display.keyboard in
    from_any_keyboard keyboard end (impatient_key key end) (operate key (record end { display = record end.display { keyboard = keyboard } }) below)

-- ---- a screen that differs in input alone

held_screen : (screen : Screen) (end : TermEnd) → KeptByKeys false end.display.screen.cells screen.cells → screen.cursor < length screen.cells → screen.aid ≡ end.display.screen.aid → Operates end (shows_screen screen end)
held_screen screen end held on aid =
    Operates.edits end.display.keyboard screen.cells screen.cursor false held on
    (ap (λ s. stepped end end.display.keyboard s end.display.erased []) (same_parts screen end.display.screen aid)
    ∙ ap (λ erased. stepped end end.display.keyboard (record end.display.screen { cells = screen.cells; cursor = screen.cursor }) erased []) (sym (or_false end.display.erased)))

-- a text from the cursor on, in a free cell
rewritten_operates : (text : List ℕ) (cursor : ℕ) (end : TermEnd) → end.display.screen.cursor < length end.display.screen.cells → is_free_at end.display.screen.cells end.display.screen.cursor ≡ true
    → length text ≤ length (text_from end.display.screen.cells end.display.screen.cursor) → cursor < length end.display.screen.cells
    → Operates end (shows_screen (record (rewritten text end.display.screen) { cursor = cursor }) end)
rewritten_operates text cursor end below free few on =
    let held = rewritten_held text end.display.screen below free few in
    held_screen (record (rewritten text end.display.screen) { cursor = cursor }) end held (subst (λ n. cursor < n) (sym held.same_length) on) refl

module _ (at_first : HeldAtFirst) (end : TermEnd) (below : end.display.screen.cursor < length end.display.screen.cells) where
  abbrev old : Screen
  old = end.display.screen

  abbrev text : List ℕ
  text = text_from old.cells old.cursor

  some : is_free_at old.cells old.cursor ≡ true → 0 < length text
  some free = text_some old.cells old.cursor below (free_is_char old.cells old.cursor free)

  stays : Operates end (shows_screen old end)
  stays = held_screen old end (at_first old.cells) below refl

  -- ---- numeric is ignored

  stored_operates : (code : Option ℕ) → Operates end (shows_screen (stored_anyway code old) end)
  stored_operates None = stays
  stored_operates (Some byte) = by_test (is_free_at old.cells old.cursor) refl
    where
      by_test : (free : Bool) → is_free_at old.cells old.cursor ≡ free
          → Operates end (shows_screen (if free then record (rewritten (byte ∷ drop 1 text) old) { cursor = (old.cursor + 1) % length old.cells } else old) end)
      by_test true free =
          let positive = some free in
          rewritten_operates (byte ∷ drop 1 text) ((old.cursor + 1) % length old.cells) end below free (omega (arith, length-drop 1 text)) (mod-lt (old.cursor + 1) (omega arith))
      by_test false free = stays

  careless_operates : KeepsTheRules key_came → (key : Key) → Operates end (careless_key key end)
  careless_operates operate (Char letter) = by_lock end.display.keyboard.lock
    where
      by_lock : (lock : Lock) → Operates end (at_lock lock (shows_screen (stored_anyway (code_of letter) old) end) (key_came (Char letter) end))
      by_lock Free = stored_operates (code_of letter)
      by_lock Wait = operate (Char letter) end below
      by_lock Error = operate (Char letter) end below
  careless_operates operate Tab = operate Tab end below
  careless_operates operate BackTab = operate BackTab end below
  careless_operates operate NewLine = operate NewLine end below
  careless_operates operate Home = operate Home end below
  careless_operates operate CursorUp = operate CursorUp end below
  careless_operates operate CursorDown = operate CursorDown end below
  careless_operates operate CursorLeft = operate CursorLeft end below
  careless_operates operate CursorRight = operate CursorRight end below
  careless_operates operate Backspace = operate Backspace end below
  careless_operates operate Insert = operate Insert end below
  careless_operates operate Delete = operate Delete end below
  careless_operates operate EraseEof = operate EraseEof end below
  careless_operates operate EraseInput = operate EraseInput end below
  careless_operates operate Reset = operate Reset end below
  careless_operates operate Enter = operate Enter end below
  careless_operates operate (Pf number) = operate (Pf number) end below
  careless_operates operate (Pa number) = operate (Pa number) end below
  careless_operates operate Clear = operate Clear end below

  -- ---- a text is pasted

  pasted_operates : (pasting : List ℕ) → Operates end (pasted pasting end)
  pasted_operates pasting = by_test (is_free_at old.cells old.cursor) refl
    where
      by_test : (free : Bool) → is_free_at old.cells old.cursor ≡ free → Operates end (shows_screen (if free then rewritten (take (length text) pasting) old else old) end)
      by_test true free = rewritten_operates (take (length text) pasting) old.cursor end below free (omega (arith, length-take (length text) pasting)) below
      by_test false free = stays

pub careless_keys_operate : HeldAtFirst → KeepsTheRules key_came → KeepsTheRules careless_key
careless_keys_operate at_first operate key end below = careless_operates at_first end below operate key

pub pasting_operates : HeldAtFirst → KeepsTheRules pasted
pasting_operates at_first text end below = pasted_operates at_first end below text
