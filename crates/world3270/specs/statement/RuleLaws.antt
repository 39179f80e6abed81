-- Terminals that keep the rules (our profile): ours, one whose Reset ends the wait, one that ignores the numeric
-- attribute, and one at which a text is pasted.
use Rattle.std.specs.Prelude.{◌<◌, ◌+◌, ◌%◌, ◌∷◌, [], ℕ, List, length, drop, take, Option, Some, None, if◌then◌else◌}
use Rattle.codes3270.specs.CodePage.{code_of}
use Rattle.datastream.specs.Screen.{Screen}
use Rattle.keyboard.specs.Edits.{rewritten, text_from}
use Rattle.keyboard.specs.Places.{is_free_at}
use Rattle.keyboard.specs.State.{Keyboard, freed}
use Rattle.keyboard.specs.declared.key.Key.{Key}
use Rattle.keyboard.specs.declared.key.Key.TheVariants.{Char, Reset}
use Rattle.keyboard.specs.declared.key.Lock.{Lock}
use Rattle.keyboard.specs.declared.key.Lock.TheVariants.{Free, Wait, Error}
use Rattle.world3270.specs.statement.Rules.{Operates, shows}
use Rattle.world3270.specs.model.Terminal.{TermEnd, TermStep, key_came}

-- a step to this screen that sends nothing
abbrev pub shows_screen : Screen → TermEnd → TermStep
shows_screen screen end = shows end.display.keyboard (record end.display { screen = screen }) [] end

-- ---- Reset ends the wait

-- the keyboard before a key: Reset ends any lock, also the wait for the host, as in x3270
abbrev pub freed_by_reset : Key → Keyboard → Keyboard
freed_by_reset Reset keyboard = freed keyboard
freed_by_reset _ keyboard = keyboard

-- a key at a terminal that differs from ours only in its Reset
abbrev pub impatient_key : Key → TermEnd → TermStep
impatient_key key end =
    key_came key (record end { display = record end.display { keyboard = freed_by_reset key end.display.keyboard } })

-- ---- numeric is ignored

-- a character is stored at the cursor, in any unprotected field, and the cursor goes to the next cell
abbrev pub stored_anyway : Option ℕ → Screen → Screen
stored_anyway None screen = screen
stored_anyway (Some byte) screen =
    if is_free_at screen.cells screen.cursor
    then record (rewritten (byte ∷ drop 1 (text_from screen.cells screen.cursor)) screen) {
      cursor = (screen.cursor + 1) % length screen.cells;
    }
    else screen

abbrev pub at_lock : Lock → (free locked : TermStep) → TermStep
at_lock Free free locked = free
at_lock Wait free locked = locked
at_lock Error free locked = locked

-- a key at such a terminal: any character is stored while the keyboard isn't locked
abbrev pub careless_key : Key → TermEnd → TermStep
careless_key (Char letter) end = at_lock end.display.keyboard.lock
    (shows_screen (stored_anyway (code_of letter) end.display.screen) end) (key_came (Char letter) end)
careless_key key end = key_came key end

-- ---- a text is pasted

-- the text is written from the cursor on, up to the end of the field
abbrev pub with_pasted : List ℕ → Screen → Screen
with_pasted text screen =
    if is_free_at screen.cells screen.cursor
    then rewritten (take (length (text_from screen.cells screen.cursor)) text) screen else screen

-- the text is pasted, whether or not the keyboard is locked
abbrev pub pasted : List ℕ → TermEnd → TermStep
pasted text end = shows_screen (with_pasted text end.display.screen) end

-- ---- they keep the rules

abbrev pub KeepsTheRules : {Input : Type 0} → (Input → TermEnd → TermStep) → Type 0
KeepsTheRules {Input} done = (input : Input) (end : TermEnd)
    → end.display.screen.cursor < length end.display.screen.cells → Operates end (done input end)

-- Each key keeps the rules at our terminal, at one whose Reset ends the wait, and at one that ignores the numeric
-- attribute; and so does a text that is pasted.
pub record TerminalsKeepTheRules : Type 0 where
  pub ours : KeepsTheRules key_came
  pub impatient : KeepsTheRules impatient_key
  pub careless : KeepsTheRules careless_key
  pub pasting : KeepsTheRules pasted
