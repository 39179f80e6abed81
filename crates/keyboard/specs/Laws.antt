-- Laws of the keys, for proofs in the crates above (our profile).
use Rattle.std.specs.Prelude.{◌≡◌, ◌+◌, ◌-◌, ◌%◌, ◌<◌, ◌≤◌, ◌==◌, ◌++◌, ◌∷◌, [], ⊤, ℕ, Bool, true, false, not, if◌then◌else◌, List, Some, None, length, drop, slice_index_or}
use Rattle.std.specs.List.{list_all}
use Rattle.codes3270.specs.declared.attribute.Cell.{Cell}
use Rattle.codes3270.specs.declared.attribute.Cell.TheVariants.{Char}
use Rattle.datastream.specs.Screen.{Screen, IsGoverned, is_char}
use Rattle.datastream.specs.Span.{is_within}
use Rattle.datastream.specs.KeptByKeys.{KeptByKeys, erased_input}
use Rattle.datastream.specs.HeldRound.{erased_round}
use Rattle.keyboard.specs.declared.key.Key.{Key}
use Rattle.keyboard.specs.declared.key.Key.TheVariants.{Reset, Char as CharLetter}
use Rattle.keyboard.specs.declared.key.Lock.TheVariants.{Free, Wait}
use Rattle.keyboard.specs.declared.key.Pressed.TheVariants.{Refused}
use Rattle.keyboard.specs.declared.key.Refusal.{Refusal}
use Rattle.keyboard.specs.declared.key.Refusal.TheVariants.{Locked}
use Rattle.keyboard.specs.State.{Keyboard}
use Rattle.keyboard.specs.KeyNames.{key_named, key_name}
use Rattle.keyboard.specs.Sendable.{IsKey}
use Rattle.datastream.specs.Meaning.{home, modified}
use Rattle.keyboard.specs.Places.{onward, backward, first_or_zero, next_start}
use Rattle.keyboard.specs.Edits.{text_from, rewritten, with_room, deleted}
use Rattle.keyboard.specs.Keys.{pressed, refused}
use Rattle.keyboard.specs.Leaves.{Leaves, Keeps}

-- ---- what keys leave of the cells

-- Each key changes the cells only as `Leaves` says.
abbrev pub KeysLeave : Type 0
KeysLeave = (columns : ℕ) (key : Key) (keyboard : Keyboard) (screen : Screen) → screen.cursor < length screen.cells
    → let outcome = pressed columns key keyboard screen in Leaves key outcome.answer screen.cells outcome.screen.cells

-- If earlier keys kept what the last write left, then so does the next key, as `Keeps` says.
abbrev pub KeysKeep : Type 0
KeysKeep = (erased : Bool) (left : List Cell) (columns : ℕ) (key : Key) (keyboard : Keyboard) (screen : Screen)
    → screen.cursor < length screen.cells → KeptByKeys erased left screen.cells
    → let outcome = pressed columns key keyboard screen in Keeps erased key outcome.answer left outcome.screen.cells

-- The cells after Erase Input are those that a walk from address 0 gives.
abbrev pub EraseInputIsWalked : Type 0
EraseInputIsWalked = (cells : List Cell) → erased_input cells ≡ erased_round cells

-- The cursor stays on the screen, which keeps its size.
abbrev pub KeysStayOnTheScreen : Type 0
KeysStayOnTheScreen = (columns : ℕ) (key : Key) (keyboard : Keyboard) (screen : Screen)
    → screen.cursor < length screen.cells
    → let new = (pressed columns key keyboard screen).screen in (length new.cells ≡ length screen.cells)
    × (new.cursor < length screen.cells)

-- ---- refusals and locks

-- A refused key changes nothing, except that some refusals set the lock.
abbrev pub RefusalsSetTheLockAlone : Type 0
RefusalsSetTheLockAlone = (columns : ℕ) (key : Key) (keyboard : Keyboard) (screen : Screen) (why : Refusal)
    → (pressed columns key keyboard screen).answer ≡ Refused why
    → pressed columns key keyboard screen ≡ refused why keyboard screen

-- While the lock isn't Free, every key but Reset is refused.
abbrev pub ResetAloneActsUnderALock : Type 0
ResetAloneActsUnderALock = (columns : ℕ) (key : Key) (keyboard : Keyboard) (screen : Screen)
    → (keyboard.lock ≡ Free → ⊥) → (key ≡ Reset → ⊥)
    → pressed columns key keyboard screen ≡ refused Locked keyboard screen

-- No key ends Wait, not even Reset.
abbrev pub NoKeyEndsWait : Type 0
NoKeyEndsWait = (columns : ℕ) (key : Key) (keyboard : Keyboard) (screen : Screen)
    → keyboard.lock ≡ Wait → (pressed columns key keyboard screen).keyboard.lock ≡ Wait

-- ---- places

-- Tab, New Line and autoskip go to the nearest address after their start that passes their test, and last to the start.
abbrev pub NearestOnward : Type 0
NearestOnward = (passes : ℕ → Bool) (size at distance : ℕ) → 0 < distance → distance ≤ size
    → ((nearer : ℕ) → 0 < nearer → nearer < distance → passes ((at + nearer) % size) ≡ false)
    → passes ((at + distance) % size) ≡ true → first_or_zero passes (onward size at) ≡ (at + distance) % size

-- Back Tab goes to the nearest address before its start that passes its test, and last to the start.
abbrev pub NearestBackward : Type 0
NearestBackward = (passes : ℕ → Bool) (size at distance : ℕ) → 0 < distance → distance ≤ size
    → ((nearer : ℕ) → 0 < nearer → nearer < distance → passes ((at + size - nearer) % size) ≡ false)
    → passes ((at + size - distance) % size) ≡ true
    → first_or_zero passes (backward size at) ≡ (at + size - distance) % size

-- If no address passes the test, a search forward gives 0.
abbrev pub NoneOnward : Type 0
NoneOnward = (passes : ℕ → Bool) (size at : ℕ)
    → ((distance : ℕ) → 0 < distance → distance ≤ size → passes ((at + distance) % size) ≡ false)
    → first_or_zero passes (onward size at) ≡ 0

-- If no address passes the test, a search backward gives 0.
abbrev pub NoneBackward : Type 0
NoneBackward = (passes : ℕ → Bool) (size at : ℕ)
    → ((distance : ℕ) → 0 < distance → distance ≤ size → passes ((at + size - distance) % size) ≡ false)
    → first_or_zero passes (backward size at) ≡ 0

-- Home goes where Tab goes from the last cell.
abbrev pub HomeIsTabFromTheEnd : Type 0
HomeIsTabFromTheEnd = (cells : List Cell) → 0 < length cells → home cells ≡ next_start cells (length cells - 1)

-- ---- edits

-- An edit replaces characters from the cursor on by as many others, and keeps the rest of the field after them.
abbrev pub EditsRewriteTheText : Type 0
EditsRewriteTheText = (text : List ℕ) (screen : Screen)
    → screen.cursor < length screen.cells → length text ≤ length (text_from screen.cells screen.cursor)
    → text_from (rewritten text screen).cells screen.cursor
    ≡ text ++ drop (length text) (text_from screen.cells screen.cursor)

-- If an attribute governs the cursor's cell, an edit turns its MDT on, and changes no other cell outside the text.
abbrev pub EditsMarkTheirField : Type 0
EditsMarkTheirField = (text : List ℕ) (screen : Screen) (attr place : ℕ)
    → screen.cursor < length screen.cells → length text ≤ length (text_from screen.cells screen.cursor)
    → IsGoverned screen.cells screen.cursor attr → place < length screen.cells
    → is_within (length screen.cells) screen.cursor (length text) place ≡ false
    → let old = slice_index_or screen.cells place (Char 0) in
    slice_index_or (rewritten text screen).cells place (Char 0) ≡ (if place == attr then modified old else old)

-- On an unformatted screen, an edit changes no cell outside the text.
abbrev pub EditsWithoutFieldsMarkNothing : Type 0
EditsWithoutFieldsMarkNothing = (text : List ℕ) (screen : Screen) (place : ℕ)
    → screen.cursor < length screen.cells → length text ≤ length (text_from screen.cells screen.cursor)
    → list_all is_char screen.cells ≡ true → place < length screen.cells
    → is_within (length screen.cells) screen.cursor (length text) place ≡ false
    → slice_index_or (rewritten text screen).cells place (Char 0) ≡ slice_index_or screen.cells place (Char 0)

-- An inserted character takes the room of the first null.
abbrev pub FirstNullMakesRoom : Type 0
FirstNullMakesRoom = (y z : List ℕ) → list_all (λ byte. not (byte == 0)) y ≡ true
    → with_room true (y ++ 0 ∷ z) ≡ Some (y ++ z)

-- If there is no null, there is no room for an inserted character.
abbrev pub NoNullNoRoom : Type 0
NoNullNoRoom = (text : List ℕ) → list_all (λ byte. not (byte == 0)) text ≡ true → with_room true text ≡ None

-- Delete takes out the first character and brings in a null at the end.
abbrev pub DeleteBringsInANull : Type 0
DeleteBringsInANull = (d : ℕ) (y : List ℕ) → deleted (d ∷ y) ≡ y ++ 0 ∷ []

-- ---- names

-- holds if a key isn't a character
abbrev pub HasName : Key → Type 0
HasName (CharLetter letter) = ⊥
HasName _ = ⊤

-- The printed name of a key is read back as that key.
abbrev pub NamesReadBack : Type 0
NamesReadBack = (key : Key) → IsKey key → HasName key → key_named (key_name key) ≡ Some key

-- A printed character is read as no key.
abbrev pub CharactersHaveNoName : Type 0
CharactersHaveNoName = (letter : ℕ) → key_named (key_name (CharLetter letter)) ≡ None
