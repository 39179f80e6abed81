-- Laws of sending, for proofs in the crates above (our profile): a key that sends sets the screen's AID and the lock to
-- Wait, and no other key does either.
use Rattle.std.specs.Prelude.{◌≡◌, ℕ, length, replicate}
use Rattle.codes3270.specs.declared.attention.Aid.{Aid}
use Rattle.codes3270.specs.declared.attention.Aid.TheVariants.{NoAid, Clear as ClearAid}
use Rattle.codes3270.specs.declared.attribute.Cell.TheVariants.{Char}
use Rattle.datastream.specs.Screen.{Screen}
use Rattle.keyboard.specs.declared.key.Key.{Key}
use Rattle.keyboard.specs.declared.key.Lock.TheVariants.{Free, Wait}
use Rattle.keyboard.specs.declared.key.Pressed.{Pressed}
use Rattle.keyboard.specs.declared.key.Pressed.TheVariants.{Send}
use Rattle.keyboard.specs.State.{Keyboard}
use Rattle.keyboard.specs.Keys.{pressed}

-- holds if a result sends nothing
abbrev pub IsSilent : Pressed → Type 0
IsSilent answer = (aid : Aid) → answer ≡ Send aid → ⊥

-- After a key that sends, the screen's AID is the one in the result, which is a key's, and the lock is Wait.
abbrev pub SendingWaits : Type 0
SendingWaits = (columns : ℕ) (key : Key) (keyboard : Keyboard) (screen : Screen) (aid : Aid)
    → let new = pressed columns key keyboard screen in
    new.answer ≡ Send aid → (new.screen.aid ≡ aid) × (aid ≡ NoAid → ⊥) × (new.keyboard.lock ≡ Wait)

-- After Clear all cells are null, and the cursor is at 0.
abbrev pub ClearEmptiesTheScreen : Type 0
ClearEmptiesTheScreen = (columns : ℕ) (key : Key) (keyboard : Keyboard) (screen : Screen)
    → let new = pressed columns key keyboard screen in
    new.answer ≡ Send ClearAid → (new.screen.cells ≡ replicate (length screen.cells) (Char 0)) × (new.screen.cursor ≡ 0)

-- A key that sends nothing keeps the AID.
abbrev pub SilentKeysKeepTheAid : Type 0
SilentKeysKeepTheAid = (columns : ℕ) (key : Key) (keyboard : Keyboard) (screen : Screen)
    → let new = pressed columns key keyboard screen in IsSilent new.answer → new.screen.aid ≡ screen.aid

-- A key that sends nothing doesn't set the lock to Wait.
abbrev pub SilentKeysBeginNoWait : Type 0
SilentKeysBeginNoWait = (columns : ℕ) (key : Key) (keyboard : Keyboard) (screen : Screen)
    → let new = pressed columns key keyboard screen in IsSilent new.answer → new.keyboard.lock ≡ Wait
    → keyboard.lock ≡ Wait

-- While the lock isn't Free, no key sends, and the screen stays as it is.
abbrev pub NothingIsSentAtALock : Type 0
NothingIsSentAtALock = (columns : ℕ) (key : Key) (keyboard : Keyboard) (screen : Screen)
    → let new = pressed columns key keyboard screen in (keyboard.lock ≡ Free → ⊥)
    → IsSilent new.answer × (new.screen ≡ screen)
