-- What refusals and locks do to the keyboard.
use Rattle.std.proofs.Common.{◌≡◌, ℕ, Result, Ok, Err, ap, sym, ◌∙◌, refl}
use Rattle.datastream.specs.Screen.{Screen}
use Rattle.keyboard.specs.declared.key.Key.{Key}
use Rattle.keyboard.specs.declared.key.Key.TheVariants.{Char as CharKey, Tab as TabKey, BackTab as BackTabKey, NewLine as NewLineKey, Home as HomeKey, CursorUp as CursorUpKey, CursorDown as CursorDownKey, CursorLeft as CursorLeftKey, CursorRight as CursorRightKey, Backspace as BackspaceKey, Insert as InsertKey, Delete as DeleteKey, EraseEof as EraseEofKey, EraseInput as EraseInputKey, Reset as ResetKey, Enter as EnterKey, Pf as PfKey, Pa as PaKey, Clear as ClearKey}
use Rattle.keyboard.specs.declared.key.Lock.{Lock}
use Rattle.keyboard.specs.declared.key.Lock.TheVariants.{Free, Wait, Error}
use Rattle.keyboard.specs.declared.key.Pressed.TheVariants.{Refused}
use Rattle.keyboard.specs.declared.key.Refusal.{Refusal}
use Rattle.keyboard.specs.declared.key.Refusal.TheVariants.{Locked}
use Rattle.keyboard.specs.State.{Keyboard}
use Rattle.keyboard.specs.Edits.{typed, with_deleted, with_field_erased}
use Rattle.keyboard.specs.Keys.{Outcome, pressed, acted, locked_out, at_lock, edited, refused, lock_reset}

-- ---- a refusal sets the lock alone

same_refusal : (other why : Refusal) (keyboard : Keyboard) (screen : Screen) → Refused other ≡ Refused why → refused other keyboard screen ≡ refused why keyboard screen
same_refusal other why keyboard screen e = let same : other ≡ why = cc in ap (λ (r : Refusal). refused r keyboard screen) same

edit_refused : (edit : Result Screen Refusal) (keyboard : Keyboard) (screen : Screen) (why : Refusal) → (edited edit keyboard screen).answer ≡ Refused why → edited edit keyboard screen ≡ refused why keyboard screen
edit_refused (Ok new) keyboard screen why e = cc
edit_refused (Err other) keyboard screen why e = same_refusal other why keyboard screen e

free_refused : (columns : ℕ) (key : Key) (keyboard : Keyboard) (screen : Screen) (why : Refusal) → (acted columns key keyboard screen).answer ≡ Refused why → acted columns key keyboard screen ≡ refused why keyboard screen
free_refused columns (CharKey letter) keyboard screen why e = edit_refused (typed keyboard.inserting letter screen) keyboard screen why e
free_refused columns TabKey keyboard screen why e = cc
free_refused columns BackTabKey keyboard screen why e = cc
free_refused columns NewLineKey keyboard screen why e = cc
free_refused columns HomeKey keyboard screen why e = cc
free_refused columns CursorUpKey keyboard screen why e = cc
free_refused columns CursorDownKey keyboard screen why e = cc
free_refused columns CursorLeftKey keyboard screen why e = cc
free_refused columns CursorRightKey keyboard screen why e = cc
free_refused columns BackspaceKey keyboard screen why e = cc
free_refused columns InsertKey keyboard screen why e = cc
free_refused columns DeleteKey keyboard screen why e = edit_refused (with_deleted columns screen) keyboard screen why e
free_refused columns EraseEofKey keyboard screen why e = edit_refused (with_field_erased screen) keyboard screen why e
free_refused columns EraseInputKey keyboard screen why e = cc
free_refused columns ResetKey keyboard screen why e = cc
free_refused columns EnterKey keyboard screen why e = cc
free_refused columns (PfKey number) keyboard screen why e = cc
free_refused columns (PaKey number) keyboard screen why e = cc
free_refused columns ClearKey keyboard screen why e = cc

-- ---- only Reset acts at a lock

only_reset : (key : Key) (keyboard : Keyboard) (screen : Screen) → (key ≡ ResetKey → ⊥) → locked_out key keyboard screen ≡ refused Locked keyboard screen
only_reset (CharKey letter) keyboard screen other = refl
only_reset TabKey keyboard screen other = refl
only_reset BackTabKey keyboard screen other = refl
only_reset NewLineKey keyboard screen other = refl
only_reset HomeKey keyboard screen other = refl
only_reset CursorUpKey keyboard screen other = refl
only_reset CursorDownKey keyboard screen other = refl
only_reset CursorLeftKey keyboard screen other = refl
only_reset CursorRightKey keyboard screen other = refl
only_reset BackspaceKey keyboard screen other = refl
only_reset InsertKey keyboard screen other = refl
only_reset DeleteKey keyboard screen other = refl
only_reset EraseEofKey keyboard screen other = refl
only_reset EraseInputKey keyboard screen other = refl
only_reset ResetKey keyboard screen other = absurd (other refl)
only_reset EnterKey keyboard screen other = refl
only_reset (PfKey number) keyboard screen other = refl
only_reset (PaKey number) keyboard screen other = refl
only_reset ClearKey keyboard screen other = refl

locked_refused : (key : Key) (keyboard : Keyboard) (screen : Screen) (why : Refusal) → (locked_out key keyboard screen).answer ≡ Refused why → locked_out key keyboard screen ≡ refused why keyboard screen
locked_refused key keyboard screen why e = by_key key e
  where
    by_refusal : (other : Key) → (other ≡ ResetKey → ⊥) → (locked_out other keyboard screen).answer ≡ Refused why → locked_out other keyboard screen ≡ refused why keyboard screen
    by_refusal other apart e =
        let same : locked_out other keyboard screen ≡ refused Locked keyboard screen = only_reset other keyboard screen apart in
        let answer : Refused Locked ≡ Refused why = sym (ap (λ (o : Outcome). o.answer) same) ∙ e in
        same ∙ same_refusal Locked why keyboard screen answer

    by_key : (other : Key) → (locked_out other keyboard screen).answer ≡ Refused why → locked_out other keyboard screen ≡ refused why keyboard screen
    by_key (CharKey letter) e = by_refusal (CharKey letter) (λ s. cc) e
    by_key TabKey e = by_refusal TabKey (λ s. cc) e
    by_key BackTabKey e = by_refusal BackTabKey (λ s. cc) e
    by_key NewLineKey e = by_refusal NewLineKey (λ s. cc) e
    by_key HomeKey e = by_refusal HomeKey (λ s. cc) e
    by_key CursorUpKey e = by_refusal CursorUpKey (λ s. cc) e
    by_key CursorDownKey e = by_refusal CursorDownKey (λ s. cc) e
    by_key CursorLeftKey e = by_refusal CursorLeftKey (λ s. cc) e
    by_key CursorRightKey e = by_refusal CursorRightKey (λ s. cc) e
    by_key BackspaceKey e = by_refusal BackspaceKey (λ s. cc) e
    by_key InsertKey e = by_refusal InsertKey (λ s. cc) e
    by_key DeleteKey e = by_refusal DeleteKey (λ s. cc) e
    by_key EraseEofKey e = by_refusal EraseEofKey (λ s. cc) e
    by_key EraseInputKey e = by_refusal EraseInputKey (λ s. cc) e
    by_key ResetKey e = cc
    by_key EnterKey e = by_refusal EnterKey (λ s. cc) e
    by_key (PfKey number) e = by_refusal (PfKey number) (λ s. cc) e
    by_key (PaKey number) e = by_refusal (PaKey number) (λ s. cc) e
    by_key ClearKey e = by_refusal ClearKey (λ s. cc) e

pub refusals_set_the_lock : (columns : ℕ) (key : Key) (keyboard : Keyboard) (screen : Screen) (why : Refusal) → (pressed columns key keyboard screen).answer ≡ Refused why → pressed columns key keyboard screen ≡ refused why keyboard screen
refusals_set_the_lock columns key keyboard screen why e = by_lock keyboard.lock e
  where
    by_lock : (lock : Lock) → (at_lock lock columns key keyboard screen).answer ≡ Refused why → at_lock lock columns key keyboard screen ≡ refused why keyboard screen
    by_lock Free e = free_refused columns key keyboard screen why e
    by_lock Wait e = locked_refused key keyboard screen why e
    by_lock Error e = locked_refused key keyboard screen why e

pub reset_alone : (columns : ℕ) (key : Key) (keyboard : Keyboard) (screen : Screen) → (keyboard.lock ≡ Free → ⊥) → (key ≡ ResetKey → ⊥) → pressed columns key keyboard screen ≡ refused Locked keyboard screen
reset_alone columns key keyboard screen locked other = by_lock keyboard.lock locked
  where
    by_lock : (lock : Lock) → (lock ≡ Free → ⊥) → at_lock lock columns key keyboard screen ≡ refused Locked keyboard screen
    by_lock Free locked = absurd (locked refl)
    by_lock Wait locked = only_reset key keyboard screen other
    by_lock Error locked = only_reset key keyboard screen other

-- ---- Wait

locked_waits : (key : Key) (keyboard : Keyboard) (screen : Screen) → keyboard.lock ≡ Wait → (locked_out key keyboard screen).keyboard.lock ≡ Wait
locked_waits (CharKey letter) keyboard screen wait = wait
locked_waits TabKey keyboard screen wait = wait
locked_waits BackTabKey keyboard screen wait = wait
locked_waits NewLineKey keyboard screen wait = wait
locked_waits HomeKey keyboard screen wait = wait
locked_waits CursorUpKey keyboard screen wait = wait
locked_waits CursorDownKey keyboard screen wait = wait
locked_waits CursorLeftKey keyboard screen wait = wait
locked_waits CursorRightKey keyboard screen wait = wait
locked_waits BackspaceKey keyboard screen wait = wait
locked_waits InsertKey keyboard screen wait = wait
locked_waits DeleteKey keyboard screen wait = wait
locked_waits EraseEofKey keyboard screen wait = wait
locked_waits EraseInputKey keyboard screen wait = wait
locked_waits ResetKey keyboard screen wait = ap lock_reset wait
locked_waits EnterKey keyboard screen wait = wait
locked_waits (PfKey number) keyboard screen wait = wait
locked_waits (PaKey number) keyboard screen wait = wait
locked_waits ClearKey keyboard screen wait = wait

pub no_key_ends_wait : (columns : ℕ) (key : Key) (keyboard : Keyboard) (screen : Screen) → keyboard.lock ≡ Wait → (pressed columns key keyboard screen).keyboard.lock ≡ Wait
no_key_ends_wait columns key keyboard screen wait =
    let same : pressed columns key keyboard screen ≡ locked_out key keyboard screen = ap (λ (lock : Lock). at_lock lock columns key keyboard screen) wait in
    ap (λ (o : Outcome). o.keyboard.lock) same ∙ locked_waits key keyboard screen wait
