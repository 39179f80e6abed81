-- Keystrokes of a live terminal, one after another.
use Rattle.std.proofs.Common.{◌≡◌, ◌∙◌, refl, sym, ap, subst, ℕ, ◌+◌, ◌<◌, ◌≤◌, Bool, true, false, if◌then◌else◌, List, [], ◌∷◌, ◌++◌, length, drop, get_or, Option}
use Rattle.std.proofs.lemmas.List.{drop_more, drop_all}
use Rattle.std.specs.Option.{option_to_list}
use Rattle.tty.specs.KeyReading.{keystrokes_of, read_byte, read_bytes}
use Rattle.tty.specs.declared.keystroke.Keystroke.{Keystroke}
use Rattle.tty.specs.declared.keystroke.Keystroke.TheVariants.{Unknown}
use Rattle.tty.specs.declared.keystroke.PushResult.{PushResult}
use Rattle.operate.specs.declared.typed.Typed.{Typed}
use Rattle.operate.specs.Live.{Live, ReadsTyped, Seat, Types, after_keystroke, after_keystrokes, after_typing, all_typed}

-- one list of keystrokes after another
pub in_turn : (front back : List Keystroke) (seat : Seat) → after_keystrokes (front ++ back) seat ≡ after_keystrokes back (after_keystrokes front seat)
in_turn [] back seat = refl
in_turn (keystroke ∷ front) back seat = in_turn front back (after_keystroke keystroke seat)

-- what a byte breaks off is taken before the keystroke that it completes
taken_behind : (interrupted : Bool) (keystroke : Option Keystroke) (seat : Seat)
    → after_keystrokes ((if interrupted then Unknown ∷ [] else []) ++ option_to_list keystroke) seat
    ≡ after_keystrokes (option_to_list keystroke) (if interrupted then after_keystroke Unknown seat else seat)
taken_behind false keystroke seat = refl
taken_behind true keystroke seat = refl

pub pushed_taken : (pushed : PushResult) (strokes : List Keystroke) (seat : Seat) → keystrokes_of pushed ≡ strokes
    → after_keystrokes (option_to_list pushed.keystroke) (if pushed.interrupted then after_keystroke Unknown seat else seat) ≡ after_keystrokes strokes seat
pushed_taken pushed strokes seat is =
    sym (taken_behind pushed.interrupted pushed.keystroke seat) ∙ ap (λ (all : List Keystroke). after_keystrokes all seat) is

-- a byte and those behind it
pub byte_more : (byte : ℕ) (bytes : List ℕ) (old mid new : Live) → mid.seat ≡ after_keystrokes (read_byte old.kept byte).keystrokes old.seat
    → mid.kept ≡ (read_byte old.kept byte).kept → ReadsTyped bytes mid new → ReadsTyped (byte ∷ bytes) old new
byte_more byte bytes old mid new seat kept others = record {
  seat = others.seat
      ∙ ap (λ (rest : List ℕ). after_keystrokes (read_bytes rest bytes).keystrokes mid.seat) kept
      ∙ ap (λ (s : Seat). after_keystrokes (read_bytes (read_byte old.kept byte).kept bytes).keystrokes s) seat
      ∙ sym (in_turn (read_byte old.kept byte).keystrokes (read_bytes (read_byte old.kept byte).kept bytes).keystrokes old.seat);
  kept = others.kept ∙ ap (λ (rest : List ℕ). (read_bytes rest bytes).kept) kept;
}

-- bytes from a place on
pub bytes_more : (typed : List ℕ) (place other byte : ℕ) (old mid new : Live) → place < length typed → byte ≡ get_or typed place other
    → mid.seat ≡ after_keystrokes (read_byte old.kept byte).keystrokes old.seat → mid.kept ≡ (read_byte old.kept byte).kept
    → ReadsTyped (drop (place + 1) typed) mid new → ReadsTyped (drop place typed) old new
bytes_more typed place other byte old mid new below is seat kept others =
    subst (λ (bytes : List ℕ). ReadsTyped bytes old new) (sym (drop_more typed place other below ∙ ap (λ (first : ℕ). first ∷ drop (place + 1) typed) (sym is)))
    (byte_more byte (drop (place + 1) typed) old mid new seat kept others)

pub no_more : (typed : List ℕ) (place : ℕ) (live : Live) → length typed ≤ place → ReadsTyped (drop place typed) live live
no_more typed place live above =
    subst (λ (bytes : List ℕ). ReadsTyped bytes live live) (sym (drop_all place typed above)) (record { seat = refl; kept = refl })

-- a read that gave some bytes
pub typed_some : (typed : List ℕ) (old begun new : Live) → (typed ≡ [] → ⊥) → begun ≡ record old { seat = record old.seat { idle = 0 } }
    → ReadsTyped typed begun new → Types typed old new
typed_some [] old begun new some is reads = absurd (some refl)
typed_some (byte ∷ bytes) old begun new some is reads = subst (λ (live : Live). ReadsTyped (byte ∷ bytes) live new) is reads

-- keys from a place on
pub keys_more : (keys : List Typed) (place : ℕ) (other key : Typed) (old mid : Seat) → place < length keys → key ≡ get_or keys place other
    → mid ≡ after_typing key old → all_typed (drop (place + 1) keys) mid ≡ all_typed (drop place keys) old
keys_more keys place other key old mid below is typed =
    ap (λ (s : Seat). all_typed (drop (place + 1) keys) s) (typed ∙ ap (λ (it : Typed). after_typing it old) is)
    ∙ ap (λ (rest : List Typed). all_typed rest old) (sym (drop_more keys place other below))

pub keys_done : (keys : List Typed) (place : ℕ) (seat : Seat) → length keys ≤ place → all_typed (drop place keys) seat ≡ seat
keys_done keys place seat above = ap (λ (rest : List Typed). all_typed rest seat) (drop_all place keys above)
