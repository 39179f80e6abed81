-- Which keystrokes bytes are (our profile).
use Rattle.std.specs.Prelude.{ℕ, ◌==◌, ◌||◌, List, [], ◌∷◌, ◌++◌, take, if◌then◌else◌}
use Rattle.std.specs.Option.{option_to_list}
use Rattle.tty.specs.declared.keystroke.Keystroke.{Keystroke}
use Rattle.tty.specs.declared.keystroke.Keystroke.TheVariants.{Unknown}
use Rattle.tty.specs.declared.keystroke.PushResult.{PushResult}
use Rattle.tty.specs.KeySequences.{meaning}
use Rattle.tty.specs.KeyForms.{breaks_off, completes, front, is_late, outlasts}

-- the keystrokes that bytes complete, and the kept bytes of the next one
pub record Reading : Type 0 where
  pub keystrokes : List Keystroke
  pub kept : List ℕ

-- the kept bytes after one more byte: at most 12, since each sequence that has a meaning is shorter
abbrev pub grown : List ℕ → ℕ → List ℕ
grown kept byte = take 12 (kept ++ byte ∷ [])

-- the reading of a byte that may follow the kept ones
abbrev pub read_on : List ℕ → ℕ → Reading
read_on kept byte =
    if completes kept byte then record { keystrokes = meaning (grown kept byte) ∷ []; kept = [] }
    else record { keystrokes = []; kept = grown kept byte }

-- The reading of any byte. One that may not follow the kept ones begins the next keystroke, and they are an Unknown;
-- but a lone ESC that a pause has ended is nothing, and goes on with a `[` as the sequence that it began.
abbrev pub read_byte : List ℕ → ℕ → Reading
read_byte kept byte =
    let next = read_on (front kept byte) byte in
    record { keystrokes = (if breaks_off kept byte then Unknown ∷ [] else []) ++ next.keystrokes; kept = next.kept }

-- two readings, one after the other, as one
abbrev pub joined : Reading → Reading → Reading
joined first second = record { keystrokes = first.keystrokes ++ second.keystrokes; kept = second.kept }

-- the reading of bytes, one after another
abbrev pub read_bytes : List ℕ → List ℕ → Reading
read_bytes kept [] = record { keystrokes = []; kept = kept }
read_bytes kept (byte ∷ bytes) = let first = read_byte kept byte in joined first (read_bytes first.kept bytes)

-- The reading of a pause. It ends a lone ESC, but what comes next may go on with it; it doesn't end a control sequence
-- or an SS3; it ends what else is incomplete, a character or a control string, as an Unknown.
abbrev pub after_pause : List ℕ → Reading
after_pause [] = record { keystrokes = []; kept = [] }
after_pause (first ∷ []) =
    if first == 0x1B then record { keystrokes = []; kept = 0x1B ∷ 0x1B ∷ [] }
    else record { keystrokes = Unknown ∷ []; kept = [] }
after_pause (first ∷ second ∷ rest) =
    if is_late (first ∷ second ∷ rest) || outlasts (first ∷ second ∷ rest)
    then record { keystrokes = []; kept = first ∷ second ∷ rest }
    else record { keystrokes = Unknown ∷ []; kept = [] }

-- the keystrokes that `push` reports
abbrev pub keystrokes_of : PushResult → List Keystroke
keystrokes_of pushed = (if pushed.interrupted then Unknown ∷ [] else []) ++ option_to_list pushed.keystroke
