-- Laws of reading (our profile).
use Rattle.std.specs.Prelude.{◌≡◌, ◌≢◌, ◌⊎◌, ℕ, ◌≤◌, false, true, not, List, [], ◌∷◌, ◌++◌, get_or}
use Rattle.std.specs.Char.{encode_utf8, is_ascii_control, IsScalar}
use Rattle.std.specs.Int.{IsInRange}
use Rattle.std.specs.List.{AllByRecursion, list_all}
use Rattle.tty.specs.declared.keystroke.Keystroke.{Keystroke}
use Rattle.tty.specs.declared.keystroke.Keystroke.TheVariants.{Char, Unknown}
use Rattle.tty.specs.KeyForms.{is_late, is_mouse, opens_string, outlasts}
use Rattle.tty.specs.KeySequences.{escaped}
use Rattle.tty.specs.KeyReading.{Reading, after_pause, joined, read_byte, read_bytes}

-- Bytes cut in two are read as the whole.
abbrev pub PiecesCompose : Type 0
PiecesCompose = (kept front back : List ℕ)
    → let first = read_bytes kept front in read_bytes kept (front ++ back) ≡ joined first (read_bytes first.kept back)

-- a reading of one keystroke, with no byte left
abbrev pub one : Keystroke → Reading
one keystroke = record { keystrokes = keystroke ∷ []; kept = [] }

-- A sequence of the table is read as its key: none begins another.
abbrev pub SequencesAreRead : Type 0
SequencesAreRead = (sequence : List ℕ) → escaped sequence ≢ Unknown
    → read_bytes [] (0x1B ∷ sequence) ≡ one (escaped sequence)

-- A character that is no control character is read as itself.
abbrev pub CharactersAreRead : Type 0
CharactersAreRead = (letter : ℕ) → IsScalar letter → is_ascii_control letter ≡ false
    → read_bytes [] (encode_utf8 letter) ≡ one (Char letter)

-- A control sequence of any length, with its parameter and intermediate bytes and its final byte (ECMA-48), is one
-- keystroke that types nothing. `CSI [` and `CSI M` aren't: the Linux console sends another byte, a mouse three.
abbrev pub ControlSequencesAreOne : Type 0
ControlSequencesAreOne = (parameters : List ℕ) (final : ℕ) → AllByRecursion (IsInRange 0x20 0x3F) parameters
    → IsInRange 0x40 0x7E final
    → (parameters ≡ [] → (final ≢ 0x5B) × (final ≢ 0x4D))
    → (keystroke : Keystroke) × (read_bytes [] (0x1B ∷ 0x5B ∷ (parameters ++ final ∷ [])) ≡ one keystroke)
    × ((letter : ℕ) → keystroke ≢ Char letter)

-- No bytes after ESC type a character.
abbrev pub SequencesTypeNothing : Type 0
SequencesTypeNothing = (sequence : List ℕ) (letter : ℕ) → escaped sequence ≢ Char letter

-- A report of the mouse, `CSI M` and three bytes (xterm), is one keystroke that types nothing.
abbrev pub MouseReportsAreOne : Type 0
MouseReportsAreOne = (button column row : ℕ) → 0x20 ≤ button → 0x20 ≤ column → 0x20 ≤ row
    → (keystroke : Keystroke) × (read_bytes [] (0x1B ∷ 0x5B ∷ 0x4D ∷ button ∷ column ∷ row ∷ []) ≡ one keystroke)
    × ((letter : ℕ) → keystroke ≢ Char letter)

-- A control string is no keystroke until a control character ends it: ESC, `]` or `P`, and bytes.
abbrev pub StringsTypeNothing : Type 0
StringsTypeNothing = (opener : ℕ) (bytes : List ℕ) → opens_string opener ≡ true
    → list_all (λ byte. not (is_ascii_control byte)) bytes ≡ true
    → (read_bytes [] (0x1B ∷ opener ∷ bytes)).keystrokes ≡ []

-- What comes after a pause goes on with a control sequence of which ESC, or more, came before it.
abbrev pub LateRestsAreRead : Type 0
LateRestsAreRead = (front back : List ℕ) → (outlasts front ≡ true) ⊎ ((front ≡ 0x1B ∷ []) × (get_or back 0 0 ≡ 0x5B))
    → read_bytes (after_pause front).kept back ≡ read_bytes front back

-- A control character breaks off what isn't complete, and is then read as if alone, except TAB right after ESC, DEL in a
-- report of the mouse, and any after a lone ESC that a pause has ended, which is nothing.
abbrev pub ControlsBreakOff : Type 0
ControlsBreakOff = (kept : List ℕ) (byte : ℕ) → is_ascii_control byte ≡ true → kept ≢ []
    → (kept ≡ 0x1B ∷ [] → byte ≢ 0x09)
    → (is_mouse kept ≡ true → byte ≢ 0x7F)
    → is_late kept ≡ false
    → read_byte kept byte ≡ record (read_byte [] byte) { keystrokes = Unknown ∷ (read_byte [] byte).keystrokes }
