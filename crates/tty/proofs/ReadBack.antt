-- What is encoded is read back.
use Rattle.std.proofs.Common.{◌≡◌, ℕ, ◌+◌, ◌-◌, ◌*◌, ◌/◌, ◌%◌, ◌<◌, ◌==◌, ◌&&◌, ◌||◌, not, nat_lt, Bool, true, false, List, [], ◌∷◌, ◌++◌, arith, refl, sym, ◌∙◌, ap, append_assoc, lit<}
use Rattle.std.specs.Char.{encode_utf8}
use Rattle.std.proofs.Math.Nat.{mod-lt}
use Rattle.std.proofs.lemmas.Bool.{and_parts, eqb-true, ltb-true, false≢true}
use Rattle.codes3270.proofs.Tables.{passes_at}
use Rattle.tty.specs.declared.place.Place.{Place}
use Rattle.tty.specs.declared.look.Look.{Look}
use Rattle.tty.specs.declared.look.Look.TheVariants.{Plain, UnprotectedNormal, UnprotectedBright, ProtectedNormal, ProtectedBright, Erased}
use Rattle.tty.specs.declared.colors.Colors.{Colors}
use Rattle.tty.specs.declared.colors.Colors.TheVariants.{Dark, Light, Terminal, Mono}
use Rattle.tty.specs.StatusRow.{three_digits}
use Rattle.tty.specs.Pictures.{is_graphic}
use Rattle.tty.specs.Spelling.{encoded, all_spelt, selection}
use Rattle.tty.specs.Tty.{Control}
use Rattle.tty.specs.Reading.{Awaits, is_digit, awaits_next, said_by, read_from, read}

-- behind what spells a control function, that function is read
abbrev pub IsReadBack : Control → Type 0
IsReadBack control = (rest : List ℕ) → read (encoded control ++ rest) ≡ control ∷ read rest

-- ---- characters

awaits_after : Awaits → List ℕ → Awaits
awaits_after awaits [] = awaits
awaits_after awaits (byte ∷ bytes) = awaits_after (awaits_next awaits byte) bytes

read_joined : (awaits : Awaits) (front rest : List ℕ) → read_from awaits (front ++ rest) ≡ read_from awaits front ++ read_from (awaits_after awaits front) rest
unfolding awaits_after
read_joined awaits [] rest = refl
read_joined awaits (byte ∷ front) rest =
    ap (λ (more : List Control). said_by awaits byte ++ more) (read_joined (awaits_next awaits byte) front rest)
    ∙ sym (append_assoc (said_by awaits byte) (read_from (awaits_next awaits byte) front) (read_from (awaits_after (awaits_next awaits byte) front) rest))

is_only : List Control → ℕ → Bool
is_only (Control.Graphic glyph ∷ []) wanted = glyph == wanted
is_only _ wanted = false

only : (controls : List Control) (wanted : ℕ) → is_only controls wanted ≡ true → controls ≡ Control.Graphic wanted ∷ []
unfolding is_only
only [] wanted e = absurd (false≢true e)
only (Control.Graphic glyph ∷ []) wanted e = ap (λ (g : ℕ). Control.Graphic g ∷ []) (eqb-true glyph wanted e)
only (Control.Graphic glyph ∷ next ∷ more) wanted e = absurd (false≢true e)
only (Control.CursorTo place ∷ more) wanted e = absurd (false≢true e)
only (Control.SelectRendition first parameters ∷ more) wanted e = absurd (false≢true e)
only (Control.EraseAll ∷ more) wanted e = absurd (false≢true e)
only (Control.Bell ∷ more) wanted e = absurd (false≢true e)

is_first : Awaits → Bool
is_first Awaits.First = true
is_first _ = false

first : (awaits : Awaits) → is_first awaits ≡ true → awaits ≡ Awaits.First
unfolding is_first
first Awaits.First e = refl
first (Awaits.Last lead) e = absurd (false≢true e)
first Awaits.Escaped e = absurd (false≢true e)
first (Awaits.Parameter before value) e = absurd (false≢true e)

-- computed for each of the 256 characters
character_test : ℕ → Bool
character_test glyph =
    not (is_graphic glyph) || is_only (read (encode_utf8 glyph)) glyph && is_first (awaits_after Awaits.First (encode_utf8 glyph))

tests_pass : (glyph : ℕ) → glyph < 256 → character_test glyph ≡ true
unfolding character_test is_only is_first awaits_after encode_utf8
tests_pass glyph below = passes_at character_test 256 glyph refl below

passed : (graphic only_one at_first : Bool) → (not graphic || only_one && at_first) ≡ true → graphic ≡ true → (only_one ≡ true) × (at_first ≡ true)
passed true only_one at_first all is = and_parts only_one at_first all
passed false only_one at_first all is = absurd (false≢true is)

graphic_below : (glyph : ℕ) → is_graphic glyph ≡ true → glyph < 256
graphic_below glyph graphic = ltb-true glyph 256 (and_parts (nat_lt glyph 256) _ graphic).0

pub graphic_read : (glyph : ℕ) → is_graphic glyph ≡ true → IsReadBack (Control.Graphic glyph)
unfolding character_test
graphic_read glyph graphic rest =
    let both = passed (is_graphic glyph) (is_only (read (encode_utf8 glyph)) glyph) (is_first (awaits_after Awaits.First (encode_utf8 glyph))) (tests_pass glyph (graphic_below glyph graphic)) graphic in
    read_joined Awaits.First (encode_utf8 glyph) rest
    ∙ ap (λ (controls : List Control). controls ++ read_from (awaits_after Awaits.First (encode_utf8 glyph)) rest) (only (read (encode_utf8 glyph)) glyph both.0)
    ∙ ap (λ (awaits : Awaits). Control.Graphic glyph ∷ read_from awaits rest) (first (awaits_after Awaits.First (encode_utf8 glyph)) both.1)

-- ---- SGR, ED and BEL

pub look_read : (colors : Colors) (look : Look) → IsReadBack (selection colors look)
look_read Dark Plain rest = refl
look_read Dark UnprotectedNormal rest = refl
look_read Dark UnprotectedBright rest = refl
look_read Dark ProtectedNormal rest = refl
look_read Dark ProtectedBright rest = refl
look_read Dark Erased rest = refl
look_read Light Plain rest = refl
look_read Light UnprotectedNormal rest = refl
look_read Light UnprotectedBright rest = refl
look_read Light ProtectedNormal rest = refl
look_read Light ProtectedBright rest = refl
look_read Light Erased rest = refl
look_read Terminal Plain rest = refl
look_read Terminal UnprotectedNormal rest = refl
look_read Terminal UnprotectedBright rest = refl
look_read Terminal ProtectedNormal rest = refl
look_read Terminal ProtectedBright rest = refl
look_read Terminal Erased rest = refl
look_read Mono Plain rest = refl
look_read Mono UnprotectedNormal rest = refl
look_read Mono UnprotectedBright rest = refl
look_read Mono ProtectedNormal rest = refl
look_read Mono ProtectedBright rest = refl
look_read Mono Erased rest = refl

pub default_read : IsReadBack (Control.SelectRendition 0 [])
default_read rest = refl

pub erase_read : IsReadBack Control.EraseAll
erase_read rest = refl

pub bell_read : IsReadBack Control.Bell
bell_read rest = refl

-- ---- CUP

digit_tests : (digit : ℕ) → digit < 10 → (is_digit (48 + digit) ≡ true) × ((48 + digit) - 48 ≡ digit)
digit_tests digit below = (passes_at (λ (d : ℕ). is_digit (48 + d)) 10 digit refl below, omega arith)

digit_read : (before : List ℕ) (value digit : ℕ) (rest : List ℕ) → digit < 10
    → read_from (Awaits.Parameter before value) ((48 + digit) ∷ rest) ≡ read_from (Awaits.Parameter before (value * 10 + digit)) rest
digit_read before value digit rest below =
    let tests = digit_tests digit below in
    rw (tests.0, tests.1) refl

number_of_digits : ℕ → ℕ
number_of_digits number = ((0 * 10 + number / 100 % 10) * 10 + number / 10 % 10) * 10 + number % 10

digits_back : (number : ℕ) → number < 1000 → number_of_digits number ≡ number
unfolding number_of_digits
digits_back number below = eqb-true (number_of_digits number) number (passes_at (λ (n : ℕ). number_of_digits n == n) 1000 number refl below)

number_read : (before : List ℕ) (number : ℕ) (rest : List ℕ) → number < 1000
    → read_from (Awaits.Parameter before 0) (three_digits number ++ rest) ≡ read_from (Awaits.Parameter before number) rest
unfolding number_of_digits
number_read before number rest below =
    let a : ℕ = number / 100 % 10 in
    let b : ℕ = number / 10 % 10 in
    let c : ℕ = number % 10 in
    digit_read before 0 a ((48 + b) ∷ (48 + c) ∷ rest) (mod-lt (number / 100) {m = 10} (lit< tt))
    ∙ digit_read before (0 * 10 + a) b ((48 + c) ∷ rest) (mod-lt (number / 10) {m = 10} (lit< tt))
    ∙ digit_read before ((0 * 10 + a) * 10 + b) c rest (mod-lt number {m = 10} (lit< tt))
    ∙ ap (λ (value : ℕ). read_from (Awaits.Parameter before value) rest) (digits_back number below)

place_back : (row column : ℕ) → row + 1 - 1 ≡ row → column + 1 - 1 ≡ column
    → Control.CursorTo (record { row = row + 1 - 1; column = column + 1 - 1 }) ≡ Control.CursorTo (record { row = row; column = column })
place_back row column same_row same_column =
    ap (λ (r : ℕ). Control.CursorTo (record { row = r; column = column + 1 - 1 })) same_row
    ∙ ap (λ (c : ℕ). Control.CursorTo (record { row = row; column = c })) same_column

pub place_read : (place : Place) → place.row < 999 → place.column < 999 → IsReadBack (Control.CursorTo place)
place_read place row column rest =
    number_read [] (place.row + 1) (0x3B ∷ (three_digits (place.column + 1) ++ 0x48 ∷ rest)) (omega (arith, row))
    ∙ number_read ((place.row + 1) ∷ []) (place.column + 1) (0x48 ∷ rest) (omega (arith, column))
    ∙ ap (λ (control : Control). control ∷ read rest) (place_back place.row place.column (omega arith) (omega arith))

-- ---- several

abbrev pub EachReadBack : List Control → Type 0
EachReadBack [] = Unit {0}
EachReadBack (control ∷ controls) = IsReadBack control × EachReadBack controls

pub all_read : (controls : List Control) → EachReadBack controls → read (all_spelt controls) ≡ controls
all_read [] each = refl
all_read (control ∷ controls) each =
    each.0 (all_spelt controls) ∙ ap (λ (more : List Control). control ∷ more) (all_read controls each.1)

pub each_joined : (front back : List Control) → EachReadBack front → EachReadBack back → EachReadBack (front ++ back)
each_joined [] back each rest = rest
each_joined (control ∷ front) back each rest = (each.0, each_joined front back each.1 rest)
