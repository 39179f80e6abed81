-- How control functions are encoded as bytes (ECMA-48, 5.4, in a 7-bit code; characters in UTF-8).
use Rattle.std.specs.Prelude.{ℕ, ◌+◌, ◌/◌, ◌%◌, List, [], ◌∷◌, ◌++◌, if◌then◌else◌, nat_lt}
use Rattle.std.specs.List.{flat_map}
use Rattle.std.specs.Char.{encode_utf8}
use Rattle.tty.specs.declared.look.Look.{Look}
use Rattle.tty.specs.declared.look.Look.TheVariants.{Plain, UnprotectedNormal, UnprotectedBright, ProtectedNormal, ProtectedBright, Erased}
use Rattle.tty.specs.declared.colors.Colors.{Colors}
use Rattle.tty.specs.declared.colors.Colors.TheVariants.{Dark, Light, Terminal, Mono}
use Rattle.tty.specs.StatusRow.{three_digits}
use Rattle.tty.specs.Tty.{Control}

-- CSI: ESC [
abbrev pub introducer : List ℕ
introducer = 0x1B ∷ 0x5B ∷ []

-- a parameter below 1000 in decimal
abbrev pub parameter_text : ℕ → List ℕ
parameter_text parameter =
    if nat_lt parameter 10 then (48 + parameter) ∷ []
    else if nat_lt parameter 100 then (48 + parameter / 10) ∷ (48 + parameter % 10) ∷ []
    else three_digits parameter

-- `;` and a parameter
abbrev pub further : ℕ → List ℕ
further parameter = 0x3B ∷ parameter_text parameter

-- The bytes of a control function. CUP ends with `H`; its parameters are row and column from 1 on, with three digits
-- each. SGR ends with `m`, ED with `J`.
abbrev pub encoded : Control → List ℕ
encoded (Control.Graphic glyph) = encode_utf8 glyph
encoded (Control.CursorTo place) =
    introducer ++ (three_digits (place.row + 1) ++ 0x3B ∷ three_digits (place.column + 1) ++ 0x48 ∷ [])
encoded (Control.SelectRendition first more) = introducer ++ (parameter_text first ++ flat_map further more
    ++ 0x6D ∷ [])
encoded Control.EraseAll = introducer ++ 0x32 ∷ 0x4A ∷ []
encoded Control.Bell = 0x07 ∷ []

abbrev pub all_spelt : List Control → List ℕ
all_spelt controls = flat_map encoded controls

-- a colour of the palette of 256 on black, its number 16, and on white, its number 231
abbrev pub on_black : ℕ → List ℕ
on_black colour = 38 ∷ 5 ∷ colour ∷ 48 ∷ 5 ∷ 16 ∷ []

abbrev pub on_white : ℕ → List ℕ
on_white colour = 38 ∷ 5 ∷ colour ∷ 48 ∷ 5 ∷ 231 ∷ []

-- the SGR that selects a look
abbrev pub selection : Colors → Look → Control
selection Dark Plain = Control.SelectRendition 0 (on_black 252)
selection Dark UnprotectedNormal = Control.SelectRendition 0 (4 ∷ on_black 40)
selection Dark UnprotectedBright = Control.SelectRendition 0 (4 ∷ on_black 203)
selection Dark ProtectedNormal = Control.SelectRendition 0 (on_black 75)
selection Dark ProtectedBright = Control.SelectRendition 0 (1 ∷ on_black 231)
selection Dark Erased = Control.SelectRendition 0 []
selection Light Plain = Control.SelectRendition 0 (on_white 16)
selection Light UnprotectedNormal = Control.SelectRendition 0 (4 ∷ on_white 22)
selection Light UnprotectedBright = Control.SelectRendition 0 (4 ∷ on_white 124)
selection Light ProtectedNormal = Control.SelectRendition 0 (on_white 19)
selection Light ProtectedBright = Control.SelectRendition 0 (1 ∷ on_white 16)
selection Light Erased = Control.SelectRendition 0 []
selection Terminal Plain = Control.SelectRendition 0 []
selection Terminal UnprotectedNormal = Control.SelectRendition 0 (4 ∷ 32 ∷ [])
selection Terminal UnprotectedBright = Control.SelectRendition 0 (4 ∷ 31 ∷ [])
selection Terminal ProtectedNormal = Control.SelectRendition 0 (34 ∷ [])
selection Terminal ProtectedBright = Control.SelectRendition 0 (1 ∷ [])
selection Terminal Erased = Control.SelectRendition 0 []
selection Mono Plain = Control.SelectRendition 0 []
selection Mono UnprotectedNormal = Control.SelectRendition 0 (4 ∷ [])
selection Mono UnprotectedBright = Control.SelectRendition 0 (1 ∷ 4 ∷ [])
selection Mono ProtectedNormal = Control.SelectRendition 0 []
selection Mono ProtectedBright = Control.SelectRendition 0 (1 ∷ [])
selection Mono Erased = Control.SelectRendition 0 []

abbrev pub spelt_look : Colors → Look → List ℕ
spelt_look colors look = encoded (selection colors look)
