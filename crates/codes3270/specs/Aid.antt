-- Attention identifiers: the key that caused the terminal to send (GA23-0059-07 on attention identification).
use Rattle.std.specs.Prelude.{◌==◌, ℕ, ◌+◌, ◌-◌, ◌≤◌, ⊤, List, [], ◌∷◌, ◌++◌, Bool, true, false, Option, Some, slice_index, if◌then◌else◌}
use Rattle.std.specs.List.{range_with_len, position}
use Rattle.std.specs.Option.{option_map, option_or}
use Rattle.codes3270.specs.declared.attention.Aid.{Aid}
use Rattle.codes3270.specs.declared.attention.Aid.TheVariants.{NoAid, Enter, Clear, Pf, Pa}

-- holds if the identifier is a real one: no AID, Enter, Clear, PF1 to PF24, or PA1 to PA3
abbrev pub IsRealAid : Aid → Type 0
IsRealAid NoAid = ⊤
IsRealAid Enter = ⊤
IsRealAid Clear = ⊤
IsRealAid (Pf number) = (1 ≤ number) × (number ≤ 24)
IsRealAid (Pa number) = (1 ≤ number) × (number ≤ 3)

-- the codes of PF1 to PF24, in order
abbrev pub pf_codes : List ℕ
pf_codes = range_with_len 0xF1 9 ++ range_with_len 0x7A 3 ++ range_with_len 0xC1 9 ++ range_with_len 0x4A 3

-- the codes of PA1 to PA3, in order
abbrev pub pa_codes : List ℕ
pa_codes = 0x6C ∷ 0x6E ∷ 0x6B ∷ []

-- the number of the key with a code: its index in the list, plus 1
abbrev pub key_number : List ℕ → ℕ → Option ℕ
key_number codes byte = option_map (λ place. place + 1) (position (λ code. code == byte) codes)

-- the byte that encodes an identifier, which must be real
abbrev pub byte_of_aid : Aid → ℕ
byte_of_aid NoAid = 0x60
byte_of_aid Enter = 0x7D
byte_of_aid Clear = 0x6D
byte_of_aid (Pf number) = slice_index pf_codes (number - 1)
byte_of_aid (Pa number) = slice_index pa_codes (number - 1)

-- the identifier that a byte encodes, if it encodes one
abbrev pub aid_of : ℕ → Option Aid
aid_of byte =
    if byte == 0x60 then Some NoAid else if byte == 0x7D then Some Enter else if byte == 0x6D then Some Clear
    else option_or (option_map Pf (key_number pf_codes byte)) (option_map Pa (key_number pa_codes byte))

-- whether the terminal sends the identifier alone for this key (GA23-0059-07 on short reads)
abbrev pub is_short_aid : Aid → Bool
is_short_aid NoAid = false
is_short_aid Enter = false
is_short_aid Clear = true
is_short_aid (Pf number) = false
is_short_aid (Pa number) = true
