-- The graphic codes of six-bit values (GA23-0059-07 on graphic codes).
use Rattle.std.specs.Prelude.{◌==◌, ℕ, Bool, List, ◌++◌, slice_index}
use Rattle.std.specs.List.{range_with_len, list_any}

-- the codes of the values 0 to 63, in order: each run of consecutive codes by its first code and its length
abbrev pub six_bit_codes : List ℕ
six_bit_codes =
    range_with_len 0x40 1 ++ range_with_len 0xC1 9 ++ range_with_len 0x4A 6
    ++ range_with_len 0x50 1 ++ range_with_len 0xD1 9 ++ range_with_len 0x5A 6
    ++ range_with_len 0x60 2 ++ range_with_len 0xE2 8 ++ range_with_len 0x6A 6
    ++ range_with_len 0xF0 10 ++ range_with_len 0x7A 6

-- the code of a six-bit value
abbrev pub six_bit_code : ℕ → ℕ
six_bit_code value = slice_index six_bit_codes value

-- whether a byte is the code of a six-bit value
unfoldable pub is_six_bit_code : ℕ → Bool
is_six_bit_code byte = list_any (λ code. byte == code) six_bit_codes
