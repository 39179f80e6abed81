-- The addresses that keys search for on the ring of cells (GA23-0059-07 on moving the cursor). That a key goes to 0 if
-- there is no such address is our profile.
use Rattle.std.specs.Prelude.{◌+◌, ◌-◌, ◌%◌, ◌&&◌, not, ℕ, Bool, List, ◌∷◌, length, map, slice_index_or, Option}
use Rattle.std.specs.List.{find, range_with_len}
use Rattle.std.specs.Option.{unwrap_or}
use Rattle.codes3270.specs.declared.attribute.Cell.{Cell}
use Rattle.codes3270.specs.declared.attribute.Cell.TheVariants.{Char}
use Rattle.datastream.specs.Screen.{is_char_at, is_protected}
use Rattle.datastream.specs.Meaning.{is_start}

-- all addresses, forward from the one after an address, wrapping round at the end; the address itself is the last
unfoldable pub onward : ℕ → ℕ → List ℕ
onward size at = map (λ step. (at + step) % size) (range_with_len 1 size)

-- all addresses, backward from the one before an address, wrapping round at the start; the address itself is the last
unfoldable pub backward : ℕ → ℕ → List ℕ
backward size at = map (λ step. (at + size - step) % size) (range_with_len 1 size)

-- the first of these addresses that passes a test, else 0
abbrev pub first_or_zero : (ℕ → Bool) → List ℕ → ℕ
first_or_zero passes addresses = unwrap_or (find passes addresses) 0

-- whether a cell is a start: it isn't an attribute, and follows the attribute of an unprotected field
abbrev pub is_start_at : List Cell → ℕ → Bool
is_start_at cells at =
    let before = (at + length cells - 1) % length cells in
    is_start (slice_index_or cells before (Char 0), slice_index_or cells at (Char 0))

-- whether a cell can be typed into: it is unprotected and isn't an attribute
abbrev pub is_free_at : List Cell → ℕ → Bool
is_free_at cells at = is_char_at cells at && not (is_protected cells at)

-- the first start after an address, or 0
abbrev pub next_start : List Cell → ℕ → ℕ
next_start cells at = first_or_zero (is_start_at cells) (onward (length cells) at)

-- the first start before an address, or 0
abbrev pub start_before : List Cell → ℕ → ℕ
start_before cells at = first_or_zero (is_start_at cells) (backward (length cells) at)

-- the last cell of the row of an address
abbrev pub row_end : ℕ → ℕ → ℕ
row_end columns at = at + (columns - 1 - at % columns)

-- the first cell after an address's row that can be typed into, or 0; the row's own last cell is tested last
abbrev pub next_line : ℕ → List Cell → ℕ → ℕ
next_line columns cells at = first_or_zero (is_free_at cells) (onward (length cells) (row_end columns at))

-- the address of the attribute that governs a cell: that cell's own, or the nearest before it
abbrev pub governing_place : List Cell → ℕ → Option ℕ
governing_place cells at = find (λ place. not (is_char_at cells place)) (at ∷ backward (length cells) at)
