-- A bit for each cell, and cells stored as bytes with such bits (our profile). Contracts of `CellBits`, `PackedCells`
-- and `Wanted` use these definitions.
use Rattle.std.specs.Prelude.{◌≡◌, ◌<◌, ◌+◌, ◌*◌, ◌/◌, ◌%◌, ◌&&◌, not, ℕ, length, Bool, true, false, List, [], ◌∷◌, slice_index_or, nat_eq, nat_lt}
use Rattle.std.specs.Int.{bit_at}
use Rattle.codes3270.specs.Size.{most_cells}

-- the number of 64-bit words that hold a bit for each cell of the largest screen
abbrev pub word_count : ℕ
word_count = (most_cells + 63) / 64

abbrev pub bit_of : Bool → ℕ
bit_of true = 1
bit_of false = 0

-- whether a cell's bit is set: bit `cell % 64` of word `cell / 64`
abbrev pub has_bit : List ℕ → ℕ → Bool
has_bit words cell = nat_eq (bit_at (slice_index_or words (cell / 64) 0) (cell % 64)) 1

-- whether a cell is at `from` or after it, and before `to`
abbrev pub is_within : ℕ → ℕ → ℕ → Bool
is_within from to cell = not (nat_lt cell from) && nat_lt cell to

-- holds if each bit of word number `word` says whether the test `holds` is true of its cell; the screen has `size`
-- cells
abbrev pub AreBits : ℕ → (ℕ → Bool) → ℕ → ℕ → Type 0
AreBits size holds word bits = (place : ℕ) → place < 64 → 64 * word + place < size
    → bit_at bits place ≡ bit_of (holds (64 * word + place))

-- the cells from address `at` on, each computed from its address and its byte
abbrev pub kept : {A : Type 0} → (ℕ → ℕ → A) → ℕ → List ℕ → List A
kept cell at [] = []
kept cell at (byte ∷ bytes) = cell at byte ∷ kept cell (at + 1) bytes

-- holds if a cell's bit is set exactly when the test is true of the cell
abbrev pub Marks : {A : Type 0} → (A → Bool) → List ℕ → List A → Type 0
Marks holds bits cells = (cell : ℕ) → cell < length cells → (default : _)
    → has_bit bits cell ≡ holds (slice_index_or cells cell default)
