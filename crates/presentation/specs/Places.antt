-- The addresses of attributes, and of starts: first cells of unprotected fields (GA23-0059-07 on attributes and Tab).
use Rattle.std.specs.Prelude.{◌≡◌, ◌-◌, ◌<◌, ℕ, Bool, true, false, List, not, drop, length, slice_index_or}
use Rattle.codes3270.specs.declared.attribute.Cell.{Cell}
use Rattle.codes3270.specs.declared.attribute.Cell.TheVariants.{Char}
use Rattle.datastream.specs.Meaning.{is_start}
use Rattle.datastream.specs.Screen.{is_char, places_from}

-- the addresses of the attributes from an address on
abbrev pub attribute_places : List Cell → ℕ → List ℕ
attribute_places cells from = places_from (λ cell. not (is_char cell)) from (drop from cells)

-- whether a cell other than the first is a start, by the cell before it
abbrev pub starts_at : List Cell → ℕ → Bool
starts_at cells place = is_start (slice_index_or cells (place - 1) (Char 0), slice_index_or cells place (Char 0))

-- holds if `start` is the lowest start after `at`, up to the last cell
pub record IsFirstStart (cells : List Cell) (at start : ℕ) : Type 0 where
  pub after : at < start
  pub within : start < length cells
  pub there : starts_at cells start ≡ true
  pub none_nearer : (nearer : ℕ) → at < nearer → nearer < start → starts_at cells nearer ≡ false
