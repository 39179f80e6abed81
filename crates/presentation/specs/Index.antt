-- For private functions: which of the listed attribute addresses is found (GA23-0059-07 on field attributes).
use Rattle.std.specs.Prelude.{◌≡◌, ℕ, ◌+◌, ◌-◌, ◌%◌, ◌<◌, ◌≤◌, true, false, List, length, slice_index_or}
use Rattle.codes3270.specs.declared.attribute.Cell.{Cell}
use Rattle.presentation.specs.Places.{attribute_places, starts_at}

-- holds if the addresses are below `size` and in ascending order
pub record AreAscending (size : ℕ) (places : List ℕ) : Type 0 where
  pub order : (i j : ℕ) → i < j → j < length places → slice_index_or places i 0 < slice_index_or places j 0
  pub within : (i : ℕ) → i < length places → slice_index_or places i 0 < size

-- holds if no address in the list is nearer at or before `at`, wrapping at 0, than the one with this index
pub record IsNearest (size : ℕ) (places : List ℕ) (at index : ℕ) : Type 0 where
  pub listed : index < length places
  pub nearest : (other : ℕ) → other < length places
      → (at + size - slice_index_or places index 0) % size ≤ (at + size - slice_index_or places other 0) % size

-- holds if the first `count` of the ascending addresses are at most `at`, and the others are higher
pub record IsCountUpTo (places : List ℕ) (at count : ℕ) : Type 0 where
  pub few : count ≤ length places
  pub up_to : (index : ℕ) → index < count → slice_index_or places index 0 ≤ at
  pub behind : (index : ℕ) → count ≤ index → index < length places → at < slice_index_or places index 0

-- holds if the address with index `first` is the first that is at least `at`, or all are lower and `first` is past them
pub record IsFirstFrom (places : List ℕ) (at first : ℕ) : Type 0 where
  pub before : (index : ℕ) → index < first → index < length places → slice_index_or places index 0 < at
  pub from : (index : ℕ) → first ≤ index → index < length places → at ≤ slice_index_or places index 0

-- the address of the attribute with an index
abbrev pub place_of : List Cell → ℕ → ℕ
place_of cells index = slice_index_or (attribute_places cells 0) index 0

-- holds if no attribute with an index in `from..to` has a start after it; one in the last cell isn't considered
abbrev pub HaveNoStart : List Cell → ℕ → ℕ → Type 0
HaveNoStart cells from to =
    (index : ℕ) → from ≤ index → index < to → place_of cells index + 1 < length cells
    → starts_at cells (place_of cells index + 1) ≡ false

-- holds if the attribute with this index is the first from `from` on that has a start after it, up to the last cell
pub record IsFirstWithStart (cells : List Cell) (from index : ℕ) : Type 0 where
  pub after : from ≤ index
  pub listed : index < length (attribute_places cells 0)
  pub within : place_of cells index + 1 < length cells
  pub there : starts_at cells (place_of cells index + 1) ≡ true
  pub none_nearer : HaveNoStart cells from index
