-- For proofs alone: how a paint looks for the cells to store, 64 at a time (our profile).
use Rattle.std.specs.Prelude.{◌≡◌, ◌<◌, ◌+◌, ◌*◌, ◌/◌, ℕ, false, List, [], ◌∷◌, ◌++◌, length, Option, Some, None, drop, slice_index_or}
use Rattle.std.specs.Int.{bit_at}
use Rattle.datastream.specs.declared.wanted.Want.{Want}
use Rattle.datastream.specs.declared.wanted.Want.TheVariants.{Keep}
use Rattle.shadow.specs.declared.known.Known.{Known}
use Rattle.shadow.specs.declared.known.Known.TheVariants.{Char as KnownChar}
use Rattle.shadow.specs.declared.searching.ToStore.{ToStore}
use Rattle.shadow.specs.declared.searching.Search.{Search}
use Rattle.shadow.specs.Paint.{cell_to_store, to_store}
use Rattle.shadow.specs.Stores.{Store}

-- holds if `Holds` is true of each cell of a word of 64 cells whose bit is clear, on a screen of `size` cells
abbrev pub SetUnless : ℕ → (ℕ → Type 0) → ℕ → ℕ → Type 0
SetUnless size Holds word bits = (place : ℕ) → place < 64 → 64 * word + place < size → bit_at bits place ≡ 0
    → Holds (64 * word + place)

-- the cells that a paint stores from an address on
abbrev pub stores_from : List Want → List Known → ℕ → List Store
stores_from wants known at = to_store wants at (drop at wants) (drop at known)

-- holds if a paint stores nothing in a cell
abbrev pub IsRight : List Want → List Known → ℕ → Type 0
IsRight wants known cell = cell_to_store (drop (cell + 1) wants ++ wants) (slice_index_or wants cell Keep)
    (slice_index_or known cell (KnownChar None false)) ≡ None

-- holds if each cell of the search's word that isn't right has its bit set
abbrev pub IsSearch : List Want → List Known → Search → Type 0
IsSearch wants known search = SetUnless (length wants) (IsRight wants known) (search.from / 64) search.look

-- the cell that was found, if one was, and those after it
abbrev pub stored_first : Option ToStore → List Store → List Store
stored_first None more = []
stored_first (Some store) more = record { at = store.place; cell = store.cell } ∷ more
