-- A write as a sequence of states, one before each order, and which program tabs store nulls (our profile). `Meaning`
-- defines the same write by recursion over the orders.
use Rattle.std.specs.Prelude.{◌≡◌, ◌⊎◌, ◌↔◌, ◌+◌, ◌<◌, ℕ, true, List, length, drop, slice_index_or}
use Rattle.std.specs.List.{list_all}
use Rattle.datastream.specs.declared.order.Order.{Order}
use Rattle.datastream.specs.declared.order.Order.TheVariants.{Pt, Char as CharData}
use Rattle.datastream.specs.Screen.{is_char}
use Rattle.datastream.specs.Meaning.{WriteProgress, executed}

-- the order at an index
abbrev pub order_at_place : List Order → ℕ → Order
order_at_place orders place = slice_index_or orders place Pt

-- holds if an order stores a character
abbrev pub IsData : Order → Type 0
IsData order = (byte : ℕ) × (order ≡ CharData byte)

-- holds if there is no attribute from the buffer address to the end of the screen
abbrev pub MeetsNone : WriteProgress → Type 0
MeetsNone write = list_all is_char (drop write.address write.screen.cells) ≡ true

-- Holds if `at` gives the progress of a write before the order at each index, and at last after all orders. A PT stores
-- nulls if the order before it is data, or a PT that stored nulls up to the last cell; no other PT does.
pub record ByPlace (orders : List Order) (start : WriteProgress) (at : ℕ → WriteProgress) : Type 0 where
  pub starts : at 0 ≡ start
  pub screen : (place : ℕ) → place < length orders
      → (at (place + 1)).screen ≡ (executed (order_at_place orders place) (at place)).screen
  pub address : (place : ℕ) → place < length orders
      → (at (place + 1)).address ≡ (executed (order_at_place orders place) (at place)).address
  pub next : (place : ℕ) → place < length orders
      → ((at (place + 1)).after_data ≡ true) ↔ (IsData (order_at_place orders place)
      ⊎ ((order_at_place orders place ≡ Pt) × ((at place).after_data ≡ true) × MeetsNone (at place)))
