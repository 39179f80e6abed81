-- How many bytes a paint takes at most.
use Rattle.std.proofs.Common.{◌≡◌, ℕ, suc, ◌+◌, ◌*◌, ◌<◌, ◌≤◌, Bool, true, false, List, [], ◌∷◌, ◌++◌, length, Option, Some, None, refl, ap, sym, subst, ◌∙◌, arith, eq-eqb, length-append}
use Rattle.std.proofs.Math.Nat.{mod-eq_of_lt}
use Rattle.codes3270.specs.declared.attribute.Cell.{Cell}
use Rattle.codes3270.specs.declared.attribute.Cell.TheVariants.{Char, Attr}
use Rattle.datastream.specs.Writing.{order_bytes, orders_bytes}
use Rattle.datastream.specs.declared.order.Order.{Order}
use Rattle.datastream.specs.declared.order.Order.TheVariants.{Sba}
use Rattle.datastream.specs.declared.wanted.Want.{Want}
use Rattle.shadow.specs.Belief.{next_address}
use Rattle.shadow.specs.Laws.{PaintIsBounded}
use Rattle.shadow.specs.Paint.{cell_to_store, to_store, order_of, is_at, sba_unless, painting, known_before}
use Rattle.shadow.specs.Stores.{Store, store_also}
use Rattle.shadow.specs.declared.known.Known.{Known}

cell_short : (cell : Cell) → length (order_bytes (order_of cell)) ≤ 2
cell_short (Char c) = omega arith
cell_short (Attr a) = omega arith

sba_short : (there : Bool) (address : ℕ) (orders : List Order) → length (orders_bytes (sba_unless there address orders)) ≤ 3 + length (orders_bytes orders)
sba_short true address orders = omega arith
sba_short false address orders = omega (arith, length-append (order_bytes (Sba address)) (orders_bytes orders))

-- the orders from a cell on, when its address is the current one: the cell takes at most 2 bytes, and one that isn't stored leaves 3 for the SBA before the next
abbrev IsShortAt : ℕ → ℕ → ℕ → List Store → ℕ → Type 0
IsShortAt size cursor n stores cells = length (orders_bytes (painting size cursor (Some n) stores)) ≤ 4 + 3 * cells

-- when it is another one, an SBA comes before the first that is stored
abbrev IsShort : ℕ → ℕ → Option ℕ → List Store → ℕ → Type 0
IsShort size cursor at stores cells = length (orders_bytes (painting size cursor at stores)) ≤ 7 + 3 * cells

next_inside : (size n : ℕ) → n + 1 < size → next_address size n ≡ n + 1
next_inside size n inside = mod-eq_of_lt inside

at_itself : (n : ℕ) → is_at (Some n) n ≡ true
at_itself n = eq-eqb n n refl

stored_at : (size cursor n m : ℕ) (cell : Cell) (more : List Store) (cells : ℕ) → m ≡ n → length (orders_bytes (painting size cursor (Some (next_address size n)) more)) ≤ 4 + 3 * cells
    → IsShortAt size cursor m (record { at = n; cell = cell } ∷ more) (suc cells)
stored_at size cursor n m cell more cells same rest =
    let behind : List Order = painting size cursor (Some (next_address size n)) more in
    subst (λ (there : Bool). length (orders_bytes (sba_unless there n (order_of cell ∷ behind))) ≤ 4 + 3 * suc cells)
    (sym (ap (λ (k : ℕ). is_at (Some k) n) same ∙ at_itself n))
    (omega (arith, length-append (order_bytes (order_of cell)) (orders_bytes behind), cell_short cell, rest))

stored_elsewhere : (size cursor n : ℕ) (at : Option ℕ) (cell : Cell) (more : List Store) (cells : ℕ) → length (orders_bytes (painting size cursor (Some (next_address size n)) more)) ≤ 4 + 3 * cells
    → IsShort size cursor at (record { at = n; cell = cell } ∷ more) (suc cells)
stored_elsewhere size cursor n at cell more cells rest =
    let behind : List Order = painting size cursor (Some (next_address size n)) more in
    omega (arith, sba_short (is_at at n) n (order_of cell ∷ behind), length-append (order_bytes (order_of cell)) (orders_bytes behind), cell_short cell, rest)

-- how short what is behind a stored cell is: nothing, or it begins at the current address
after_stored : (size cursor n : ℕ) (whole rest : List Want) (known : List Known) → n + suc (length rest) ≤ size
    → ((n + 1) + length rest ≤ size → IsShortAt size cursor (n + 1) (to_store whole (n + 1) rest known) (length rest))
    → length (orders_bytes (painting size cursor (Some (next_address size n)) (to_store whole (n + 1) rest known))) ≤ 4 + 3 * length rest
after_stored size cursor n whole [] known few behind = omega arith
after_stored size cursor n whole (want ∷ rest) known few behind =
    subst (λ (at : ℕ). length (orders_bytes (painting size cursor (Some at) (to_store whole (n + 1) (want ∷ rest) known))) ≤ 4 + 3 * length (want ∷ rest))
    (sym (next_inside size n (omega arith))) (behind (omega arith))

mutual_at : (size cursor n m : ℕ) (whole rest : List Want) (known : List Known) (o : Option Cell) → m ≡ n → n + suc (length rest) ≤ size
    → ((n + 1) + length rest ≤ size → IsShortAt size cursor (n + 1) (to_store whole (n + 1) rest known) (length rest))
    → IsShort size cursor (Some m) (to_store whole (n + 1) rest known) (length rest)
    → IsShortAt size cursor m (store_also o n (to_store whole (n + 1) rest known)) (suc (length rest))
mutual_at size cursor n m whole rest known None same few here apart = omega (arith, apart)
mutual_at size cursor n m whole rest known (Some cell) same few here apart =
    stored_at size cursor n m cell (to_store whole (n + 1) rest known) (length rest) same (after_stored size cursor n whole rest known few here)

mutual_apart : (size cursor n : ℕ) (at : Option ℕ) (whole rest : List Want) (known : List Known) (o : Option Cell) → n + suc (length rest) ≤ size
    → ((n + 1) + length rest ≤ size → IsShortAt size cursor (n + 1) (to_store whole (n + 1) rest known) (length rest))
    → IsShort size cursor at (to_store whole (n + 1) rest known) (length rest)
    → IsShort size cursor at (store_also o n (to_store whole (n + 1) rest known)) (suc (length rest))
mutual_apart size cursor n at whole rest known None few here apart = omega (arith, apart)
mutual_apart size cursor n at whole rest known (Some cell) few here apart =
    stored_elsewhere size cursor n at cell (to_store whole (n + 1) rest known) (length rest) (after_stored size cursor n whole rest known few here)

-- both, from a cell on
both_short : (size cursor n : ℕ) (whole rest : List Want) (known : List Known) → n + length rest ≤ size
    → IsShortAt size cursor n (to_store whole n rest known) (length rest) × ((at : Option ℕ) → IsShort size cursor at (to_store whole n rest known) (length rest))
both_short size cursor n whole [] known few = (omega arith, λ at. omega arith)
both_short size cursor n whole (want ∷ rest) [] few = (omega arith, λ at. omega arith)
both_short size cursor n whole (want ∷ rest) (k ∷ known) few =
    let behind = both_short size cursor (n + 1) whole rest known (omega arith) in (
      mutual_at size cursor n n whole rest known (cell_to_store (rest ++ whole) want k) refl few (λ inside. behind.0) (behind.1 (Some n)),
      λ at. mutual_apart size cursor n at whole rest known (cell_to_store (rest ++ whole) want k) few (λ inside. behind.0) (behind.1 at),
    )

pub paint_bounded : PaintIsBounded
paint_bounded size shadow wanted few =
    let short = (both_short size wanted.cursor 0 wanted.cells wanted.cells (known_before size wanted.reset shadow) (omega arith)).1 None in
    omega (arith, short)
