-- The bytes of a paint spell its orders.
use Rattle.std.proofs.Common.{◌≡◌, ◌<◌, ◌≤◌, ◌+◌, ℕ, Bool, true, false, Option, Some, None, List, [], ◌∷◌, ◌++◌, length, map, refl, ap, sym, subst, ◌∙◌, arith, inl, inr, eqb-true, append-nil, IfSome, if◌then◌else◌}
use Rattle.std.specs.Prelude.{⊤, ◌⊎◌, ◌==◌}
use Rattle.std.proofs.lemmas.Bool.{and_parts}
use Rattle.std.specs.List.{All, flat_map}
use Rattle.std.proofs.lemmas.List.Elements.{All-nil, All-cons, All-head, All-tail}
use Rattle.codes3270.specs.Size.{ScreenSize, cells_in, model_2, most_cells}
use Rattle.codes3270.specs.Storable.{is_storable}
use Rattle.codes3270.specs.WriteControl.{wcc_byte}
use Rattle.codes3270.specs.declared.attribute.Cell.{Cell}
use Rattle.codes3270.specs.declared.attribute.Cell.TheVariants.{Char, Attr}
use Rattle.codes3270.specs.declared.write_control.Wcc.{Wcc}
use Rattle.datastream.specs.Grammar.{IsCommand, codes_of, is_write, size_after}
use Rattle.datastream.specs.Wanted.{WantedScreen}
use Rattle.datastream.specs.declared.command_code.CommandCode.TheVariants.{Write, EraseWrite, EraseWriteAlternate}
use Rattle.datastream.specs.Laws.{WrittenIsRead}
use Rattle.datastream.specs.Wanted.{IsProper as IsProperWant}
use Rattle.datastream.specs.Writing.{Call, sba, sf, chars, ic, orders_of, IsAllowed, call_bytes, order_bytes, orders_bytes, write_bytes, command_bytes, command_of_calls}
use Rattle.datastream.specs.Grammar.{IsProper}
use Rattle.datastream.specs.declared.command_code.CommandCode.{CommandCode}
use Rattle.datastream.specs.declared.order.Order.{Order}
use Rattle.datastream.specs.declared.order.Order.TheVariants.{Sf, Sba, Ic, Pt, Ra, Eua, Char as CharData}
use Rattle.datastream.specs.declared.wanted.Want.{Want}
use Rattle.datastream.specs.declared.wanted.Want.TheVariants.{Char as WantChar, Attr as WantAttr, Keep}
use Rattle.shadow.specs.Appending.{IsStorableCell}
use Rattle.shadow.specs.Belief.{Shadow, next_address}
use Rattle.shadow.specs.Laws.{PaintIsEncoded}
use Rattle.shadow.specs.Paint.{is_there, unless, cell_to_store, to_store, order_of, is_at, sba_unless, painting, known_before, writes_over, is_base_size, erase_code, paint_code}
use Rattle.shadow.specs.Stores.{Store, store_also}
use Rattle.shadow.specs.declared.known.Known.{Known}
use Rattle.shadow.proofs.Paints.{code_writes}

-- ---- orders that a writer has calls for

-- `size` is the number of cells of the screen
module _ (size : ℕ) where
  -- such an order, in its range
  abbrev IsCalled : Order → Type 0
  IsCalled (CharData byte) = is_storable byte ≡ true
  IsCalled (Sf attribute) = ⊤
  IsCalled (Sba address) = address < size
  IsCalled Ic = ⊤
  IsCalled Pt = ⊥
  IsCalled (Ra stop byte) = ⊥
  IsCalled (Eua stop) = ⊥

  -- its call
  abbrev call_of : Order → Call
  call_of (CharData byte) = chars (byte ∷ [])
  call_of (Sf attribute) = sf attribute
  call_of (Sba address) = sba address
  call_of Ic = ic
  call_of Pt = ic
  call_of (Ra stop byte) = ic
  call_of (Eua stop) = ic

  named : (order : Order) → IsCalled order → orders_of (call_of order) ≡ order ∷ []
  named (CharData byte) is = refl
  named (Sf attribute) is = refl
  named (Sba address) is = refl
  named Ic is = refl
  named Pt is = absurd is
  named (Ra stop byte) is = absurd is
  named (Eua stop) is = absurd is

  allowed : (order : Order) → IsCalled order → IsAllowed size (call_of order)
  allowed (CharData byte) is = All-cons (IsProper size) (CharData byte) [] is (All-nil (IsProper size))
  allowed (Sf attribute) is = All-cons (IsProper size) (Sf attribute) [] tt (All-nil (IsProper size))
  allowed (Sba address) is = All-cons (IsProper size) (Sba address) [] is (All-nil (IsProper size))
  allowed Ic is = All-cons (IsProper size) Ic [] tt (All-nil (IsProper size))
  allowed Pt is = absurd is
  allowed (Ra stop byte) is = absurd is
  allowed (Eua stop) is = absurd is

  all_named : (orders : List Order) → All IsCalled orders → flat_map orders_of (map call_of orders) ≡ orders
  all_named [] each = refl
  all_named (order ∷ orders) each =
      ap (λ front. front ++ flat_map orders_of (map call_of orders)) (named order (All-head IsCalled order orders each))
      ∙ ap (λ rest. order ∷ rest) (all_named orders (All-tail IsCalled order orders each))

  all_bytes : (orders : List Order) → All IsCalled orders → flat_map call_bytes (map call_of orders) ≡ orders_bytes orders
  all_bytes [] each = refl
  all_bytes (order ∷ orders) each =
      ap (λ front. front ++ flat_map call_bytes (map call_of orders)) (ap orders_bytes (named order (All-head IsCalled order orders each)) ∙ append-nil (order_bytes order))
      ∙ ap (λ rest. order_bytes order ++ rest) (all_bytes orders (All-tail IsCalled order orders each))

  all_allowed : (orders : List Order) → All IsCalled orders → All (IsAllowed size) (map call_of orders)
  all_allowed [] each = All-nil (IsAllowed size)
  all_allowed (order ∷ orders) each =
      All-cons (IsAllowed size) (call_of order) (map call_of orders) (allowed order (All-head IsCalled order orders each)) (all_allowed orders (All-tail IsCalled order orders each))

  -- ---- the orders of a paint

  -- a cell that can be stored, at an address of the screen
  abbrev IsStorableAt : Store → Type 0
  IsStorableAt store = (store.at < size) × IsStorableCell store.cell

  order_called : (cell : Cell) → IsStorableCell cell → IsCalled (order_of cell)
  order_called (Char byte) is = is
  order_called (Attr attribute) is = tt

  placed_called : (there : Bool) (address : ℕ) (orders : List Order) → address < size → All IsCalled orders → All IsCalled (sba_unless there address orders)
  placed_called true address orders on each = each
  placed_called false address orders on each = All-cons IsCalled (Sba address) orders on each

  painting_called : (cursor : ℕ) (at : Option ℕ) (stores : List Store) → cursor < size → All IsStorableAt stores → All IsCalled (painting size cursor at stores)
  painting_called cursor at [] on each = All-cons IsCalled (Sba cursor) (Ic ∷ []) on (All-cons IsCalled Ic [] tt (All-nil IsCalled))
  painting_called cursor at (store ∷ more) on each =
      let here : IsStorableAt store = All-head IsStorableAt store more each in
      let next : Option ℕ = Some (next_address size store.at) in
      placed_called (is_at at store.at) store.at _ here.0
      (All-cons IsCalled (order_of store.cell) (painting size cursor next more) (order_called store.cell here.1)
      (painting_called cursor next more on (All-tail IsStorableAt store more each)))

  unless_storable : (right : Bool) (cell : Cell) → IsStorableCell cell → IfSome (unless right cell) IsStorableCell
  unless_storable true cell is = tt
  unless_storable false cell is = is

  cell_storable : (ahead : List Want) (want : Want) (known : Known) → IsProperWant want → IfSome (cell_to_store ahead want known) IsStorableCell
  cell_storable ahead Keep known is = tt
  cell_storable ahead (WantChar byte) known is = unless_storable (is_there known (Char byte)) (Char byte) is
  cell_storable ahead (WantAttr attribute) known is = unless_storable _ (Attr attribute) tt

  also_storable : (cell : Option Cell) (at : ℕ) (more : List Store) → at < size → IfSome cell IsStorableCell → All IsStorableAt more → All IsStorableAt (store_also cell at more)
  also_storable None at more on is each = each
  also_storable (Some cell) at more on is each = All-cons IsStorableAt (record { at = at; cell = cell }) more (on, is) each

  stores_storable : (whole : List Want) (at : ℕ) (wants : List Want) (known : List Known) → at + length wants ≤ size → All IsProperWant wants → All IsStorableAt (to_store whole at wants known)
  stores_storable whole at [] known few each = All-nil IsStorableAt
  stores_storable whole at (want ∷ rest) [] few each = All-nil IsStorableAt
  stores_storable whole at (want ∷ rest) (known ∷ cells) few each =
      also_storable (cell_to_store (rest ++ whole) want known) at (to_store whole (at + 1) rest cells) (omega arith)
      (cell_storable (rest ++ whole) want known (All-head IsProperWant want rest each))
      (stores_storable whole (at + 1) rest cells (omega arith) (All-tail IsProperWant want rest each))

-- a write of such orders is encoded by its bytes
write_spelt : WrittenIsRead → (now alternate size : ScreenSize) (code : CommandCode) (wcc : Wcc) (orders : List Order) → size_after code now alternate ≡ size → cells_in size ≤ most_cells
    → is_write code ≡ true → All (IsCalled (cells_in size)) orders
    → IsCommand now alternate (record { code = code; size = size; wcc = Some wcc; orders = orders }) (write_bytes code wcc orders)
write_spelt law now alternate size code wcc orders sized few writes each =
    subst (λ os. IsCommand now alternate (record { code = code; size = size; wcc = Some wcc; orders = os }) (write_bytes code wcc orders)) (all_named (cells_in size) orders each)
    (subst (λ bytes. IsCommand now alternate (record { code = code; size = size; wcc = Some wcc; orders = flat_map orders_of (map (call_of (cells_in size)) orders) }) ((codes_of code).1 ∷ wcc_byte wcc ∷ bytes)) (all_bytes (cells_in size) orders each)
    (by_kind (is_write code) writes (read few (all_allowed (cells_in size) orders each))))
  where
    read : cells_in size ≤ most_cells → All (IsAllowed (cells_in size)) (map (call_of (cells_in size)) orders) → IsCommand now alternate (command_of_calls size code wcc (map (call_of (cells_in size)) orders)) (command_bytes code wcc (map (call_of (cells_in size)) orders))
    read = subst
        (λ (shape : ScreenSize). cells_in shape ≤ most_cells → All (IsAllowed (cells_in shape)) (map (call_of (cells_in size)) orders) → IsCommand now alternate (command_of_calls shape code wcc (map (call_of (cells_in size)) orders)) (command_bytes code wcc (map (call_of (cells_in size)) orders)))
        sized (law now alternate code wcc (map (call_of (cells_in size)) orders))

    by_kind : (kind : Bool) → kind ≡ true
        → IsCommand now alternate (if kind then record { code = code; size = size; wcc = Some wcc; orders = flat_map orders_of (map (call_of (cells_in size)) orders) } else record { code = code; size = size; wcc = None; orders = [] }) ((codes_of code).1 ∷ (if kind then wcc_byte wcc ∷ [] else []) ++ flat_map call_bytes (map (call_of (cells_in size)) orders))
        → IsCommand now alternate (record { code = code; size = size; wcc = Some wcc; orders = flat_map orders_of (map (call_of (cells_in size)) orders) }) ((codes_of code).1 ∷ wcc_byte wcc ∷ flat_map call_bytes (map (call_of (cells_in size)) orders))
    by_kind true e encoded = encoded
    by_kind false e encoded = cc

-- ---- the size of a paint

base_is : (size : ScreenSize) → is_base_size size ≡ true → model_2 ≡ size
base_is size e =
    let parts = and_parts (size.rows == model_2.rows) (size.columns == model_2.columns) e in
    let rows : size.rows ≡ model_2.rows = eqb-true size.rows model_2.rows parts.0 in
    let columns : size.columns ≡ model_2.columns = eqb-true size.columns model_2.columns parts.1 in
    λ i. record { rows = sym rows i; columns = sym columns i }

paint_size : (now alternate : ScreenSize) (n : ℕ) (shadow : Shadow) (wanted : WantedScreen) → (wanted.size ≡ model_2) ⊎ (wanted.size ≡ alternate) → (paint_code n shadow wanted ≡ Write → wanted.size ≡ now)
    → size_after (paint_code n shadow wanted) now alternate ≡ wanted.size
paint_size now alternate n shadow wanted can same = cases (writes_over n shadow) same
  where
    erases : (u : Bool) → is_base_size wanted.size ≡ u → size_after (if u then EraseWrite else EraseWriteAlternate) now alternate ≡ wanted.size
    erases true e = base_is wanted.size e
    erases false e = elim can [
      | inl base ↦ absurd (let both : true ≡ false = ap is_base_size (sym base) ∙ e in cc)
      | inr other ↦ sym other
    ]

    cases : (t : Bool) → ((if t then Write else erase_code wanted.size) ≡ Write → wanted.size ≡ now) → size_after (if t then Write else erase_code wanted.size) now alternate ≡ wanted.size
    cases true is = sym (is refl)
    cases false is = erases (is_base_size wanted.size) refl

all_fit : (count size : ℕ) → count ≡ size → 0 + count ≤ size
all_fit count size same = omega arith

pub paint_encoded : WrittenIsRead → PaintIsEncoded
paint_encoded law now alternate shadow wanted is can same =
    let size : ℕ = cells_in wanted.size in
    let stores : List Store = to_store wanted.cells 0 wanted.cells (known_before size wanted.reset shadow) in
    write_spelt law now alternate wanted.size (paint_code size shadow wanted) (record { alarm = false; restore = true; reset = wanted.reset }) (painting size wanted.cursor None stores)
    (paint_size now alternate size shadow wanted can same) is.few (code_writes size shadow wanted)
    (painting_called size wanted.cursor None stores is.cursor_in_range
    (stores_storable size wanted.cells 0 wanted.cells (known_before size wanted.reset shadow) (all_fit (length wanted.cells) size is.size) is.proper))
