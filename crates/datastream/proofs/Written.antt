-- What is written is in the grammar.
use Rattle.std.proofs.Common.{◌≡◌, ◌<◌, ◌≤◌, ℕ, arith, List, [], ◌∷◌, ◌++◌, ◌∙◌, refl, sym, Bool, true, false, All, inr, Some, ap, map, append_assoc}
use Rattle.std.proofs.lemmas.List.Elements.{All-head, All-tail, All-nil, All-append}
use Rattle.codes3270.proofs.RoundTrips.{address_read_back, attr_read_back, wcc_read_back}
use Rattle.codes3270.specs.Size.{ScreenSize, cells_in, most_cells}
use Rattle.codes3270.specs.declared.write_control.Wcc.{Wcc}
use Rattle.datastream.specs.declared.order.Order.{Order}
use Rattle.datastream.specs.declared.order.Order.TheVariants.{Sf, Sba, Ic, Pt, Ra, Eua, Char}
use Rattle.datastream.specs.declared.command_code.CommandCode.{CommandCode}
use Rattle.datastream.specs.Grammar.{IsOrder, IsProper, AreOrders, IsCommand, write, other, is_write, codes_of, size_after}
use Rattle.datastream.specs.Writing.{order_bytes, orders_bytes, Call, orders_of, IsAllowed, call_bytes, command_bytes, command_of_calls}
use Rattle.codes3270.specs.WriteControl.{wcc_byte}
use Rattle.std.specs.List.{flat_map}

-- Twelve bits hold each address of a screen with so few cells.
module _ (size : ℕ) (few : size ≤ most_cells) where
  address_written : (address : ℕ) → address < size → address < most_cells
  address_written address below = omega arith

  pub order_written : (order : Order) → IsProper size order → IsOrder size order (order_bytes order)
  order_written (Char char) proper = (proper, refl)
  order_written (Sf attr) proper = (_, sym (attr_read_back attr), refl)
  order_written (Sba address) proper = (_, _, (sym (address_read_back address (address_written address proper)), proper), refl)
  order_written Ic proper = refl
  order_written Pt proper = refl
  order_written (Ra stop char) proper = (_, _, (sym (address_read_back stop (address_written stop proper.0)), proper.0), proper.1, refl)
  order_written (Eua stop) proper = (_, _, (sym (address_read_back stop (address_written stop proper)), proper), refl)

  pub orders_written : (orders : List Order) → All (IsProper size) orders → AreOrders size orders (orders_bytes orders)
  orders_written [] proper = refl
  orders_written (order ∷ orders) proper =
      (order_bytes order, orders_bytes orders, order_written order (All-head (IsProper size) order orders proper), orders_written orders (All-tail (IsProper size) order orders proper), refl)

pub orders_bytes-append : (first second : List Order) → orders_bytes (first ++ second) ≡ orders_bytes first ++ orders_bytes second
orders_bytes-append [] second = refl
orders_bytes-append (order ∷ first) second =
    ap (λ (rest : List ℕ). order_bytes order ++ rest) (orders_bytes-append first second) ∙ sym (append_assoc (order_bytes order) (orders_bytes first) (orders_bytes second))

-- call after call, the orders' bytes
calls_bytes : (calls : List Call) → flat_map call_bytes calls ≡ orders_bytes (flat_map orders_of calls)
calls_bytes [] = refl
calls_bytes (call ∷ calls) =
    ap (λ (rest : List ℕ). call_bytes call ++ rest) (calls_bytes calls) ∙ sym (orders_bytes-append (orders_of call) (flat_map orders_of calls))

calls_proper : (size : ℕ) (calls : List Call) → All (IsAllowed size) calls → All (IsProper size) (flat_map orders_of calls)
calls_proper size [] allowed = All-nil (IsProper size)
calls_proper size (call ∷ calls) allowed =
    All-append (IsProper size) (orders_of call) (flat_map orders_of calls) (All-head (IsAllowed size) call calls allowed) (calls_proper size calls (All-tail (IsAllowed size) call calls allowed))

-- What is written in any calls spells the command that they name.
pub calls_written : (now alternate : ScreenSize) (code : CommandCode) (wcc : Wcc) (calls : List Call) → cells_in (size_after code now alternate) ≤ most_cells
    → All (IsAllowed (cells_in (size_after code now alternate))) calls
    → IsCommand now alternate (command_of_calls (size_after code now alternate) code wcc calls) (command_bytes code wcc calls)
calls_written now alternate code wcc calls few allowed = by_kind (is_write code) refl
  where
    by_kind : (writes : Bool) → is_write code ≡ writes → IsCommand now alternate (command_of_calls (size_after code now alternate) code wcc calls) (command_bytes code wcc calls)
    by_kind true writes =
        let size : ℕ = cells_in (size_after code now alternate) in
        rw writes
        (write _ _ _ writes (inr refl) refl (ap Some (sym (wcc_read_back wcc))) (orders_written size few (flat_map orders_of calls) (calls_proper size calls allowed))
        (ap (λ (rest : List ℕ). (codes_of code).1 ∷ wcc_byte wcc ∷ rest) (calls_bytes calls)))
    by_kind false reads = rw reads (other _ _ reads (inr refl) refl refl refl refl)

-- data is written as it is
pub orders_bytes-chars : (chars : List ℕ) → orders_bytes (map (λ char. Char char) chars) ≡ chars
orders_bytes-chars [] = refl
orders_bytes-chars (char ∷ chars) = ap (λ rest. char ∷ rest) (orders_bytes-chars chars)
