-- The bytes of a paint, cell by cell.
use Rattle.std.proofs.Common.{◌≡◌, ℕ, ◌+◌, ◌<◌, ◌≤◌, Bool, true, false, List, [], ◌∷◌, ◌++◌, length, drop, get_or, Option, Some, ap, sym, ◌∙◌, append_assoc, append-nil}
use Rattle.std.proofs.lemmas.List.{drop_more, drop_all}
use Rattle.codes3270.specs.declared.attribute.Cell.{Cell}
use Rattle.datastream.specs.Writing.{order_bytes, orders_bytes}
use Rattle.datastream.specs.declared.order.Order.{Order}
use Rattle.datastream.specs.declared.order.Order.TheVariants.{Sba}
use Rattle.datastream.specs.declared.wanted.Want.{Want}
use Rattle.shadow.specs.Belief.{next_address}
use Rattle.shadow.specs.declared.known.Known.{Known}
use Rattle.shadow.specs.Stores.{Store, store_also}
use Rattle.shadow.specs.Looks.{stores_from}
use Rattle.shadow.specs.Paint.{cell_to_store, to_store, order_of, is_at, sba_unless, painting}

pub cell_here : (wants : List Want) (known : List Known) (n : ℕ) (want : Want) (cell : Known) (behind : List Want) (o : Option Cell) → n < length wants → n < length known
    → want ≡ get_or wants n want → cell ≡ get_or known n cell → behind ≡ drop (n + 1) wants → o ≡ cell_to_store (behind ++ wants) want cell
    → stores_from wants known n ≡ store_also o n (stores_from wants known (n + 1))
cell_here wants known n want cell behind o in_wants in_known is_want is_cell is_behind is =
    let front : drop n wants ≡ want ∷ drop (n + 1) wants = drop_more wants n want in_wants ∙ ap (λ (w : Want). w ∷ drop (n + 1) wants) (sym is_want) in
    let back : drop n known ≡ cell ∷ drop (n + 1) known = drop_more known n cell in_known ∙ ap (λ (k : Known). k ∷ drop (n + 1) known) (sym is_cell) in
    ap (λ (ws : List Want). to_store wants n ws (drop n known)) front
    ∙ ap (to_store wants n (want ∷ drop (n + 1) wants)) back
    ∙ ap (λ (ws : List Want). store_also (cell_to_store (ws ++ wants) want cell) n (stores_from wants known (n + 1))) (sym is_behind)
    ∙ ap (λ (s : Option Cell). store_also s n (stores_from wants known (n + 1))) (sym is)

sba_bytes : (there : Bool) (address : ℕ) (order : Order) (orders : List Order) → orders_bytes (sba_unless there address (order ∷ orders)) ≡ orders_bytes (sba_unless there address (order ∷ [])) ++ orders_bytes orders
sba_bytes true address order orders = ap (λ (bytes : List ℕ). bytes ++ orders_bytes orders) (sym (append-nil (order_bytes order)))
sba_bytes false address order orders =
    ap (λ (bytes : List ℕ). order_bytes (Sba address) ++ (bytes ++ orders_bytes orders)) (sym (append-nil (order_bytes order)))
    ∙ sym (append_assoc (order_bytes (Sba address)) (order_bytes order ++ []) (orders_bytes orders))

-- what the next cell adds
pub next_bytes : (size cursor : ℕ) (at : Option ℕ) (n : ℕ) (cell : Cell) (more : List Store)
    → orders_bytes (painting size cursor at (store_also (Some cell) n more)) ≡ orders_bytes (sba_unless (is_at at n) n (order_of cell ∷ [])) ++ orders_bytes (painting size cursor (Some (next_address size n)) more)
next_bytes size cursor at n cell more = sba_bytes (is_at at n) n (order_of cell) (painting size cursor (Some (next_address size n)) more)

pub none_left : (wants : List Want) (known : List Known) (n : ℕ) → length wants ≤ n → stores_from wants known n ≡ []
none_left wants known n past = ap (λ (ws : List Want). to_store wants n ws (drop n known)) (drop_all n wants past)
