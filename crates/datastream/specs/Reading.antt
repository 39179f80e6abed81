-- Reading orders from left to right: what a value that borrows bytes has yet to yield.
use Rattle.std.specs.Prelude.{◌≡◌, ℕ, zero, suc, List, [], ◌∷◌, length, Result, Ok, Err, nat_lt, ◌==◌, if◌then◌else◌}
use Rattle.codes3270.specs.Address.{address_of}
use Rattle.codes3270.specs.Attribute.{attr_of}
use Rattle.codes3270.specs.Storable.{is_storable}
use Rattle.datastream.specs.declared.order.Order.{Order}
use Rattle.datastream.specs.declared.order.Order.TheVariants.{Sf, Sba, Ic, Pt, Ra, Eua, Char}
use Rattle.datastream.specs.declared.fault.CommandFault.{CommandFault}
use Rattle.datastream.specs.declared.fault.CommandFault.TheVariants.{BadOrder, BadAddress, Truncated}
use Rattle.datastream.specs.Grammar.{start_field, set_buffer_address, insert_cursor, program_tab, repeat_to_address, erase_unprotected_to_address}

infixl 10 ◌>>=◌
abbrev pub ◌>>=◌ : {A B : Type 0} → Result A CommandFault → (A → Result B CommandFault) → Result B CommandFault
(Ok x) >>= f = f x
(Err e) >>= f = Err e

-- holds if what a function returned is, by its view, what the definition of reading gives
abbrev pub Gives : {X Y : Type 0} → (X → Y) → Result X CommandFault → Result Y CommandFault → Type 0
Gives view (Ok x) read = read ≡ Ok (view x)
Gives view (Err e) read = read ≡ Err e

-- Each of these returns what the first bytes encode, and the bytes after that. `size` is the screen's number of cells.
abbrev pub byte_at : List ℕ → Result (ℕ × List ℕ) CommandFault
byte_at [] = Err Truncated
byte_at (byte ∷ rest) = Ok (byte, rest)

-- an address and the bytes after it, or the fault
abbrev pub address_at : ℕ → List ℕ → Result (ℕ × List ℕ) CommandFault
address_at size [] = Err Truncated
address_at size (high ∷ []) = Err Truncated
address_at size (high ∷ low ∷ rest) =
    if nat_lt (address_of high low) size then Ok (address_of high low, rest) else Err BadAddress

-- a storable character and the bytes after it, or the fault
abbrev pub character_at : List ℕ → Result (ℕ × List ℕ) CommandFault
character_at [] = Err Truncated
character_at (char ∷ rest) = if is_storable char then Ok (char, rest) else Err BadOrder

-- the order with this code, whose other bytes are at the front of `rest`
unfoldable pub order_after : ℕ → ℕ → List ℕ → Result (Order × List ℕ) CommandFault
order_after size code rest =
    if code == start_field then byte_at rest >>= (λ attr. Ok (Sf (attr_of attr.0), attr.1))
    else if code == set_buffer_address then address_at size rest >>= (λ stop. Ok (Sba stop.0, stop.1))
    else if code == erase_unprotected_to_address then address_at size rest >>= (λ stop. Ok (Eua stop.0, stop.1))
    else if code == repeat_to_address then
    address_at size rest >>= (λ stop. character_at stop.1 >>= (λ char. Ok (Ra stop.0 char.0, char.1)))
    else if code == insert_cursor then Ok (Ic, rest)
    else if code == program_tab then Ok (Pt, rest)
    else Err BadOrder

-- the order at the front of the bytes
unfoldable pub order_at : ℕ → List ℕ → Result (Order × List ℕ) CommandFault
order_at size [] = Err Truncated
order_at size (byte ∷ rest) = if is_storable byte then Ok (Char byte, rest) else order_after size byte rest

-- an order, followed by those in the bytes after it
abbrev pub and_orders : (List ℕ → List Order) → Result (Order × List ℕ) CommandFault → List Order
and_orders others (Ok found) = found.0 ∷ others found.1
and_orders others (Err fault) = []

-- the orders at the front of the bytes, up to the first bytes that are no order; at most `n`
unfoldable pub orders_within : ℕ → ℕ → List ℕ → List Order
orders_within size zero text = []
orders_within size (suc n) text = and_orders (orders_within size n) (order_at size text)

-- the orders at the front of the bytes, up to the first bytes that are no order
unfoldable pub orders_in : ℕ → List ℕ → List Order
orders_in size text = orders_within size (length text) text

-- the characters before the first order that is no character
abbrev pub characters_ahead : List Order → List ℕ
characters_ahead [] = []
characters_ahead (Char char ∷ orders) = char ∷ characters_ahead orders
characters_ahead (Sf attr ∷ orders) = []
characters_ahead (Sba address ∷ orders) = []
characters_ahead (Ic ∷ orders) = []
characters_ahead (Pt ∷ orders) = []
characters_ahead (Ra stop char ∷ orders) = []
characters_ahead (Eua stop ∷ orders) = []
