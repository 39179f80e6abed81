-- What a writer appends: the bytes of orders and commands (GA23-0059-07, "3270 Data Stream Commands" and "Buffer
-- Control Orders and Order Codes"). The calls, and what a failed call leaves, are our profile.
use Rattle.std.specs.Prelude.{◌≡◌, ℕ, List, [], ◌∷◌, ◌++◌, map, All, Some, None, Result, if◌then◌else◌, Vec}
use Rattle.std.specs.Borrow.{MutBor}
use Rattle.std.specs.List.{flat_map}
use Rattle.codes3270.specs.Address.{address_bytes}
use Rattle.codes3270.specs.Size.{ScreenSize}
use Rattle.codes3270.specs.Appending.{Appends}
use Rattle.codes3270.specs.Attribute.{attr_byte}
use Rattle.codes3270.specs.declared.attribute.Attr.{Attr}
use Rattle.codes3270.specs.WriteControl.{wcc_byte}
use Rattle.codes3270.specs.declared.write_control.Wcc.{Wcc}
use Rattle.datastream.specs.declared.order.Order.{Order}
use Rattle.datastream.specs.declared.order.Order.TheVariants.{Sf, Sba, Ic, Pt, Ra, Eua, Char}
use Rattle.datastream.specs.declared.command_code.CommandCode.{CommandCode}
use Rattle.datastream.specs.Grammar.{start_field, set_buffer_address, insert_cursor, program_tab, repeat_to_address, erase_unprotected_to_address, codes_of, is_write, CommandParts, IsProper}

-- the bytes that an order is written as
abbrev pub order_bytes : Order → List ℕ
order_bytes (Char char) = char ∷ []
order_bytes (Sf attr) = start_field ∷ attr_byte attr ∷ []
order_bytes (Sba address) = set_buffer_address ∷ address_bytes address
order_bytes Ic = insert_cursor ∷ []
order_bytes Pt = program_tab ∷ []
order_bytes (Ra stop char) = repeat_to_address ∷ address_bytes stop ++ char ∷ []
order_bytes (Eua stop) = erase_unprotected_to_address ∷ address_bytes stop

-- the bytes of orders, one after another
abbrev pub orders_bytes : List Order → List ℕ
orders_bytes orders = flat_map order_bytes orders

-- the code of a command, and the write control character of a write
abbrev pub command_start : CommandCode → Wcc → List ℕ
command_start code wcc = (codes_of code).1 ∷ (if is_write code then wcc_byte wcc ∷ [] else [])

-- the bytes of a write
abbrev pub write_bytes : CommandCode → Wcc → List Order → List ℕ
write_bytes code wcc orders = (codes_of code).1 ∷ wcc_byte wcc ∷ orders_bytes orders

-- holds if a call appended the bytes to the writer's vector, or failed and changed nothing
pub record Writes {A E : Type 0} (old new : MutBor (Vec ℕ A)) (result : Result (Unit {0}) E)
    (bytes : List ℕ) : Type 0 where
  pub same_vector : new.ghost_name ≡ old.ghost_name
  pub appends : Appends old.now new.now result bytes

-- a call of a writer, after `begin`
pub data Call : Type 0 where
  sba : ℕ → Call
  sf : Attr → Call
  chars : List ℕ → Call
  ra : ℕ → ℕ → Call
  ic : Call

-- the orders that a call names
abbrev pub orders_of : Call → List Order
orders_of (sba address) = Sba address ∷ []
orders_of (sf attr) = Sf attr ∷ []
orders_of (chars text) = map (λ char. Char char) text
orders_of (ra stop char) = Ra stop char ∷ []
orders_of ic = Ic ∷ []

-- holds if a call is allowed: its addresses are on the screen, which has `size` cells, and its characters are storable
abbrev pub IsAllowed : ℕ → Call → Type 0
IsAllowed size call = All (IsProper size) (orders_of call)

-- the bytes that a call appends
abbrev pub call_bytes : Call → List ℕ
call_bytes call = orders_bytes (orders_of call)

-- the bytes of a command: those of `begin`, and those of the calls after it
abbrev pub command_bytes : CommandCode → Wcc → List Call → List ℕ
command_bytes code wcc calls = command_start code wcc ++ flat_map call_bytes calls

-- the command that these calls name, for a screen that has this size after it; if it is no write, its code alone
abbrev pub command_of_calls : ScreenSize → CommandCode → Wcc → List Call → CommandParts
command_of_calls size code wcc calls =
    if is_write code then record { code = code; size = size; wcc = Some wcc; orders = flat_map orders_of calls }
    else record { code = code; size = size; wcc = None; orders = [] }
