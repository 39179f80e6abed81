-- Which bytes are commands of the 3270 data stream (GA23-0059-07, "3270 Data Stream Commands" and "Buffer Control
-- Orders and Order Codes"), and which fault others have, in reading order (our profile).
use Rattle.std.specs.Prelude.{◌≡◌, ℕ, ◌<◌, ◌≤◌, List, [], ◌∷◌, ◌++◌, length, Bool, true, false, ◌==◌, ◌||◌, ◌⊎◌, Option, Some, None}
use Rattle.codes3270.specs.Size.{ScreenSize, cells_in, model_2}
use Rattle.codes3270.specs.Address.{address_of}
use Rattle.codes3270.specs.Attribute.{attr_of}
use Rattle.codes3270.specs.Storable.{is_storable}
use Rattle.codes3270.specs.WriteControl.{wcc_of}
use Rattle.codes3270.specs.declared.write_control.Wcc.{Wcc}
use Rattle.datastream.specs.declared.order.Order.{Order}
use Rattle.datastream.specs.declared.order.Order.TheVariants.{Sf, Sba, Ic, Pt, Ra, Eua, Char}
use Rattle.datastream.specs.declared.command_code.CommandCode.{CommandCode}
use Rattle.datastream.specs.declared.command_code.CommandCode.TheVariants.{Write, EraseWrite, EraseWriteAlternate, ReadBuffer, ReadModified, ReadModifiedAll, EraseAllUnprotected}
use Rattle.datastream.specs.declared.fault.CommandFault.{CommandFault}
use Rattle.datastream.specs.declared.fault.CommandFault.TheVariants.{BadCommand, BadOrder, BadAddress, Truncated}

-- ---- orders (GA23-0059-07, "Buffer Control Orders and Order Codes")

-- the codes of the orders
abbrev pub start_field : ℕ
start_field = 0x1D

abbrev pub set_buffer_address : ℕ
set_buffer_address = 0x11

abbrev pub insert_cursor : ℕ
insert_cursor = 0x13

abbrev pub program_tab : ℕ
program_tab = 0x05

abbrev pub repeat_to_address : ℕ
repeat_to_address = 0x3C

abbrev pub erase_unprotected_to_address : ℕ
erase_unprotected_to_address = 0x12

-- Below, `size` is the number of cells of the screen that the orders act on.

-- holds if two bytes encode an address, and it is on the screen
abbrev pub IsAddress : ℕ → ℕ → ℕ → ℕ → Type 0
IsAddress size high low address = (address ≡ address_of high low) × (address < size)

-- holds if the bytes encode an order
abbrev pub IsOrder : ℕ → Order → List ℕ → Type 0
IsOrder size (Char char) bytes = (is_storable char ≡ true) × (bytes ≡ char ∷ [])
IsOrder size (Sf attr) bytes = (code : ℕ) × (attr ≡ attr_of code) × (bytes ≡ start_field ∷ code ∷ [])
IsOrder size (Sba address) bytes = (high low : ℕ) × IsAddress size high low address
    × (bytes ≡ set_buffer_address ∷ high ∷ low ∷ [])
IsOrder size Ic bytes = bytes ≡ insert_cursor ∷ []
IsOrder size Pt bytes = bytes ≡ program_tab ∷ []
IsOrder size (Ra stop char) bytes =
    (high low : ℕ) × IsAddress size high low stop × (is_storable char ≡ true)
    × (bytes ≡ repeat_to_address ∷ high ∷ low ∷ char ∷ [])
IsOrder size (Eua stop) bytes = (high low : ℕ) × IsAddress size high low stop
    × (bytes ≡ erase_unprotected_to_address ∷ high ∷ low ∷ [])

-- holds if an order's addresses are on the screen and its characters are storable
abbrev pub IsProper : ℕ → Order → Type 0
IsProper size (Char char) = is_storable char ≡ true
IsProper size (Sf attr) = Unit {0}
IsProper size (Sba address) = address < size
IsProper size Ic = Unit {0}
IsProper size Pt = Unit {0}
IsProper size (Ra stop char) = (stop < size) × (is_storable char ≡ true)
IsProper size (Eua stop) = stop < size

-- holds if the bytes encode these orders, one after another
abbrev pub AreOrders : ℕ → List Order → List ℕ → Type 0
AreOrders size [] bytes = bytes ≡ []
AreOrders size (order ∷ orders) bytes =
    (front back : List ℕ) × IsOrder size order front × AreOrders size orders back × (bytes ≡ front ++ back)

-- whether an order with this code has an address
abbrev pub has_address : ℕ → Bool
has_address code = code == set_buffer_address || code == erase_unprotected_to_address || code == repeat_to_address

-- whether a byte is an order's code
abbrev pub is_order_code : ℕ → Bool
is_order_code code = has_address code || code == start_field || code == insert_cursor || code == program_tab

-- holds if the bytes don't begin with an order, and this is the first fault in them from left to right (our profile)
pub data IsNoOrder (size : ℕ) (fault : CommandFault) (bytes : List ℕ) : Type 0 where
  unknown_code : (code : ℕ) (more : List ℕ) → is_order_code code ≡ false → is_storable code ≡ false
      → fault ≡ BadOrder → bytes ≡ code ∷ more → IsNoOrder size fault bytes
  cut_attribute : fault ≡ Truncated → bytes ≡ start_field ∷ [] → IsNoOrder size fault bytes
  cut_address : (code : ℕ) (few : List ℕ) → has_address code ≡ true → length few < 2
      → fault ≡ Truncated → bytes ≡ code ∷ few → IsNoOrder size fault bytes
  address_too_large : (code high low : ℕ) (more : List ℕ) → has_address code ≡ true → size ≤ address_of high low
      → fault ≡ BadAddress → bytes ≡ code ∷ high ∷ low ∷ more → IsNoOrder size fault bytes
  cut_character : (high low : ℕ) → address_of high low < size
      → fault ≡ Truncated → bytes ≡ repeat_to_address ∷ high ∷ low ∷ [] → IsNoOrder size fault bytes
  unstorable_character : (high low char : ℕ) (more : List ℕ) → address_of high low < size → is_storable char ≡ false
      → fault ≡ BadOrder → bytes ≡ repeat_to_address ∷ high ∷ low ∷ char ∷ more → IsNoOrder size fault bytes

-- holds if the text is some orders and then bytes that have this fault (our profile)
abbrev pub HasFault : ℕ → CommandFault → List ℕ → Type 0
HasFault size fault text = (orders : List Order) × (front back : List ℕ) × AreOrders size orders front
    × IsNoOrder size fault back × (text ≡ front ++ back)

-- ---- commands (GA23-0059-07, "3270 Data Stream Commands")

-- the content of a command, and the size that the screen has after it
pub record CommandParts : Type 0 where
  pub code : CommandCode
  pub size : ScreenSize
  pub wcc : Option Wcc
  pub orders : List Order

-- the two codes of each command; a writer sends the second
abbrev pub codes_of : CommandCode → ℕ × ℕ
codes_of Write = (0x01, 0xF1)
codes_of EraseWrite = (0x05, 0xF5)
codes_of EraseWriteAlternate = (0x0D, 0x7E)
codes_of ReadBuffer = (0x02, 0xF2)
codes_of ReadModified = (0x06, 0xF6)
codes_of ReadModifiedAll = (0x0E, 0x6E)
codes_of EraseAllUnprotected = (0x0F, 0x6F)

-- holds if a byte is one of the command's two codes
abbrev pub IsCode : CommandCode → ℕ → Type 0
IsCode code byte = (byte ≡ (codes_of code).0) ⊎ (byte ≡ (codes_of code).1)

-- whether a command has a write control character (GA23-0059-07, "Write Control Character (WCC)") and orders
abbrev pub is_write : CommandCode → Bool
is_write Write = true
is_write EraseWrite = true
is_write EraseWriteAlternate = true
is_write ReadBuffer = false
is_write ReadModified = false
is_write ReadModifiedAll = false
is_write EraseAllUnprotected = false

-- The size of a screen after a command: Erase/Write sets 24 rows of 80 columns, Erase/Write Alternate the alternate
-- size, and the others keep the present size `now` (GA23-0059-07 on Erase/Write and on Erase/Write Alternate).
abbrev pub size_after : CommandCode → ScreenSize → ScreenSize → ScreenSize
size_after Write now alternate = now
size_after EraseWrite now alternate = model_2
size_after EraseWriteAlternate now alternate = alternate
size_after ReadBuffer now alternate = now
size_after ReadModified now alternate = now
size_after ReadModifiedAll now alternate = now
size_after EraseAllUnprotected now alternate = now

-- Holds if the bytes encode the command, for a screen of these two sizes. Addresses are checked against the size after
-- the erase (our profile).
pub data IsCommand (now alternate : ScreenSize) (command : CommandParts) (bytes : List ℕ) : Type 0 where
  write : (byte wcc : ℕ) (text : List ℕ) → is_write command.code ≡ true → IsCode command.code byte
      → command.size ≡ size_after command.code now alternate
      → command.wcc ≡ Some (wcc_of wcc) → AreOrders (cells_in command.size) command.orders text
      → bytes ≡ byte ∷ wcc ∷ text → IsCommand now alternate command bytes
  other : (byte : ℕ) (ignored : List ℕ) → is_write command.code ≡ false → IsCode command.code byte
      → command.size ≡ size_after command.code now alternate
      → command.wcc ≡ None → command.orders ≡ []
      → bytes ≡ byte ∷ ignored → IsCommand now alternate command bytes

-- holds if some bytes encode the command, for a screen of some sizes
abbrev pub IsSpelt : CommandParts → Type 0
IsSpelt command = (now alternate : ScreenSize) × (bytes : List ℕ) × IsCommand now alternate command bytes

-- holds if the bytes encode no command for screens of these sizes, and this is the first fault in them (our profile)
pub data IsNoCommand (now alternate : ScreenSize) (fault : CommandFault) (bytes : List ℕ) : Type 0 where
  no_bytes : fault ≡ Truncated → bytes ≡ [] → IsNoCommand now alternate fault bytes
  unknown_command : (byte : ℕ) (more : List ℕ) → ((code : CommandCode) → IsCode code byte → ⊥)
      → fault ≡ BadCommand → bytes ≡ byte ∷ more → IsNoCommand now alternate fault bytes
  no_wcc : (code : CommandCode) (byte : ℕ) → is_write code ≡ true → IsCode code byte
      → fault ≡ Truncated → bytes ≡ byte ∷ [] → IsNoCommand now alternate fault bytes
  no_order : (code : CommandCode) (byte wcc : ℕ) (text : List ℕ) → is_write code ≡ true → IsCode code byte
      → HasFault (cells_in (size_after code now alternate)) fault text → bytes ≡ byte ∷ wcc ∷ text
      → IsNoCommand now alternate fault bytes
