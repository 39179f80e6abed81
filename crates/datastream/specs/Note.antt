-- Notes (our profile): a note is a Write that replaces characters by characters and does nothing else. It begins with
-- an SBA, its WCC has no bit set (GA23-0059-07, "Write Control Character (WCC)"), and its orders don't store
-- attributes, move the cursor, tab, repeat or erase (GA23-0059-07, "Buffer Control Orders and Order Codes").
use Rattle.std.specs.Prelude.{◌≡◌, ⊤, ◌+◌, ◌%◌, ◌<◌, ℕ, true, false, List, [], ◌∷◌, All, length, Some}
use Rattle.codes3270.specs.declared.attribute.Cell.{Cell}
use Rattle.codes3270.specs.declared.write_control.Wcc.{Wcc}
use Rattle.datastream.specs.declared.order.Order.{Order}
use Rattle.datastream.specs.declared.order.Order.TheVariants.{Sf, Sba, Ic, Pt, Ra, Eua, Char as CharData}
use Rattle.datastream.specs.declared.command_code.CommandCode.TheVariants.{Write}
use Rattle.datastream.specs.Grammar.{CommandParts}
use Rattle.datastream.specs.Screen.{is_char_at, is_protected}

-- the WCC that leaves MDT, the keyboard and the alarm alone
abbrev pub quiet : Wcc
quiet = record { alarm = false; restore = false; reset = false }

-- holds if an order sets the buffer address or stores a character
abbrev pub IsNoteOrder : Order → Type 0
IsNoteOrder (CharData byte) = ⊤
IsNoteOrder (Sba address) = ⊤
IsNoteOrder (Sf attribute) = ⊥
IsNoteOrder Ic = ⊥
IsNoteOrder Pt = ⊥
IsNoteOrder (Ra stop byte) = ⊥
IsNoteOrder (Eua stop) = ⊥

-- holds if a command is a note; its first order is an SBA, so the cursor's address doesn't matter
pub record IsNote (command : CommandParts) : Type 0 where
  pub first : ℕ
  pub others : List Order
  pub code : command.code ≡ Write
  pub wcc : command.wcc ≡ Some quiet
  pub orders : command.orders ≡ Sba first ∷ others
  pub each : All IsNoteOrder others

-- the buffer address after an order of a note; each character advances it, round the end of a screen of `size` cells
abbrev pub address_behind : ℕ → ℕ → Order → ℕ
address_behind size at (CharData byte) = (at + 1) % size
address_behind size at (Sba address) = address
address_behind size at (Sf attribute) = at
address_behind size at Ic = at
address_behind size at Pt = at
address_behind size at (Ra stop byte) = at
address_behind size at (Eua stop) = at

-- the places, with this address in front if the order stores a character
abbrev pub and_place : Order → ℕ → List ℕ → List ℕ
and_place (CharData byte) at places = at ∷ places
and_place (Sba address) at places = places
and_place (Sf attribute) at places = places
and_place Ic at places = places
and_place Pt at places = places
and_place (Ra stop byte) at places = places
and_place (Eua stop) at places = places

-- the addresses at which the orders of a note store characters, if the buffer address is `at` before them
abbrev pub places_from_on : ℕ → ℕ → List Order → List ℕ
places_from_on size at [] = []
places_from_on size at (order ∷ orders) = and_place order at (places_from_on size (address_behind size at order) orders)

-- the addresses at which a note stores characters, on a screen with `size` cells; its SBA sets the first one
abbrev pub places_noted : ℕ → CommandParts → List ℕ
places_noted size command = places_from_on size 0 command.orders

-- holds if the command is a note, and stores its characters only in cells that have characters
pub record OverCharacters (command : CommandParts) (cells : List Cell) : Type 0 where
  pub note : IsNote command
  pub each : All (λ at. is_char_at cells at ≡ true) (places_noted (length cells) command)

-- holds if the cell at an address has a character of a protected field
pub record IsProtectedChar (cells : List Cell) (at : ℕ) : Type 0 where
  pub inside : at < length cells
  pub character : is_char_at cells at ≡ true
  pub protected : is_protected cells at ≡ true

-- holds if the command is a note, and stores its characters only in cells that have characters of protected fields
pub record WritesProtected (command : CommandParts) (cells : List Cell) : Type 0 where
  pub note : IsNote command
  pub each : All (IsProtectedChar cells) (places_noted (length cells) command)
