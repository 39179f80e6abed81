-- What a command does to a screen (GA23-0059-07, "3270 Data Stream Commands"), with one equation for each order.
use Rattle.std.specs.Prelude.{◌+◌, ◌-◌, ◌%◌, ◌&&◌, ℕ, Bool, true, false, List, [], ◌∷◌, length, drop, map, replicate, zip, position, slice_set, Option, Some, None, if◌then◌else◌}
use Rattle.std.specs.List.{list_all, prefix_len}
use Rattle.codes3270.specs.Size.{cells_in}
use Rattle.codes3270.specs.declared.attribute.Cell.{Cell}
use Rattle.codes3270.specs.declared.attribute.Cell.TheVariants.{Char, Attr}
use Rattle.codes3270.specs.declared.attention.Aid.TheVariants.{NoAid}
use Rattle.codes3270.specs.declared.write_control.Wcc.{Wcc}
use Rattle.datastream.specs.declared.order.Order.{Order}
use Rattle.datastream.specs.declared.order.Order.TheVariants.{Sf, Sba, Ic, Pt, Ra, Eua, Char as CharData}
use Rattle.datastream.specs.declared.command_code.CommandCode.{CommandCode}
use Rattle.datastream.specs.declared.command_code.CommandCode.TheVariants.{Write, EraseWrite, EraseWriteAlternate, ReadBuffer, ReadModified, ReadModifiedAll, EraseAllUnprotected}
use Rattle.datastream.specs.Grammar.{CommandParts}
use Rattle.datastream.specs.Screen.{Screen, is_char, is_open_attribute, is_protected, ring}
use Rattle.datastream.specs.Span.{distance, is_within}

-- each cell, changed by a rule that sees its address; the first cell is at address `at`
abbrev pub by_place : (ℕ → Cell → Cell) → ℕ → List Cell → List Cell
by_place rule at [] = []
by_place rule at (cell ∷ cells) = rule at cell ∷ by_place rule (at + 1) cells

-- a cell with a null in place of its character; an attribute stays
abbrev pub erased : Cell → Cell
erased (Char byte) = Char 0
erased (Attr attribute) = Attr attribute

-- a cell with MDT off in its attribute; a character stays
abbrev pub unmodified : Cell → Cell
unmodified (Char byte) = Char byte
unmodified (Attr attribute) = Attr (record attribute { mdt = false })

-- the cells with a span changed by a rule that sees addresses: `count` cells from `from` on, wrapping round at the end
abbrev pub across : ℕ → ℕ → (ℕ → Cell → Cell) → List Cell → List Cell
across from count rule cells =
    by_place (λ at old. if is_within (length cells) from count at then rule at old else old) 0 cells

-- a cell with MDT on in its attribute; a character stays
abbrev pub modified : Cell → Cell
modified (Char byte) = Char byte
modified (Attr attribute) = Attr (record attribute { mdt = true })

-- the cells with `new` in each cell of a span
abbrev pub filled : ℕ → ℕ → Cell → List Cell → List Cell
filled from count new cells = across from count (λ at old. new) cells

-- the cells with nulls in the unprotected cells of a span; attributes stay
abbrev pub opened : ℕ → ℕ → List Cell → List Cell
opened from count cells = across from count (λ at old. if is_protected cells at then old else erased old) cells

-- the address that a program tab sets (GA23-0059-07 on Program Tab): the cell after the first attribute of an
-- unprotected field from `at` up to the last cell, or 0 if there is none
abbrev pub after_open_attribute : Option ℕ → ℕ → ℕ → ℕ
after_open_attribute None at size = 0
after_open_attribute (Some distance) at size = (at + distance + 1) % size

-- the address that a program tab at address `at` sets
abbrev pub tab_stop : List Cell → ℕ → ℕ
tab_stop cells at = after_open_attribute (position is_open_attribute (drop at cells)) at (length cells)

-- A write in progress: the screen so far, the buffer address, and whether data came directly before. A Program Tab
-- stores nulls if data came directly before it; it doesn't if it directly follows the command or another order
-- (GA23-0059-07 on Program Tab).
pub record WriteProgress : Type 0 where
  pub screen : Screen
  pub address : ℕ
  pub after_data : Bool

-- the write after an order that left these cells and this address
abbrev pub after_order : WriteProgress → List Cell → ℕ → WriteProgress
after_order write cells address =
    record { screen = record write.screen { cells = cells }; address = address; after_data = false }

-- the write after it stored a cell at the current address, which advances and wraps round at the end
abbrev pub stored : WriteProgress → Cell → WriteProgress
stored write cell =
    let cells = write.screen.cells in
    after_order write (slice_set cells write.address cell) ((write.address + 1) % length cells)

-- the write after it stored a character up to address `stop`, round the end (GA23-0059-07 on Repeat to Address)
abbrev pub repeated : ℕ → ℕ → WriteProgress → WriteProgress
repeated stop byte write =
    let cells = write.screen.cells in
    after_order write (filled write.address (distance (length cells) write.address stop) (Char byte) cells) stop

-- the write after it nulled unprotected cells up to `stop`, round the end (GA23-0059-07 on Erase Unprotected to
-- Address)
abbrev pub erased_up_to : ℕ → WriteProgress → WriteProgress
erased_up_to stop write =
    let cells = write.screen.cells in
    after_order write (opened write.address (distance (length cells) write.address stop) cells) stop

-- The write after a Program Tab: it goes to the next unprotected field, and after data it stores nulls up to the next
-- attribute. If it stored nulls through the last cell without an attribute, that counts as data: a PT that directly
-- follows continues with nulls from address 0 (GA23-0059-07 on Program Tab). A PT at the attribute of an unprotected
-- field needs no case of its own: no cell lies before that attribute, and it is the first.
abbrev pub tabbed : WriteProgress → WriteProgress
tabbed write =
    let cells = write.screen.cells in
    let ahead = drop write.address cells in
    record {
      screen = record write.screen {
        cells = if write.after_data then filled write.address (prefix_len is_char ahead) (Char 0) cells else cells;
      };
      address = tab_stop cells write.address;
      after_data = write.after_data && list_all is_char ahead;
    }

-- the write after one order (GA23-0059-07, "Buffer Control Orders and Order Codes")
abbrev pub executed : Order → WriteProgress → WriteProgress
executed (CharData byte) write = record (stored write (Char byte)) { after_data = true }
executed (Sf attribute) write = stored write (Attr attribute)
executed (Sba address) write = record write { address = address; after_data = false }
executed Ic write = record write { screen = record write.screen { cursor = write.address }; after_data = false }
executed (Ra stop byte) write = repeated stop byte write
executed (Eua stop) write = erased_up_to stop write
executed Pt write = tabbed write

-- the write after these orders, one after another
abbrev pub all_executed : List Order → WriteProgress → WriteProgress
all_executed [] write = write
all_executed (order ∷ orders) write = all_executed orders (executed order write)

-- a screen of nulls with `size` cells, and with the cursor at 0 (GA23-0059-07 on Erase/Write)
abbrev pub cleared : ℕ → Screen → Screen
cleared size screen = record screen { cells = replicate size (Char 0); cursor = 0 }

-- the screen with MDT off in all attributes if the WCC resets it (GA23-0059-07, "Write Control Character (WCC)")
abbrev pub prepared : Wcc → Screen → Screen
prepared wcc screen =
    record screen { cells = if wcc.reset then map unmodified screen.cells else screen.cells }

-- the screen with no AID, if the WCC has the keyboard restore bit (GA23-0059-07, "Write Control Character (WCC)")
abbrev pub restored : Wcc → Screen → Screen
restored wcc screen = record screen { aid = if wcc.restore then NoAid else screen.aid }

-- the screen after a write from the cursor on (GA23-0059-07 on Write); a command without a WCC is no write
abbrev pub written : Option Wcc → List Order → Screen → Screen
written None orders screen = screen
written (Some wcc) orders screen =
    restored wcc
    (all_executed orders (record { screen = prepared wcc screen; address = screen.cursor; after_data = false })).screen

-- whether two adjacent cells are the attribute of an unprotected field and that field's first character
abbrev pub is_start : Cell × Cell → Bool
is_start pair = is_open_attribute pair.0 && is_char pair.1

-- a place if there is one, else 0
abbrev pub place_or_first : Option ℕ → ℕ
place_or_first None = 0
place_or_first (Some place) = place

-- the lowest address of a first character of an unprotected field, or 0; each cell is paired with the one before it
abbrev pub home : List Cell → ℕ
home cells = place_or_first (position is_start (zip (ring (length cells - 1) cells) cells))

-- a cell with MDT off if it has the attribute of an unprotected field
abbrev pub open_unmodified : Cell → Cell
open_unmodified cell = if is_open_attribute cell then unmodified cell else cell

-- the screen after Erase All Unprotected or Erase Input (GA23-0059-07 on Erase All Unprotected, and on the Erase Input
-- key), except for the AID, which the former also resets
abbrev pub unprotected_erased : Screen → Screen
unprotected_erased screen =
    let cells = screen.cells in
    record screen { cells = map open_unmodified (opened 0 (length cells) cells); cursor = home cells }

-- The screen after a command with this code and, if it is a write, this WCC and these orders. An erase leaves a
-- screen with `size` cells (GA23-0059-07 on Erase/Write and on Erase/Write Alternate).
abbrev pub after_code : CommandCode → ℕ → Option Wcc → List Order → Screen → Screen
after_code Write size wcc orders screen = written wcc orders screen
after_code EraseWrite size wcc orders screen = written wcc orders (cleared size screen)
after_code EraseWriteAlternate size wcc orders screen = written wcc orders (cleared size screen)
after_code EraseAllUnprotected size wcc orders screen = record (unprotected_erased screen) { aid = NoAid }
after_code ReadBuffer size wcc orders screen = screen
after_code ReadModified size wcc orders screen = screen
after_code ReadModifiedAll size wcc orders screen = screen

-- the screen after a command
abbrev pub after_command : CommandParts → Screen → Screen
after_command command screen = after_code command.code (cells_in command.size) command.wcc command.orders screen
