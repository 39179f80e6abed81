-- Plain writes (our profile): those whose orders are only SBA, SF, IC and data. What they store, and at which address,
-- is GA23-0059-07, "Buffer Control Orders and Order Codes".
use Rattle.std.specs.Prelude.{◌&&◌, ℕ, Bool, true, false, List, [], ◌∷◌, Option, Some, None}
use Rattle.std.specs.List.{list_all}
use Rattle.codes3270.specs.declared.attribute.Cell.{Cell}
use Rattle.codes3270.specs.declared.attribute.Cell.TheVariants.{Char, Attr}
use Rattle.datastream.specs.Grammar.{CommandParts, is_write}
use Rattle.datastream.specs.declared.order.Order.{Order}
use Rattle.datastream.specs.declared.order.Order.TheVariants.{Sf, Sba, Ic, Pt, Ra, Eua, Char as CharData}
use Rattle.shadow.specs.Belief.{next_address}

abbrev pub is_plain_order : Order → Bool
is_plain_order (CharData byte) = true
is_plain_order (Sf attribute) = true
is_plain_order (Sba address) = true
is_plain_order Ic = true
is_plain_order Pt = false
is_plain_order (Ra stop byte) = false
is_plain_order (Eua stop) = false

-- whether a command is a Write, Erase/Write or Erase/Write Alternate with such orders
abbrev pub is_plain : CommandParts → Bool
is_plain command = is_write command.code && list_all is_plain_order command.orders

-- the cell that a plain order stores, if it stores one
abbrev pub cell_of : Order → Option Cell
cell_of (CharData byte) = Some (Char byte)
cell_of (Sf attribute) = Some (Attr attribute)
cell_of (Sba address) = None
cell_of Ic = None
cell_of Pt = None
cell_of (Ra stop byte) = None
cell_of (Eua stop) = None

-- the address after a plain order
abbrev pub address_after : ℕ → ℕ → Order → ℕ
address_after size at (CharData byte) = next_address size at
address_after size at (Sf attribute) = next_address size at
address_after size at (Sba address) = address
address_after size at Ic = at
address_after size at Pt = at
address_after size at (Ra stop byte) = at
address_after size at (Eua stop) = at

-- a cell that is stored, and its address
pub record Store : Type 0 where
  pub at : ℕ
  pub cell : Cell

abbrev pub store_also : Option Cell → ℕ → List Store → List Store
store_also None at more = more
store_also (Some cell) at more = record { at = at; cell = cell } ∷ more

-- the cells that plain orders store, in their order, if the first begins at address `at`
abbrev pub stores : ℕ → ℕ → List Order → List Store
stores size at [] = []
stores size at (order ∷ orders) = store_also (cell_of order) at (stores size (address_after size at order) orders)

-- whether a cell is stored before the first SBA
abbrev pub stores_unplaced : List Order → Bool
stores_unplaced [] = false
stores_unplaced (CharData byte ∷ orders) = true
stores_unplaced (Sf attribute ∷ orders) = true
stores_unplaced (Sba address ∷ orders) = false
stores_unplaced (Ic ∷ orders) = stores_unplaced orders
stores_unplaced (Pt ∷ orders) = stores_unplaced orders
stores_unplaced (Ra stop byte ∷ orders) = stores_unplaced orders
stores_unplaced (Eua stop ∷ orders) = stores_unplaced orders
