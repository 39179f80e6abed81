-- The write that paints a wanted screen (our profile): which cells it stores, and its orders, which are those of
-- GA23-0059-07, "Buffer Control Orders and Order Codes".
use Rattle.std.specs.Prelude.{◌==◌, ◌+◌, ◌&&◌, ◌||◌, ℕ, Bool, true, false, List, [], ◌∷◌, ◌++◌, map, replicate, Option, Some, None, if◌then◌else◌}
use Rattle.codes3270.specs.Size.{ScreenSize, model_2}
use Rattle.codes3270.specs.declared.attribute.Cell.{Cell}
use Rattle.codes3270.specs.declared.attribute.Cell.TheVariants.{Char, Attr}
use Rattle.datastream.specs.Grammar.{CommandParts}
use Rattle.datastream.specs.Writing.{write_bytes}
use Rattle.datastream.specs.declared.order.Order.{Order}
use Rattle.datastream.specs.declared.order.Order.TheVariants.{Sf, Sba, Ic, Char as CharData}
use Rattle.datastream.specs.declared.command_code.CommandCode.{CommandCode}
use Rattle.datastream.specs.declared.command_code.CommandCode.TheVariants.{Write, EraseWrite, EraseWriteAlternate}
use Rattle.shadow.specs.declared.known.Known.{Known}
use Rattle.shadow.specs.declared.known.Known.TheVariants.{Attr as KnownAttr, Char as KnownChar}
use Rattle.shadow.specs.declared.mdt_state.MdtState.{MdtState}
use Rattle.datastream.specs.declared.wanted.Want.{Want}
use Rattle.datastream.specs.declared.wanted.Want.TheVariants.{Char as WantChar, Attr as WantAttr, Keep}
use Rattle.shadow.specs.Belief.{Shadow, cells_of_fields, next_address}
use Rattle.shadow.specs.Heard.{is_on, is_off}
use Rattle.shadow.specs.AfterReadBuffer.{same_attr}
use Rattle.shadow.specs.Stores.{Store, store_also}
use Rattle.shadow.specs.Taken.{old_char, laid_out, marks_off_if}
use Rattle.datastream.specs.Wanted.{WantedScreen}
use Rattle.shadow.specs.Painted.{keeps_ahead}

-- In what follows, `size` is the number of cells of the wanted screen.

-- ---- which cells are known to be right

abbrev pub is_char : Option ℕ → ℕ → Bool
is_char None byte = false
is_char (Some known) byte = known == byte

abbrev pub marks : MdtState → Bool → Bool
marks mdt true = is_on mdt
marks mdt false = is_off mdt

abbrev pub is_there : Known → Cell → Bool
is_there (KnownAttr known mdt) (Attr attribute) = same_attr known attribute && marks mdt attribute.mdt
is_there (KnownAttr known mdt) (Char byte) = false
is_there (KnownChar known fresh) (Attr attribute) = false
is_there (KnownChar known fresh) (Char byte) = is_char known byte

-- what is known of each cell after the erase, or after the WCC's reset
abbrev pub known_nulls : ℕ → List Known
known_nulls size = map old_char (replicate size (Some 0))

abbrev pub known_before : ℕ → Bool → Shadow → List Known
known_before size reset Shadow.NothingKnown = known_nulls size
known_before size reset (Shadow.Unformatted known) = known_nulls size
known_before size reset (Shadow.Formatted beliefs) =
    if cells_of_fields beliefs == size then marks_off_if reset (laid_out size beliefs) else known_nulls size

-- ---- which cells are stored

abbrev pub unless : Bool → Cell → Option Cell
unless right cell = if right then None else Some cell

-- What a paint stores in a cell: the wanted cell, unless it is known to be there, is Keep, or is the attribute of a
-- field with Keep. `ahead`: what is wanted after the cell.
abbrev pub cell_to_store : List Want → Want → Known → Option Cell
cell_to_store ahead Keep known = None
cell_to_store ahead (WantChar byte) known = unless (is_there known (Char byte)) (Char byte)
cell_to_store ahead (WantAttr attribute) known = unless (keeps_ahead ahead || is_there known (Attr attribute))
    (Attr attribute)

-- the cells that a paint stores from an address on
abbrev pub to_store : List Want → ℕ → List Want → List Known → List Store
to_store whole at [] cells = []
to_store whole at (want ∷ rest) [] = []
to_store whole at (want ∷ rest) (known ∷ cells) =
    store_also (cell_to_store (rest ++ whole) want known) at (to_store whole (at + 1) rest cells)

-- ---- the orders

abbrev pub order_of : Cell → Order
order_of (Char byte) = CharData byte
order_of (Attr attribute) = Sf attribute

abbrev pub is_at : Option ℕ → ℕ → Bool
is_at None address = false
is_at (Some at) address = at == address

abbrev pub sba_unless : Bool → ℕ → List Order → List Order
sba_unless there address orders = if there then orders else Sba address ∷ orders

-- The orders that store these cells, an SBA before each run; then an SBA to the cursor, and IC. `at`: the write's
-- current address, if it is known.
abbrev pub painting : ℕ → ℕ → Option ℕ → List Store → List Order
painting size cursor at [] = Sba cursor ∷ Ic ∷ []
painting size cursor at (store ∷ more) =
    sba_unless (is_at at store.at) store.at
    (order_of store.cell ∷ painting size cursor (Some (next_address size store.at)) more)

-- whether the believed screen has fields, and as many cells as are wanted
abbrev pub writes_over : ℕ → Shadow → Bool
writes_over size Shadow.NothingKnown = false
writes_over size (Shadow.Unformatted known) = false
writes_over size (Shadow.Formatted beliefs) = cells_of_fields beliefs == size

-- whether a size is 24 by 80, which Erase/Write sets
abbrev pub is_base_size : ScreenSize → Bool
is_base_size size = size.rows == model_2.rows && size.columns == model_2.columns

-- the command that erases and sets this size
abbrev pub erase_code : ScreenSize → CommandCode
erase_code size = if is_base_size size then EraseWrite else EraseWriteAlternate

-- the paint's command: an erase if nothing is known, the screen is unformatted or the sizes differ; else Write
abbrev pub paint_code : ℕ → Shadow → WantedScreen → CommandCode
paint_code size shadow wanted = if writes_over size shadow then Write else erase_code wanted.size

-- the write that paints a wanted screen
abbrev pub paint : ℕ → Shadow → WantedScreen → CommandParts
paint size shadow wanted = record {
  code = paint_code size shadow wanted;
  size = wanted.size;
  wcc = Some (record { alarm = false; restore = true; reset = wanted.reset });
  orders = painting size wanted.cursor None
      (to_store wanted.cells 0 wanted.cells (known_before size wanted.reset shadow));
}

-- the bytes of a paint
abbrev pub paint_bytes : ℕ → Shadow → WantedScreen → List ℕ
paint_bytes size shadow wanted =
    write_bytes (paint_code size shadow wanted) (record { alarm = false; restore = true; reset = wanted.reset })
    (paint size shadow wanted).orders
