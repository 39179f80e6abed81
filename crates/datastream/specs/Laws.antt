-- Laws that relate commands, what is written, and inbound data.
use Rattle.std.specs.Prelude.{◌≡◌, ◌≤◌, ℕ, List, All, length}
use Rattle.codes3270.specs.Size.{ScreenSize, cells_in, most_cells}
use Rattle.codes3270.specs.declared.write_control.Wcc.{Wcc}
use Rattle.datastream.specs.declared.command_code.CommandCode.{CommandCode}
use Rattle.datastream.specs.declared.order.Order.{Order}
use Rattle.datastream.specs.Grammar.{CommandParts, IsCommand, size_after}
use Rattle.datastream.specs.InboundText.{InboundParts, IsInbound}
use Rattle.datastream.specs.Meaning.{WriteProgress, all_executed}
use Rattle.datastream.specs.OrderPlaces.{ByPlace}
use Rattle.datastream.specs.Writing.{Call, IsAllowed, command_bytes, command_of_calls}

-- The bytes that any calls write (our profile) encode the command that they name, for a screen of these two sizes. They
-- encode no other: see `OneCommand`. `most_cells` bounds the size, since twelve bits hold each address up to that.
abbrev pub WrittenIsRead : Type 0
WrittenIsRead = (now alternate : ScreenSize) (code : CommandCode) (wcc : Wcc) (calls : List Call)
    → let size = size_after code now alternate in cells_in size ≤ most_cells → All (IsAllowed (cells_in size)) calls
    → IsCommand now alternate (command_of_calls size code wcc calls) (command_bytes code wcc calls)

-- Each write has progress that fits `ByPlace`, and ends as `all_executed` says (GA23-0059-07 on buffer control orders).
abbrev pub TabsByPlace : Type 0
TabsByPlace = (orders : List Order) (start : WriteProgress)
    → (at : ℕ → WriteProgress) × ByPlace orders start at × (at (length orders) ≡ all_executed orders start)

-- Any progress that fits `ByPlace` ends as `all_executed` says.
abbrev pub OnlyByPlace : Type 0
OnlyByPlace = (orders : List Order) (start : WriteProgress) (at : ℕ → WriteProgress)
    → ByPlace orders start at → at (length orders) ≡ all_executed orders start

-- Bytes encode at most one command, for a screen of two sizes (GA23-0059-07, "3270 Data Stream Commands").
abbrev pub OneCommand : Type 0
OneCommand = (now alternate : ScreenSize) (bytes : List ℕ) (command other : CommandParts)
    → IsCommand now alternate command bytes → IsCommand now alternate other bytes → command ≡ other

-- Bytes encode at most one inbound data of each form and size (GA23-0059-07 on inbound data streams).
abbrev pub OneInbound : Type 0
OneInbound = (bytes : List ℕ) (inbound other : InboundParts) → inbound.form ≡ other.form → inbound.size ≡ other.size
    → IsInbound inbound bytes → IsInbound other bytes → inbound ≡ other
