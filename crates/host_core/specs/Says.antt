-- What a host sends on the wire (RFC 1647, sections 7, 8.1 and 10.4; the commands are those of GA23-0059-07; which
-- response a record asks for is our profile).
use Rattle.std.specs.Prelude.{ℕ, List, [], ◌∷◌, ◌++◌, Option, Some, None}
use Rattle.codes3270.specs.Size.{ScreenSize, cells_in}
use Rattle.codes3270.specs.WriteControl.{wcc_byte}
use Rattle.codes3270.specs.declared.write_control.Wcc.{Wcc}
use Rattle.datastream.specs.Grammar.{CommandParts, codes_of}
use Rattle.datastream.specs.Writing.{orders_bytes}
use Rattle.datastream.specs.declared.command_code.CommandCode.TheVariants.{ReadBuffer as ReadBufferCode}
use Rattle.datastream.specs.declared.order.Order.{Order}
use Rattle.shadow.specs.Paint.{paint}
use Rattle.telnet_wire.specs.Items.{WireItem, Record}
use Rattle.tn3270e_msg.specs.Header.{spelling, error_response, always_response}
use Rattle.tn3270e_msg.specs.Talk.{item_of}
use Rattle.tn3270e_msg.specs.declared.header.Header.{Header}
use Rattle.tn3270e_msg.specs.declared.header.DataType.TheVariants.{Data3270}
use Rattle.host_core.specs.Messages.{ToTerminal}

-- ---- commands

-- what follows a command's code: the write control character of a write, and orders
abbrev pub behind_code : Option Wcc → List Order → List ℕ
behind_code None orders = orders_bytes orders
behind_code (Some wcc) orders = wcc_byte wcc ∷ orders_bytes orders

-- the bytes of a command; of its two codes it has the second
abbrev pub written : CommandParts → List ℕ
written command = (codes_of command.code).1 ∷ behind_code command.wcc command.orders

-- a Read Buffer, to a screen of this size
abbrev pub read_buffer_command : ScreenSize → CommandParts
read_buffer_command size = record { code = ReadBufferCode; size = size; wcc = None; orders = [] }

-- its bytes: its code only
abbrev pub read_buffer_bytes : List ℕ
read_buffer_bytes = (codes_of ReadBufferCode).1 ∷ []

-- ---- records

-- the header of a command's record
abbrev pub command_header : ℕ → ℕ → Header
command_header flag number = record { kind = Data3270; request = 0; flag = flag; seq = number }

-- the record of a command: header and command
abbrev pub command_record : ℕ → ℕ → CommandParts → List ℕ
command_record flag number command = spelling (command_header flag number) ++ written command

-- A message on the wire. A write asks for a response always; a Read Buffer only if it is refused: else data answers it.
abbrev pub item_sent : ToTerminal → WireItem
item_sent (ToTerminal.TalksDown saying) = item_of saying
item_sent (ToTerminal.Paint number wanted believed) =
    Record (command_record always_response number (paint (cells_in wanted.size) believed wanted))
item_sent (ToTerminal.ReadBuffer number) = Record (spelling (command_header error_response number) ++ read_buffer_bytes)
item_sent (ToTerminal.Note number command) = Record (command_record always_response number command)
