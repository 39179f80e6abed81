-- What a record does to a bound terminal (RFC 1647, sections 8.1 and 10.4; for the effect of a command, and the data
-- that it returns, GA23-0059-07, "3270 Data Stream Commands"; which commands are rejected is our profile).
use Rattle.std.specs.Prelude.{◌≡◌, ◌≢◌, ◌==◌, ◌&&◌, ◌||◌, ℕ, Bool, true, false, List, [], ◌∷◌, ◌++◌, Option, None, Some, if◌then◌else◌}
use Rattle.codes3270.specs.Size.{alternate_of}
use Rattle.datastream.specs.Screen.{Screen}
use Rattle.datastream.specs.Grammar.{CommandParts, IsCommand, IsNoCommand, is_write}
use Rattle.datastream.specs.Inbound.{read_modified, read_buffer}
use Rattle.datastream.specs.declared.command_code.CommandCode.{CommandCode}
use Rattle.datastream.specs.declared.command_code.CommandCode.TheVariants.{Write, EraseWrite, EraseWriteAlternate, ReadBuffer, ReadModified, ReadModifiedAll, EraseAllUnprotected}
use Rattle.datastream.specs.declared.fault.CommandFault.{CommandFault}
use Rattle.datastream.specs.Senses.{sense_of}
use Rattle.presentation.specs.Applied.{asked_by}
use Rattle.presentation.specs.Sizes.{applied as screen_applied}
use Rattle.keyboard.specs.State.{Keyboard, freed}
use Rattle.telnet_wire.specs.Items.{WireItem}
use Rattle.tn3270e_msg.specs.Header.{Begins, HasFault, next_number}
use Rattle.tn3270e_msg.specs.declared.header.Header.{Header}
use Rattle.tn3270e_msg.specs.declared.header.HeadFault.{HeadFault}
use Rattle.tn3270e_msg.specs.declared.header.DataType.TheVariants.{Data3270}
use Rattle.tn3270e_msg.specs.declared.cause.Cause.{Cause}
use Rattle.tn3270e_msg.specs.declared.cause.Cause.TheVariants.{BadRecord}
use Rattle.term_core.specs.declared.outcome.Outcome.{Outcome}
use Rattle.term_core.specs.declared.outcome.Outcome.TheVariants.{DeviceEnd, Refused}
use Rattle.term_core.specs.State.{Station}
use Rattle.term_core.specs.Says.{response, data_record}

-- the response to a command that is rejected: none if its record asks for none (response flag 0)
abbrev pub refused_response : ℕ → ℕ → Outcome → List WireItem
refused_response flag number outcome = if flag == 0 then [] else response number outcome ∷ []

-- the response to a command that is executed: one only if its record always asks for one (response flag 2)
abbrev pub done_response : ℕ → ℕ → List WireItem
done_response flag number = if flag == 2 then response number DeviceEnd ∷ [] else []

-- the data that a read command returns; other commands return none
abbrev pub data_read : CommandCode → Screen → Option (List ℕ)
data_read ReadBuffer screen = Some (read_buffer screen)
data_read ReadModified screen = Some (read_modified false screen)
data_read ReadModifiedAll screen = Some (read_modified true screen)
data_read Write screen = None
data_read EraseWrite screen = None
data_read EraseWriteAlternate screen = None
data_read EraseAllUnprotected screen = None

-- the data record with a sequence number, if there is data
abbrev pub data_sent : ℕ → Option (List ℕ) → List WireItem
data_sent number None = []
data_sent number (Some body) = data_record number body ∷ []

-- the next sequence number: a data record uses one
abbrev pub number_behind : Option (List ℕ) → ℕ → ℕ
number_behind None number = number
number_behind (Some body) number = next_number number

abbrev pub numbered : Option (List ℕ) → Station → Station
numbered body station = record station { number = number_behind body station.number }

-- the keyboard after a command: one with keyboard restore frees it
abbrev pub freed_if : Bool → Keyboard → Keyboard
freed_if true keyboard = freed keyboard
freed_if false keyboard = keyboard

-- whether a command is a write (not Erase All Unprotected) with keyboard restore
abbrev pub is_restoring_write : CommandParts → Bool
is_restoring_write command = is_write command.code && (asked_by command).restore

-- the station after a command is applied
abbrev pub applied : CommandParts → Station → Station
applied command old = record old {
  screen = screen_applied command old.screen;
  keyboard = freed_if (asked_by command).restore old.keyboard;
  took_write = is_restoring_write command;
  alarm = old.alarm || (asked_by command).alarm;
}

-- what a command that is executed sends: it is applied first, then a read returns its data, then the response follows
abbrev pub answer_of : Header → CommandParts → Station → List WireItem
answer_of header command old =
    data_sent old.number (data_read command.code (applied command old).screen.screen)
    ++ done_response header.flag header.seq

-- the station after a command is executed
abbrev pub obeyed : CommandParts → Station → Station
obeyed command old =
    let done = applied command old in
    numbered (data_read command.code done.screen.screen) done

-- holds if the bytes encode the command, for the screen's size and its model's alternate size
abbrev pub SpellsCommand : Station → CommandParts → List ℕ → Type 0
SpellsCommand station command bytes = IsCommand station.screen.size (alternate_of station.screen.model) command bytes

-- holds if the bytes encode no command, and this is the first fault in them
abbrev pub SpellsNoCommand : Station → CommandFault → List ℕ → Type 0
SpellsNoCommand station fault bytes = IsNoCommand station.screen.size (alternate_of station.screen.model) fault bytes

-- A bound terminal takes a record: `says` is what it sends, `closes` the cause by which it closes the connection, if it
-- does. A record without a header closes the connection; one that isn't 3270-DATA is dropped; a command that is
-- rejected changes nothing.
pub data TakesRecord (old : Station) (bytes : List ℕ) (says : List WireItem) (closes : Option Cause)
    (new : Station) : Type 0 where
  no_header : (fault : HeadFault) → HasFault bytes fault
      → says ≡ [] → closes ≡ Some BadRecord → new ≡ old → TakesRecord old bytes says closes new
  dropped : (header : Header) (body : List ℕ) → Begins bytes header body → header.kind ≢ Data3270
      → says ≡ [] → closes ≡ None → new ≡ old → TakesRecord old bytes says closes new
  refused : (header : Header) (body : List ℕ) (fault : CommandFault) → Begins bytes header body → header.kind ≡ Data3270
      → SpellsNoCommand old fault body → says ≡ refused_response header.flag header.seq (Refused (sense_of fault))
      → closes ≡ None → new ≡ old
      → TakesRecord old bytes says closes new
  obeys : (header : Header) (body : List ℕ) (command : CommandParts) → Begins bytes header body → header.kind ≡ Data3270
      → SpellsCommand old command body → says ≡ answer_of header command old → closes ≡ None → new ≡ obeyed command old
      → TakesRecord old bytes says closes new
