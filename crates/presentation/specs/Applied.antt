-- What a command asks of the keyboard and the alarm (GA23-0059-07, "Write Control Character (WCC)"; that Erase All
-- Unprotected restores the keyboard is its rule on that command).
use Rattle.std.specs.Prelude.{true, false, Option, Some, None}
use Rattle.codes3270.specs.declared.write_control.Wcc.{Wcc}
use Rattle.datastream.specs.Grammar.{CommandParts}
use Rattle.datastream.specs.declared.command_code.CommandCode.{CommandCode}
use Rattle.datastream.specs.declared.command_code.CommandCode.TheVariants.{Write, EraseWrite, EraseWriteAlternate, ReadBuffer, ReadModified, ReadModifiedAll, EraseAllUnprotected}
use Rattle.presentation.specs.declared.write.Applied.{Applied}

abbrev pub nothing : Applied
nothing = record { restore = false; alarm = false }

abbrev pub asked_by_wcc : Option Wcc → Applied
asked_by_wcc None = nothing
asked_by_wcc (Some wcc) = record { restore = wcc.restore; alarm = wcc.alarm }

abbrev pub asked_by_code : CommandCode → Option Wcc → Applied
asked_by_code Write wcc = asked_by_wcc wcc
asked_by_code EraseWrite wcc = asked_by_wcc wcc
asked_by_code EraseWriteAlternate wcc = asked_by_wcc wcc
asked_by_code EraseAllUnprotected wcc = record { restore = true; alarm = false }
asked_by_code ReadBuffer wcc = nothing
asked_by_code ReadModified wcc = nothing
asked_by_code ReadModifiedAll wcc = nothing

-- what a command asks: a write as its WCC says, Erase All Unprotected to restore, a read nothing
abbrev pub asked_by : CommandParts → Applied
asked_by command = asked_by_code command.code command.wcc
