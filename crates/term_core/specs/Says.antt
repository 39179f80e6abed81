-- What a terminal sends (RFC 1647, sections 8.1 and 10.4; a record's end is RFC 885's).
use Rattle.std.specs.Prelude.{ℕ, List, [], ◌∷◌, ◌++◌}
use Rattle.datastream.specs.declared.fault.Sense.TheVariants.{CommandReject, OperationCheck}
use Rattle.telnet_wire.specs.Items.{WireItem, Record}
use Rattle.tn3270e_msg.specs.Header.{spelling}
use Rattle.tn3270e_msg.specs.declared.header.Header.{Header}
use Rattle.tn3270e_msg.specs.declared.header.DataType.TheVariants.{Data3270, Response}
use Rattle.term_core.specs.declared.outcome.Outcome.{Outcome}
use Rattle.term_core.specs.declared.outcome.Outcome.TheVariants.{DeviceEnd, Refused}

-- the response flag: POSITIVE or NEGATIVE
abbrev pub outcome_flag : Outcome → ℕ
outcome_flag DeviceEnd = 0
outcome_flag (Refused sense) = 1

-- the byte after a response's header: DEVICE-END, or the sense
abbrev pub outcome_code : Outcome → ℕ
outcome_code DeviceEnd = 0
outcome_code (Refused CommandReject) = 0
outcome_code (Refused OperationCheck) = 2

abbrev pub response_header : ℕ → Outcome → Header
response_header number outcome = record { kind = Response; request = 0; flag = outcome_flag outcome; seq = number }

-- the response record to the command with this sequence number
abbrev pub response : ℕ → Outcome → WireItem
response number outcome = Record (spelling (response_header number outcome) ++ outcome_code outcome ∷ [])

abbrev pub data_header : ℕ → Header
data_header number = record { kind = Data3270; request = 0; flag = 0; seq = number }

-- the record of inbound data with this sequence number, which asks for no response
abbrev pub data_record : ℕ → List ℕ → WireItem
data_record number body = Record (spelling (data_header number) ++ body)
