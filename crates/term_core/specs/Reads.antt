-- The reads of a terminal, by the names that the code has for them (GA23-0059-07, "3270 Data Stream Commands").
use Rattle.std.specs.Prelude.{ℕ, true, false, List, Option, None, Some}
use Rattle.datastream.specs.Screen.{Screen}
use Rattle.datastream.specs.Inbound.{read_modified, read_buffer}
use Rattle.term_core.specs.declared.station.Reading.{Reading}
use Rattle.term_core.specs.declared.station.Reading.TheVariants.{Modified, ModifiedAll, Buffer}

-- the data that a read returns
abbrev pub data_of : Reading → Screen → List ℕ
data_of Modified screen = read_modified false screen
data_of ModifiedAll screen = read_modified true screen
data_of Buffer screen = read_buffer screen

abbrev pub data_if : Option Reading → Screen → Option (List ℕ)
data_if None screen = None
data_if (Some reading) screen = Some (data_of reading screen)
