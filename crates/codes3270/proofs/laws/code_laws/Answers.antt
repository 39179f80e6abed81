use Rattle.codes3270.proofs.RoundTrips.{address_read_back, attr_read_back, wcc_read_back, aid_read_back, code_of_its_character, character_of_its_code}
use Rattle.codes3270.proofs.CodeRange.{code_in_range}
use Rattle.codes3270.proofs.laws.code_laws.Goals as goal

pub returns-clause-addresses : goal.returns-clause-addresses
returns-clause-addresses c = address_read_back

pub returns-clause-attributes : goal.returns-clause-attributes
returns-clause-attributes c = attr_read_back

pub returns-clause-write_controls : goal.returns-clause-write_controls
returns-clause-write_controls c = wcc_read_back

pub returns-clause-aids : goal.returns-clause-aids
returns-clause-aids c = aid_read_back

pub returns-clause-characters : goal.returns-clause-characters
returns-clause-characters c = λ code character. (code_of_its_character code character, character_of_its_code code character)

pub returns-clause-range : goal.returns-clause-range
returns-clause-range c = code_in_range
