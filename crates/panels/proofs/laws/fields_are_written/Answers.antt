use Rattle.panels.proofs.FieldsWanted.{attributes_there, fields_written}
use Rattle.panels.proofs.laws.fields_are_written.Goals as goal

pub returns-clause-attributes : goal.returns-clause-attributes
returns-clause-attributes c = attributes_there

pub returns-clause-characters : goal.returns-clause-characters
returns-clause-characters c = fields_written
