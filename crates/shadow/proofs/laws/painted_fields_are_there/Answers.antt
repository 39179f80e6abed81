use Rattle.shadow.proofs.PaintedFields.{kept_there, written_there}
use Rattle.shadow.proofs.laws.painted_fields_are_there.Goals as goal

pub returns-clause-written : goal.returns-clause-written
returns-clause-written c = written_there

pub returns-clause-kept : goal.returns-clause-kept
returns-clause-kept c = kept_there
