use Rattle.datastream.proofs.InboundViews.{parts_are_fields}
use Rattle.datastream.proofs.laws.parts_are_fields.Goals as goal

pub returns : goal.returns
returns c = parts_are_fields
