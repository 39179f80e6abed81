use Rattle.std.proofs.Common.{arith}
use Rattle.presentation.proofs.Steps.{none_found}
use Rattle.presentation.proofs.cells.has_only_characters.Goals as goal

pub returns : goal.returns
returns c = none_found c.args.cells.now 0 c.attribute_from.result c.len.result c.attribute_from.ensures.place c.attribute_from.ensures.within (omega arith) c.len.ensures.len
