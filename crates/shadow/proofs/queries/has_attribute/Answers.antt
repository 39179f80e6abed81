use Rattle.shadow.proofs.Stretches.{any_before}
use Rattle.shadow.proofs.queries.has_attribute.Goals as goal

pub returns : goal.returns
returns c = any_before c.args.beliefs.now c.attribute_from.result c.len.result c.attribute_from.ensures.place c.len.ensures.len
