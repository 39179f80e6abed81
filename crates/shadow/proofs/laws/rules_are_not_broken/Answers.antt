use Rattle.shadow.proofs.RuleBreaks.{rules_kept}
use Rattle.shadow.proofs.laws.rules_are_not_broken.Goals as goal

pub returns : goal.returns
returns c = rules_kept
