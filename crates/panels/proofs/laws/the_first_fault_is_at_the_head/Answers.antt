use Rattle.panels.proofs.Turning.{first_part, none_faultless}
use Rattle.panels.proofs.laws.the_first_fault_is_at_the_head.Goals as goal

pub returns : goal.returns
returns c = record { first = first_part; none = none_faultless }
