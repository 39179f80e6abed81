use Rattle.std.proofs.Common.{true}
use Rattle.codes3270.specs.Size.{cells_in}
use Rattle.shadow.proofs.Placed.{of_size}
use Rattle.shadow.proofs.shadow.Shadow.take_erase.Goals as goal

pub returns-clause-size : goal.returns-clause-size
returns-clause-size c = of_size true c.erase_over.new.beliefs (cells_in c.args.command.now.size) c.erase_over.ensures.size
