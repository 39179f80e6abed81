use Rattle.std.proofs.Common.{subst}
use Rattle.codes3270.specs.Size.{ScreenSize, cells_in}
use Rattle.datastream.specs.Grammar.{HasFault}
use Rattle.datastream.proofs.command.check_write.Goals as goal

pub returns-in-Err-clause-fault : goal.returns-in-Err-clause-fault
returns-in-Err-clause-fault c = subst (λ (size : ScreenSize). HasFault (cells_in size) c.in-Err.fault c.args.text.now) c.size_after-size.ensures c.in-Err.ensures
