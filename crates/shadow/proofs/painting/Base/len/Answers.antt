use Rattle.shadow.proofs.Looking.{base_length}
use Rattle.shadow.proofs.painting.Base.len.Goals as goal

pub returns-clause-known : goal.returns-clause-known
returns-clause-known c = let base = c.args.self.now in base_length base.cells base.formatted base.reset base.beliefs.now c.requires
