use Rattle.std.proofs.Common.{arith, refl}
use Rattle.std.proofs.lemmas.List.{take-replicate}
use Rattle.std.proofs.lemmas.List.Elements.{All-take, All-replicate}
use Rattle.std.specs.Prelude.{replicate}
use Rattle.host_core.proofs.Notes.{IsStored}
use Rattle.host_core.proofs.noting.nulls.Goals as goal

pub returns-clause-nulls : goal.returns-clause-nulls
returns-clause-nulls c = take-replicate c.args.count 131 0 (omega (arith, c.requires))

pub returns-clause-storable : goal.returns-clause-storable
returns-clause-storable c = All-take IsStored c.args.count (replicate 131 0) (All-replicate IsStored 131 0 refl)
