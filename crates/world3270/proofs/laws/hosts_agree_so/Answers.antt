use Rattle.world3270.proofs.Agreeing.{bytes_negotiate, only_negotiates}
use Rattle.world3270.proofs.AgreeingTurns.{turns_negotiate}
use Rattle.world3270.proofs.laws.hosts_agree_so.Goals as goal

pub returns-clause-negotiate : goal.returns-clause-negotiate
returns-clause-negotiate g c = bytes_negotiate

pub returns-clause-only : goal.returns-clause-only
returns-clause-only g c = only_negotiates

pub returns-clause-turns : goal.returns-clause-turns
returns-clause-turns g c = turns_negotiate g.L.Links.gave g.L.Links.took
