use Rattle.std.proofs.Common.{subst}
use Rattle.std.specs.Prelude.{IfNone, IfSome}
use Rattle.server.specs.Hosts.{AreOwned, Hosts, IsFreePlace, most_earlier}
use Rattle.server.proofs.hosts.Hosts.free_place.Goals as goal

pub returns-clause-first : goal.returns-clause-first
returns-clause-first c =
    subst (λ (hosts : Hosts). IfSome c.free_place.result (λ place. IsFreePlace place hosts.owners)) c.self.view_is
    (subst (λ owners. IfSome c.free_place.result (λ place. IsFreePlace place owners)) c.deref.ensures.value c.free_place.ensures.first)

pub returns-clause-none : goal.returns-clause-none
returns-clause-none c =
    subst (λ (hosts : Hosts). IfNone c.free_place.result (AreOwned most_earlier hosts.owners)) c.self.view_is
    (subst (λ owners. IfNone c.free_place.result (AreOwned most_earlier owners)) c.deref.ensures.value c.free_place.ensures.none)
