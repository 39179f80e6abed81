use Rattle.std.proofs.Common.{◌≡◌, ◌<◌, ◌∙◌, ℕ, List, arith, ap, length, set, subst, sym}
use Rattle.host_core.specs.State.{Host, most_connections, state_at}
use Rattle.server.specs.Apart.{IsApart, KeepsFor, NobodyHolds, NobodyShares, NobodyTalks}
use Rattle.server.specs.Hosts.{AreOwned, Hosts, IsFreePlace, handed_below, most_earlier, put_at, reloaded, reserved_below}
use Rattle.server.proofs.Places.{put_length}
use Rattle.server.proofs.Reloads.{made, new_host_is, new_is_free, nobody_holds, place_within, reload_apart, swapped}
use Rattle.server.proofs.hosts.Hosts.reload.Goals as goal

pub returns-in_default-clause-too_many : goal.returns-in_default-clause-too_many
returns-in_default-clause-too_many c = λ same.
    subst (λ (hosts : Hosts). AreOwned most_earlier hosts.owners) c.self.view_is (subst (AreOwned most_earlier) c.deref.ensures.value c.in_default.ensures.none)

pub reserve_each-requires : goal.reserve_each-requires
reserve_each-requires c =
    let hosts : Hosts = record { current = c.self.inside.current; earlier = c.self.inside.earlier.items; owners = c.self.inside.owners.items } in
    record { nobody = subst (λ (host : Host). NobodyHolds host.pool) (sym (new_host_is hosts c.args.host c.restart.new.self c.count_on_from.new.self c.restart.ensures c.count_on_from.ensures)) (nobody_holds c.args.host.pool) }

pub index_mut-requires : goal.index_mut-requires
index_mut-requires c =
    let hosts : Hosts = record { current = c.self.inside.current; earlier = c.self.inside.earlier.items; owners = c.self.inside.owners.items } in
    let free = subst (IsFreePlace c.in-Some.place) c.deref.ensures.value c.in-Some.ensures.first in
    let inside = subst (λ (put : List Host). c.in-Some.place < length put) (sym c.in-Ok.ensures.put) (put_length c.in-Some.place c.reserve_each.new.host hosts.earlier (place_within hosts c.in-Some.place c.self.invariant free)) in
    let len = c.put_at.new.hosts.ok.0 in
    omega (arith, inside, len)

pub invariant_of-self-2 : goal.invariant_of-self-2
invariant_of-self-2 c =
    let hosts : Hosts = record { current = c.self.inside.current; earlier = c.self.inside.earlier.items; owners = c.self.inside.owners.items } in
    let free = subst (IsFreePlace c.in-Some.place) c.deref.ensures.value c.in-Some.ensures.first in
    subst IsApart
    (sym (swapped hosts c.in-Some.place c.reserve_each.new.host c.swap.new.x c.swap.new.y c.index_mut.result.now c.put_at.new.hosts.items c.hand_over.new.owners.items (place_within hosts c.in-Some.place c.self.invariant free)
    c.in-Ok.ensures.put c.swap.ensures.x_after c.index_mut.ensures.value c.swap.ensures.y_after c.hand_over.ensures))
    (reload_apart hosts c.in-Some.place c.reserve_each.new.host c.self.invariant free
    (subst NobodyShares (sym c.self.view_is) c.hosts_are_apart.ensures.unshared) (subst NobodyTalks (sym c.self.view_is) c.requires.settled)
    (subst (λ (it : Hosts). KeepsFor it most_connections c.reserve_each.new.host.pool) (sym c.self.view_is) c.reserve_each.ensures.kept)
    (λ conn. ap (state_at conn) (c.reserve_each.ensures.reserved ∙ ap (λ (it : Hosts). reserved_below it c.count_on_from.new.self most_connections) (sym c.self.view_is)
    ∙ ap (λ (host : Host). reserved_below hosts host most_connections) (new_host_is hosts c.args.host c.restart.new.self c.count_on_from.new.self c.restart.ensures c.count_on_from.ensures)) ∙ new_is_free hosts c.args.host conn))

pub returns-clause-reloaded : goal.returns-clause-reloaded
returns-clause-reloaded c =
    let hosts : Hosts = record { current = c.self.inside.current; earlier = c.self.inside.earlier.items; owners = c.self.inside.owners.items } in
    let free = subst (IsFreePlace c.in-Some.place) c.deref.ensures.value c.in-Some.ensures.first in
    subst (λ (old : Hosts). (place : ℕ) × IsFreePlace place old.owners × (made c.swap.new.x (set c.put_at.new.hosts.items c.in-Some.place c.swap.new.y) c.hand_over.new.owners.items ≡ reloaded place c.args.host old)) c.self.view_is (
      c.in-Some.place,
      free,
      swapped hosts c.in-Some.place c.reserve_each.new.host c.swap.new.x c.swap.new.y c.index_mut.result.now c.put_at.new.hosts.items c.hand_over.new.owners.items (place_within hosts c.in-Some.place c.self.invariant free)
          c.in-Ok.ensures.put c.swap.ensures.x_after c.index_mut.ensures.value c.swap.ensures.y_after c.hand_over.ensures
          ∙ ap (λ (next : Host). made next (put_at c.in-Some.place hosts.current hosts.earlier) (handed_below c.in-Some.place hosts.current hosts.owners most_connections))
          (c.reserve_each.ensures.reserved ∙ ap (λ (it : Hosts). reserved_below it c.count_on_from.new.self most_connections) (sym c.self.view_is)
          ∙ ap (λ (host : Host). reserved_below hosts host most_connections) (new_host_is hosts c.args.host c.restart.new.self c.count_on_from.new.self c.restart.ensures c.count_on_from.ensures)),
    )
