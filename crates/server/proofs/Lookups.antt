-- The host of a number, once another is put in its place.
use Rattle.std.proofs.Common.{◌≡◌, ◌∙◌, ◌<◌, ℕ, List, Option, Some, None, length, refl, ap, get_or}
use Rattle.std.proofs.lemmas.List.{get_or-set_same, set-set, set-get_or}
use Rattle.host_core.specs.State.{Host}
use Rattle.server.specs.Apart.{IsApart}
use Rattle.server.specs.Hosts.{Hosts, host_at, host_of, owner_at, with_host, with_host_of}

owners_stay : (owner : Option ℕ) (host : Host) (hosts : Hosts) → (with_host_of owner host hosts).owners ≡ hosts.owners
owners_stay None host hosts = refl
owners_stay (Some place) host hosts = refl

-- the number belongs where it belonged
pub same_owner : (conn : ℕ) (host : Host) (hosts : Hosts) → owner_at conn (with_host conn host hosts) ≡ owner_at conn hosts
same_owner conn host hosts = ap (λ (owners : List (Option ℕ)). get_or owners conn None) (owners_stay (owner_at conn hosts) host hosts)

-- what is put there is there
pub host_put : (conn : ℕ) (host : Host) (hosts : Hosts) → IsApart hosts → host_at conn (with_host conn host hosts) ≡ host
host_put conn host hosts apart =
    ap (λ (owner : Option ℕ). host_of owner (with_host conn host hosts)) (same_owner conn host hosts)
    ∙ by_owner (owner_at conn hosts) (λ place is. (apart.earlier conn place is).there)
  where
    by_owner : (owner : Option ℕ) → ((place : ℕ) → owner ≡ Some place → place < length hosts.earlier) → host_of owner (with_host_of owner host hosts) ≡ host
    by_owner None there = refl
    by_owner (Some place) there = get_or-set_same hosts.earlier place host hosts.current (there place refl)

-- the last one that is put there counts
pub put_again : (conn : ℕ) (one other : Host) (hosts : Hosts) → with_host conn other (with_host conn one hosts) ≡ with_host conn other hosts
put_again conn one other hosts =
    ap (λ (owner : Option ℕ). with_host_of owner other (with_host conn one hosts)) (same_owner conn one hosts) ∙ by_owner (owner_at conn hosts)
  where
    by_owner : (owner : Option ℕ) → with_host_of owner other (with_host_of owner one hosts) ≡ with_host_of owner other hosts
    by_owner None = refl
    by_owner (Some place) = ap (λ (earlier : List Host). record hosts { earlier = earlier }) (set-set hosts.earlier place one other)

-- putting there what is there changes nothing
pub put_same : (conn : ℕ) (hosts : Hosts) → with_host conn (host_at conn hosts) hosts ≡ hosts
put_same conn hosts = by_owner (owner_at conn hosts)
  where
    by_owner : (owner : Option ℕ) → with_host_of owner (host_of owner hosts) hosts ≡ hosts
    by_owner None = refl
    by_owner (Some place) = ap (λ (earlier : List Host). record hosts { earlier = earlier }) (set-get_or hosts.earlier place hosts.current)
