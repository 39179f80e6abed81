-- No two connections have one LU, whatever a call does in one host.
use Rattle.std.specs.Prelude.{OnErr, OnOk, slice_get}
use Rattle.std.specs.declared.alloc.AllocError.{AllocError}
use Rattle.std.proofs.Common.{◌≡◌, ◌≢◌, ◌∙◌, ◌<◌, ◌==◌, ℕ, zero, suc, Bool, true, false, List, [], ◌∷◌, Option, Some, None, Result, Ok, Err, length, map, refl, sym, ap, subst, set, get_or, replicate, if◌then◌else◌, arith}
use Rattle.std.proofs.lemmas.Bool.{eqb-true, eqb-false}
use Rattle.std.proofs.lemmas.List.{get_or-set_same, get_or-set_other, length-replicate, length-set}
use Rattle.lu_pool.specs.Holders.{given_back}
use Rattle.lu_pool.specs.Pool.{Holds, OneHolder, entry, is_held_by}
use Rattle.lu_pool.specs.declared.entry.Entry.{Entry}
use Rattle.host_core.specs.OneNumber.{ChangesOne, KeepsLu}
use Rattle.host_core.specs.Reserving.{HasLu, released, reserver}
use Rattle.host_core.specs.Sound.{IsSound, NobodyShares as NobodySharesIn, OthersHold}
use Rattle.host_core.specs.State.{Service, Connection, Host, connection_at, given_up, lu_of, most_connections, phase_of, state_at, unused, with_opened}
use Rattle.host_core.specs.declared.phase.Phase.TheVariants as phase
use Rattle.host_core.proofs.Hosts.{free_phase, others_stay}
use Rattle.host_core.proofs.OneNumber.{keeps_lu, lus_back}
use Rattle.server.specs.Apart.{IsApart, IsEarlier, NobodyShares, service_at}
use Rattle.server.specs.Hosts.{Hosts, host_at, host_of, opened, owner_at}

-- ---- look-ups

pub any_default : {X : Type 0} (xs : List X) (place : ℕ) (one other : X) → place < length xs → get_or xs place one ≡ get_or xs place other
any_default [] place one other below = absurd (omega arith)
any_default (x ∷ xs) zero one other below = refl
any_default (x ∷ xs) (suc place) one other below = any_default xs place one other (omega arith)

pub owner_got : (conn : ℕ) (hosts : Hosts) (owner : Option ℕ) → conn < most_connections → IsApart hosts → owner ≡ get_or hosts.owners conn owner → owner_at conn hosts ≡ owner
owner_got conn hosts owner below apart got =
    sym (got ∙ any_default hosts.owners conn owner None (subst (λ (n : ℕ). conn < n) (sym apart.owners) below))

pub host_got : (place : ℕ) (hosts : Hosts) (host : Host) → place < length hosts.earlier → host ≡ get_or hosts.earlier place host → host ≡ host_of (Some place) hosts
host_got place hosts host below got = got ∙ any_default hosts.earlier place host hosts.current below

pub some_is : (one other : ℕ) → Some one ≡ Some other → one ≡ other
some_is one other e = cc

no_some : (owner : Option ℕ) (place : ℕ) → owner ≡ None → owner ≡ Some place → ⊥
no_some owner place none some = let e : None ≡ Some place = sym none ∙ some in cc

reserver_is_none : (number holder : ℕ) → number < most_connections → reserver holder ≢ number
reserver_is_none number holder below e = absurd (omega (arith, below, e))

pub reservers_differ : (one other : ℕ) → one ≢ other → reserver one ≢ reserver other
reservers_differ one other ne e = ne (omega (arith, e))

-- a host without earlier ones
no_owner : (count conn place : ℕ) → get_or (replicate count None) conn None ≡ Some place → ⊥
no_owner zero conn place is = cc
no_owner (suc count) zero place is = cc
no_owner (suc count) (suc conn) place is = no_owner count conn place is

pub only_apart : (host : Host) (earlier : List Host) (owners : List (Option ℕ)) → owners ≡ replicate most_connections None
    → IsApart (record { current = host; earlier = earlier; owners = owners })
only_apart host earlier owners are =
    let none : (conn place : ℕ) → get_or owners conn None ≡ Some place → ⊥ =
    λ conn place is. no_owner most_connections conn place (subst (λ (os : List (Option ℕ)). get_or os conn None ≡ Some place) are is) in
    record {
      owners = ap length are ∙ length-replicate {A = Option ℕ} most_connections None;
      earlier = λ conn place is. absurd (none conn place is);
      unshared = λ one other place there lu is also granted too. absurd (none one place is);
    }

-- ---- what stays of an earlier host's connection

pub record Keeps (old new : Hosts) (conn place : ℕ) : Type 0 where
  pub owner : owner_at conn old ≡ Some place
  pub keeps : KeepsLu (state_at conn (host_of (Some place) old)) (state_at conn (host_of (Some place) new))
  pub free_now : state_at conn old.current ≡ Service.Free → state_at conn new.current ≡ Service.Free
  pub lus : (lu : List ℕ) → HasLu new.current.pool lu → HasLu old.current.pool lu
  pub reserved : (lu : List ℕ) → Holds old.current.pool (reserver conn) lu → Holds new.current.pool (reserver conn) lu

pub kept_apart : (old new : Hosts) → IsApart old → length new.owners ≡ most_connections → length new.earlier ≡ length old.earlier
    → ((conn place : ℕ) → owner_at conn new ≡ Some place → Keeps old new conn place) → IsApart new
kept_apart old new apart owners hosts keeps = record {
  owners = owners;
  earlier = λ conn place is.
      let k = keeps conn place is in
      let was : IsEarlier old conn place = apart.earlier conn place k.owner in
      record {
        there = subst (λ (n : ℕ). place < n) (sym hosts) was.there;
        is_open = λ e. was.is_open (k.keeps.free e);
        settled = k.keeps.settled was.settled;
        free_now = k.free_now was.free_now;
        reserved = λ lu e has. k.reserved lu (was.reserved lu (k.keeps.granted was.settled lu e) (k.lus lu has));
      };
  unshared = λ one other place there lu is also granted too.
      let k = keeps one place is in
      let l = keeps other there also in
      apart.unshared one other place there lu k.owner l.owner
      (k.keeps.granted (apart.earlier one place k.owner).settled lu granted) (l.keeps.granted (apart.earlier other there l.owner).settled lu too);
}

same_keeps : (old new : Service) → new ≡ old → KeepsLu old new
same_keeps old new same = subst (KeepsLu old) (sym same) (keeps_lu old)

-- ---- a call in an earlier host

-- the connections of earlier hosts, if one of these has changed
host_changes : (conn place : ℕ) (host : Host) (hosts : Hosts) (current : Host) → place < length hosts.earlier
    → ((other : ℕ) → other ≢ conn → connection_at other host ≡ connection_at other (host_of (Some place) hosts))
    → (other there : ℕ) → other ≢ conn → there < length hosts.earlier
    → state_at other (get_or (set hosts.earlier place host) there current) ≡ state_at other (host_of (Some there) hosts)
host_changes conn place host hosts current below others other there ne inside = by_test (there == place) refl
  where
    by_test : (b : Bool) → (there == place) ≡ b → state_at other (get_or (set hosts.earlier place host) there current) ≡ state_at other (host_of (Some there) hosts)
    by_test true e =
        let same : there ≡ place = eqb-true there place e in
        ap (λ (n : ℕ). state_at other (get_or (set hosts.earlier place host) n current)) same
        ∙ ap (state_at other) (get_or-set_same hosts.earlier place host current below)
        ∙ ap (λ (c : Connection). c.service) (others other ne)
        ∙ ap (λ (n : ℕ). state_at other (host_of (Some n) hosts)) (sym same)
    by_test false e =
        ap (state_at other) (get_or-set_other hosts.earlier place there host current (eqb-false there place e))
        ∙ ap (state_at other) (any_default hosts.earlier there current hosts.current inside)

pub earlier_changed : (conn place : ℕ) (host : Host) (hosts : Hosts) → IsApart hosts → owner_at conn hosts ≡ Some place
    → ChangesOne conn (host_of (Some place) hosts) host → IsApart (record hosts { earlier = set hosts.earlier place host })
earlier_changed conn place host hosts apart owner changes =
    let below : place < length hosts.earlier = (apart.earlier conn place owner).there in
    kept_apart hosts (record hosts { earlier = set hosts.earlier place host }) apart apart.owners (length-set hosts.earlier place host)
    (λ other there is. record {
      owner = is;
      keeps = by_test below other there is (other == conn) refl;
      free_now = λ e. e;
      lus = λ lu has. has;
      reserved = λ lu held. held;
    })
  where
    by_test : place < length hosts.earlier → (other there : ℕ) → owner_at other hosts ≡ Some there → (b : Bool) → (other == conn) ≡ b
        → KeepsLu (state_at other (host_of (Some there) hosts)) (state_at other (get_or (set hosts.earlier place host) there hosts.current))
    by_test below other there is true e =
        let it : other ≡ conn = eqb-true other conn e in
        let here : there ≡ place = some_is there place (sym is ∙ ap (λ (n : ℕ). owner_at n hosts) it ∙ owner) in
        rw (it, here, get_or-set_same hosts.earlier place host hosts.current below) changes.keeps
    by_test below other there is false e =
        same_keeps _ _ (host_changes conn place host hosts hosts.current below changes.others other there (eqb-false other conn e) (apart.earlier other there is).there)

-- ---- the host of a number, before and after a call

pub host_before : (conn place : ℕ) (hosts : Hosts) (host : Host) → owner_at conn hosts ≡ Some place → host ≡ host_of (Some place) hosts → host ≡ host_at conn hosts
host_before conn place hosts host owner got = got ∙ ap (λ (o : Option ℕ). host_of o hosts) (sym owner)

pub host_now : (conn : ℕ) (hosts : Hosts) → owner_at conn hosts ≡ None → hosts.current ≡ host_at conn hosts
host_now conn hosts owner = ap (λ (o : Option ℕ). host_of o hosts) (sym owner)

pub earlier_after : (conn place : ℕ) (host : Host) (hosts : Hosts) → IsApart hosts → owner_at conn hosts ≡ Some place → host ≡ host_at conn (record hosts { earlier = set hosts.earlier place host })
earlier_after conn place host hosts apart owner =
    sym (get_or-set_same hosts.earlier place host hosts.current (apart.earlier conn place owner).there)
    ∙ ap (λ (o : Option ℕ). host_of o (record hosts { earlier = set hosts.earlier place host })) (sym owner)

pub current_after : (conn : ℕ) (host : Host) (hosts : Hosts) → owner_at conn hosts ≡ None → host ≡ host_at conn (record hosts { current = host })
current_after conn host hosts owner = ap (λ (o : Option ℕ). host_of o (record hosts { current = host })) (sym owner)

-- the connections of other numbers, once one has ended
pub current_closed_others : (conn : ℕ) (hosts : Hosts) (current : Host) → IsApart hosts → current ≡ given_up conn hosts.current → (other : ℕ) → other ≢ conn
    → service_at other (record hosts { current = current }) ≡ service_at other hosts
current_closed_others conn hosts current apart becomes other ne = by_owner (owner_at other hosts) refl
  where
    by_owner : (owner : Option ℕ) → owner_at other hosts ≡ owner → state_at other (host_of (owner_at other hosts) (record hosts { current = current })) ≡ state_at other (host_of (owner_at other hosts) hosts)
    by_owner None is =
        rw is (ap (state_at other) becomes ∙ ap (λ (c : Connection). c.service) (get_or-set_other hosts.current.connections conn other unused unused ne))
    by_owner (Some place) is = rw is (ap (state_at other) (any_default hosts.earlier place current hosts.current (apart.earlier other place is).there))

pub earlier_closed_others : (conn place : ℕ) (hosts : Hosts) (current given : Host) → IsApart hosts → owner_at conn hosts ≡ Some place → current ≡ released conn hosts.current
    → given ≡ given_up conn (host_of (Some place) hosts) → (other : ℕ) → other ≢ conn
    → service_at other (record { current = current; earlier = set hosts.earlier place given; owners = set hosts.owners conn None }) ≡ service_at other hosts
earlier_closed_others conn place hosts current given apart owner becomes gives other ne =
    ap (λ (o : Option ℕ). state_at other (host_of o (record { current = current; earlier = set hosts.earlier place given; owners = set hosts.owners conn None }))) (get_or-set_other hosts.owners conn other None None ne)
    ∙ by_owner (owner_at other hosts) refl
  where
    below : place < length hosts.earlier
    below = (apart.earlier conn place owner).there

    by_owner : (its : Option ℕ) → owner_at other hosts ≡ its
        → state_at other (host_of (owner_at other hosts) (record { current = current; earlier = set hosts.earlier place given; owners = set hosts.owners conn None })) ≡ state_at other (host_of (owner_at other hosts) hosts)
    by_owner None is = rw is (ap (state_at other) becomes)
    by_owner (Some there) is =
        rw is (host_changes conn place given hosts current below
        (λ it differs. ap (connection_at it) gives ∙ get_or-set_other (host_of (Some place) hosts).connections conn it unused unused differs) other there ne (apart.earlier other there is).there)

-- the number of a connection that ended in an earlier host
pub closed_is_free : (conn place : ℕ) (hosts : Hosts) (current : Host) (earlier : List Host) → conn < most_connections → IsApart hosts → owner_at conn hosts ≡ Some place
    → current ≡ released conn hosts.current → phase_of (service_at conn (record { current = current; earlier = earlier; owners = set hosts.owners conn None })) ≡ phase.Free
closed_is_free conn place hosts current earlier below apart owner becomes =
    let inside : conn < length hosts.owners = subst (λ (n : ℕ). conn < n) (sym apart.owners) below in
    ap (λ (o : Option ℕ). phase_of (state_at conn (host_of o (record { current = current; earlier = earlier; owners = set hosts.owners conn None })))) (get_or-set_same hosts.owners conn None None inside)
    ∙ ap (λ (h : Host). phase_of (state_at conn h)) becomes ∙ ap phase_of (apart.earlier conn place owner).free_now

-- ---- a call in the newest host

-- what a call on a number leaves of others
pub record Others (conn : ℕ) (old new : Host) : Type 0 where
  pub others : (other : ℕ) → other ≢ conn → connection_at other new ≡ connection_at other old
  pub holders : OthersHold conn old.pool new.pool
  pub lus : (lu : List ℕ) → HasLu new.pool lu → HasLu old.pool lu

pub of_changes : (conn : ℕ) (old new : Host) → ChangesOne conn old new → Others conn old new
of_changes conn old new changes = record { others = changes.others; holders = changes.holders; lus = changes.lus }

pub current_changed : (conn : ℕ) (host : Host) (hosts : Hosts) → conn < most_connections → IsApart hosts → owner_at conn hosts ≡ None
    → Others conn hosts.current host → IsApart (record hosts { current = host })
current_changed conn host hosts below apart owner changes =
    kept_apart hosts (record hosts { current = host }) apart apart.owners refl
    (λ other there is.
    let ne : other ≢ conn = λ e. no_some (owner_at conn hosts) there owner (sym (ap (λ (n : ℕ). owner_at n hosts) e) ∙ is) in
    record {
      owner = is;
      keeps = same_keeps _ _ (ap (state_at other) (any_default hosts.earlier there host hosts.current (apart.earlier other there is).there));
      free_now = λ free. ap (λ (c : Connection). c.service) (changes.others other ne) ∙ free;
      lus = changes.lus;
      reserved = λ lu held. (changes.holders (reserver other) lu (reserver_is_none conn other below)).1 held;
    })

-- a number that is free belongs to the newest host
pub free_is_current : (conn : ℕ) (hosts : Hosts) → IsApart hosts → phase_of (service_at conn hosts) ≡ phase.Free → owner_at conn hosts ≡ None
free_is_current conn hosts apart free = by_owner (owner_at conn hosts) refl
  where
    by_owner : (owner : Option ℕ) → owner_at conn hosts ≡ owner → owner_at conn hosts ≡ None
    by_owner None is = is
    by_owner (Some place) is =
        absurd ((apart.earlier conn place is).is_open
        (free_phase (state_at conn (host_of (Some place) hosts)) (subst (λ (o : Option ℕ). phase_of (state_at conn (host_of o hosts)) ≡ phase.Free) is free)))

opened_others : (conn : ℕ) (host : Host) → Others conn host (with_opened conn host)
opened_others conn host = record {
  others = λ other ne. get_or-set_other host.connections conn other _ unused ne;
  holders = others_stay conn host.pool;
  lus = λ lu has. has;
}

pub opened_apart : (conn : ℕ) (hosts : Hosts) → conn < most_connections → IsApart hosts → phase_of (service_at conn hosts) ≡ phase.Free → IsApart (opened conn hosts)
opened_apart conn hosts below apart free =
    current_changed conn (with_opened conn hosts.current) hosts below apart (free_is_current conn hosts apart free) (opened_others conn hosts.current)

-- what opening the newest host's number leaves, if memory isn't refused
pub opened_if_apart : (conn : ℕ) (hosts : Hosts) (host : Host) (answer : Result Unit AllocError) → conn < most_connections → IsApart hosts → phase_of (service_at conn hosts) ≡ phase.Free
    → OnOk answer (host ≡ with_opened conn hosts.current) → OnErr answer (host ≡ hosts.current) → IsApart (record hosts { current = host })
opened_if_apart conn hosts host (Ok done) below apart free becomes same = subst (λ (h : Host). IsApart (record hosts { current = h })) (sym becomes) (opened_apart conn hosts below apart free)
opened_if_apart conn hosts host (Err refused) below apart free becomes same = subst (λ (h : Host). IsApart (record hosts { current = h })) (sym same) apart

pub free_here : (conn : ℕ) (hosts : Hosts) → IsApart hosts → phase_of (service_at conn hosts) ≡ phase.Free → phase_of (state_at conn hosts.current) ≡ phase.Free
free_here conn hosts apart free = subst (λ (o : Option ℕ). phase_of (state_at conn (host_of o hosts)) ≡ phase.Free) (free_is_current conn hosts apart free) free

-- ---- the end of a connection

-- giving back leaves the LUs of other holders
abbrev give : ℕ → Entry → Entry
give conn at = if is_held_by conn at.holder then entry at.lu None else at

is_kept : (b : Bool) (at : Entry) (lu : List ℕ) (other : ℕ) → (if b then entry at.lu None else at) ≡ entry lu (Some other) → at ≡ entry lu (Some other)
is_kept true at lu other is = absurd (let none : None ≡ Some other = ap (λ (e : Entry). e.holder) is in cc)
is_kept false at lu other is = is

not_held : (conn other : ℕ) → other ≢ conn → is_held_by conn (Some other) ≡ false
not_held conn other ne = by_test (other == conn) refl
  where
    by_test : (b : Bool) → (other == conn) ≡ b → is_held_by conn (Some other) ≡ false
    by_test true e = absurd (ne (eqb-true other conn e))
    by_test false e = e

kept_back : (conn other : ℕ) (lu : List ℕ) (pool : List Entry) (place : ℕ) → slice_get (map (give conn) pool) place ≡ Some (entry lu (Some other))
    → slice_get pool place ≡ Some (entry lu (Some other))
kept_back conn other lu [] place is = is
kept_back conn other lu (at ∷ rest) zero is =
    let it : give conn at ≡ entry lu (Some other) = cc in
    ap Some (is_kept (is_held_by conn at.holder) at lu other it)
kept_back conn other lu (at ∷ rest) (suc place) is = kept_back conn other lu rest place is

still_held : (conn other : ℕ) (lu : List ℕ) → other ≢ conn → (pool : List Entry) (place : ℕ) → slice_get pool place ≡ Some (entry lu (Some other))
    → slice_get (map (give conn) pool) place ≡ Some (entry lu (Some other))
still_held conn other lu ne [] place is = is
still_held conn other lu ne (at ∷ rest) zero is =
    let it : at ≡ entry lu (Some other) = cc in
    ap (λ (e : Entry). Some (give conn e)) it ∙ ap (λ (b : Bool). Some (if b then entry lu None else entry lu (Some other))) (not_held conn other ne)
still_held conn other lu ne (at ∷ rest) (suc place) is = still_held conn other lu ne rest place is

pub back_others : (conn : ℕ) (pool : List Entry) → OthersHold conn pool (given_back conn pool)
back_others conn pool = λ other lu ne. (λ h. (h.0, kept_back conn other lu pool h.0 h.1), λ h. (h.0, still_held conn other lu ne pool h.0 h.1))

given_up_others : (conn : ℕ) (host : Host) → Others conn host (given_up conn host)
given_up_others conn host = record {
  others = λ other ne. get_or-set_other host.connections conn other unused unused ne;
  holders = back_others conn host.pool;
  lus = lus_back conn host.pool;
}

pub current_closed : (conn : ℕ) (hosts : Hosts) → conn < most_connections → IsApart hosts → owner_at conn hosts ≡ None
    → IsApart (record hosts { current = given_up conn hosts.current })
current_closed conn hosts below apart owner =
    current_changed conn (given_up conn hosts.current) hosts below apart owner (given_up_others conn hosts.current)

pub earlier_closed : (conn place : ℕ) (hosts : Hosts) → conn < most_connections → IsApart hosts → owner_at conn hosts ≡ Some place
    → IsApart (record {
      current = released conn hosts.current;
      earlier = set hosts.earlier place (given_up conn (host_of (Some place) hosts));
      owners = set hosts.owners conn None;
    })
earlier_closed conn place hosts below apart owner =
    let was : IsEarlier hosts conn place = apart.earlier conn place owner in
    let inside : conn < length hosts.owners = subst (λ (n : ℕ). conn < n) (sym apart.owners) below in
    kept_apart hosts (record {
      current = released conn hosts.current;
      earlier = set hosts.earlier place (given_up conn (host_of (Some place) hosts));
      owners = set hosts.owners conn None;
    }) apart (length-set hosts.owners conn None ∙ apart.owners) (length-set hosts.earlier place _)
    (λ other there is.
    let ne : other ≢ conn = λ e. no_some _ there (get_or-set_same hosts.owners conn None None inside) (sym (ap (λ (n : ℕ). get_or (set hosts.owners conn None) n None) e) ∙ is) in
    let owns : owner_at other hosts ≡ Some there = sym (get_or-set_other hosts.owners conn other None None ne) ∙ is in
    record {
      owner = owns;
      keeps = same_keeps _ _ (host_changes conn place (given_up conn (host_of (Some place) hosts)) hosts (released conn hosts.current) was.there
          (λ it differs. get_or-set_other (host_of (Some place) hosts).connections conn it unused unused differs) other there ne (apart.earlier other there owns).there);
      free_now = λ free. free;
      lus = lus_back (reserver conn) hosts.current.pool;
      reserved = λ lu held. (back_others (reserver conn) hosts.current.pool (reserver other) lu (reservers_differ other conn ne)).1 held;
    })

-- ---- no two connections have one LU

inside_by_lu : (connections : List Connection) (number : ℕ) (lu : List ℕ) → lu_of (get_or connections number unused).service ≡ Some lu → number < length connections
inside_by_lu [] number lu granted = absurd (cc)
inside_by_lu (first ∷ rest) zero lu granted = omega arith
inside_by_lu (first ∷ rest) (suc number) lu granted = let after = inside_by_lu rest number lu granted in omega arith

module _ (hosts : Hosts) (apart : IsApart hosts) (sound : IsSound hosts.current) (one_holder : OneHolder hosts.current.pool) where
  -- what a connection of the newest host has is no earlier host's
  current_or_earlier : (one other place : ℕ) (lu : List ℕ) → lu_of (state_at one hosts.current) ≡ Some lu → owner_at other hosts ≡ Some place
      → lu_of (state_at other (host_of (Some place) hosts)) ≡ Some lu → ⊥
  current_or_earlier one other place lu granted is also =
      let below : one < most_connections = subst (λ (n : ℕ). one < n) sound.connections (inside_by_lu hosts.current.connections one lu granted) in
      let holds : Holds hosts.current.pool one lu = (sound.held one below lu).1 granted in
      let reserves : Holds hosts.current.pool (reserver other) lu = (apart.earlier other place is).reserved lu also (holds.0, Some one, holds.1) in
      reserver_is_none one other below (one_holder lu (reserver other) one reserves holds)

  pub nobody_shares : NobodySharesIn hosts.current → NobodyShares hosts
  nobody_shares unshared one other lu granted also = by_owners (owner_at one hosts) (owner_at other hosts) refl refl
    where
      by_owners : (owner its : Option ℕ) → owner_at one hosts ≡ owner → owner_at other hosts ≡ its → one ≡ other
      by_owners None None is too =
          unshared one other lu (subst (λ (o : Option ℕ). lu_of (state_at one (host_of o hosts)) ≡ Some lu) is granted)
          (subst (λ (o : Option ℕ). lu_of (state_at other (host_of o hosts)) ≡ Some lu) too also)
      by_owners None (Some there) is too =
          absurd (current_or_earlier one other there lu (subst (λ (o : Option ℕ). lu_of (state_at one (host_of o hosts)) ≡ Some lu) is granted) too
          (subst (λ (o : Option ℕ). lu_of (state_at other (host_of o hosts)) ≡ Some lu) too also))
      by_owners (Some place) None is too =
          absurd (current_or_earlier other one place lu (subst (λ (o : Option ℕ). lu_of (state_at other (host_of o hosts)) ≡ Some lu) too also) is
          (subst (λ (o : Option ℕ). lu_of (state_at one (host_of o hosts)) ≡ Some lu) is granted))
      by_owners (Some place) (Some there) is too =
          apart.unshared one other place there lu is too (subst (λ (o : Option ℕ). lu_of (state_at one (host_of o hosts)) ≡ Some lu) is granted)
          (subst (λ (o : Option ℕ). lu_of (state_at other (host_of o hosts)) ≡ Some lu) too also)
