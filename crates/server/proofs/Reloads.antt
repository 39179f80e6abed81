-- No two connections have one LU after the panels were read again.
use Rattle.std.proofs.Common.{◌≡◌, ◌≢◌, ◌∙◌, ◌<◌, ◌≤◌, ◌+◌, ◌==◌, ◌⊎◌, inl, inr, ℕ, zero, suc, Bool, true, false, List, [], ◌∷◌, Option, Some, None, length, refl, sym, ap, subst, replicate, get_or, set, arith}
use Rattle.std.specs.Prelude.{nat_lt, slice_get}
use Rattle.std.proofs.lemmas.Bool.{eqb-true, eqb-false, ltb-false, ltb-true}
use Rattle.lu_pool.specs.Holders.{all_free, given_back}
use Rattle.lu_pool.specs.Pool.{Holds, entry}
use Rattle.lu_pool.specs.declared.entry.Entry.{Entry}
use Rattle.tn3270e_msg.specs.HostTable.{agreed_lu, granted, is_agreed}
use Rattle.tn3270e_msg.specs.declared.host_talk.HostState.{HostState}
use Rattle.tn3270e_msg.specs.declared.host_talk.HostState.TheVariants as at
use Rattle.host_core.specs.OneNumber.{IsSettled}
use Rattle.host_core.specs.Reserving.{HasLu, IsTaken, reserved, reserver}
use Rattle.host_core.specs.Sound.{OthersHold}
use Rattle.host_core.specs.State.{Service, Connection, Host, counting_on, lu_of, most_connections, phase_agreed, phase_of, restarted, state_at, unused}
use Rattle.host_core.specs.declared.phase.Phase.{Phase}
use Rattle.host_core.specs.declared.phase.Phase.TheVariants as phase
use Rattle.host_core.proofs.OneNumber.{lus_back, lus_granted}
use Rattle.server.specs.Apart.{IsApart, IsEarlier, KeepsFor, NobodyHolds, NobodyShares, NobodyTalks, Reserves, service_at}
use Rattle.server.specs.Hosts.{Hosts, IsFreePlace, handed_below, host_at, host_of, is_owned, lu_in, owner_after, owner_at, put_at, reserved_below, reserved_for}
use Rattle.server.proofs.Apart.{reservers_differ, some_is}
use Rattle.server.proofs.Places.{handed_at, handed_length, has_number, owned_by, owner_of, put_elsewhere, put_here, put_length, put_no_less, put_twice}

-- ---- phases

bound_state : (state : HostState) (lu : List ℕ) → lu_in (phase_agreed (agreed_lu state)) ≡ Some lu → granted state ≡ Some lu
bound_state (at.Agreed device own) lu is = is
bound_state at.Offered lu is = absurd (cc)
bound_state at.Asked lu is = absurd (cc)
bound_state (at.Asking device) lu is = absurd (cc)
bound_state (at.Named device own) lu is = absurd (cc)
bound_state (at.Countered device own) lu is = absurd (cc)
bound_state (at.Closed cause) lu is = absurd (cc)

pub bound_granted : (service : Service) (lu : List ℕ) → lu_in (phase_of service) ≡ Some lu → lu_of service ≡ Some lu
bound_granted Service.Free lu is = absurd (cc)
bound_granted (Service.Open rest conn) lu is = bound_state conn.talk.state lu is
bound_granted (Service.Closed cause) lu is = absurd (cc)

granted_state : (state : HostState) (lu : List ℕ) → is_agreed state ≡ true → granted state ≡ Some lu → lu_in (phase_agreed (agreed_lu state)) ≡ Some lu
granted_state (at.Agreed device own) lu agreed is = is
granted_state at.Offered lu agreed is = absurd (cc)
granted_state at.Asked lu agreed is = absurd (cc)
granted_state (at.Asking device) lu agreed is = absurd (cc)
granted_state (at.Named device own) lu agreed is = absurd (let no_agreement : false ≡ true = agreed in cc)
granted_state (at.Countered device own) lu agreed is = absurd (let no_agreement : false ≡ true = agreed in cc)
granted_state (at.Closed cause) lu agreed is = absurd (cc)

granted_bound : (service : Service) (lu : List ℕ) → IsSettled service → lu_of service ≡ Some lu → lu_in (phase_of service) ≡ Some lu
granted_bound Service.Free lu settled is = absurd (cc)
granted_bound (Service.Open rest conn) lu settled is = granted_state conn.talk.state lu settled is
granted_bound (Service.Closed cause) lu settled is = absurd (cc)

settled_state : (state : HostState) → phase_agreed (agreed_lu state) ≢ phase.Talking → is_agreed state ≡ true
settled_state (at.Agreed device own) ne = refl
settled_state at.Offered ne = absurd (ne refl)
settled_state at.Asked ne = absurd (ne refl)
settled_state (at.Asking device) ne = absurd (ne refl)
settled_state (at.Named device own) ne = absurd (ne refl)
settled_state (at.Countered device own) ne = absurd (ne refl)
settled_state (at.Closed cause) ne = absurd (ne refl)

settled_by_phase : (service : Service) → phase_of service ≢ phase.Talking → IsSettled service
settled_by_phase Service.Free ne = tt
settled_by_phase (Service.Open rest conn) ne = settled_state conn.talk.state ne
settled_by_phase (Service.Closed cause) ne = tt

-- ---- reserving the LU of one connection after another

-- what was reserved for the connections below a number, and nothing else is held
pub record Reserved (hosts : Hosts) (below : ℕ) (pool : List Entry) : Type 0 where
  pub kept : KeepsFor hosts below pool
  pub only : (holder : ℕ) (lu : List ℕ) → Holds pool holder lu
      → (conn : ℕ) × (conn < below) × (holder ≡ reserver conn) × (lu_in (phase_of (service_at conn hosts)) ≡ Some lu)

pub none_reserved : (hosts : Hosts) (pool : List Entry) → NobodyHolds pool → Reserved hosts 0 pool
none_reserved hosts pool nobody = record { kept = λ conn lu below is has. absurd (omega (arith, below)); only = λ holder lu h. absurd (nobody holder lu h) }

-- the LU of a connection is held by nobody but its reservation
here_held : (hosts : Hosts) (conn : ℕ) (old new : List Entry) → NobodyShares hosts → Reserved hosts conn old → Reserves conn (lu_in (phase_of (service_at conn hosts))) old new
    → (lu : List ℕ) → lu_in (phase_of (service_at conn hosts)) ≡ Some lu → HasLu new lu → Holds new (reserver conn) lu
here_held hosts conn old new shares before reserves lu is has =
    let taken : IsTaken new lu = reserves.taken lu is has in
    elim (reserves.held taken.0 lu taken.1) [
      | inl held ↦
          let other = before.only taken.0 lu held in
          let same : other.0 ≡ conn = shares other.0 conn lu (bound_granted (service_at other.0 hosts) lu other.3) (bound_granted (service_at conn hosts) lu is) in
          let below = other.1 in
          absurd (omega (arith, below, same))
      | inr held ↦ subst (λ (holder : ℕ). Holds new holder lu) held.0 taken.1
    ]

pub one_reserved : (hosts : Hosts) (conn : ℕ) (old new : List Entry) → NobodyShares hosts → Reserved hosts conn old → Reserves conn (lu_in (phase_of (service_at conn hosts))) old new
    → Reserved hosts (conn + 1) new
one_reserved hosts conn old new shares before reserves = record {
  kept = λ other lu below is has. by_test other lu below is has (other == conn) refl;
  only = λ holder lu h. elim (reserves.held holder lu h) [
    | inl held ↦ let it = before.only holder lu held in let below = it.1 in (it.0, omega (arith, below), it.2, it.3)
    | inr held ↦ (conn, omega arith, held.0, held.1)
  ];
}
  where
    by_test : (other : ℕ) (lu : List ℕ) → other < conn + 1 → lu_in (phase_of (service_at other hosts)) ≡ Some lu → HasLu new lu → (b : Bool) → (other == conn) ≡ b → Holds new (reserver other) lu
    by_test other lu below is has true e =
        let same : other ≡ conn = eqb-true other conn e in
        subst (λ (n : ℕ). Holds new (reserver n) lu) (sym same)
        (here_held hosts conn old new shares before reserves lu (subst (λ (n : ℕ). lu_in (phase_of (service_at n hosts)) ≡ Some lu) same is) has)
    by_test other lu below is has false e =
        let ne : other ≢ conn = eqb-false other conn e in
        (reserves.others (reserver other) lu (reservers_differ other conn ne)).1 (before.kept other lu (omega (arith, below, ne)) is (reserves.lus lu has))

pub lus_reserved : (conn : ℕ) (given : List ℕ) (host : Host) (lu : List ℕ) → HasLu (reserved conn given host).pool lu → HasLu host.pool lu
lus_reserved conn given host lu has = lus_back (reserver conn) host.pool lu (lus_granted (reserver conn) _ (given_back (reserver conn) host.pool) lu has)

pub nothing_reserved : (conn : ℕ) (pool : List Entry) → Reserves conn None pool pool
nothing_reserved conn pool = record {
  taken = λ it is. absurd (cc);
  held = λ holder it h. inl h;
  others = λ other lu ne. (λ h. h, λ h. h);
  lus = λ it has. has;
}

pub reserves_lu : (conn : ℕ) (lu : List ℕ) (now : Phase) (old new : Host) → now ≡ phase.Bound lu → new ≡ reserved conn lu old → (HasLu new.pool lu → IsTaken new.pool lu)
    → ((holder : ℕ) (held : List ℕ) → Holds new.pool holder held → Holds old.pool holder held ⊎ ((holder ≡ reserver conn) × (held ≡ lu))) → OthersHold (reserver conn) old.pool new.pool
    → Reserves conn (lu_in now) old.pool new.pool
reserves_lu conn lu now old new is becomes taken held others = record {
  taken = λ it names has.
      let both : Some lu ≡ Some it = sym (ap lu_in is) ∙ names in
      let same : lu ≡ it = cc in
      subst (λ (l : List ℕ). IsTaken new.pool l) same (taken (subst (λ (l : List ℕ). HasLu new.pool l) (sym same) has));
  held = λ holder it h. elim (held holder it h) [
    | inl before ↦ inl before
    | inr here ↦ inr (here.0, ap lu_in is ∙ ap Some (sym here.1))
  ];
  others = others;
  lus = λ it has. lus_reserved conn lu old it (subst (λ (h : Host). HasLu h.pool it) becomes has);
}

pub none_below : (hosts : Hosts) (host : Host) → host ≡ reserved_below hosts host 0
unfolding reserved_below
none_below hosts host = refl

pub one_below : (hosts : Hosts) (host now next : Host) (conn : ℕ) → now ≡ reserved_below hosts host conn → next ≡ reserved_for conn (phase_of (service_at conn hosts)) now
    → next ≡ reserved_below hosts host (conn + 1)
unfolding reserved_below
one_below hosts host now next conn so_far is =
    let more : conn + 1 ≡ suc conn = omega arith in
    rw (more, is, so_far) refl

-- ---- the new host

nobody_at : (pool : List Entry) (holder : ℕ) (lu : List ℕ) (place : ℕ) → slice_get (all_free pool) place ≡ Some (entry lu (Some holder)) → ⊥
nobody_at [] holder lu place is = cc
nobody_at (first ∷ rest) holder lu zero is =
    let it : entry first.lu None ≡ entry lu (Some holder) = cc in
    let none : None ≡ Some holder = ap (λ (e : Entry). e.holder) it in
    cc
nobody_at (first ∷ rest) holder lu (suc place) is = nobody_at rest holder lu place is

pub nobody_holds : (pool : List Entry) → NobodyHolds (all_free pool)
nobody_holds pool holder lu h = nobody_at pool holder lu h.0 h.1

always_free : (count conn : ℕ) → (get_or (replicate count unused) conn unused).service ≡ Service.Free
always_free zero conn = refl
always_free (suc count) zero = refl
always_free (suc count) (suc conn) = always_free count conn

same_connections : (conn : ℕ) (now : Phase) (host : Host) → (reserved_for conn now host).connections ≡ host.connections
same_connections conn (phase.Bound lu) host = refl
same_connections conn phase.Free host = refl
same_connections conn phase.Talking host = refl
same_connections conn (phase.Closed cause) host = refl

below_connections : (hosts : Hosts) (host : Host) (count : ℕ) → (reserved_below hosts host count).connections ≡ host.connections
unfolding reserved_below
below_connections hosts host zero = refl
below_connections hosts host (suc conn) = same_connections conn _ (reserved_below hosts host conn) ∙ below_connections hosts host conn

pub new_is_free : (hosts : Hosts) (host : Host) (conn : ℕ) → state_at conn (reserved_below hosts (counting_on hosts.current (restarted host)) most_connections) ≡ Service.Free
new_is_free hosts host conn =
    ap (λ (cs : List Connection). (get_or cs conn unused).service) (below_connections hosts (counting_on hosts.current (restarted host)) most_connections)
    ∙ always_free most_connections conn

-- ---- all of it

pub place_within : (hosts : Hosts) (place : ℕ) → IsApart hosts → IsFreePlace place hosts.owners → place ≤ length hosts.earlier
place_within hosts place apart free = by_test (nat_lt (length hosts.earlier) place) refl
  where
    by_test : (b : Bool) → nat_lt (length hosts.earlier) place ≡ b → place ≤ length hosts.earlier
    by_test true e =
        let owned = owner_of (length hosts.earlier) hosts.owners (free.first (length hosts.earlier) (ltb-true (length hosts.earlier) place e)) in
        let there : length hosts.earlier < length hosts.earlier = (apart.earlier owned.0 (length hosts.earlier) owned.1).there in
        absurd (omega (arith, there))
    by_test false e = ltb-false (length hosts.earlier) place e

-- a connection that is open stays in its host
record Stays (old new : Hosts) (conn place : ℕ) : Type 0 where
  number : conn < most_connections
  there : place < length new.earlier
  same : host_of (Some place) new ≡ host_at conn old
  is_open : service_at conn old ≢ Service.Free

module _ (hosts : Hosts) (place : ℕ) (next : Host) (apart : IsApart hosts) (free : IsFreePlace place hosts.owners) where
  abbrev after : Hosts
  after = record { current = next; earlier = put_at place hosts.current hosts.earlier; owners = handed_below place hosts.current hosts.owners most_connections }

  in_earlier : (conn there its : ℕ) → conn < most_connections → owner_at conn hosts ≡ Some its → Some its ≡ Some there → Stays hosts after conn there
  in_earlier conn there its below owner e =
      let same : its ≡ there = some_is its there e in
      let owns : owner_at conn hosts ≡ Some there = owner ∙ e in
      let was : IsEarlier hosts conn there = apart.earlier conn there owns in
      let inside = was.there in
      let differs : there ≢ place = λ at. absurd (let is : is_owned place hosts.owners ≡ true = subst (λ (n : ℕ). is_owned n hosts.owners ≡ true) at (owned_by there hosts.owners conn owns) in let unowned = free.free in cc) in
      let more = put_no_less place hosts.current hosts.earlier in
      record {
        number = below;
        there = omega (arith, inside, more);
        same = put_elsewhere place there hosts.current next hosts.current hosts.earlier inside differs ∙ ap (λ (o : Option ℕ). host_of o hosts) (sym owns);
        is_open = subst (λ (o : Option ℕ). state_at conn (host_of o hosts) ≢ Service.Free) (sym owns) was.is_open;
      }

  in_newest : (conn there : ℕ) → conn < most_connections → owner_at conn hosts ≡ None → state_at conn hosts.current ≢ Service.Free → Some place ≡ Some there → Stays hosts after conn there
  in_newest conn there below owner busy e =
      let same : place ≡ there = some_is place there e in
      let within = place_within hosts place apart free in
      record {
        number = below;
        there = subst (λ (n : ℕ). n < length after.earlier) same (put_length place hosts.current hosts.earlier within);
        same = ap (λ (n : ℕ). host_of (Some n) after) (sym same) ∙ put_here place hosts.current next hosts.earlier within ∙ ap (λ (o : Option ℕ). host_of o hosts) (sym owner);
        is_open = subst (λ (o : Option ℕ). state_at conn (host_of o hosts) ≢ Service.Free) (sym owner) busy;
      }

  by_service : (conn there : ℕ) → conn < most_connections → owner_at conn hosts ≡ None → (service : Service) → state_at conn hosts.current ≡ service
      → owner_after place None (phase_of service) ≡ Some there → Stays hosts after conn there
  by_service conn there below owner Service.Free is e = absurd (let none : None ≡ Some there = e in cc)
  by_service conn there below owner (Service.Open rest session) is e =
      in_newest conn there below owner (λ f. absurd (let differ : Service.Open rest session ≡ Service.Free = sym is ∙ f in cc)) (sym (taken (agreed_lu session.talk.state)) ∙ e)
    where
      taken : (lu : Option (List ℕ)) → owner_after place None (phase_agreed lu) ≡ Some place
      taken None = refl
      taken (Some lu) = refl
  by_service conn there below owner (Service.Closed cause) is e =
      in_newest conn there below owner (λ f. absurd (let differ : Service.Closed cause ≡ Service.Free = sym is ∙ f in cc)) e

  stays : (conn there : ℕ) → owner_at conn after ≡ Some there → Stays hosts after conn there
  stays conn there is = by_owner (owner_at conn hosts) refl
    where
      inside : conn < length hosts.owners
      inside = subst (λ (n : ℕ). conn < n) (handed_length place hosts.current hosts.owners most_connections) (has_number (handed_below place hosts.current hosts.owners most_connections) conn there is)

      below : conn < most_connections
      below = subst (λ (n : ℕ). conn < n) apart.owners inside

      handed : owner_after place (owner_at conn hosts) (phase_of (state_at conn hosts.current)) ≡ Some there
      handed = sym (handed_at place hosts.current hosts.owners most_connections conn below inside) ∙ is

      by_owner : (owner : Option ℕ) → owner_at conn hosts ≡ owner → Stays hosts after conn there
      by_owner (Some its) owner = in_earlier conn there its below owner (subst (λ (o : Option ℕ). owner_after place o (phase_of (state_at conn hosts.current)) ≡ Some there) owner handed)
      by_owner None owner =
          by_service conn there below owner (state_at conn hosts.current) refl (subst (λ (o : Option ℕ). owner_after place o (phase_of (state_at conn hosts.current)) ≡ Some there) owner handed)

  pub reload_apart : NobodyShares hosts → NobodyTalks hosts → KeepsFor hosts most_connections next.pool → ((conn : ℕ) → state_at conn next ≡ Service.Free) → IsApart after
  reload_apart shares settled kept unused_there = record {
    owners = handed_length place hosts.current hosts.owners most_connections ∙ apart.owners;
    earlier = λ conn there is.
        let s = stays conn there is in
        let calm : IsSettled (service_at conn hosts) = settled_by_phase (service_at conn hosts) (settled conn s.number) in
        record {
          there = s.there;
          is_open = subst (λ (h : Host). state_at conn h ≢ Service.Free) (sym s.same) s.is_open;
          settled = subst (λ (h : Host). IsSettled (state_at conn h)) (sym s.same) calm;
          free_now = unused_there conn;
          reserved = λ lu e has. kept conn lu s.number (granted_bound (service_at conn hosts) lu calm (subst (λ (h : Host). lu_of (state_at conn h) ≡ Some lu) s.same e)) has;
        };
    unshared = λ one other here there lu is also granted too.
        let s = stays one here is in
        let t = stays other there also in
        shares one other lu (subst (λ (h : Host). lu_of (state_at one h) ≡ Some lu) s.same granted) (subst (λ (h : Host). lu_of (state_at other h) ≡ Some lu) t.same too);
  }

-- the hosts as the code leaves them
abbrev pub made : Host → List Host → List (Option ℕ) → Hosts
made current earlier owners = record { current = current; earlier = earlier; owners = owners }

pub swapped : (hosts : Hosts) (place : ℕ) (next now was found : Host) (put : List Host) (owners : List (Option ℕ)) → place ≤ length hosts.earlier → put ≡ put_at place next hosts.earlier
    → now ≡ found → found ≡ get_or put place found → was ≡ hosts.current → owners ≡ handed_below place hosts.current hosts.owners most_connections
    → made now (set put place was) owners ≡ made next (put_at place hosts.current hosts.earlier) (handed_below place hosts.current hosts.owners most_connections)
swapped hosts place next now was found put owners within is taken got same handed =
    let newest : now ≡ next = taken ∙ got ∙ ap (λ (hs : List Host). get_or hs place found) is ∙ put_here place next found hosts.earlier within in
    let earlier : set put place was ≡ put_at place hosts.current hosts.earlier =
    ap (λ (hs : List Host). set hs place was) is ∙ put_twice place next was hosts.earlier within ∙ ap (λ (h : Host). put_at place h hosts.earlier) same in
    hosts_are now next (set put place was) (put_at place hosts.current hosts.earlier) owners (handed_below place hosts.current hosts.owners most_connections) newest earlier handed
  where
    hosts_are : (one other : Host) (these those : List Host) (some others : List (Option ℕ)) → one ≡ other → these ≡ those → some ≡ others
        → made one these some ≡ made other those others
    hosts_are one other these those some others a b c =
        ap (λ (h : Host). made h these some) a ∙ ap (λ (hs : List Host). made other hs some) b ∙ ap (made other those) c

-- the new host before it reserves LUs
pub new_host_is : (hosts : Hosts) (host anew counting : Host) → anew ≡ restarted host → counting ≡ counting_on hosts.current anew → counting ≡ counting_on hosts.current (restarted host)
new_host_is hosts host anew counting is counts = counts ∙ ap (counting_on hosts.current) is
