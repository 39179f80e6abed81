-- A host and the earlier hosts whose sessions go on, seen from outside (our profile). All share the connection numbers:
-- a number's connection is in one of them.
use Rattle.std.specs.Prelude.{◌≡◌, ◌<◌, ◌==◌, ℕ, zero, suc, Bool, true, false, List, [], ◌∷◌, replicate, slice_index_or, slice_set, Option, Some, None}
use Rattle.std.specs.List.{list_any}
use Rattle.host_core.specs.Reserving.{released, reserved}
use Rattle.host_core.specs.State.{Host, counting_on, given_up, most_connections, phase_of, restarted, state_at, with_opened}
use Rattle.host_core.specs.declared.phase.Phase.{Phase}
use Rattle.host_core.specs.declared.phase.Phase.TheVariants as phase

-- The host of the newest panels, the earlier hosts, and for each number which of these its connection belongs to: None
-- is the newest.
pub record Hosts : Type 0 where
  pub current : Host
  pub earlier : List Host
  pub owners : List (Option ℕ)

-- the most earlier hosts
abbrev pub most_earlier : ℕ
most_earlier = 8

-- a host without earlier ones
abbrev pub only : Host → Hosts
only host = record { current = host; earlier = []; owners = replicate most_connections None }

-- ---- the host of a number

abbrev pub owner_at : ℕ → Hosts → Option ℕ
owner_at conn hosts = slice_index_or hosts.owners conn None

abbrev pub host_of : Option ℕ → Hosts → Host
host_of None hosts = hosts.current
host_of (Some place) hosts = slice_index_or hosts.earlier place hosts.current

-- the host that a number's connection belongs to
abbrev pub host_at : ℕ → Hosts → Host
host_at conn hosts = host_of (owner_at conn hosts) hosts

abbrev pub with_host_of : Option ℕ → Host → Hosts → Hosts
with_host_of None host hosts = record hosts { current = host }
with_host_of (Some place) host hosts = record hosts { earlier = slice_set hosts.earlier place host }

-- the hosts with this one in place of the one that a number's connection belongs to
abbrev pub with_host : ℕ → Host → Hosts → Hosts
with_host conn host hosts = with_host_of (owner_at conn hosts) host hosts

-- ---- the beginning and the end of a connection

-- a connection begins in the newest host
abbrev pub opened : ℕ → Hosts → Hosts
opened conn hosts = record hosts { current = with_opened conn hosts.current }

abbrev pub closed_in : Option ℕ → ℕ → Hosts → Hosts
closed_in None conn hosts = record hosts { current = given_up conn hosts.current }
closed_in (Some place) conn hosts = record {
  current = released conn hosts.current;
  earlier = slice_set hosts.earlier place (given_up conn (slice_index_or hosts.earlier place hosts.current));
  owners = slice_set hosts.owners conn None;
}

-- A connection ends in its host. If that is an earlier one, the newest host releases its LU, and has the number now.
abbrev pub closed : ℕ → Hosts → Hosts
closed conn hosts = closed_in (owner_at conn hosts) conn hosts

-- ---- reading the panels again

-- whether a connection belongs to the earlier host at this place
abbrev pub is_place : ℕ → Option ℕ → Bool
is_place place None = false
is_place place (Some owner) = owner == place

abbrev pub is_owned : ℕ → List (Option ℕ) → Bool
is_owned place owners = list_any (is_place place) owners

-- holds if the places below this one belong to connections
abbrev pub AreOwned : ℕ → List (Option ℕ) → Type 0
AreOwned below owners = (place : ℕ) → place < below → is_owned place owners ≡ true

-- holds if this is the first place that belongs to no connection
pub record IsFreePlace (place : ℕ) (owners : List (Option ℕ)) : Type 0 where
  pub is_place : place < most_earlier
  pub free : is_owned place owners ≡ false
  pub first : AreOwned place owners

-- the hosts with one at this place, or behind the last
abbrev pub put_at : ℕ → Host → List Host → List Host
put_at place host [] = host ∷ []
put_at zero host (first ∷ rest) = host ∷ rest
put_at (suc place) host (first ∷ rest) = first ∷ put_at place host rest

-- A number's owner once the newest host is the earlier one at this place: an open connection stays in its host.
abbrev pub owner_after : ℕ → Option ℕ → Phase → Option ℕ
owner_after place (Some owner) phase_now = Some owner
owner_after place None phase.Free = None
owner_after place None _ = Some place

-- the owners, of which those of the numbers below this one are handed over
unfoldable pub handed_below : ℕ → Host → List (Option ℕ) → ℕ → List (Option ℕ)
handed_below place current owners zero = owners
handed_below place current owners (suc conn) = slice_set (handed_below place current owners conn) conn
    (owner_after place (slice_index_or owners conn None) (phase_of (state_at conn current)))

-- the LU of a connection in this phase
abbrev pub lu_in : Phase → Option (List ℕ)
lu_in (phase.Bound lu) = Some lu
lu_in _ = None

-- the host that reserves the LU of a connection, if that is bound to one
abbrev pub reserved_for : ℕ → Phase → Host → Host
reserved_for conn (phase.Bound lu) host = reserved conn lu host
reserved_for conn _ host = host

-- the host that reserves the LUs of the connections below this number
unfoldable pub reserved_below : Hosts → Host → ℕ → Host
reserved_below hosts host zero = host
reserved_below hosts host (suc conn) =
    reserved_for conn (phase_of (state_at conn (host_at conn hosts))) (reserved_below hosts host conn)

-- The new host serves new connections, with a count of sessions that goes on, and reserves the LUs of the others, which
-- stay in their hosts. The newest host so far is the earlier one at this place.
abbrev pub reloaded : ℕ → Host → Hosts → Hosts
reloaded place host hosts = record {
  current = reserved_below hosts (counting_on hosts.current (restarted host)) most_connections;
  earlier = put_at place hosts.current hosts.earlier;
  owners = handed_below place hosts.current hosts.owners most_connections;
}
