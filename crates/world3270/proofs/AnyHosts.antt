-- What a move over bytes leaves of a host: its other connections, unless something happens there, and who was granted
-- an LU.
use Rattle.std.proofs.Common.{◌≡◌, ◌<◌, ◌==◌, ◌∷◌, ◌++◌, List, [], ℕ, Bool, true, false, Some, length, length-set, refl, ap, sym, subst, ◌∙◌}
use Rattle.std.proofs.lemmas.Bool.{eqb-true, eqb-false}
use Rattle.std.proofs.lemmas.List.{get_or-set_other}
use Rattle.tn3270e_msg.specs.HostTable.{granted}
use Rattle.tn3270e_msg.specs.declared.host_talk.HostState.{HostState}
use Rattle.tn3270e_msg.specs.declared.host_talk.HostState.TheVariants.{Offered, Asked, Asking, Named, Countered, Agreed, Closed}
use Rattle.host_core.specs.Application.{Application}
use Rattle.host_core.specs.Bytes.{ConnectionAndPool}
use Rattle.host_core.specs.Feeds.{IsOpen, with_connection_and_pool}
use Rattle.host_core.specs.Session.{Session, agreed_lu}
use Rattle.host_core.specs.State.{Connection, Host, Service, connection_at, lu_of, most_connections, state_at, unused, with_connection}
use Rattle.world3270.specs.refinement.Representation.{conn_of}
use Rattle.world3270.specs.statement.EveryTerminalBytes.{IsElsewhere, LeadTo, Moves, OverBytes}

-- A move changes this connection and the pool; or something happens elsewhere; or the host stays as it was.
pub data Leaves (number : ℕ) (old new : Host) : Type 0 where
  here : (counter : ConnectionAndPool) → new ≡ with_connection_and_pool number counter old → Leaves number old new
  there : IsElsewhere number old new → Leaves number old new
  nowhere : new ≡ old → Leaves number old new

by_line : (number : ℕ) (old new : Host) (connection : Connection) → new ≡ with_connection number connection old → Leaves number old new
by_line number old new connection is = Leaves.here (record { pool = old.pool; connection = connection }) is

abbrev host_of : OverBytes → Host
host_of bytes = bytes.host

pub leaves : (app : Application) (number : ℕ) (old new : OverBytes) → Moves app number old new → Leaves number old.host new.host
leaves app number old new (Moves.feeds bytes behind fed counter queue feeds is) = Leaves.here counter (ap host_of is)
leaves app number old new (Moves.hands_over count is) = by_line number old.host new.host _ (ap host_of is)
leaves app number old new (Moves.acts did connection does is) = by_line number old.host new.host connection (ap host_of is)
leaves app number old new (Moves.answers ticket said did connection texts does is) = by_line number old.host new.host connection (ap host_of is)
leaves app number old new (Moves.notes text did connection is_text does is) = by_line number old.host new.host connection (ap host_of is)
leaves app number old new (Moves.keeps_alive is) = by_line number old.host new.host _ (ap host_of is)
leaves app number old new (Moves.reports events is) = by_line number old.host new.host _ (ap host_of is)
leaves app number old new (Moves.elsewhere host other is) = Leaves.there (subst (IsElsewhere number old.host) (sym (ap host_of is)) other)
leaves app number old new (Moves.takes comes) = Leaves.nowhere (ap host_of comes.leaves)
leaves app number old new (Moves.operates step does) = Leaves.nowhere (ap host_of does.leaves)
leaves app number old new (Moves.sends_ignored bytes ignored is) = Leaves.nowhere (ap host_of is)

-- there is still this number
pub still_below : (number : ℕ) (old new : Host) → Leaves number old new → number < most_connections → number < length old.connections → number < length new.connections
still_below number old new (Leaves.here counter is) few below =
    subst (λ (n : ℕ). number < n) (sym (ap (λ (h : Host). length h.connections) is ∙ length-set old.connections number counter.connection)) below
still_below number old new (Leaves.there other) few below = subst (λ (n : ℕ). number < n) (sym other.is_host.sound.connections) few
still_below number old new (Leaves.nowhere same) few below = subst (λ (h : Host). number < length h.connections) (sym same) below

-- the LU is granted to no other connection
abbrev pub IsAlone : ℕ → List ℕ → Host → Type 0
IsAlone number lu host = (other : ℕ) → lu_of (state_at other host) ≡ Some lu → other ≡ number

pub still_alone : (number : ℕ) (lu : List ℕ) (old new : Host) → Leaves number old new → lu_of (state_at number new) ≡ Some lu → IsAlone number lu old → IsAlone number lu new
still_alone number lu old new (Leaves.here counter is) mine alone other shares = by_test (other == number) refl
  where
    by_test : (b : Bool) → (other == number) ≡ b → other ≡ number
    by_test true e = eqb-true other number e
    by_test false e =
        let stays : connection_at other new ≡ connection_at other old =
        ap (connection_at other) is ∙ get_or-set_other old.connections number other counter.connection unused (eqb-false other number e) in
        alone other (sym (ap (λ (c : Connection). lu_of c.service) stays) ∙ shares)
still_alone number lu old new (Leaves.there it) mine alone other shares = it.is_host.unshared other number lu shares mine
still_alone number lu old new (Leaves.nowhere same) mine alone other shares = alone other (subst (λ (h : Host). lu_of (state_at other h) ≡ Some lu) same shares)

-- the host has granted the LU on which it has agreed
pub lu_there : (service : Service) (conn : Session) (lu : List ℕ) → IsOpen service → conn_of service ≡ conn → agreed_lu conn.talk.state ≡ Some lu → lu_of service ≡ Some lu
lu_there Service.Free conn lu is same agreed = absurd is
lu_there (Service.Open rest held) conn lu is same agreed = by_state held.talk.state (ap (λ (c : Session). agreed_lu c.talk.state) same ∙ agreed)
  where
    by_state : (state : HostState) → agreed_lu state ≡ Some lu → granted state ≡ Some lu
    by_state (Agreed device mine) e = e
    by_state Offered e = absurd (cc)
    by_state Asked e = absurd (cc)
    by_state (Asking device) e = absurd (cc)
    by_state (Named device mine) e = absurd (cc)
    by_state (Countered device mine) e = absurd (cc)
    by_state (Closed cause) e = absurd (cc)
lu_there (Service.Closed cause) conn lu is same agreed = absurd is

-- moves, and then others
pub lead_on : (app : Application) (number : ℕ) (first others : List OverBytes) (old mid new : OverBytes) → LeadTo app number first old mid → LeadTo app number others mid new
    → LeadTo app number (first ++ others) old new
lead_on app number [] others old mid new lead more = subst (λ (b : OverBytes). LeadTo app number others b new) lead more
lead_on app number (next ∷ first) others old mid new lead more = (lead.0, lead_on app number first others next mid new lead.1 more)

-- the panels stay
left_panels : (number : ℕ) (old new : Host) → Leaves number old new → new.panels ≡ old.panels
left_panels number old new (Leaves.here counter is) = ap (λ (h : Host). h.panels) is
left_panels number old new (Leaves.there other) = other.panels
left_panels number old new (Leaves.nowhere same) = ap (λ (h : Host). h.panels) same

pub lead_panels : (app : Application) (number : ℕ) (states : List OverBytes) (old new : OverBytes) → LeadTo app number states old new → new.host.panels ≡ old.host.panels
lead_panels app number [] old new same = ap (λ (b : OverBytes). b.host.panels) same
lead_panels app number (next ∷ states) old new lead =
    lead_panels app number states next new lead.1 ∙ left_panels number old.host next.host (leaves app number old next lead.0)
