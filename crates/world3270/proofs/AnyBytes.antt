-- Whatever happens over bytes on a connection with a terminal that keeps the rules is over messages what moves do that keep the rules.
use Rattle.std.proofs.Common.{◌≡◌, ◌<◌, ℕ, Bool, true, false, Option, None, Some, List, [], ◌∷◌, ◌++◌, drop, take, append_assoc, refl, ap, sym, subst, ◌∙◌, if◌then◌else◌}
use Rattle.std.proofs.lemmas.List.{take-append-drop}
use Rattle.lu_pool.specs.HolderLaws.{IsSound as IsSoundPool}
use Rattle.host_core.specs.Acts.{Sent, acted}
use Rattle.host_core.specs.Application.{Application, AreTexts}
use Rattle.host_core.specs.Does.{acted_by, noted_by}
use Rattle.host_core.specs.Feeds.{IsOpen}
use Rattle.host_core.specs.KeepAlive.{kept_alive}
use Rattle.host_core.specs.Notes.{noted}
use Rattle.host_core.specs.Questions.{answered_by, answered_in, answered_on, is_ticket, ticket_of}
use Rattle.host_core.specs.Session.{Session, agreed_lu}
use Rattle.host_core.specs.State.{Connection, Service, connection_at, most_connections, state_at, session_at, with_reports}
use Rattle.host_core.specs.declared.acted.Acted.{Acted}
use Rattle.host_core.specs.declared.question.Answer.{Answer as ApplicationAnswer}
use Rattle.host_core.specs.declared.question.Ticket.{Ticket}
use Rattle.world3270.specs.statement.EveryTerminal.{Move, LinkWithReport, after_moves}
use Rattle.world3270.specs.statement.EveryTerminalBytes.{AreMoves, AreMovesOf, LeadTo, Moves, OverBytes, Represents, if_sent, on_connection, with_host}
use Rattle.world3270.specs.refinement.Representation.{conn_of}
use Rattle.world3270.proofs.Answered.{IsDone, by_act, by_answer}
use Rattle.world3270.proofs.AnyHost.{HearsLaws, fed_by, IsServed, conn_there, does_goes, elsewhere_goes, hands_over_goes, hears_bytes, keeps_alive_goes, reports_goes, unchanged}
use Rattle.world3270.proofs.AnyHosts.{IsAlone, leaves, lu_there, still_alone, still_below}
use Rattle.world3270.proofs.AnyTerminal.{Goes, GoesBy, IsKept, TakesLaws, goes_after, goes_as, ignored_goes, operates_goes, stays, takes_goes}

-- what the host does at a connection that is open
acted_here : (app : Application) (service : Service) (conn : Session) → IsOpen service → conn_of service ≡ conn → acted_by app service ≡ acted app conn
acted_here app Service.Free conn is same = absurd is
acted_here app (Service.Open rest held) conn is same = ap (acted app) same
acted_here app (Service.Closed cause) conn is same = absurd is

noted_here : (text : List ℕ) (service : Service) (conn : Session) → IsOpen service → conn_of service ≡ conn → noted_by text service ≡ noted text conn
noted_here text Service.Free conn is same = absurd is
noted_here text (Service.Open rest held) conn is same = ap (noted text) same
noted_here text (Service.Closed cause) conn is same = absurd is

answered_here : (app : Application) (session : ℕ) (ticket : Ticket) (said : ApplicationAnswer) (service : Service) (conn : Session) → IsOpen service → conn_of service ≡ conn
    → answered_by app session ticket said service ≡ answered_in app session ticket said conn
answered_here app session ticket said Service.Free conn is same = absurd is
answered_here app session ticket said (Service.Open rest held) conn is same = ap (answered_in app session ticket said) same
answered_here app session ticket said (Service.Closed cause) conn is same = absurd is

-- a move, over messages, and the pool that it leaves
record GoesWith (app : Application) (Good : LinkWithReport → Type 0) (number : ℕ) (old new : OverBytes) (t : LinkWithReport) (move : Moves app number old new) : Type 0 where
  goes : Goes app Good number new t
  are : AreMovesOf move goes.moves
  pool : IsSoundPool new.host.pool

-- moves, one after another
pub record GoesThrough (app : Application) (Good : LinkWithReport → Type 0) (number : ℕ) (lu : List ℕ) (states : List OverBytes) (old new : OverBytes) (t : LinkWithReport) (lead : LeadTo app number states old new) : Type 0 where
  pub goes : Goes app Good number new t
  pub are : AreMoves app number states old new lead goes.moves
  pub alone : IsAlone number lu new.host

module _ (takes : TakesLaws) (hears : HearsLaws) (app : Application) (Good : LinkWithReport → Type 0) (kept : IsKept app Good) (number : ℕ) where
  -- an answer to another question isn't taken
  answer_goes : (old : OverBytes) (t : LinkWithReport) (good : Good t) (is : Represents number old t) (served : IsServed number old.host) (said : ApplicationAnswer) (did : Acted) (connection : Connection) (taken : Bool) → AreTexts said.values
      → IsDone (if taken then answered_on app t.link.host said else None) (connection_at number old.host) did connection → GoesBy app Good number (on_connection number connection old) t (if_sent did (Move.Answer said))
  answer_goes old t good is served said did connection true texts done =
      does_goes hears app Good kept number old t good is served (Move.Answer said) (answered_on app t.link.host said) did connection refl tt texts ((kept.ready t good).answers said texts) done
  answer_goes old t good is served said did connection false texts done =
      let none = unchanged hears app Good kept number old t good is served connection done.1 in
      record { goes = none.goes; are = none.are ∙ ap (λ (d : Acted). if_sent d (Move.Answer said)) (sym done.0) }

  one_move : (old new : OverBytes) (t : LinkWithReport) → Good t → Represents number old t → IsServed number old.host → (move : Moves app number old new) → GoesWith app Good number old new t move
  one_move old new t good is served (Moves.feeds bytes behind fed counter queue feeds same) =
      let front : List ℕ = take fed.taken bytes in
      let others : List ℕ = drop fed.taken bytes ++ behind in
      let in_two : old.up ≡ front ++ others = queue ∙ ap (λ (b : List ℕ). b ++ behind) (sym (take-append-drop fed.taken bytes)) ∙ append_assoc front (drop fed.taken bytes) behind in
      let did = hears_bytes hears app Good kept number front others old t counter good is served in_two feeds.takes in
      record {
        goes = goes_as app Good number (fed_by number counter others old) new t same did.goes;
        are = did.ups;
        pool = subst (λ (b : OverBytes). IsSoundPool b.host.pool) (sym same) did.pool;
      }
  one_move old new t good is served (Moves.hands_over count same) =
      let none = hands_over_goes hears app Good kept number old t good is served count in
      record {
        goes = goes_as app Good number _ new t same none.goes;
        are = none.are;
        pool = subst (λ (b : OverBytes). IsSoundPool b.host.pool) (sym same) served.pool;
      }
  one_move old new t good is served (Moves.acts did connection does same) =
      let what = acted_here app (state_at number old.host) t.link.host is.is_open (conn_there hears app Good kept number old t good is served) in
      let done = subst (λ (w : Option Sent). IsDone w (connection_at number old.host) did connection) what
      (by_act (acted_by app (state_at number old.host)) (connection_at number old.host) did connection does) in
      let goes = does_goes hears app Good kept number old t good is served Move.Act (acted app t.link.host) did connection refl tt tt (kept.ready t good).acts done in
      record {
        goes = goes_as app Good number (on_connection number connection old) new t same goes.goes;
        are = goes.are;
        pool = subst (λ (b : OverBytes). IsSoundPool b.host.pool) (sym same) served.pool;
      }
  one_move old new t good is served (Moves.answers ticket said did connection texts does same) =
      let session : ℕ = session_at number old.host in
      let what = answered_here app session ticket said (state_at number old.host) t.link.host is.is_open (conn_there hears app Good kept number old t good is served) in
      let done = subst (λ (w : Option Sent). IsDone w (connection_at number old.host) did connection) what
      (by_answer app said (answered_by app session ticket said (state_at number old.host)) (connection_at number old.host) did connection does) in
      let goes = answer_goes old t good is served said did connection (is_ticket ticket (ticket_of session t.link.host)) texts done in
      record {
        goes = goes_as app Good number (on_connection number connection old) new t same goes.goes;
        are = goes.are;
        pool = subst (λ (b : OverBytes). IsSoundPool b.host.pool) (sym same) served.pool;
      }
  one_move old new t good is served (Moves.notes text did connection is_text does same) =
      let what = noted_here text (state_at number old.host) t.link.host is.is_open (conn_there hears app Good kept number old t good is served) in
      let done = subst (λ (w : Option Sent). IsDone w (connection_at number old.host) did connection) what
      (by_act (noted_by text (state_at number old.host)) (connection_at number old.host) did connection does) in
      let goes = does_goes hears app Good kept number old t good is served (Move.Note text) (noted text t.link.host) did connection refl is_text tt ((kept.ready t good).notes text is_text) done in
      record {
        goes = goes_as app Good number (on_connection number connection old) new t same goes.goes;
        are = goes.are;
        pool = subst (λ (b : OverBytes). IsSoundPool b.host.pool) (sym same) served.pool;
      }
  one_move old new t good is served (Moves.keeps_alive same) =
      let alive = keeps_alive_goes hears app Good kept number old t good is served in
      record {
        goes = goes_as app Good number (on_connection number (kept_alive (connection_at number old.host)) old) new t same alive.goes;
        are = alive.are;
        pool = subst (λ (b : OverBytes). IsSoundPool b.host.pool) (sym same) served.pool;
      }
  one_move old new t good is served (Moves.reports events same) =
      let none = reports_goes hears app Good kept number old t good is served events in
      record {
        goes = goes_as app Good number (with_host (with_reports number events old.host) old) new t same none.goes;
        are = none.are;
        pool = subst (λ (b : OverBytes). IsSoundPool b.host.pool) (sym same) served.pool;
      }
  one_move old new t good is served (Moves.elsewhere host other same) =
      let none = elsewhere_goes hears app Good kept number old t good is served host other.stays in
      record {
        goes = goes_as app Good number (with_host host old) new t same none.goes;
        are = none.are;
        pool = subst (λ (b : OverBytes). IsSoundPool b.host.pool) (sym same) other.pool;
      }
  one_move old new t good is served (Moves.takes comes) =
      let went = takes_goes takes app Good kept number old new t good is comes in
      record { goes = went.goes; are = went.downs; pool = subst (λ (b : OverBytes). IsSoundPool b.host.pool) (sym comes.leaves) served.pool }
  one_move old new t good is served (Moves.operates step does) =
      let once = operates_goes takes app Good kept number step old new t good is does in
      record { goes = once.goes; are = once.are; pool = subst (λ (b : OverBytes). IsSoundPool b.host.pool) (sym does.leaves) served.pool }
  one_move old new t good is served (Moves.sends_ignored bytes ignored same) =
      let none = ignored_goes takes app Good kept number bytes old t good is ignored in
      record {
        goes = goes_as app Good number (record old { up = old.up ++ bytes }) new t same none.goes;
        are = none.are;
        pool = subst (λ (b : OverBytes). IsSoundPool b.host.pool) (sym same) served.pool;
      }

  -- The bytes represent the connection over messages after moves that keep the rules, whatever led to them. Nobody else has its LU.
  pub all_moves : (lu : List ℕ) → ((t : LinkWithReport) → Good t → agreed_lu t.link.host.talk.state ≡ Some lu)
      → (states : List OverBytes) (old new : OverBytes) (t : LinkWithReport) → number < most_connections → Good t → Represents number old t → IsServed number old.host → IsAlone number lu old.host
      → (lead : LeadTo app number states old new) → GoesThrough app Good number lu states old new t lead
  all_moves lu agreed [] old new t below good is served alone same =
      record {
        goes = stays app Good number new t good (subst (λ (b : OverBytes). Represents number b t) (sym same) is);
        are = refl;
        alone = subst (λ (b : OverBytes). IsAlone number lu b.host) (sym same) alone;
      }
  all_moves lu agreed (next ∷ states) old new t below good is served alone lead =
      let one = one_move old next t good is served lead.0 in
      let left = leaves app number old next lead.0 in
      let now : LinkWithReport = after_moves app one.goes.moves t in
      let still : IsServed number next.host = record { below = still_below number old.host next.host left below served.below; pool = one.pool } in
      let mine = lu_there (state_at number next.host) now.link.host lu one.goes.represents.is_open (conn_there hears app Good kept number next now one.goes.good one.goes.represents still) (agreed now one.goes.good) in
      let more = all_moves lu agreed states next new now below one.goes.good one.goes.represents still (still_alone number lu old.host next.host left mine alone) lead.1 in
      record {
        goes = goes_after app Good number next new t one.goes more.goes;
        are = (one.goes.moves, more.goes.moves, one.are, more.are, refl);
        alone = more.alone;
      }
