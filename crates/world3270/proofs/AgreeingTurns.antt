-- A turn of serving by which the host agrees: from the byte by which it does so on, the turn is moves.
use Rattle.std.proofs.Common.{◌≡◌, ◌<◌, ◌≤◌, inl, inr, ℕ, false, Option, None, Some, List, ◌++◌, drop, take, length, length-append, length-drop, append_assoc, arith, refl, ap, sym, subst, ◌∙◌}
use Rattle.std.proofs.lemmas.List.{set-set, take-append-drop}
use Rattle.std.proofs.Math.Seq.{take-append_seam}
use Rattle.telnet_wire.specs.Reading.{Rest}
use Rattle.tn3270e_msg.specs.declared.cause.Fed.{Fed}
use Rattle.tn3270e_msg.specs.declared.cause.Stop.{Stop}
use Rattle.tn3270e_msg.specs.declared.cause.Stop.TheVariants as stop
use Rattle.host_core.specs.Acts.{Sent}
use Rattle.host_core.specs.Application.{Application, application_of}
use Rattle.host_core.specs.Bytes.{ConnectionAndPool, TakesBytes}
use Rattle.host_core.specs.Does.{Does, acted_by, with_asked}
use Rattle.host_core.specs.Feeds.{IsOpen, StopsFor, connection_and_pool_at, with_connection_and_pool}
use Rattle.host_core.specs.Serves.{ActsHost, FeedsHost, Responds, SendsOut, Serves}
use Rattle.host_core.specs.Session.{Session, is_agreed}
use Rattle.host_core.specs.State.{Connection, Host, Service, connection_at, state_at}
use Rattle.host_core.specs.declared.acted.Acted.{Acted}
use Rattle.host_core.specs.declared.acted.Acted.TheVariants as acted_as
use Rattle.host_core.specs.declared.links.LinkRead.{LinkRead}
use Rattle.host_core.specs.declared.links.LinkWrite.{LinkWrite}
use Rattle.host_core.specs.declared.serving.Served.{Served}
use Rattle.host_core.specs.declared.terminals.Terminals.{Terminals}
use Rattle.world3270.specs.model.TrackedTerminals.{TrackedTerminal}
use Rattle.world3270.specs.statement.Agreeing.{Agrees, IsFresh, Negotiates, TurnNegotiates, TurnsNegotiate}
use Rattle.world3270.specs.statement.EveryTerminalBytes.{Pressed}
use Rattle.world3270.specs.statement.Serving.{AreQueues, IsTurn, over_queues}
use Rattle.world3270.proofs.Agreeing.{bytes_negotiate, only_negotiates, open_parts}
use Rattle.world3270.proofs.Frames.{connection_same}
use Rattle.world3270.proofs.ServingMoves.{FedSo, RespondsSo, acts_open, at_host, same_service, served_from, starved_from}

-- ---- what is fed behind the agreement

open_there : (service : Service) → IsOpen service → (rest : Rest) × (conn : Session) × (service ≡ Service.Open rest conn)
open_there Service.Free is = absurd is
open_there (Service.Open rest conn) is = (rest, conn, refl)
open_there (Service.Closed cause) is = absurd is

is_open_so : (service : Service) (rest : Rest) (conn : Session) → service ≡ Service.Open rest conn → IsOpen service
is_open_so service rest conn is = subst IsOpen (sym is) tt

module _ (app : Application) (serves : Terminals) (number : ℕ) (old mid : Host) (bytes : List ℕ) (fed : Fed) (rest : Rest) (conn : Session) (below : number < length old.connections) (held : state_at number old ≡ Service.Open rest conn)
    (feeds : FeedsHost number old bytes fed mid)
    (a : Agrees app serves number (connection_and_pool_at number old) (take fed.taken bytes) (connection_and_pool_at number mid)) where
  abbrev from : Host
  from = with_connection_and_pool number a.mid old

  abbrev unread : List ℕ
  unread = drop fed.taken bytes

  abbrev fed_then : Fed
  fed_then = record { taken = length a.behind; stop = fed.stop }

  from_is : connection_and_pool_at number from ≡ a.mid
  from_is = ap (λ (c : Connection). record { pool = a.mid.pool; connection = c }) (connection_same number a.mid.connection (record old { pool = a.mid.pool }) below)

  fewer : (behind unread : List ℕ) → length behind ≤ length (behind ++ unread)
  fewer behind unread = let both = length-append behind unread in omega (arith, both)

  stops_so : (why : Stop) → StopsFor why (connection_and_pool_at number old) bytes fed.taken (connection_and_pool_at number mid)
      → StopsFor why (connection_and_pool_at number from) (a.behind ++ unread) (length a.behind) (connection_and_pool_at number mid)
  stops_so stop.Going (inl all) =
      let both = length-append a.behind unread in
      let none = length-drop fed.taken bytes in
      let taken = all.0 in
      inl (omega (arith, both, none, taken), all.1)
  stops_so stop.Going (inr none) = absurd (let both : Service.Open rest conn ≡ Service.Free = sym held ∙ none.1 in cc)
  stops_so stop.Memory short =
      let both = length-append a.behind unread in
      let left = length-drop fed.taken bytes in
      let few = short.0 in
      (omega (arith, both, left, few), short.1, short.2)
  stops_so (stop.Closed cause) closed = closed

  fed_behind : FedSo number from (a.behind ++ unread) fed_then mid
  fed_behind = record {
    feeds = record {
      few = fewer a.behind unread;
      takes = subst (λ (c : ConnectionAndPool). TakesBytes number c (take (length a.behind) (a.behind ++ unread)) (connection_and_pool_at number mid)) (sym from_is)
          (subst (λ (l : List ℕ). TakesBytes number a.mid l (connection_and_pool_at number mid)) (sym (take-append_seam a.behind unread)) a.takes_behind);
      stops = stops_so fed.stop feeds.feeds.stops;
    };
    others = feeds.others ∙ ap (λ connections. record old { pool = mid.pool; connections = connections }) (sym (set-set old.connections number a.mid.connection (connection_at number mid)));
  }

  -- all bytes: the first ones, and those behind them
  bytes_are : bytes ≡ a.first ++ (a.behind ++ unread)
  bytes_are = sym (take-append-drop fed.taken bytes) ∙ ap (λ (l : List ℕ). l ++ unread) a.whole ∙ append_assoc a.first a.behind unread

-- ---- a turn

module _ {L : Type 0} (gave : L → ℕ → ℕ → List ℕ → LinkRead → L → Type 0) (took : L → ℕ → List ℕ → LinkWrite → L → Type 0)
    (serves : Terminals) (number : ℕ) (up down : L → List ℕ) (queues : AreQueues gave took number up down) (tracked : TrackedTerminal) (pressed : Pressed)
    (old : Host) (links : L) (answer : Served) (new : Host) (left : L) (rest to : Rest) (conn now : Session) (below : number < length old.connections)
    (held : state_at number old ≡ Service.Open rest conn) (unagreed : is_agreed conn.talk.state ≡ false) (fresh : IsFresh (application_of old.panels) serves conn) (is_new : state_at number new ≡ Service.Open to now) where
  abbrev app : Application
  app = application_of old.panels

  abbrev Outcome : Type 0
  Outcome = TurnNegotiates app serves number (over_queues gave took up down old links tracked pressed) (over_queues gave took up down new left tracked pressed) answer now

  -- it goes on as it was
  still : (mid : Host) → state_at number new ≡ state_at number mid → (mid_rest : Rest) (mid_conn : Session) → state_at number mid ≡ Service.Open mid_rest mid_conn → is_agreed mid_conn.talk.state ≡ false → IsFresh app serves mid_conn
      → Outcome
  still mid same mid_rest mid_conn is_mid yet fresh_mid =
      let it : now ≡ mid_conn = open_parts to mid_rest now mid_conn (sym is_new ∙ same ∙ is_mid) in
      TurnNegotiates.goes_on (ap (λ (c : Session). is_agreed c.talk.state) it ∙ yet) (subst (IsFresh app serves) (sym it) fresh_mid)

  module _ (bytes : List ℕ) (fed : Fed) (mid : Host) (feeds : FeedsHost number old bytes fed mid) (between : L) (queue : up links ≡ bytes ++ up between) where
    -- the host agrees
    agreeing : (a : Agrees app serves number (connection_and_pool_at number old) (take fed.taken bytes) (connection_and_pool_at number mid))
        → let from = with_connection_and_pool number a.mid old in
        IsTurn number (at_host from (down links) ((a.behind ++ drop fed.taken bytes) ++ up between) tracked pressed) (over_queues gave took up down new left tracked pressed) answer → Outcome
    agreeing a turn =
        let is = from_is app serves number old mid bytes fed rest conn below held feeds a in
        let from : Host = with_connection_and_pool number a.mid old in
        TurnNegotiates.agrees (record {
          first = a.first;
          up = (a.behind ++ drop fed.taken bytes) ++ up between;
          came = queue ∙ ap (λ (l : List ℕ). l ++ up between) (bytes_are app serves number old mid bytes fed rest conn below held feeds a)
              ∙ append_assoc a.first (a.behind ++ drop fed.taken bytes) (up between);
          host = from;
          takes = subst (λ (c : ConnectionAndPool). TakesBytes number (connection_and_pool_at number old) a.first c) (sym is) a.takes;
          others = ap (λ (c : ConnectionAndPool). with_connection_and_pool number c old) (sym is);
          rest = a.rest;
          conn = a.conn;
          is_open = ap (λ (c : ConnectionAndPool). c.connection.service) is ∙ a.is_open;
          fresh = a.fresh;
          lu = a.lu;
          agreed = a.agreed;
          goes_on = turn;
        })

    negotiates : IsOpen (state_at number mid)
        → ((mid_rest : Rest) (mid_conn : Session) → state_at number mid ≡ Service.Open mid_rest mid_conn → is_agreed mid_conn.talk.state ≡ false → IsFresh app serves mid_conn → Outcome)
        → ((a : Agrees app serves number (connection_and_pool_at number old) (take fed.taken bytes) (connection_and_pool_at number mid))
        → let from = with_connection_and_pool number a.mid old in
        IsTurn number (at_host from (down links) ((a.behind ++ drop fed.taken bytes) ++ up between) tracked pressed) (over_queues gave took up down new left tracked pressed) answer)
        → Outcome
    negotiates here goes_on turns =
        let there = open_there (state_at number mid) here in
        by_outcome there.0 there.1 there.2
        (bytes_negotiate app serves number (connection_and_pool_at number old) (take fed.taken bytes) (connection_and_pool_at number mid) rest there.0 conn there.1 held unagreed fresh feeds.feeds.takes there.2)
      where
        by_outcome : (mid_rest : Rest) (mid_conn : Session) → state_at number mid ≡ Service.Open mid_rest mid_conn
            → Negotiates app serves number (connection_and_pool_at number old) (take fed.taken bytes) (connection_and_pool_at number mid) mid_conn → Outcome
        by_outcome mid_rest mid_conn is_mid (Negotiates.goes_on yet fresh_mid) = goes_on mid_rest mid_conn is_mid yet fresh_mid
        by_outcome mid_rest mid_conn is_mid (Negotiates.agrees a) = agreeing a (turns a)

  -- an act that sends nothing
  acts_nothing : (what : Option Sent) (before : Connection) (did : Acted) (after : Connection) → what ≡ None → Does what before did after → after.service ≡ before.service
  acts_nothing None before did after none does = ap (λ (c : Connection). c.service) does.1
  acts_nothing (Some sending) before did after none does = absurd (cc)

  acts_unagreed : (mid done : Host) (did : Acted) (mid_rest : Rest) (mid_conn : Session) → state_at number mid ≡ Service.Open mid_rest mid_conn → is_agreed mid_conn.talk.state ≡ false → ActsHost number mid did done
      → state_at number done ≡ state_at number mid
  acts_unagreed mid done did mid_rest mid_conn is_mid yet acts =
      acts_nothing (acted_by (application_of mid.panels) (state_at number mid)) (connection_at number mid) did (connection_at number done)
      (ap (acted_by (application_of mid.panels)) is_mid ∙ (only_negotiates (application_of mid.panels) mid_conn yet).acts) acts.does

  same_asked : (done asked : Host) → asked ≡ with_asked number done → state_at number asked ≡ state_at number done
  same_asked done asked is = ap (state_at number) is ∙ same_service done.connections number _ refl

  same_sent : (before : Host) (between : L) (after : Host) (later : L) → SendsOut gave took number before between after later → state_at number after ≡ state_at number before
  same_sent before between after later (SendsOut.nothing none same stay) = ap (state_at number) same
  same_sent before between after later (SendsOut.handed wrote some takes is) = ap (state_at number) is ∙ same_service before.connections number _ refl

  open_new : (host : Host) → state_at number new ≡ state_at number host → IsOpen (state_at number host)
  open_new host same = is_open_so (state_at number host) to now (sym same ∙ is_new)

  turn_negotiates : Serves gave took number old links answer new left → Outcome
  turn_negotiates (Serves.over got gives goes same lost) = still old (ap (state_at number) same) rest conn held unagreed fresh
  turn_negotiates (Serves.starved got bytes gives goes (Responds.unfed fed feeds full short) memory) =
      let read = queues.reads links left _ bytes got gives in
      negotiates bytes fed new feeds left read.0 (open_new new refl) (λ mid_rest mid_conn is_mid yet fresh_mid. still new refl mid_rest mid_conn is_mid yet fresh_mid)
      (λ a. starved_from gave took number up down queues tracked pressed (with_connection_and_pool number a.mid old) links (a.behind ++ drop fed.taken bytes) answer new left
      (RespondsSo.is_unfed (record { taken = length a.behind; stop = fed.stop }) (fed_behind app serves number old new bytes fed rest conn below held feeds a) refl) read.1 memory)
  turn_negotiates (Serves.starved got bytes gives goes (Responds.idle fed mid feeds more acts short) memory) =
      let read = queues.reads links left _ bytes got gives in
      let mid_open : IsOpen (state_at number mid) = acts_open (acted_by (application_of mid.panels) (state_at number mid)) (connection_at number mid) acted_as.Memory (connection_at number new) acts.does (open_new new refl) in
      negotiates bytes fed mid feeds left read.0 mid_open
      (λ mid_rest mid_conn is_mid yet fresh_mid. still mid (acts_unagreed mid new acted_as.Memory mid_rest mid_conn is_mid yet acts) mid_rest mid_conn is_mid yet fresh_mid)
      (λ a. starved_from gave took number up down queues tracked pressed (with_connection_and_pool number a.mid old) links (a.behind ++ drop fed.taken bytes) answer new left
      (RespondsSo.is_idle (record { taken = length a.behind; stop = fed.stop }) mid (fed_behind app serves number old mid bytes fed rest conn below held feeds a) acts refl) read.1 memory)
  turn_negotiates (Serves.starved got bytes gives goes (Responds.acts fed mid done did feeds more acts able asked whole) memory) = absurd (cc)
  turn_negotiates (Serves.served got bytes host between gives goes (Responds.unfed fed feeds full short) sends other) = absurd (cc)
  turn_negotiates (Serves.served got bytes host between gives goes (Responds.idle fed mid feeds more acts short) sends other) = absurd (cc)
  turn_negotiates (Serves.served got bytes host between gives goes (Responds.acts fed mid done did feeds more acts able asked whole) sends other) =
      let read = queues.reads links between _ bytes got gives in
      let later : state_at number new ≡ state_at number done = same_sent host between new left sends ∙ same_asked done host asked in
      let mid_open : IsOpen (state_at number mid) = acts_open (acted_by (application_of mid.panels) (state_at number mid)) (connection_at number mid) did (connection_at number done) acts.does (open_new done later) in
      negotiates bytes fed mid feeds between read.0 mid_open
      (λ mid_rest mid_conn is_mid yet fresh_mid. still mid (later ∙ acts_unagreed mid done did mid_rest mid_conn is_mid yet acts) mid_rest mid_conn is_mid yet fresh_mid)
      (λ a. served_from gave took number up down queues tracked pressed (with_connection_and_pool number a.mid old) links (a.behind ++ drop fed.taken bytes) host between answer new left
      (RespondsSo.is_acting (record { taken = length a.behind; stop = fed.stop }) mid done did (fed_behind app serves number old mid bytes fed rest conn below held feeds a) more acts asked) read.1 sends)

pub turns_negotiate : {L : Type 0} (gave : L → ℕ → ℕ → List ℕ → LinkRead → L → Type 0) (took : L → ℕ → List ℕ → LinkWrite → L → Type 0) → TurnsNegotiate gave took
turns_negotiate gave took serves number up down queues old links answer new left rest to conn now below held unagreed fresh it is_new tracked pressed =
    turn_negotiates gave took serves number up down queues tracked pressed old links answer new left rest to conn now below held unagreed fresh is_new it
