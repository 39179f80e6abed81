-- The host of a terminal that keeps the rules is fed bytes, acts, and sends: the bytes on the connection then represent that over messages
-- after moves that keep the rules.
use Rattle.std.proofs.Common.{◌≡◌, ◌<◌, ℕ, Bool, true, false, Option, None, Some, List, [], ◌∷◌, ◌++◌, drop, take, length, map, append_assoc, cond, not, refl, ap, sym, subst, ◌∙◌, if◌then◌else◌}
use Rattle.std.proofs.lemmas.List.{length-set, set-get_or, set-set, take-append-drop}
use Rattle.std.specs.List.{AllByRecursion}
use Rattle.std.specs.Prelude.{All, IfSome}
use Rattle.std.proofs.lemmas.List.Elements.{All-append, All-cons, All-nil}
use Rattle.lu_pool.specs.Asking.{answer_to}
use Rattle.lu_pool.specs.HolderLaws.{IsSound as IsSoundPool, StaysSoundGranted}
use Rattle.lu_pool.specs.Holders.{granted_if}
use Rattle.lu_pool.specs.declared.entry.Entry.{Entry}
use Rattle.shadow.specs.Pairs.{Pairwise}
use Rattle.telnet_wire.specs.Items.{CanCome, WireItem, sent_bytes}
use Rattle.telnet_wire.specs.Laws.{WrongIsFinal}
use Rattle.telnet_wire.specs.Reading.{Rest, Delivers, GoesWrong}
use Rattle.tn3270e_msg.specs.Talk.{NegotiationMessage}
use Rattle.tn3270e_msg.specs.Header.{record_limit}
use Rattle.tn3270e_msg.specs.Laws.{FaultIsNoHeader, OneHeader}
use Rattle.datastream.specs.Laws.{OneInbound}
use Rattle.tn3270e_msg.specs.declared.cause.Cause.{Cause}
use Rattle.host_core.specs.Acts.{Sent}
use Rattle.host_core.specs.Application.{Application}
use Rattle.host_core.specs.Bytes.{ConnectionAndPool, TakesByte, TakesBytes, service_after, stepped}
use Rattle.host_core.specs.Does.{sent_on, with_conn}
use Rattle.host_core.specs.Feeds.{IsOpen, connection_and_pool_at, with_connection_and_pool}
use Rattle.host_core.specs.Items.{TakesItem}
use Rattle.host_core.specs.KeepAlive.{kept_alive, may_keep_alive, no_operation, with_nop}
use Rattle.host_core.specs.Messages.{ToHost, ToTerminal}
use Rattle.host_core.specs.Says.{item_sent}
use Rattle.host_core.specs.Reports.{Reports}
use Rattle.host_core.specs.Session.{Session, is_agreed}
use Rattle.host_core.specs.State.{Connection, Host, Service, connection_at, state_at, unused, with_connection, with_reports}
use Rattle.host_core.specs.Takes.{HostStep, freed_if, quiet, took as host_took}
use Rattle.host_core.specs.declared.acted.Acted.{Acted}
use Rattle.host_core.specs.declared.acted.Acted.TheVariants as acted_as
use Rattle.world3270.specs.model.ByteWorld.{is_there}
use Rattle.world3270.specs.statement.EveryTerminal.{IsByTheRules, Move, LinkWithReport, after_moves, came_up, moved}
use Rattle.world3270.specs.statement.EveryTerminalBytes.{IsUp, OverBytes, Represents, WasPressed, if_sent, link_over, on_connection}
use Rattle.world3270.specs.model.Link.{Link, host_left_if, host_sent, sent}
use Rattle.world3270.specs.refinement.Readings.{IsReadAs, MayBeSent}
use Rattle.world3270.specs.refinement.Sendable.{CanBeSent}
use Rattle.world3270.specs.refinement.Representation.{conn_of, rest_of}
use Rattle.world3270.specs.refinement.Ignored.{is_ignored_by_host, is_ignored_by_terminal, without_ignored}
use Rattle.world3270.specs.refinement.Represents.{ByteLink, LinkRepresentsBy, RepresentsDown}
use Rattle.world3270.specs.refinement.RepresentsLinks.{ItemsAreSentBy, UpRepresentsBy, said_down}
use Rattle.world3270.specs.model.TrackedTerminals.{TrackedTerminal}
use Rattle.world3270.proofs.Answered.{IsDone}
use Rattle.world3270.proofs.AnyTerminal.{Goes, GoesBy, IsKept, IsWellFormedMove, goes_after, goes_as, moves_once, stays}
use Rattle.world3270.proofs.AnyIgnored.{IsNoRefusal, OnlyRefuses, all_back, all_told, only_refuses, refusals_stand}
use Rattle.world3270.proofs.Frames.{connection_same}
use Rattle.world3270.proofs.HostItems.{host_reads}
use Rattle.world3270.proofs.HostSteps.{just_talks}
use Rattle.world3270.proofs.ItemsSpelt.{IsEncodable}
use Rattle.world3270.proofs.LinkUp.{link_behind, never_wrong, none_first, one_first, saying_comes, talk_stands}
use Rattle.world3270.proofs.RepresentsLinks.{nop_can_come}
use Rattle.world3270.proofs.AnyBeside.{IsSaidDown}

-- ---- an item that the host only answers, or ignores

kept_if : (item : WireItem) (ignored : Bool) → is_ignored_by_host item ≡ ignored → without_ignored (item ∷ []) ≡ (if ignored then [] else item ∷ [])
kept_if item true is = ap (λ (b : Bool). cond (not b) (item ∷ []) []) is
kept_if item false is = ap (λ (b : Bool). cond (not b) (item ∷ []) []) is

-- ---- what the host says

-- what names LUs may come
said_comes : (talk : List NegotiationMessage) → AllByRecursion IsSaidDown (map ToTerminal.TalksDown talk) → AllByRecursion (CanCome record_limit) (map item_sent (map ToTerminal.TalksDown talk))
said_comes [] said = tt
said_comes (saying ∷ talk) said = (saying_comes saying said.0, said_comes talk said.1)

-- ---- the connection with this line of the host

abbrev link_by : Connection → List ℕ → List ℕ → TrackedTerminal → ByteLink
link_by connection down up tracked = record {
  lost = false;
  down = down ++ connection.out;
  up = up;
  host_here = is_there connection.service;
  host = conn_of connection.service;
  host_rest = rest_of connection.service;
  term_here = Some 0;
  tracked = tracked;
}

abbrev with_parts : Host → List ℕ → List ℕ → OverBytes → OverBytes
with_parts host down up old = record old { host = host; down = down; up = up }

-- it represents this, whatever the host has on other connections
represents_with : (number : ℕ) (host : Host) (connection : Connection) (down up : List ℕ) (old : OverBytes) (t : LinkWithReport) → connection_at number host ≡ connection → IsOpen connection.service
    → LinkRepresentsBy without_ignored IsReadAs is_ignored_by_terminal (link_by connection down up old.tracked) t.link → WasPressed old.pressed t.waits t.told.screen.aid t.cleared → t.link.term.waits ≡ false → CanBeSent t.link.term.display.size t.link.term.display.screen
    → Represents number (with_parts host down up old) t
represents_with number host connection down up old t at is_open stands pressed unnamed stored = record {
  is_open = subst (λ (c : Connection). IsOpen c.service) (sym at) is_open;
  stands = subst (λ (c : Connection). LinkRepresentsBy without_ignored IsReadAs is_ignored_by_terminal (link_by c down up old.tracked) t.link) (sym at) stands;
  pressed = pressed;
  unnamed = unnamed;
  stored = stored;
}

-- the host's side of a connection in a host with these numbers and a sound pool
pub record IsServed (number : ℕ) (host : Host) : Type 0 where
  pub below : number < length host.connections
  pub pool : IsSoundPool host.pool

still_sound : StaysSoundGranted → (number : ℕ) (grants : Option (List ℕ)) (pool : List Entry) → IsSoundPool pool → IsSoundPool (granted_if number grants pool)
still_sound granted number None pool sound = sound
still_sound granted number (Some lu) pool sound = granted pool number lu sound

pub record HearsLaws : Type 0 where
  pub sends : ItemsAreSentBy without_ignored IsReadAs is_ignored_by_terminal
  pub up : UpRepresentsBy without_ignored IsReadAs is_ignored_by_terminal
  pub final : WrongIsFinal
  pub one_header : OneHeader
  pub fault_or_header : FaultIsNoHeader
  pub one_inbound : OneInbound
  pub granted : StaysSoundGranted

-- ---- the host takes a byte

abbrev pub fed_by : ℕ → ConnectionAndPool → List ℕ → OverBytes → OverBytes
fed_by number counter up old = record old { host = with_connection_and_pool number counter old.host; up = up }

pub record Fed (app : Application) (Good : LinkWithReport → Type 0) (number : ℕ) (counter : ConnectionAndPool) (up : List ℕ) (old : OverBytes) (t : LinkWithReport) : Type 0 where
  pub goes : Goes app Good number (fed_by number counter up old) t
  pub ups : All IsUp goes.moves
  pub pool : IsSoundPool counter.pool

module _ (laws : HearsLaws) (app : Application) (Good : LinkWithReport → Type 0) (kept : IsKept app Good) (number : ℕ) where
  module _ (old : OverBytes) (t : LinkWithReport) (good : Good t) (is : Represents number old t) (served : IsServed number old.host) where
    abbrev line : Connection
    line = connection_at number old.host

    abbrev link : Link
    link = t.link

    here_if : (service : Service) → IsOpen service → is_there service ≡ true
    here_if Service.Free is = absurd is
    here_if (Service.Open rest conn) is = refl
    here_if (Service.Closed cause) is = absurd is

    host_here : link.host_here ≡ true
    host_here = sym is.stands.host_here ∙ here_if line.service is.is_open

    conn_is : conn_of line.service ≡ link.host
    conn_is = (is.stands.host host_here).host

    at_line : (connection : Connection) (pool : List Entry) → connection_at number (with_connection number connection (record old.host { pool = pool })) ≡ connection
    at_line connection pool = connection_same number connection (record old.host { pool = pool }) served.below

    -- it goes on with this rest of the stream
    opened : (rest to : Rest) (conn : Session) (behind : List ℕ) (t' : Link) → line.service ≡ Service.Open rest conn
        → LinkRepresentsBy without_ignored IsReadAs is_ignored_by_terminal (record (link_over number old) { host_rest = to; up = behind }) t'
        → LinkRepresentsBy without_ignored IsReadAs is_ignored_by_terminal (link_by (record line { service = Service.Open to conn }) old.down behind old.tracked) t'
    opened rest to conn behind t' held stands =
        subst (λ (s : Service). LinkRepresentsBy without_ignored IsReadAs is_ignored_by_terminal (record (link_by line old.down behind old.tracked) { host_here = is_there s; host = conn_of s; host_rest = to }) t') held stands

    hears_nothing : (byte : ℕ) (behind : List ℕ) (counter : ConnectionAndPool) (rest to : Rest) (conn : Session) (items : List WireItem) → without_ignored items ≡ [] → old.up ≡ byte ∷ behind → line.service ≡ Service.Open rest conn
        → Delivers record_limit rest (byte ∷ []) items to → counter ≡ record { pool = old.host.pool; connection = record line { service = Service.Open to conn } }
        → Fed app Good number counter behind old t
    hears_nothing byte behind counter rest to conn items none queue held delivers is_counter =
        let read = subst (λ (r : Rest). Delivers record_limit r (byte ∷ []) items to) (sym (ap rest_of held)) delivers in
        let stands = opened rest to conn behind link held (none_first laws.up (link_over number old) link byte behind to is.stands host_here queue items none read) in
        let after : ConnectionAndPool = record { pool = old.host.pool; connection = record line { service = Service.Open to conn } } in
        let represents = represents_with number (with_connection_and_pool number after old.host) after.connection old.down behind old t (at_line after.connection after.pool) tt stands is.pressed is.unnamed is.stored in
        record {
          goes = goes_as app Good number (fed_by number after behind old) (fed_by number counter behind old) t (ap (λ (c : ConnectionAndPool). fed_by number c behind old) is_counter)
              (stays app Good number (fed_by number after behind old) t good represents);
          ups = All-nil IsUp;
          pool = subst (λ (c : ConnectionAndPool). IsSoundPool c.pool) (sym is_counter) served.pool;
        }

    module _ (message : ToHost) (others : List ToHost) (e : link.up ≡ message ∷ others) where
      abbrev step : HostStep
      step = host_took (answer_to old.host.pool) link.host message

      abbrev now : LinkWithReport
      now = moved app (Move.Up old.host.pool) t

      closes : step.closes ≡ None
      closes = (kept.ready t good).hears old.host.pool served.pool message others e

      link_now : now.link ≡ link_behind step others link
      link_now =
          ap (λ (up : List ToHost). (came_up old.host.pool up t).link) e
          ∙ ap (λ (c : Option Cause). host_left_if c (link_behind step others link)) closes

      pressed_now : WasPressed old.pressed now.waits now.told.screen.aid now.cleared
      pressed_now = subst (λ (up : List ToHost). let next = came_up old.host.pool up t in WasPressed old.pressed next.waits next.told.screen.aid next.cleared) (sym e) is.pressed

      good_now : Good now
      good_now = kept.goes_on (Move.Up old.host.pool) t good served.pool tt

      said_now : AllByRecursion IsSaidDown (sent link.lost link.down step.sends)
      said_now = subst (λ (l : Link). AllByRecursion IsSaidDown l.down) link_now (kept.ready now good_now).said

      step_is : (item : WireItem) (done : HostStep) (rest : Rest) (conn : Session) → line.service ≡ Service.Open rest conn → IsReadAs item message → TakesItem (answer_to old.host.pool) conn item done → done ≡ step
      step_is item done rest conn held read taken =
          let same : conn ≡ link.host = sym (ap conn_of held) ∙ conn_is in
          host_reads laws.one_header laws.fault_or_header laws.one_inbound (answer_to old.host.pool) conn item message done read
          (subst (λ (c : Session). MayBeSent c message) (sym same) ((kept.ready t good).comes_up message others e)) taken
          ∙ ap (λ (c : Session). host_took (answer_to old.host.pool) c message) same

      hears_one : (item : WireItem) (done : HostStep) (byte : ℕ) (behind : List ℕ) (counter : ConnectionAndPool) (rest to : Rest) (conn : Session) → line.service ≡ Service.Open rest conn
          → IsReadAs item message → TakesItem (answer_to old.host.pool) conn item done
          → LinkRepresentsBy without_ignored IsReadAs is_ignored_by_terminal (record (link_over number old) { host_rest = to; up = behind }) (record link { up = others })
          → counter ≡ stepped number to done (connection_and_pool_at number old.host) → Fed app Good number counter behind old t
      hears_one item done byte behind counter rest to conn held read taken stood is_counter =
          let just = just_talks (answer_to old.host.pool) link.host message in
          let more : List ℕ = sent_bytes (map item_sent step.sends) in
          let after : ConnectionAndPool = stepped number to step (connection_and_pool_at number old.host) in
          let counter_is : counter ≡ after = is_counter ∙ ap (λ (s : HostStep). stepped number to s (connection_and_pool_at number old.host)) (step_is item done rest conn held read taken) in
          let going : service_after to step.conn step.closes ≡ Service.Open to step.conn = ap (service_after to step.conn) closes in
          let lost : false ≡ link.lost = is.stands.lost in
          let its_own = all_back IsSaidDown link.down step.sends (subst (λ (l : Bool). AllByRecursion IsSaidDown (sent l link.down step.sends)) (sym lost) said_now) in
          let fit : AllByRecursion (CanCome record_limit) (map item_sent step.sends) =
          subst (λ (m : List ToTerminal). AllByRecursion (CanCome record_limit) (map item_sent m)) (sym just.says)
          (said_comes just.talk (subst (AllByRecursion IsSaidDown) just.says its_own)) in
          let pairs : Pairwise RepresentsDown (map item_sent step.sends) step.sends = subst (λ (m : List ToTerminal). Pairwise RepresentsDown (map item_sent m) m) (sym just.says) (talk_stands just.talk) in
          let none : AllByRecursion IsNoRefusal step.sends =
          all_back IsNoRefusal link.down step.sends
          (subst (λ (l : Bool). AllByRecursion IsNoRefusal (sent l link.down step.sends)) (sym lost) (subst (λ (l : Link). AllByRecursion IsNoRefusal l.down) link_now (kept.ready now good_now).no_refusal)) in
          let said = laws.sends (record (link_over number old) { host_rest = to; up = behind }) (record link { up = others }) step.conn (map item_sent step.sends) step.sends stood fit
          (subst (λ (l : List WireItem). Pairwise RepresentsDown l step.sends) (sym (all_told (map item_sent step.sends) step.sends none pairs)) pairs) in
          let line_now : Connection = record after.connection { service = Service.Open to step.conn } in
          let line_is : after.connection ≡ line_now = ap (λ (s : Service). record after.connection { service = s }) going in
          let stands : LinkRepresentsBy without_ignored IsReadAs is_ignored_by_terminal (link_by line_now old.down behind old.tracked) (link_behind step others link) =
          subst (λ (d : List ℕ). LinkRepresentsBy without_ignored IsReadAs is_ignored_by_terminal (record (link_by line_now old.down behind old.tracked) { down = d }) (link_behind step others link)) (append_assoc old.down line.out more)
          (subst (λ (h : Bool). LinkRepresentsBy without_ignored IsReadAs is_ignored_by_terminal (record (link_by line_now old.down behind old.tracked) { down = (old.down ++ line.out) ++ more; host_here = h }) (link_behind step others link))
          (here_if line.service is.is_open) said) in
          let back = sym link_now in
          let represents = represents_with number (with_connection_and_pool number after old.host) line_now old.down behind old now (at_line after.connection after.pool ∙ line_is) tt
          (subst (λ (l : Link). LinkRepresentsBy without_ignored IsReadAs is_ignored_by_terminal (link_by line_now old.down behind old.tracked) l) back stands)
          pressed_now (ap (λ (l : Link). l.term.waits) link_now ∙ is.unnamed)
          (subst (λ (l : Link). CanBeSent l.term.display.size l.term.display.screen) back is.stored) in
          let sound : IsSoundPool after.pool =
          subst (λ (c : Option Cause). IsSoundPool (freed_if number c (granted_if number step.grants old.host.pool))) (sym closes) (still_sound laws.granted number step.grants old.host.pool served.pool) in
          record {
            goes = goes_as app Good number (fed_by number after behind old) (fed_by number counter behind old) t (ap (λ (c : ConnectionAndPool). fed_by number c behind old) counter_is)
                (moves_once app Good kept number (fed_by number after behind old) t (Move.Up old.host.pool) good served.pool tt represents);
            ups = All-cons IsUp (Move.Up old.host.pool) [] tt (All-nil IsUp);
            pool = subst (λ (c : ConnectionAndPool). IsSoundPool c.pool) (sym counter_is) sound;
          }

    -- the host only refuses options, or does nothing
    hears_refused : (item : WireItem) (done : HostStep) (byte : ℕ) (behind : List ℕ) (counter : ConnectionAndPool) (rest to : Rest) (conn : Session) → without_ignored (item ∷ []) ≡ [] → line.service ≡ Service.Open rest conn
        → old.up ≡ byte ∷ behind → Delivers record_limit rest (byte ∷ []) (item ∷ []) to → OnlyRefuses conn done → counter ≡ stepped number to done (connection_and_pool_at number old.host) → Fed app Good number counter behind old t
    hears_refused item done byte behind counter rest to conn none held queue delivers refuses is_counter =
        let items : List WireItem = map item_sent (map ToTerminal.TalksDown refuses.says) in
        let more : List ℕ = sent_bytes items in
        let read = subst (λ (r : Rest). Delivers record_limit r (byte ∷ []) (item ∷ []) to) (sym (ap rest_of held)) delivers in
        let stood = none_first laws.up (link_over number old) link byte behind to is.stands host_here queue (item ∷ []) none read in
        let said = refusals_stand laws.sends (record (link_over number old) { host_rest = to; up = behind }) link items stood refuses.comes refuses.ignored in
        let does : HostStep = record (quiet conn) { sends = map ToTerminal.TalksDown refuses.says } in
        let after : ConnectionAndPool = stepped number to does (connection_and_pool_at number old.host) in
        let counter_is : counter ≡ after = is_counter ∙ ap (λ (s : HostStep). stepped number to s (connection_and_pool_at number old.host)) refuses.is in
        let same : link.host ≡ conn = sym conn_is ∙ ap conn_of held in
        let stands : LinkRepresentsBy without_ignored IsReadAs is_ignored_by_terminal (link_by after.connection old.down behind old.tracked) link =
        subst (λ (d : List ℕ). LinkRepresentsBy without_ignored IsReadAs is_ignored_by_terminal (record (link_by after.connection old.down behind old.tracked) { down = d }) link) (append_assoc old.down line.out more)
        (subst (λ (c : Session). LinkRepresentsBy without_ignored IsReadAs is_ignored_by_terminal (record (link_by after.connection old.down behind old.tracked) { down = (old.down ++ line.out) ++ more; host = c }) link) same
        (subst (λ (h : Bool). LinkRepresentsBy without_ignored IsReadAs is_ignored_by_terminal (record (link_by after.connection old.down behind old.tracked) { down = (old.down ++ line.out) ++ more; host = link.host; host_here = h }) link)
        (here_if line.service is.is_open) said)) in
        let represents = represents_with number (with_connection_and_pool number after old.host) after.connection old.down behind old t (at_line after.connection after.pool) tt stands is.pressed is.unnamed is.stored in
        record {
          goes = goes_as app Good number (fed_by number after behind old) (fed_by number counter behind old) t (ap (λ (c : ConnectionAndPool). fed_by number c behind old) counter_is)
              (stays app Good number (fed_by number after behind old) t good represents);
          ups = All-nil IsUp;
          pool = subst (λ (c : ConnectionAndPool). IsSoundPool c.pool) (sym counter_is) served.pool;
        }

    hears_byte : (byte : ℕ) (behind : List ℕ) (counter : ConnectionAndPool) → old.up ≡ byte ∷ behind → TakesByte number (connection_and_pool_at number old.host) byte counter → Fed app Good number counter behind old t
    hears_byte byte behind counter queue (TakesByte.goes_on rest to conn held delivers is_counter) = hears_nothing byte behind counter rest to conn [] refl queue held delivers is_counter
    hears_byte byte behind counter queue (TakesByte.completes rest to conn item done held delivers taken is_counter) = by_test (is_ignored_by_host item) refl
      where
        by_test : (ignored : Bool) → is_ignored_by_host item ≡ ignored → Fed app Good number counter behind old t
        by_test false heard =
            let read = subst (λ (r : Rest). Delivers record_limit r (byte ∷ []) (item ∷ []) to) (sym (ap rest_of held)) delivers in
            let first = one_first laws.up (link_over number old) link byte behind to is.stands host_here queue item (kept_if item false heard) read in
            hears_one first.message first.others first.whole item done byte behind counter rest to conn held first.is taken first.stands is_counter
        by_test true ignored =
            let same : conn ≡ link.host = sym (ap conn_of held) ∙ conn_is in
            let agreed = ap (λ (c : Session). is_agreed c.talk.state) same ∙ (kept.ready t good).agreed in
            hears_refused item done byte behind counter rest to conn (kept_if item true ignored) held queue delivers (only_refuses (answer_to old.host.pool) conn item done ignored agreed taken) is_counter
    hears_byte byte behind counter queue (TakesByte.breaks rest conn fault held wrong is_counter) =
        absurd (never_wrong laws.final (link_over number old) link byte behind fault is.stands host_here queue
        (subst (λ (r : Rest). GoesWrong record_limit r (byte ∷ []) fault) (sym (ap rest_of held)) wrong))

  -- ---- bytes, one after another

  pub hears_bytes : (front behind : List ℕ) (old : OverBytes) (t : LinkWithReport) (counter : ConnectionAndPool) → Good t → Represents number old t → IsServed number old.host → old.up ≡ front ++ behind
      → TakesBytes number (connection_and_pool_at number old.host) front counter → Fed app Good number counter behind old t
  hears_bytes [] behind old t counter good is served queue same =
      let as_it_was : with_connection_and_pool number (connection_and_pool_at number old.host) old.host ≡ old.host = ap (λ connections. record old.host { connections = connections }) (set-get_or old.host.connections number unused) in
      let stays_so : fed_by number (connection_and_pool_at number old.host) behind old ≡ old =
      ap (λ (h : Host). record old { host = h; up = behind }) as_it_was ∙ ap (λ (up : List ℕ). record old { up = up }) (sym queue) in
      record {
        goes = stays app Good number (fed_by number counter behind old) t good
            (subst (λ (c : ConnectionAndPool). Represents number (fed_by number c behind old) t) (sym same) (subst (λ (b : OverBytes). Represents number b t) (sym stays_so) is));
        ups = All-nil IsUp;
        pool = subst (λ (c : ConnectionAndPool). IsSoundPool c.pool) (sym same) served.pool;
      }
  hears_bytes (byte ∷ front) behind old t counter good is served queue taken =
      let mid : ConnectionAndPool = taken.0 in
      let one = hears_byte old t good is served byte (front ++ behind) mid queue taken.1 in
      let host : Host = with_connection_and_pool number mid old.host in
      let at_mid : connection_and_pool_at number host ≡ mid = ap (λ (c : Connection). record { pool = mid.pool; connection = c }) (connection_same number mid.connection (record old.host { pool = mid.pool }) served.below) in
      let below : number < length host.connections = subst (λ (n : ℕ). number < n) (sym (length-set old.host.connections number mid.connection)) served.below in
      let next : OverBytes = fed_by number mid (front ++ behind) old in
      let t_mid : LinkWithReport = after_moves app one.goes.moves t in
      let more = hears_bytes front behind next t_mid counter one.goes.good one.goes.represents (record { below = below; pool = one.pool }) refl
      (subst (λ (c : ConnectionAndPool). TakesBytes number c front counter) (sym at_mid) taken.2) in
      let once : with_connection_and_pool number counter host ≡ with_connection_and_pool number counter old.host =
      ap (λ connections. record old.host { pool = counter.pool; connections = connections }) (set-set old.host.connections number mid.connection counter.connection) in
      let last : OverBytes = fed_by number counter behind old in
      let goes = goes_as app Good number (fed_by number counter behind next) last t_mid (ap (λ (h : Host). record old { host = h; up = behind }) (sym once)) more.goes in
      record {
        goes = goes_after app Good number next last t one.goes goes;
        ups = All-append IsUp one.goes.moves more.goes.moves one.ups more.ups;
        pool = more.pool;
      }

  -- ---- the host sends

  module _ (old : OverBytes) (t : LinkWithReport) (good : Good t) (is : Represents number old t) (served : IsServed number old.host) where
    pub conn_there : conn_of (state_at number old.host) ≡ t.link.host
    conn_there = conn_is old t good is served

    -- a line with the same under way
    same_line : (connection : Connection) (down : List ℕ) → link_by connection down old.up old.tracked ≡ link_over number old → IsOpen connection.service
        → GoesBy app Good number (record old { host = with_connection number connection old.host; down = down }) t []
    same_line connection down same is_open = record {
      goes = stays app Good number (record old { host = with_connection number connection old.host; down = down }) t good
          (represents_with number (with_connection number connection old.host) connection down old.up old t (at_line old t good is served connection old.host.pool) is_open
          (subst (λ (b : ByteLink). LinkRepresentsBy without_ignored IsReadAs is_ignored_by_terminal b t.link) (sym same) is.stands) is.pressed is.unnamed is.stored);
      are = refl;
    }

    -- nothing is done
    pub unchanged : (connection : Connection) → connection ≡ connection_at number old.host → GoesBy app Good number (on_connection number connection old) t []
    unchanged connection same =
        same_line connection old.down (ap (λ (c : Connection). link_by c old.down old.up old.tracked) same) (subst (λ (c : Connection). IsOpen c.service) (sym same) is.is_open)

    open_still : (conn : Session) (service : Service) → IsOpen service → IsOpen (with_conn conn service)
    open_still conn Service.Free is = is
    open_still conn (Service.Open rest old) is = tt
    open_still conn (Service.Closed cause) is = is

    sent_link : (sending : Sent) (service : Service) (out : List ℕ) → IsOpen service
        → said_down sending.conn (item_sent sending.message ∷ []) (link_by (record (connection_at number old.host) { service = service; out = out }) old.down old.up old.tracked)
        ≡ link_by (record (connection_at number old.host) { service = with_conn sending.conn service; out = out ++ sent_bytes (item_sent sending.message ∷ []) }) old.down old.up old.tracked
    sent_link sending Service.Free out is = absurd is
    sent_link sending (Service.Open rest conn) out is =
        ap (λ (d : List ℕ). record (link_by (record (connection_at number old.host) { service = Service.Open rest sending.conn; out = out }) old.down old.up old.tracked) { down = d })
        (append_assoc old.down out (sent_bytes (item_sent sending.message ∷ [])))
    sent_link sending (Service.Closed cause) out is = absurd is

    -- a message is sent, which is encoded
    pub sends_goes : (move : Move) (sending : Sent) → moved app move t ≡ record t { link = host_sent (Some sending) t.link } → IsByTheRules move t → IsWellFormedMove move t → IsEncodable sending.message
        → GoesBy app Good number (on_connection number (sent_on sending (connection_at number old.host)) old) t (move ∷ [])
    sends_goes move sending goes rules typed encoded =
        let connection : Connection = sent_on sending (connection_at number old.host) in
        let link : Link = host_sent (Some sending) t.link in
        let after_down : (moved app move t).link.down ≡ t.link.down ++ sending.message ∷ [] =
        ap (λ (u : LinkWithReport). u.link.down) goes ∙ ap (λ (l : Bool). sent l t.link.down (sending.message ∷ [])) (sym is.stands.lost) in
        let none : AllByRecursion IsNoRefusal (sending.message ∷ []) =
        all_back IsNoRefusal t.link.down (sending.message ∷ []) (subst (AllByRecursion IsNoRefusal) after_down (kept.ready (moved app move t) (kept.goes_on move t good rules typed)).no_refusal) in
        let said = laws.sends (link_over number old) t.link sending.conn (item_sent sending.message ∷ []) (sending.message ∷ []) is.stands (encoded.comes, tt)
        (subst (λ (l : List WireItem). Pairwise RepresentsDown l (sending.message ∷ [])) (sym (all_told (item_sent sending.message ∷ []) (sending.message ∷ []) none (encoded.stands, tt))) (encoded.stands, tt)) in
        let stands : LinkRepresentsBy without_ignored IsReadAs is_ignored_by_terminal (link_by connection old.down old.up old.tracked) link =
        subst (λ (b : ByteLink). LinkRepresentsBy without_ignored IsReadAs is_ignored_by_terminal b link) (sent_link sending (state_at number old.host) (connection_at number old.host).out is.is_open) said in
        let now : LinkWithReport = record t { link = link } in
        record {
          goes = moves_once app Good kept number (on_connection number connection old) t move good rules typed
              (subst (λ (u : LinkWithReport). Represents number (on_connection number connection old) u) (sym goes)
              (represents_with number (with_connection number connection old.host) connection old.down old.up old now (at_line old t good is served connection old.host.pool)
              (open_still sending.conn (state_at number old.host) is.is_open) stands is.pressed is.unnamed is.stored));
          are = refl;
        }

    -- it is done, or memory is refused
    pub does_goes : (move : Move) (what : Option Sent) (did : Acted) (connection : Connection) → moved app move t ≡ record t { link = host_sent what t.link }
        → IsByTheRules move t → IsWellFormedMove move t → IfSome what (λ sending. IsEncodable sending.message) → IsDone what (connection_at number old.host) did connection
        → GoesBy app Good number (on_connection number connection old) t (if_sent did move)
    does_goes move None did connection goes rules typed encoded done =
        let none = unchanged connection done.1 in
        record { goes = none.goes; are = none.are ∙ ap (λ (d : Acted). if_sent d move) (sym done.0) }
    does_goes move (Some sending) acted_as.Sent connection goes rules typed encoded done =
        let one = sends_goes move sending goes rules typed encoded in
        record {
          goes = goes_as app Good number (on_connection number (sent_on sending (connection_at number old.host)) old) (on_connection number connection old) t
              (ap (λ (c : Connection). on_connection number c old) done) one.goes;
          are = one.are;
        }
    does_goes move (Some sending) acted_as.Memory connection goes rules typed encoded done = unchanged connection done
    does_goes move (Some sending) acted_as.Nothing connection goes rules typed encoded done = absurd done

    -- bytes are handed over
    pub hands_over_goes : (count : ℕ) → let line = connection_at number old.host in
        GoesBy app Good number (record old { host = with_connection number (record line { out = drop count line.out }) old.host; down = old.down ++ take count line.out }) t []
    hands_over_goes count =
        let line : Connection = connection_at number old.host in
        same_line (record line { out = drop count line.out }) (old.down ++ take count line.out)
        (ap (λ (d : List ℕ). record (link_over number old) { down = d }) (append_assoc old.down (take count line.out) (drop count line.out) ∙ ap (λ (o : List ℕ). old.down ++ o) (take-append-drop count line.out)))
        is.is_open

    -- NOP is nothing over messages
    pub keeps_alive_goes : GoesBy app Good number (on_connection number (kept_alive (connection_at number old.host)) old) t []
    keeps_alive_goes = by_test (may_keep_alive (connection_at number old.host))
      where
        by_test : (b : Bool) → GoesBy app Good number (on_connection number (if b then with_nop (connection_at number old.host) else connection_at number old.host) old) t []
        by_test false = unchanged (connection_at number old.host) refl
        by_test true =
            let line : Connection = connection_at number old.host in
            let nop : List ℕ = sent_bytes (no_operation ∷ []) in
            record {
              goes = stays app Good number (on_connection number (with_nop line) old) t good
                  (represents_with number (with_connection number (with_nop line) old.host) (with_nop line) old.down old.up old t (at_line old t good is served (with_nop line) old.host.pool) is.is_open
                  (subst (λ (d : List ℕ). LinkRepresentsBy without_ignored IsReadAs is_ignored_by_terminal (record (link_over number old) { down = d }) t.link) (append_assoc old.down line.out nop)
                  (subst (λ (c : Session). LinkRepresentsBy without_ignored IsReadAs is_ignored_by_terminal (record (link_over number old) { down = (old.down ++ line.out) ++ nop; host = c }) t.link) (sym (conn_is old t good is served))
                  (refusals_stand laws.sends (link_over number old) t.link (no_operation ∷ []) is.stands (nop_can_come, tt) refl)))
                  is.pressed is.unnamed is.stored);
              are = refl;
            }

    -- events that were not reported are nothing over messages
    pub reports_goes : (events : Reports) → GoesBy app Good number (record old { host = with_reports number events old.host }) t []
    reports_goes events = same_line (record (connection_at number old.host) { reports = events }) old.down refl is.is_open

    -- something happens elsewhere
    pub elsewhere_goes : (host : Host) → connection_at number host ≡ connection_at number old.host → GoesBy app Good number (record old { host = host }) t []
    elsewhere_goes host same = record {
      goes = stays app Good number (record old { host = host }) t good
          (represents_with number host (connection_at number old.host) old.down old.up old t same is.is_open is.stands is.pressed is.unnamed is.stored);
      are = refl;
    }
