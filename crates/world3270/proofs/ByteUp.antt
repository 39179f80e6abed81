-- Bytes that come up to a host: the world over bytes stands for the one behind as many single deliveries as there were messages completed.
use Rattle.std.proofs.Common.{◌≡◌, ◌<◌, ◌&&◌, inl, inr, nat_lt, ℕ, suc, Bool, true, false, Option, None, Some, List, [], ◌∷◌, ◌++◌, drop, take, length, map, refl, ap, sym, subst, ◌∙◌, append_assoc}
use Rattle.std.specs.List.{AllByRecursion}
use Rattle.std.proofs.lemmas.Bool.{and_parts, ltb-true, lt-ltb}
use Rattle.std.proofs.lemmas.List.{append-nil, length-take-le, take-append-drop}
use Rattle.std.proofs.lemmas.List.Elements.{All-nil}
use Rattle.lu_pool.specs.Asking.{answer_to}
use Rattle.lu_pool.specs.Holders.{granted_if}
use Rattle.lu_pool.specs.declared.entry.Entry.{Entry}
use Rattle.telnet_wire.specs.Items.{WireItem, sent_bytes}
use Rattle.telnet_wire.specs.Reading.{Rest, Delivers, GoesWrong}
use Rattle.tn3270e_msg.specs.Header.{record_limit}
use Rattle.tn3270e_msg.specs.declared.cause.Cause.{Cause}
use Rattle.tn3270e_msg.specs.declared.cause.Stop.{Stop}
use Rattle.tn3270e_msg.specs.declared.cause.Stop.TheVariants.{Going, Memory, Closed as ClosedStop}
use Rattle.host_core.specs.Application.{application_of}
use Rattle.host_core.specs.Bytes.{ConnectionAndPool, TakesByte, TakesBytes, service_after, stepped}
use Rattle.host_core.specs.Feeds.{IsOpen, StopsFor, connection_and_pool_at}
use Rattle.host_core.specs.Items.{TakesItem}
use Rattle.host_core.specs.Messages.{ToHost}
use Rattle.host_core.specs.Says.{item_sent}
use Rattle.host_core.specs.Session.{Session}
use Rattle.host_core.specs.State.{Host, Service, most_connections, state_at}
use Rattle.host_core.specs.Takes.{HostStep, freed_if, took as host_took}
use Rattle.world3270.specs.refinement.MessageLaws.{MessageLaws}
use Rattle.world3270.specs.model.ByteSteps.{is_link, host_gone_if}
use Rattle.world3270.specs.model.ByteWorld.{ByteWorld, is_there, host_there, terminal_at, down_of, up_of}
use Rattle.world3270.specs.refinement.Deliveries.{AreDeliveries, host_rest, taken_by}
use Rattle.world3270.specs.statement.Forms.{FormsAreAwaited}
use Rattle.world3270.specs.model.Steps.{closed_if, host_took_it, came_up}
use Rattle.world3270.specs.model.Link.{Link, sent, host_left_if}
use Rattle.world3270.specs.model.Enabled.{is_queued, is_enabled as is_enabled_over_messages}
use Rattle.world3270.specs.model.Places.{EndsAgree}
use Rattle.world3270.specs.refinement.Readings.{MayBeSent}
use Rattle.world3270.specs.refinement.Refines.{WorldSetup, IsWorldSetup, Reached, after}
use Rattle.world3270.specs.refinement.Sendable.{IsWellFormed}
use Rattle.world3270.specs.refinement.Representation.{WorldRepresents, IsNotClosed, conn_of, rest_of, link_of}
use Rattle.world3270.specs.refinement.Represents.{RepresentsUp, LinkRepresents, all_items}
use Rattle.world3270.specs.refinement.RepresentsLinks.{MayComeAll, NoneCloses}
use Rattle.world3270.specs.model.World.{World, Event as MessageEvent, with_at}
use Rattle.world3270.specs.declared.event.Event.TheVariants as event
use Rattle.world3270.specs.declared.event.Stepped.{Stepped}
use Rattle.world3270.proofs.Completed.{IsTaken, host_rest_is, more_delivered, none_delivered, taken_is}
use Rattle.world3270.proofs.Frames.{connection_within, way_within}
use Rattle.world3270.proofs.HostItems.{host_reads, stands_read}
use Rattle.world3270.proofs.HostSteps.{just_talks}
use Rattle.world3270.proofs.LinkUp.{link_behind, never_wrong, none_first, one_first, sends_stand}
use Rattle.world3270.proofs.Known.{Facts, Goes, facts_now, facts_once, reached_more, reached_one, reached_still}
use Rattle.world3270.proofs.OneOfMany.{with_other, with_same}
use Rattle.world3270.proofs.Queues.{not_empty, nothing_sent}
use Rattle.world3270.proofs.SaidUp.{IsSaidUp, all_said_up}
use Rattle.world3270.proofs.UpCame.{Taken, heard, one_stood, host_is, counter_is, took_up, took_none, took_next}

-- ---- the world over messages, behind one delivery

-- the host took a message, and goes on
abbrev world_behind : ℕ → HostStep → List ToHost → World → World
world_behind number step others world = record world {
  pool = granted_if number step.grants world.pool;
  link = with_at number (link_behind step others (world.link number)) world.link;
}

is_behind : (number : ℕ) (step : HostStep) (others : List ToHost) (world : World) → step.closes ≡ None
    → host_took_it number step others world ≡ world_behind number step others world
is_behind number step others world none =
    ap (λ (c : Option Cause). closed_if c (record world {
      pool = freed_if number c (granted_if number step.grants world.pool);
      link = with_at number (host_left_if c (link_behind step others (world.link number))) world.link;
    })) none

closes_none : (cause : Option Cause) (world : World) → (closed_if cause world).causes ≡ [] → cause ≡ None
closes_none None world e = refl
closes_none (Some cause) world e = absurd (not_empty world.causes cause [] e)

all_three : (one two three : Bool) → one ≡ true → two ≡ true → three ≡ true → (one && (two && three)) ≡ true
all_three one two three a b c = ap (λ (x : Bool). x && (two && three)) a ∙ ap (λ (x : Bool). x && three) b ∙ c

-- ---- one byte

-- the world over bytes stands for the one behind a delivery, or none; the host goes on, and the bytes behind are under way
record OneByte (begin : WorldSetup) (events : List MessageEvent) (number byte : ℕ) (counter : ConnectionAndPool) (old : ByteWorld) : Type 0 where
  some : List MessageEvent
  completed : AreDeliveries all_items (host_rest number old) (byte ∷ []) (MessageEvent.Up number) some
  behind : rest_of counter.connection.service ≡ completed.behind
  reached : Reached begin (events ++ some) (took_up 1 number counter old)
  is_open : IsOpen counter.connection.service
  there : terminal_at number (took_up 1 number counter old).slots ≡ terminal_at number old.slots
  queue : up_of number (took_up 1 number counter old) ≡ drop 1 (up_of number old)

may_come_up : (world : World) (number : ℕ) (message : ToHost) (others : List ToHost) → FormsAreAwaited world → IsSaidUp message → (world.link number).up ≡ message ∷ others
    → MayBeSent (world.link number).host message
may_come_up world number (ToHost.TalksUp saying) others forms said e = said
may_come_up world number (ToHost.Data parts) others forms said e = inl (forms number parts others e)
may_come_up world number (ToHost.Response answers verdict) others forms said e = tt

module _ (known : MessageLaws) (begin : WorldSetup) (is : IsWorldSetup begin) (events : List MessageEvent) (old : ByteWorld) (reached : Reached begin events old)
    (number : ℕ) (below : number < most_connections) (there : host_there number old ≡ true) where
  abbrev world : World
  world = after begin events

  abbrev link : Link
  link = world.link number

  stands : WorldRepresents old world
  stands = reached.stands

  known_here : Facts world
  known_here = facts_now known.worlds begin events old is reached

  linked : number < length old.links
  linked = way_within number old world stands below

  lined : number < length old.host.connections
  lined = connection_within number old world stands below

  host_here : link.host_here ≡ true
  host_here = sym (stands.links number).host_here ∙ there

  conn_is : conn_of (state_at number old.host) ≡ link.host
  conn_is = ((stands.links number).host host_here).host

  panels_are : (counter : ConnectionAndPool) → (took_up 1 number counter old).host.panels ≡ old.host.panels
  panels_are counter = ap (λ (h : Host). h.panels) (host_is number counter old linked lined)

  -- ---- no item is complete with it

  nothing_completes : (byte : ℕ) (behind : List ℕ) (counter : ConnectionAndPool) (rest to : Rest) (conn : Session) → up_of number old ≡ byte ∷ behind
      → state_at number old.host ≡ Service.Open rest conn → Delivers record_limit rest (byte ∷ []) [] to
      → counter ≡ record { pool = old.host.pool; connection = record (connection_and_pool_at number old.host).connection { service = Service.Open to conn } }
      → OneByte begin events number byte counter old
  nothing_completes byte behind counter rest to conn queue held delivers is_counter =
      let read = subst (λ (r : Rest). Delivers record_limit r (byte ∷ []) [] to) (sym (ap rest_of held)) delivers in
      let bytes_behind : behind ≡ drop 1 (up_of number old) = sym (ap (drop 1) queue) in
      let taken : Taken number counter old world world = record {
        rest = to;
        conn = conn_of (state_at number old.host);
        more = [];
        link = link;
        below = below;
        host_here = there;
        service = ap (λ (c : ConnectionAndPool). c.connection.service) is_counter ∙ ap (Service.Open to) (sym (ap conn_of held));
        out = ap (λ (c : ConnectionAndPool). c.connection.out) is_counter ∙ sym (append-nil (connection_and_pool_at number old.host).connection.out);
        pool = ap (λ (c : ConnectionAndPool). c.pool) is_counter ∙ stands.pool;
        is_link = refl;
        others = λ other differs. refl;
        term_here = refl;
        places = refl;
        terminals = refl;
        world_serves = refl;
        stands = subst (λ (d : List ℕ). LinkRepresents (record (link_of number old) { host_rest = to; up = drop 1 (up_of number old); down = d }) link)
            (sym (nothing_sent (link_of number old).lost (down_of number old)))
            (subst (λ (u : List ℕ). LinkRepresents (record (link_of number old) { host_rest = to; up = u }) link) bytes_behind
            (none_first known.links.up (link_of number old) link byte behind to (stands.links number) host_here queue [] refl read));
      } in
      let stood = one_stood number counter old world world taken known_here.agree known_here.agree stands in
      record {
        some = [];
        completed = record {
          completed = [];
          behind = to;
          delivers = read;
          one_each = refl;
        };
        behind = ap rest_of taken.service;
        reached = reached_more begin events [] old (took_up 1 number counter old) reached tt (All-nil IsWellFormed) (panels_are counter) stood.stands;
        is_open = subst IsOpen (sym taken.service) tt;
        there = stood.there;
        queue = stood.queue;
      }

  -- ---- it completes an item

  module _ (message : ToHost) (others : List ToHost) (e : link.up ≡ message ∷ others) where
    abbrev step : HostStep
    step = host_took (answer_to world.pool) link.host message

    abbrev now : World
    now = world_behind number step others world

    abbrev delivery : MessageEvent
    delivery = MessageEvent.Up number

    has_its_place : is_enabled_over_messages (application_of begin.panels) delivery world ≡ true
    has_its_place = all_three (nat_lt number most_connections) link.host_here (is_queued link.up) (lt-ltb number most_connections below) host_here (ap is_queued e)

    took_it : came_up number link.up world ≡ host_took_it number step others world
    took_it = ap (λ (u : List ToHost). came_up number u world) e

    known_then : Facts (came_up number link.up world)
    known_then = facts_once known.worlds begin events delivery old is reached tt tt has_its_place

    stays : step.closes ≡ None
    stays =
        closes_none step.closes (record world {
          pool = freed_if number step.closes (granted_if number step.grants world.pool);
          link = with_at number (host_left_if step.closes (link_behind step others link)) world.link;
        })
        (ap (λ (w : World). w.causes) (sym took_it) ∙ known_then.nobody_refuses.none_closed)

    world_now : came_up number link.up world ≡ now
    world_now = took_it ∙ is_behind number step others world stays

    link_now : now.link number ≡ link_behind step others link
    link_now = with_same number (link_behind step others link) world.link

    may_come : MayComeAll link.term (sent link.lost link.down step.sends)
    may_come =
        subst (λ (l : Link). MayComeAll l.term l.down) link_now ((subst (λ (w : World). (at : ℕ) → MayComeAll (w.link at).term (w.link at).down × NoneCloses (w.link at).term (w.link at).down) world_now known_then.may) number).0

    step_is : (item : WireItem) (done : HostStep) → RepresentsUp item message → TakesItem (answer_to old.host.pool) (conn_of (state_at number old.host)) item done → done ≡ step
    step_is item done stand taken =
        let said = subst (λ (m : List ToHost). AllByRecursion IsSaidUp m) e
        (all_said_up (application_of begin.panels) begin.serves begin.pool begin.models events reached.are_events number) in
        let may = subst (λ (c : Session). MayBeSent c message) (sym conn_is) (may_come_up world number message others known_here.forms said.0 e) in
        host_reads known.links.one_header known.links.fault_or_header known.links.one_inbound (answer_to old.host.pool) (conn_of (state_at number old.host))
        item message done (stands_read item message stand) may taken
        ∙ ap (λ (c : Session). host_took (answer_to old.host.pool) c message) conn_is
        ∙ ap (λ (p : List Entry). host_took (answer_to p) link.host message) stands.pool

    item_completes : (item : WireItem) (done : HostStep) (byte : ℕ) (behind : List ℕ) (to : Rest) (counter : ConnectionAndPool) → up_of number old ≡ byte ∷ behind
        → Delivers record_limit (host_rest number old) (byte ∷ []) (item ∷ []) to
        → RepresentsUp item message → TakesItem (answer_to old.host.pool) (conn_of (state_at number old.host)) item done
        → LinkRepresents (record (link_of number old) { host_rest = to; up = behind }) (record link { up = others })
        → counter ≡ stepped number to done (connection_and_pool_at number old.host)
        → OneByte begin events number byte counter old
    item_completes item done byte behind to counter queue read stand item_taken stood_up is_counter =
        let counter_now : counter ≡ stepped number to step (connection_and_pool_at number old.host) =
        is_counter ∙ ap (λ (s : HostStep). stepped number to s (connection_and_pool_at number old.host)) (step_is item done stand item_taken) in
        let just = just_talks (answer_to world.pool) link.host message in
        let bytes_behind : behind ≡ drop 1 (up_of number old) = sym (ap (drop 1) queue) in
        let said = sends_stand known.links.sends (record (link_of number old) { host_rest = to; up = behind }) (record link { up = others })
        step.conn step.sends just.talk just.says stood_up may_come in
        let taken : Taken number counter old world now = record {
          rest = to;
          conn = step.conn;
          more = sent_bytes (map item_sent step.sends);
          link = link_behind step others link;
          below = below;
          host_here = there;
          service = ap (λ (c : ConnectionAndPool). c.connection.service) counter_now ∙ ap (service_after to step.conn) stays;
          out = ap (λ (c : ConnectionAndPool). c.connection.out) counter_now;
          pool = ap (λ (c : ConnectionAndPool). c.pool) counter_now
              ∙ ap (λ (c : Option Cause). freed_if number c (granted_if number step.grants old.host.pool)) stays
              ∙ ap (granted_if number step.grants) stands.pool;
          is_link = link_now;
          others = λ other differs. with_other number other (link_behind step others link) world.link differs;
          term_here = refl;
          places = refl;
          terminals = refl;
          world_serves = refl;
          stands = subst (λ (u : List ℕ). LinkRepresents (record (heard number to step.conn (sent_bytes (map item_sent step.sends)) old) { up = u }) (link_behind step others link))
              bytes_behind said;
        } in
        let stood = one_stood number counter old world now taken known_here.agree (subst EndsAgree world_now known_then.agree) stands in
        let new : ByteWorld = took_up 1 number counter old in
        record {
          some = delivery ∷ [];
          completed = record { completed = item ∷ []; behind = to; delivers = read; one_each = refl };
          behind = ap rest_of taken.service;
          reached = reached_one begin events delivery old new reached tt tt has_its_place (panels_are counter)
              (subst (λ (w : World). WorldRepresents new w) (sym world_now) stood.stands);
          is_open = subst IsOpen (sym taken.service) tt;
          there = stood.there;
          queue = stood.queue;
        }

  -- the item stands for the first message, and the bytes behind for the others
  something_completes : (byte : ℕ) (behind : List ℕ) (counter : ConnectionAndPool) (rest to : Rest) (conn : Session) (item : WireItem) (done : HostStep) → up_of number old ≡ byte ∷ behind
      → state_at number old.host ≡ Service.Open rest conn → Delivers record_limit rest (byte ∷ []) (item ∷ []) to
      → TakesItem (answer_to old.host.pool) conn item done → counter ≡ stepped number to done (connection_and_pool_at number old.host)
      → OneByte begin events number byte counter old
  something_completes byte behind counter rest to conn item done queue held delivers item_taken is_counter =
      let read = subst (λ (r : Rest). Delivers record_limit r (byte ∷ []) (item ∷ []) to) (sym (ap rest_of held)) delivers in
      let first = one_first known.links.up (link_of number old) link byte behind to (stands.links number) host_here queue item refl read in
      item_completes first.message first.others first.whole item done byte behind to counter queue read first.is
      (subst (λ (c : Session). TakesItem (answer_to old.host.pool) c item done) (sym (ap conn_of held)) item_taken) first.stands is_counter

  -- ---- any byte

  one_byte : (byte : ℕ) (behind : List ℕ) (counter : ConnectionAndPool) → up_of number old ≡ byte ∷ behind → TakesByte number (connection_and_pool_at number old.host) byte counter
      → OneByte begin events number byte counter old
  one_byte byte behind counter queue (TakesByte.goes_on rest to conn held delivers is_counter) =
      nothing_completes byte behind counter rest to conn queue held delivers is_counter
  one_byte byte behind counter queue (TakesByte.completes rest to conn item done held delivers item_taken is_counter) =
      something_completes byte behind counter rest to conn item done queue held delivers item_taken is_counter
  one_byte byte behind counter queue (TakesByte.breaks rest conn fault held wrong is_counter) =
      absurd (never_wrong known.links.wrong_is_final (link_of number old) link byte behind fault (stands.links number) host_here queue
      (subst (λ (r : Rest). GoesWrong record_limit r (byte ∷ []) fault) (sym (ap rest_of held)) wrong))

-- ---- bytes, one after another

record ManyBytes (begin : WorldSetup) (events : List MessageEvent) (number : ℕ) (front : List ℕ) (counter : ConnectionAndPool) (old : ByteWorld) : Type 0 where
  more : List MessageEvent
  completed : AreDeliveries all_items (host_rest number old) front (MessageEvent.Up number) more
  reached : Reached begin (events ++ more) (took_up (length front) number counter old)
  is_open : IsOpen counter.connection.service

open_there : (service : Service) → IsOpen service → is_there service ≡ true
open_there Service.Free is = absurd is
open_there (Service.Open rest conn) is = refl
open_there (Service.Closed cause) is = absurd is

there_open : (service : Service) → IsNotClosed service → is_there service ≡ true → IsOpen service
there_open Service.Free is e = absurd (cc)
there_open (Service.Open rest conn) is e = tt
there_open (Service.Closed cause) is e = absurd is

many_bytes : MessageLaws → (begin : WorldSetup) → IsWorldSetup begin → (number : ℕ) → number < most_connections → (front behind : List ℕ) (events : List MessageEvent) (old : ByteWorld)
    (counter : ConnectionAndPool) → Reached begin events old → host_there number old ≡ true → up_of number old ≡ front ++ behind
    → TakesBytes number (connection_and_pool_at number old.host) front counter → ManyBytes begin events number front counter old
many_bytes known begin is number below [] behind events old counter reached there queue same = record {
  more = [];
  completed = none_delivered known all_items (host_rest number old) (MessageEvent.Up number) refl (host_rest_is known number old (after begin events) reached.stands);
  reached = reached_still begin events old (took_up 0 number counter old) reached
      (ap (λ (c : ConnectionAndPool). took_up 0 number c old) same ∙ took_none number old);
  is_open = subst (λ (c : ConnectionAndPool). IsOpen c.connection.service) (sym same) (there_open (state_at number old.host) (reached.stands.none_closed number) there);
}
many_bytes known begin is number below (byte ∷ front) behind events old counter reached there queue taken =
    let first : ConnectionAndPool = taken.0 in
    let linked : number < length old.links = way_within number old (after begin events) reached.stands below in
    let lined : number < length old.host.connections = connection_within number old (after begin events) reached.stands below in
    let one = one_byte known begin is events old reached number below there byte (front ++ behind) first queue taken.1 in
    let mid : ByteWorld = took_up 1 number first old in
    let counter_mid : connection_and_pool_at number mid.host ≡ first = counter_is number first old linked lined in
    let there_mid : host_there number mid ≡ true =
    ap (λ (c : ConnectionAndPool). is_there c.connection.service) counter_mid ∙ open_there first.connection.service one.is_open in
    let others = many_bytes known begin is number below front behind (events ++ one.some) mid counter one.reached there_mid (one.queue ∙ ap (drop 1) queue)
    (subst (λ (c : ConnectionAndPool). TakesBytes number c front counter) (sym counter_mid) taken.2) in
    record {
      more = one.some ++ others.more;
      completed = more_delivered known (host_rest number old) (byte ∷ []) front (MessageEvent.Up number) one.some others.more one.completed
          (subst (λ (r : Rest). AreDeliveries all_items r front (MessageEvent.Up number) others.more) (ap (λ (c : ConnectionAndPool). rest_of c.connection.service) counter_mid ∙ one.behind) others.completed);
      reached = subst (λ (m : List MessageEvent). Reached begin m (took_up (suc (length front)) number counter old)) (append_assoc events one.some others.more)
          (subst (λ (w : ByteWorld). Reached begin ((events ++ one.some) ++ others.more) w) (took_next number first old linked lined (length front) counter one.there)
          others.reached);
      is_open = others.is_open;
    }

-- ---- a delivery

-- the host goes on: it leaves nothing
stops_open : (stop : Stop) (old : ConnectionAndPool) (bytes : List ℕ) (taken number : ℕ) (counter : ConnectionAndPool) (behind : ByteWorld) → IsOpen counter.connection.service
    → StopsFor stop old bytes taken counter → host_gone_if stop number behind ≡ behind
stops_open Going old bytes taken number counter behind is stops = refl
stops_open Memory old bytes taken number counter behind is stops = refl
stops_open (ClosedStop cause) old bytes taken number counter behind is stops = absurd (subst IsOpen stops is)

-- and took all bytes, unless memory was refused
taken_up : (stop : Stop) (old counter : ConnectionAndPool) (bytes : List ℕ) (taken : ℕ) → StopsFor stop old bytes taken counter → is_there old.connection.service ≡ true
    → IsOpen counter.connection.service → IsTaken stop taken bytes
taken_up Going old counter bytes taken (inl all) there is = all.0
taken_up Going old counter bytes taken (inr none) there is = let both : false ≡ true = sym (ap is_there none.1) ∙ there in absurd (cc)
taken_up Memory old counter bytes taken stops there is = tt
taken_up (ClosedStop cause) old counter bytes taken stops there is = absurd (subst IsOpen stops is)

in_pieces : (taken count : ℕ) (queue : List ℕ) → queue ≡ take taken (take count queue) ++ (drop taken (take count queue) ++ drop count queue)
in_pieces taken count queue =
    sym (take-append-drop count queue)
    ∙ ap (λ (b : List ℕ). b ++ drop count queue) (sym (take-append-drop taken (take count queue)))
    ∙ append_assoc (take taken (take count queue)) (drop taken (take count queue)) (drop count queue)

module _ (known : MessageLaws) where
  pub up_goes : (number count : ℕ) → Goes (event.Up number count)
  up_goes number count begin events old answer new is reached real place stepped_by =
      let bytes : List ℕ = take count (up_of number old) in
      let parts = and_parts (is_link number) (host_there number old && is_queued bytes) place in
      let below : number < most_connections = ltb-true number most_connections parts.0 in
      let there : host_there number old ≡ true = (and_parts (host_there number old) (is_queued bytes) parts.1).0 in
      let taken : ℕ = stepped_by.fed.taken in
      let many = many_bytes known begin is number below (take taken bytes) (drop taken bytes ++ drop count (up_of number old)) events old stepped_by.counter reached there
      (in_pieces taken count (up_of number old)) stepped_by.feeds.takes in
      let world : ByteWorld = took_up taken number stepped_by.counter old in
      let took_them : taken_by answer bytes ≡ take taken bytes =
      ap (λ (a : Stepped). taken_by a bytes) stepped_by.answers
      ∙ taken_is stepped_by.fed.stop taken bytes (taken_up stepped_by.fed.stop (connection_and_pool_at number old.host) stepped_by.counter bytes taken stepped_by.feeds.stops there many.is_open) in
      record {
        more = many.more;
        comes_to = subst (λ (b : List ℕ). AreDeliveries all_items (host_rest number old) b (MessageEvent.Up number) many.more) (sym took_them) many.completed;
        reached = subst (λ (w : ByteWorld). Reached begin (events ++ many.more) w)
            (sym (stepped_by.leaves ∙ stops_open stepped_by.fed.stop (connection_and_pool_at number old.host) bytes taken number stepped_by.counter world many.is_open stepped_by.feeds.stops))
            (subst (λ (n : ℕ). Reached begin (events ++ many.more) (took_up n number stepped_by.counter old)) (length-take-le taken bytes stepped_by.feeds.few) many.reached);
      }
