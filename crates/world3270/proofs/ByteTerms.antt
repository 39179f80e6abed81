-- A terminal goes on at its connection, or alone: the world over bytes then stands for the world over messages.
use Rattle.std.proofs.Common.{◌≡◌, ◌≢◌, ◌<◌, not, ℕ, Bool, true, Option, None, Some, List, [], ◌++◌, length, le_refl, refl, ap, sym, subst, ◌∙◌, length-set}
use Rattle.host_core.specs.State.{Connection, connection_at}
use Rattle.world3270.specs.model.ByteWorld.{ByteWorld, Transit, Transits, TerminalSlot, under_way, is_live, is_there, transits_at, slot_at, with_slot}
use Rattle.world3270.specs.model.Link.{Link, sent}
use Rattle.world3270.specs.model.Places.{EndsAgree}
use Rattle.world3270.specs.model.TrackedTerminals.{TrackedTerminal}
use Rattle.world3270.specs.refinement.Representation.{WorldRepresents, IsFlow, IsAt, IsNotClosed, IsSettled, AreTransits, conn_of, rest_of, with_out, link_with}
use Rattle.world3270.specs.refinement.Represents.{ByteLink, LinkRepresents}
use Rattle.world3270.specs.refinement.RepresentsLinks.{fed}
use Rattle.world3270.specs.model.Terminal.{Display}
use Rattle.world3270.specs.model.World.{Place, World, with_place}
use Rattle.world3270.proofs.Frames.{IsHere, alone_there, changed_stands, flow_there, link_there, none_beyond, of_parts, slot_same, slot_other, with_parts}
use Rattle.world3270.proofs.OneOfMany.{with_other, with_same}
use Rattle.world3270.proofs.UnderWay.{more_flows, more_under_way}

-- ---- a connection at whose end a terminal is

-- it is made of the host's line, of what is under way, and of the terminal
abbrev pub made_of : ℕ → Connection → Transits → TerminalSlot → ByteLink
made_of terminal connection transits slot = with_parts (Some terminal) connection transits slot.tracked.terminal.out (with_out [] slot.tracked)

-- both directions are live, or neither is; and what is under way is what the ends have to send
pub record AreFlows (connection : Connection) (transits : Transits) (slot : TerminalSlot) : Type 0 where
  pub together : is_live transits.up ≡ is_live transits.down
  pub down : IsFlow (is_there connection.service) connection.out transits.down
  pub up : IsFlow true slot.tracked.terminal.out transits.up

-- the terminal says more, and some of what was under way down came
pub record GoesOnHere (connection : Connection) (out : List ℕ) (transits : Transits) (down : Transit) (slot : TerminalSlot) (tracked : TrackedTerminal) (said behind : List ℕ) : Type 0 where
  pub live : is_live down ≡ is_live transits.down
  pub flow : IsFlow (is_there connection.service) out down
  pub behind_is : under_way down out ≡ behind
  pub out_is : tracked.terminal.out ≡ slot.tracked.terminal.out ++ said

-- the connection with other bytes under way
abbrev with_queues : ℕ → Connection → TrackedTerminal → Bool → List ℕ → List ℕ → ByteLink
with_queues terminal connection tracked lost down up =
    of_parts lost down up (is_there connection.service) (conn_of connection.service) (rest_of connection.service) (Some terminal) (with_out [] tracked)

module _ (terminal : ℕ) (connection : Connection) (out : List ℕ) (transits : Transits) (down : Transit) (slot : TerminalSlot) (tracked : TrackedTerminal) (said behind : List ℕ)
    (flows : AreFlows connection transits slot) (goes : GoesOnHere connection out transits down slot tracked said behind) where
  up_now : under_way transits.up tracked.terminal.out ≡ sent (not (is_live transits.down)) (under_way transits.up slot.tracked.terminal.out) said
  up_now =
      let before : List ℕ = slot.tracked.terminal.out in
      ap (λ (o : List ℕ). under_way transits.up o) goes.out_is
      ∙ more_under_way before said transits.up flows.up
      ∙ ap (λ (b : Bool). sent (not b) (under_way transits.up before) said) flows.together

  -- The connection is as after these bytes came, and what the terminal said is under way.
  pub link_goes_on : made_of terminal (record connection { out = out }) (record transits { down = down }) (record slot { tracked = tracked })
      ≡ fed (with_out said tracked) behind (made_of terminal connection transits slot)
  link_goes_on =
      let up : List ℕ = under_way transits.up tracked.terminal.out in
      ap (λ (b : Bool). with_queues terminal connection tracked (not b) (under_way down out) up) goes.live
      ∙ ap (λ (q : List ℕ). with_queues terminal connection tracked (not (is_live transits.down)) q up) goes.behind_is
      ∙ ap (λ (q : List ℕ). with_queues terminal connection tracked (not (is_live transits.down)) behind q) up_now

  pub flows_go_on : AreFlows (record connection { out = out }) (record transits { down = down }) (record slot { tracked = tracked })
  flows_go_on = record {
    together = flows.together ∙ sym goes.live;
    down = goes.flow;
    up = subst (λ (o : List ℕ). IsFlow true o transits.up) (sym goes.out_is) (more_flows slot.tracked.terminal.out said transits.up flows.up);
  }

-- ---- a terminal goes on at its connection

-- what stands there
pub flows_here : (number terminal : ℕ) (old : ByteWorld) (was : World) → EndsAgree was → WorldRepresents old was → (was.link number).term_here ≡ Some terminal
    → AreFlows (connection_at number old.host) (transits_at number old) (slot_at terminal old)
flows_here number terminal old was agree stands here =
    let are = subst (λ (h : Option ℕ). AreTransits h number old) here (flow_there number old was agree stands) in
    record { together = are.together; down = are.down; up = are.up }

pub stands_here : (number terminal : ℕ) (old : ByteWorld) (was : World) → EndsAgree was → WorldRepresents old was → (was.link number).term_here ≡ Some terminal
    → LinkRepresents (made_of terminal (connection_at number old.host) (transits_at number old) (slot_at terminal old)) (was.link number)
stands_here number terminal old was agree stands here =
    subst (λ (h : Option ℕ). LinkRepresents (link_with h number old) (was.link number)) here (link_there number old was agree stands)

-- what becomes of the world over bytes: all else is as it was
pub record BytesWent (number terminal : ℕ) (connection : Connection) (transits : Transits) (slot : TerminalSlot) (old new : ByteWorld) : Type 0 where
  pub connection_is : connection_at number new.host ≡ connection
  pub transits_are : transits_at number new ≡ transits
  pub slot_is : slot_at terminal new ≡ slot
  pub other_connections : (other : ℕ) → other ≢ number → connection_at other new.host ≡ connection_at other old.host
  pub other_transits : (other : ℕ) → other ≢ number → transits_at other new ≡ transits_at other old
  pub other_slots : (other : ℕ) → other ≢ terminal → slot_at other new ≡ slot_at other old
  pub connection_count : length new.host.connections ≡ length old.host.connections
  pub serves : new.host.terminals ≡ old.host.terminals
  pub way_count : length new.links ≡ length old.links
  pub slot_count : length new.slots ≡ length old.slots
  pub pool : new.host.pool ≡ old.host.pool
  pub panels : new.host.panels ≡ old.host.panels

-- and of the world over messages: the terminal stays at its connection
pub record TermWent (number terminal : ℕ) (link : Link) (was now : World) : Type 0 where
  pub link_is : now.link number ≡ link
  pub here : link.term_here ≡ Some terminal
  pub place_is : now.place terminal ≡ Place.At number
  pub other_links : (other : ℕ) → other ≢ number → now.link other ≡ was.link other
  pub other_places : (other : ℕ) → other ≢ terminal → now.place other ≡ was.place other
  pub terminals : now.terminals ≡ was.terminals
  pub world_serves : now.serves ≡ was.serves
  pub pool : now.pool ≡ was.pool

-- what stands in the one and in the other
pub record EndRepresents (number terminal : ℕ) (connection : Connection) (transits : Transits) (slot : TerminalSlot) (link : Link) : Type 0 where
  pub none_closed : IsNotClosed connection.service
  pub settled : IsSettled connection
  pub flows : AreFlows connection transits slot
  pub at : slot.at ≡ Some number
  pub stands : LinkRepresents (made_of terminal connection transits slot) link

module _ (number terminal : ℕ) (connection : Connection) (transits : Transits) (slot : TerminalSlot) (old new : ByteWorld) (link : Link) (was now : World)
    (bytes : BytesWent number terminal connection transits slot old new) (went : TermWent number terminal link was now)
    (end : EndRepresents number terminal connection transits slot link) where
  -- what holds of the parts holds of those that the world has
  its_parts : (P : Connection → Transits → TerminalSlot → Type 0) → P connection transits slot → P (connection_at number new.host) (transits_at number new) (slot_at terminal new)
  its_parts P holds =
      subst (λ (l : Connection). P l (transits_at number new) (slot_at terminal new)) (sym bytes.connection_is)
      (subst (λ (w : Transits). P connection w (slot_at terminal new)) (sym bytes.transits_are)
      (subst (λ (s : TerminalSlot). P connection transits s) (sym bytes.slot_is) holds))

  its_flows : AreTransits (Some terminal) number new
  its_flows =
      let flows : AreFlows (connection_at number new.host) (transits_at number new) (slot_at terminal new) = its_parts (λ l w s. AreFlows l w s) end.flows in
      record { together = flows.together; down = flows.down; up = flows.up }

  its_link : LinkRepresents (link_with (Some terminal) number new) link
  its_link = its_parts (λ l w s. LinkRepresents (made_of terminal l w s) link) end.stands

  -- So the world over bytes stands for that over messages.
  pub term_went_stands : WorldRepresents old was → EndsAgree was → EndsAgree now → was.place terminal ≡ Place.At number → WorldRepresents new now
  term_went_stands stands agree agrees place =
      changed_stands number terminal old new was now
      (record {
        connections = bytes.other_connections;
        transits = bytes.other_transits;
        slots = bytes.other_slots;
        links = went.other_links;
        places = went.other_places;
        connection_count = bytes.connection_count;
        serves = bytes.serves;
        way_count = bytes.way_count;
        slot_count = bytes.slot_count;
        terminals = went.terminals;
        world_serves = went.world_serves;
        pool = bytes.pool ∙ stands.pool ∙ sym went.pool;
        before = subst (λ (p : Place). IsHere number p) (sym place) refl;
        behind = subst (λ (p : Place). IsHere number p) (sym went.place_is) refl;
        none_closed = subst (λ (l : Connection). IsNotClosed l.service) (sym bytes.connection_is) end.none_closed;
        settled = subst (λ (l : Connection). IsSettled l) (sym bytes.connection_is) end.settled;
        flow = subst (λ (h : Option ℕ). AreTransits h number new) (sym (ap (λ (l : Link). l.term_here) went.link_is ∙ went.here)) its_flows;
        link = subst (λ (l : Link). LinkRepresents (link_with l.term_here number new) l) (sym went.link_is)
            (subst (λ (h : Option ℕ). LinkRepresents (link_with h number new) link) (sym went.here) its_link);
        place = subst (λ (p : Place). IsAt (slot_at terminal new) p) (sym went.place_is) (ap (λ (s : TerminalSlot). s.at) bytes.slot_is ∙ end.at);
      })
      agree stands agrees

-- ---- a terminal goes on alone

-- No connection changes: one that isn't there takes the place of the one that does.
pub alone_stands : (terminal : ℕ) (slot : TerminalSlot) (display : Display) (old : ByteWorld) (was : World) → EndsAgree was → WorldRepresents old was
    → terminal < length old.slots → (slot_at terminal old).at ≡ None → IsAt slot (Place.Alone display) → EndsAgree (with_place terminal (Place.Alone display) was)
    → WorldRepresents (with_slot terminal slot old) (with_place terminal (Place.Alone display) was)
alone_stands terminal slot display old was agree stands there_is alone is_alone agrees =
    let new : ByteWorld = with_slot terminal slot old in
    let now : World = with_place terminal (Place.Alone display) was in
    let beyond : ℕ = length old.links in
    let nobody : (was.link beyond).term_here ≡ None = none_beyond beyond old was agree stands (le_refl beyond) in
    let goes : now.place terminal ≡ Place.Alone display = with_same terminal (Place.Alone display) was.place in
    changed_stands beyond terminal old new was now
    (record {
      connections = λ other differs. refl;
      transits = λ other differs. refl;
      slots = λ other differs. slot_other terminal other slot old differs;
      links = λ other differs. refl;
      places = λ other differs. with_other terminal other (Place.Alone display) was.place differs;
      connection_count = refl;
      serves = refl;
      way_count = refl;
      slot_count = length-set old.slots terminal slot;
      terminals = refl;
      world_serves = refl;
      pool = stands.pool;
      before = alone_there (slot_at terminal old) (was.place terminal) beyond alone (stands.places terminal);
      behind = subst (λ (p : Place). IsHere beyond p) (sym goes) tt;
      none_closed = stands.none_closed beyond;
      settled = stands.settled beyond;
      flow = subst (λ (h : Option ℕ). AreTransits h beyond new) (sym nobody)
          (let none = subst (λ (h : Option ℕ). AreTransits h beyond old) nobody (flow_there beyond old was agree stands) in
          record { together = none.together; down = none.down; up = none.up });
      link = subst (λ (h : Option ℕ). LinkRepresents (link_with h beyond new) (was.link beyond)) (sym nobody)
          (subst (λ (h : Option ℕ). LinkRepresents (link_with h beyond old) (was.link beyond)) nobody (link_there beyond old was agree stands));
      place = subst (λ (s : TerminalSlot). IsAt s (now.place terminal)) (sym (slot_same terminal slot old there_is))
          (subst (λ (p : Place). IsAt slot p) (sym goes) is_alone);
    })
    agree stands agrees
