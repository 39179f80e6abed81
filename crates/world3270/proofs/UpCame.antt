-- What stays of a world over bytes, and what it stands for, where bytes came up to its host.
use Rattle.std.proofs.Common.{◌≡◌, ◌≢◌, ◌<◌, ◌-◌, not, ℕ, suc, Bool, true, false, Option, None, Some, is_some, List, [], ◌∷◌, ◌++◌, drop, length, slice_index_or, slice_set, refl, ap, sym, subst, ◌∙◌, arith, if◌then◌else◌}
use Rattle.std.specs.Prelude.{⊤}
use Rattle.std.proofs.Math.Seq.{drop-nil}
use Rattle.std.proofs.lemmas.List.{length-set, set-get_or, set-set}
use Rattle.telnet_wire.specs.Reading.{Rest}
use Rattle.host_core.specs.Bytes.{ConnectionAndPool}
use Rattle.host_core.specs.Feeds.{connection_and_pool_at, with_connection_and_pool}
use Rattle.host_core.specs.Session.{Session}
use Rattle.host_core.specs.State.{Host, Service, Connection, most_connections, connection_at, state_at, unused}
use Rattle.world3270.specs.model.ByteSteps.{is_lost, sent_of, terminal_told, up_came}
use Rattle.world3270.specs.model.ByteWorld.{ByteWorld, Transit, Transits, TerminalSlot, under_way, came, is_live, is_senders, is_there, unused_transits, no_slot, transits_at, slot_at, with_transits, with_host, terminal_at, host_there, host_out, out_of, down_of, up_of}
use Rattle.world3270.specs.model.Link.{Link, sent}
use Rattle.world3270.specs.model.Places.{EndsAgree}
use Rattle.world3270.specs.model.TrackedTerminals.{TrackedTerminal}
use Rattle.world3270.specs.refinement.Representation.{WorldRepresents, IsFlow, IsAt, IsNotClosed, AreTransits, conn_of, rest_of, with_out, tracked_of, link_with}
use Rattle.world3270.specs.refinement.Represents.{ByteLink, LinkRepresents}
use Rattle.world3270.specs.model.World.{Place, World}
use Rattle.world3270.proofs.Frames.{transits_same, transits_other, slot_same, slot_other, connection_same, connection_other, IsHere, Changed, beyond_is_alone, changed_stands, found_within, connection_within, of_parts, sits_same, there_settled, who_was_there, way_within, who_is_there}
use Rattle.world3270.proofs.UnderWay.{came_flows, came_live, came_senders, came_under_way, more_flows, more_under_way}

-- ---- a terminal's bytes are sent

-- the terminals once so many bytes of one, if one is there, are sent
abbrev terminals_told : Bool → ℕ → Option ℕ → List TerminalSlot → List TerminalSlot
terminals_told true count (Some terminal) slots = slice_set slots terminal (sent_of count (slice_index_or slots terminal no_slot))
terminals_told true count None slots = slots
terminals_told false count here slots = slots

told_host : (senders : Bool) (count : ℕ) (here : Option ℕ) (world : ByteWorld) → (terminal_told senders count here world).host ≡ world.host
told_host true count (Some terminal) world = refl
told_host true count None world = refl
told_host false count here world = refl

told_links : (senders : Bool) (count : ℕ) (here : Option ℕ) (world : ByteWorld) → (terminal_told senders count here world).links ≡ world.links
told_links true count (Some terminal) world = refl
told_links true count None world = refl
told_links false count here world = refl

told_terminals : (senders : Bool) (count : ℕ) (here : Option ℕ) (world : ByteWorld)
    → (terminal_told senders count here world).slots ≡ terminals_told senders count here world.slots
told_terminals true count (Some terminal) world = refl
told_terminals true count None world = refl
told_terminals false count here world = refl

-- the terminal that is there; where none is, a number that none has
abbrev which : Option ℕ → List TerminalSlot → ℕ
which None slots = length slots
which (Some terminal) slots = terminal

abbrev IsIn : Option ℕ → List TerminalSlot → Type 0
IsIn None slots = ⊤
IsIn (Some terminal) slots = terminal < length slots

is_in : (number : ℕ) (here : Option ℕ) (world : ByteWorld) → terminal_at number world.slots ≡ here → IsIn here world.slots
is_in number None world e = tt
is_in number (Some terminal) world e = found_within number terminal world e

told_count : (senders : Bool) (count : ℕ) (here : Option ℕ) (world : ByteWorld) → length (terminal_told senders count here world).slots ≡ length world.slots
told_count true count (Some terminal) world = length-set world.slots terminal (sent_of count (slot_at terminal world))
told_count true count None world = refl
told_count false count here world = refl

told_other : (senders : Bool) (count : ℕ) (here : Option ℕ) (world : ByteWorld) (other : ℕ) → other ≢ which here world.slots
    → slot_at other (terminal_told senders count here world) ≡ slot_at other world
told_other true count (Some terminal) world other differs = slot_other terminal other (sent_of count (slot_at terminal world)) world differs
told_other true count None world other differs = refl
told_other false count here world other differs = refl

told_out : (senders : Bool) (count : ℕ) (here : Option ℕ) (world : ByteWorld) → IsIn here world.slots
    → out_of here (terminal_told senders count here world) ≡ (if senders then drop count (out_of here world) else out_of here world)
told_out true count (Some terminal) world below =
    ap (λ (s : TerminalSlot). s.tracked.terminal.out) (slot_same terminal (sent_of count (slot_at terminal world)) world below)
told_out true count None world below = sym (drop-nil count)
told_out false count here world below = refl

told_terminal : (senders : Bool) (count : ℕ) (here : Option ℕ) (world : ByteWorld) → IsIn here world.slots
    → tracked_of here (terminal_told senders count here world) ≡ tracked_of here world
told_terminal true count (Some terminal) world below =
    ap (λ (s : TerminalSlot). with_out [] s.tracked) (slot_same terminal (sent_of count (slot_at terminal world)) world below)
told_terminal true count None world below = refl
told_terminal false count here world below = refl

sent_is_at : (count : ℕ) (slot : TerminalSlot) (place : Place) → IsAt slot place → IsAt (sent_of count slot) place
sent_is_at count slot (Place.At number) is = is
sent_is_at count slot (Place.Alone display) is =
    let alone = is.1 in (
      is.0,
      record {
        detached = alone.detached;
        silent = ap (drop count) alone.silent ∙ drop-nil count;
        screen = alone.screen;
        keyboard = alone.keyboard;
        last_restored = alone.last_restored;
        before_restored = alone.before_restored;
        erased = alone.erased;
      },
    )

told_place : (senders : Bool) (count : ℕ) (here : Option ℕ) (world : ByteWorld) (place : Place) → IsIn here world.slots
    → IsAt (slot_at (which here world.slots) world) place → IsAt (slot_at (which here world.slots) (terminal_told senders count here world)) place
told_place true count (Some terminal) world place below is =
    subst (λ (s : TerminalSlot). IsAt s place) (sym (slot_same terminal (sent_of count (slot_at terminal world)) world below))
    (sent_is_at count (slot_at terminal world) place is)
told_place true count None world place below is = is
told_place false count here world place below is = is

-- ---- bytes came up

-- the world once so many bytes came up from the terminal that is there, where they are the sender's, and the host has taken them
abbrev made : ℕ → ℕ → ConnectionAndPool → Bool → Option ℕ → ByteWorld → ByteWorld
made count number counter senders here old =
    with_transits number (record (transits_at number old) { up = came count (transits_at number old).up })
    (terminal_told senders count here (with_host (with_connection_and_pool number counter old.host) old))

abbrev pub took_up : ℕ → ℕ → ConnectionAndPool → ByteWorld → ByteWorld
took_up count number counter old = up_came count number (with_host (with_connection_and_pool number counter old.host) old)

world_same : (one other : ByteWorld) → one.host ≡ other.host → one.links ≡ other.links → one.slots ≡ other.slots → one ≡ other
world_same one other hosts links slots =
    ap (λ (h : Host). record { host = h; links = one.links; slots = one.slots }) hosts
    ∙ ap (λ (l : List Transits). record { host = other.host; links = l; slots = one.slots }) links
    ∙ ap (λ (s : List TerminalSlot). record { host = other.host; links = other.links; slots = s }) slots

came_zero : (under : Transit) → came 0 under ≡ under
came_zero Transit.Live = refl
came_zero (Transit.Cut kept) = let same : kept - 0 ≡ kept = omega arith in ap Transit.Cut same
came_zero (Transit.SenderGone bytes) = refl

drop_next : (count : ℕ) (bytes : List ℕ) → drop count (drop 1 bytes) ≡ drop (suc count) bytes
drop_next count [] = drop-nil count
drop_next count (byte ∷ bytes) = refl

came_next : (count : ℕ) (under : Transit) → came count (came 1 under) ≡ came (suc count) under
came_next count Transit.Live = refl
came_next count (Transit.Cut kept) = let same : kept - 1 - count ≡ kept - suc count = omega arith in ap Transit.Cut same
came_next count (Transit.SenderGone bytes) = ap Transit.SenderGone (drop_next count bytes)

terminals_none : (senders : Bool) (here : Option ℕ) (slots : List TerminalSlot) → terminals_told senders 0 here slots ≡ slots
terminals_none true (Some terminal) slots = set-get_or slots terminal no_slot
terminals_none true None slots = refl
terminals_none false here slots = refl

-- no bytes came
pub took_none : (number : ℕ) (world : ByteWorld) → took_up 0 number (connection_and_pool_at number world.host) world ≡ world
took_none number world =
    let here : Option ℕ = terminal_at number world.slots in
    let senders : Bool = is_senders (transits_at number world).up in
    let host : Host = with_connection_and_pool number (connection_and_pool_at number world.host) world.host in
    let mid : ByteWorld = with_host host world in
    world_same (took_up 0 number (connection_and_pool_at number world.host) world) world
    (told_host senders 0 here mid ∙ ap (λ ls. record world.host { connections = ls }) (set-get_or world.host.connections number unused))
    (ap (λ (l : List Transits). slice_set l number (record (transits_at number world) { up = came 0 (transits_at number world).up })) (told_links senders 0 here mid)
    ∙ ap (λ (u : Transit). slice_set world.links number (record (transits_at number world) { up = u })) (came_zero (transits_at number world).up)
    ∙ set-get_or world.links number unused_transits)
    (told_terminals senders 0 here mid ∙ terminals_none senders here world.slots)

terminals_next : (senders : Bool) (count : ℕ) (here : Option ℕ) (world : ByteWorld) → IsIn here world.slots
    → terminals_told senders count here (terminals_told senders 1 here world.slots) ≡ terminals_told senders (suc count) here world.slots
terminals_next true count (Some terminal) world below =
    let old : TerminalSlot = slot_at terminal world in
    let slots : List TerminalSlot = slice_set world.slots terminal (sent_of 1 old) in
    ap (λ (s : TerminalSlot). slice_set slots terminal (sent_of count s)) (slot_same terminal (sent_of 1 old) world below)
    ∙ set-set world.slots terminal (sent_of 1 old) (sent_of count (sent_of 1 old))
    ∙ ap (λ (o : List ℕ). slice_set world.slots terminal (record old { tracked = record old.tracked { terminal = record old.tracked.terminal { out = o } } }))
    (drop_next count old.tracked.terminal.out)
terminals_next true count None world below = refl
terminals_next false count here world below = refl

-- ---- what is there once one byte came

module _ (number : ℕ) (counter : ConnectionAndPool) (old : ByteWorld) (linked : number < length old.links) (lined : number < length old.host.connections) where
  abbrev here : Option ℕ
  here = terminal_at number old.slots

  abbrev senders : Bool
  senders = is_senders (transits_at number old).up

  abbrev mid : ByteWorld
  mid = with_host (with_connection_and_pool number counter old.host) old

  abbrev told : ByteWorld
  told = terminal_told senders 1 here mid

  abbrev transits : Transits
  transits = record (transits_at number old) { up = came 1 (transits_at number old).up }

  abbrev new : ByteWorld
  new = took_up 1 number counter old

  pub host_is : new.host ≡ with_connection_and_pool number counter old.host
  host_is = told_host senders 1 here mid

  links_are : new.links ≡ slice_set old.links number transits
  links_are = ap (λ (l : List Transits). slice_set l number transits) (told_links senders 1 here mid)

  transits_are : transits_at number new ≡ transits
  transits_are = transits_same number transits told (subst (λ (l : List Transits). number < length l) (sym (told_links senders 1 here mid)) linked)

  connection_is : connection_at number new.host ≡ counter.connection
  connection_is = ap (connection_at number) host_is ∙ connection_same number counter.connection (record old.host { pool = counter.pool }) lined

  pub counter_is : connection_and_pool_at number new.host ≡ counter
  counter_is =
      ap (λ (h : Host). record { pool = h.pool; connection = connection_at number new.host }) host_is
      ∙ ap (λ (l : Connection). record { pool = counter.pool; connection = l }) connection_is

  out_is : out_of here new ≡ (if senders then drop 1 (out_of here old) else out_of here old)
  out_is =
      (sits_same here told new refl).0 ∙ told_out senders 1 here mid (is_in number here old refl)
      ∙ ap (λ (o : List ℕ). if senders then drop 1 o else o) ((sits_same here old mid refl).0)

  up_is : under_way (transits_at number new).up (out_of here new) ≡ drop 1 (up_of number old)
  up_is =
      ap (λ (w : Transits). under_way w.up (out_of here new)) transits_are
      ∙ ap (under_way transits.up) out_is
      ∙ came_under_way 1 (transits_at number old).up (out_of here old)

  -- and then more
  pub took_next : (count : ℕ) (next : ConnectionAndPool) → terminal_at number new.slots ≡ here → took_up count number next new ≡ took_up (suc count) number next old
  took_next count next there =
      let again : ByteWorld = with_host (with_connection_and_pool number next new.host) new in
      let once : ByteWorld = with_host (with_connection_and_pool number next old.host) old in
      let transits_then : Transits = record transits { up = came count transits.up } in
      let same_senders : is_senders (transits_at number new).up ≡ senders =
      ap (λ (w : Transits). is_senders w.up) transits_are ∙ came_senders 1 (transits_at number old).up in
      ap (λ (h : Option ℕ). made count number next (is_senders (transits_at number new).up) h new) there
      ∙ ap (λ (b : Bool). made count number next b here new) same_senders
      ∙ world_same (made count number next senders here new) (took_up (suc count) number next old)
      (told_host senders count here again
      ∙ ap (with_connection_and_pool number next) host_is
      ∙ ap (λ ls. record old.host { pool = next.pool; connections = ls }) (set-set old.host.connections number counter.connection next.connection)
      ∙ sym (told_host senders (suc count) here once))
      (ap (λ (l : List Transits). slice_set l number (record (transits_at number new) { up = came count (transits_at number new).up })) (told_links senders count here again)
      ∙ ap (λ (w : Transits). slice_set new.links number (record w { up = came count w.up })) transits_are
      ∙ ap (λ (l : List Transits). slice_set l number transits_then) links_are
      ∙ set-set old.links number transits transits_then
      ∙ ap (λ (u : Transit). slice_set old.links number (record (transits_at number old) { up = u })) (came_next count (transits_at number old).up)
      ∙ ap (λ (l : List Transits). slice_set l number (record (transits_at number old) { up = came (suc count) (transits_at number old).up })) (sym (told_links senders (suc count) here once)))
      (told_terminals senders count here again
      ∙ ap (terminals_told senders count here) (told_terminals senders 1 here mid)
      ∙ terminals_next senders count here old (is_in number here old refl)
      ∙ sym (told_terminals senders (suc count) here once))

-- ---- what it stands for

-- the connection once the first byte came up, the host holds this of it and of its stream, and said more
abbrev pub heard : ℕ → Rest → Session → List ℕ → ByteWorld → ByteLink
heard number rest conn more old = record {
  lost = is_lost number old;
  down = sent (is_lost number old) (down_of number old) more;
  up = drop 1 (up_of number old);
  host_here = host_there number old;
  host = conn;
  host_rest = rest;
  term_here = terminal_at number old.slots;
  tracked = tracked_of (terminal_at number old.slots) old;
}

-- The host took a byte, and goes on: this stands on the connection, and all others are as they were.
pub record Taken (number : ℕ) (counter : ConnectionAndPool) (old : ByteWorld) (was now : World) : Type 0 where
  pub rest : Rest
  pub conn : Session
  pub more : List ℕ
  pub link : Link
  pub below : number < most_connections
  pub host_here : host_there number old ≡ true
  pub service : counter.connection.service ≡ Service.Open rest conn
  pub out : counter.connection.out ≡ host_out number old ++ more
  pub pool : counter.pool ≡ now.pool
  pub is_link : now.link number ≡ link
  pub others : (other : ℕ) → other ≢ number → now.link other ≡ was.link other
  pub term_here : link.term_here ≡ (was.link number).term_here
  pub places : now.place ≡ was.place
  pub terminals : now.terminals ≡ was.terminals
  pub world_serves : now.serves ≡ was.serves
  pub stands : LinkRepresents (heard number rest conn more old) link

-- the world stands for the one behind, with the same terminal there and the bytes behind the first under way
pub record Stood (number : ℕ) (old new : ByteWorld) (now : World) : Type 0 where
  pub stands : WorldRepresents new now
  pub there : terminal_at number new.slots ≡ terminal_at number old.slots
  pub queue : up_of number new ≡ drop 1 (up_of number old)

-- the terminal that is there is at this connection; and a number that no terminal has is at none
is_here : (number : ℕ) (there : Option ℕ) (old : ByteWorld) (was : World) → EndsAgree was → WorldRepresents old was → (was.link number).term_here ≡ there
    → IsHere number (was.place (which there old.slots))
is_here number None old was agree stands e = beyond_is_alone number old was stands
is_here number (Some terminal) old was agree stands e = subst (λ (p : Place). IsHere number p) (sym ((agree terminal number).1 e)) refl

module _ (number : ℕ) (counter : ConnectionAndPool) (old : ByteWorld) (was now : World) (t : Taken number counter old was now) (agree : EndsAgree was) (agrees : EndsAgree now)
    (stands : WorldRepresents old was) where
  linked : number < length old.links
  linked = way_within number old was stands t.below

  lined : number < length old.host.connections
  lined = connection_within number old was stands t.below

  abbrev at : Option ℕ
  at = terminal_at number old.slots

  abbrev after : ByteWorld
  after = took_up 1 number counter old

  abbrev way : Transits
  way = transits_at number old

  service_is : state_at number after.host ≡ Service.Open t.rest t.conn
  service_is = ap (λ (l : Connection). l.service) (connection_is number counter old linked lined) ∙ t.service

  there_is : host_there number after ≡ true
  there_is = ap is_there service_is

  said_is : host_out number after ≡ host_out number old ++ t.more
  said_is = ap (λ (l : Connection). l.out) (connection_is number counter old linked lined) ∙ t.out

  lost_is : is_lost number after ≡ is_lost number old
  lost_is = ap (λ (w : Transits). not (is_live w.down)) (transits_are number counter old linked lined)

  said_flow : IsFlow true (host_out number old) way.down
  said_flow = subst (λ (b : Bool). IsFlow b (host_out number old) way.down) t.host_here (stands.flows number).down

  down_is : down_of number after ≡ sent (is_lost number old) (down_of number old) t.more
  down_is =
      ap (λ (w : Transits). under_way w.down (host_out number after)) (transits_are number counter old linked lined)
      ∙ ap (under_way way.down) said_is
      ∙ more_under_way (host_out number old) t.more way.down said_flow

  tracked_is : tracked_of at after ≡ tracked_of at old
  tracked_is =
      let mid : ByteWorld = with_host (with_connection_and_pool number counter old.host) old in
      (sits_same at (terminal_told (is_senders way.up) 1 at mid) after refl).1
      ∙ told_terminal (is_senders way.up) 1 at mid (is_in number at old refl)
      ∙ (sits_same at old mid refl).1

  link_is : link_with at number after ≡ heard number t.rest t.conn t.more old
  link_is =
      let up : List ℕ = under_way (transits_at number after).up (out_of at after) in
      let service : Service = state_at number after.host in
      let down : List ℕ = sent (is_lost number old) (down_of number old) t.more in
      let queue : List ℕ = drop 1 (up_of number old) in
      ap (λ (l : Bool). of_parts l (down_of number after) up (is_there service) (conn_of service) (rest_of service) at (tracked_of at after)) lost_is
      ∙ ap (λ (d : List ℕ). of_parts (is_lost number old) d up (is_there service) (conn_of service) (rest_of service) at (tracked_of at after)) down_is
      ∙ ap (λ (u : List ℕ). of_parts (is_lost number old) down u (is_there service) (conn_of service) (rest_of service) at (tracked_of at after))
      (up_is number counter old linked lined)
      ∙ ap (λ (s : Service). of_parts (is_lost number old) down queue (is_there s) (conn_of s) (rest_of s) at (tracked_of at after)) service_is
      ∙ ap (λ (b : Bool). of_parts (is_lost number old) down queue b t.conn t.rest at (tracked_of at after)) (sym t.host_here)
      ∙ ap (λ (s : TrackedTerminal). of_parts (is_lost number old) down queue (host_there number old) t.conn t.rest at s) tracked_is

  flows : AreTransits at number after
  flows =
      let before = stands.flows number in
      let out : List ℕ = if is_senders way.up then drop 1 (out_of at old) else out_of at old in
      record {
        together = ap (λ (w : Transits). is_live w.up) (transits_are number counter old linked lined) ∙ came_live 1 way.up ∙ before.together
            ∙ ap (λ (w : Transits). is_live w.down) (sym (transits_are number counter old linked lined));
        down = subst (λ (w : Transits). IsFlow (host_there number after) (host_out number after) w.down) (sym (transits_are number counter old linked lined))
            (subst (λ (o : List ℕ). IsFlow (host_there number after) o way.down) (sym said_is)
            (subst (λ (b : Bool). IsFlow b (host_out number old ++ t.more) way.down) (sym there_is)
            (more_flows (host_out number old) t.more way.down said_flow)));
        up = subst (λ (w : Transits). IsFlow (is_some at) (out_of at after) w.up) (sym (transits_are number counter old linked lined))
            (subst (λ (o : List ℕ). IsFlow (is_some at) o (came 1 way.up)) (sym (out_is number counter old linked lined))
            (came_flows (is_some at) 1 (out_of at old) way.up before.up));
      }

  was_at : at ≡ (was.link number).term_here
  was_at = who_was_there number old was agree stands

  now_at : (now.link number).term_here ≡ at
  now_at = ap (λ (l : Link). l.term_here) t.is_link ∙ t.term_here ∙ sym was_at

  place_was : IsHere number (was.place (which at old.slots))
  place_was = is_here number at old was agree stands (sym was_at)

  changed : Changed number (which at old.slots) old after was now
  changed =
      let told : ByteWorld = with_host (with_connection_and_pool number counter old.host) old in
      let host = host_is number counter old linked lined in
      record {
        connections = λ other differs. ap (connection_at other) host ∙ connection_other number other counter.connection (record old.host { pool = counter.pool }) differs;
        transits = λ other differs. ap (λ (l : List Transits). slice_index_or l other unused_transits) (links_are number counter old linked lined)
            ∙ transits_other number other (record way { up = came 1 way.up }) old differs;
        slots = λ other differs. told_other (is_senders way.up) 1 at told other differs;
        links = t.others;
        places = λ other differs. ap (λ (p : ℕ → Place). p other) t.places;
        connection_count = ap (λ (h : Host). length h.connections) host ∙ length-set old.host.connections number counter.connection;
        serves = ap (λ (h : Host). h.terminals) host;
        way_count = ap length (links_are number counter old linked lined) ∙ length-set old.links number (record way { up = came 1 way.up });
        slot_count = told_count (is_senders way.up) 1 at told;
        terminals = t.terminals;
        world_serves = t.world_serves;
        pool = ap (λ (h : Host). h.pool) host ∙ t.pool;
        before = place_was;
        behind = subst (λ (p : ℕ → Place). IsHere number (p (which at old.slots))) (sym t.places) place_was;
        none_closed = subst IsNotClosed (sym service_is) tt;
        settled = there_settled (connection_at number after.host) there_is;
        flow = subst (λ (h : Option ℕ). AreTransits h number after) (sym now_at) flows;
        link = subst (λ (h : Option ℕ). LinkRepresents (link_with h number after) (now.link number)) (sym now_at)
            (subst (λ (b : ByteLink). LinkRepresents b (now.link number)) (sym link_is)
            (subst (λ (l : Link). LinkRepresents (heard number t.rest t.conn t.more old) l) (sym t.is_link) t.stands));
        place = subst (λ (p : ℕ → Place). IsAt (slot_at (which at old.slots) after) (p (which at old.slots))) (sym t.places)
            (told_place (is_senders way.up) 1 at told (was.place (which at old.slots)) (is_in number at old refl) (stands.places (which at old.slots)));
      }

  pub one_stood : Stood number old after now
  one_stood =
      let all = changed_stands number (which at old.slots) old after was now changed agree stands agrees in
      let there : terminal_at number after.slots ≡ at = who_is_there after now number agrees all.places ∙ now_at in
      record {
        stands = all;
        there = there;
        queue = ap (λ (h : Option ℕ). under_way (transits_at number after).up (out_of h after)) there ∙ up_is number counter old linked lined;
      }
