-- Who is at which connection of a world over bytes, what stands there, and what stays where one connection and one terminal change.
use Rattle.std.proofs.Common.{◌≡◌, ◌≢◌, ◌⊎◌, inl, inr, ◌<◌, ◌≤◌, ◌+◌, not, ℕ, zero, suc, Bool, true, false, Option, None, Some, is_some, List, [], ◌∷◌, length, slice_index_or, le_refl, refl, ap, sym, subst, ◌∙◌, arith, cond}
use Rattle.std.specs.Prelude.{⊤}
use Rattle.std.specs.List.{position_from}
use Rattle.std.proofs.lemmas.Bool.{cases_lt, eqb-true}
use Rattle.std.proofs.lemmas.Iterator.Adapters.{position_from-zero}
use Rattle.std.proofs.lemmas.List.{get_or_past, get_or-set_same, get_or-set_other}
use Rattle.std.proofs.lemmas.List.Quantifiers.{position-Some}
use Rattle.telnet_wire.specs.Reading.{Rest}
use Rattle.host_core.specs.Session.{Session}
use Rattle.host_core.specs.State.{Host, Connection, unused, most_connections, connection_at, state_at, with_connection}
use Rattle.world3270.specs.model.ByteWorld.{ByteWorld, Transits, TerminalSlot, under_way, is_live, is_there, unused_transits, no_slot, transits_at, slot_at, with_transits, with_slot, is_attached_to, terminal_at, host_there, host_out, out_of}
use Rattle.world3270.specs.model.Link.{Link}
use Rattle.world3270.specs.model.Places.{EndsAgree}
use Rattle.world3270.specs.model.TrackedTerminals.{TrackedTerminal}
use Rattle.world3270.specs.refinement.Representation.{WorldRepresents, IsFlow, IsAt, IsNotClosed, IsSettled, AreTransits, conn_of, rest_of, with_out, tracked_of, link_with}
use Rattle.world3270.specs.refinement.Represents.{ByteLink, LinkRepresents}
use Rattle.world3270.specs.model.World.{Place, World}
use Rattle.world3270.proofs.OneOfMany.{one_or_another, same_number}

-- ---- one of many

pub transits_same : (number : ℕ) (transits : Transits) (world : ByteWorld) → number < length world.links → transits_at number (with_transits number transits world) ≡ transits
transits_same number transits world below = get_or-set_same world.links number transits unused_transits below

pub transits_other : (number other : ℕ) (transits : Transits) (world : ByteWorld) → other ≢ number → transits_at other (with_transits number transits world) ≡ transits_at other world
transits_other number other transits world differs = get_or-set_other world.links number other transits unused_transits differs

pub slot_same : (terminal : ℕ) (slot : TerminalSlot) (world : ByteWorld) → terminal < length world.slots
    → slot_at terminal (with_slot terminal slot world) ≡ slot
slot_same terminal slot world below = get_or-set_same world.slots terminal slot no_slot below

pub slot_other : (terminal other : ℕ) (slot : TerminalSlot) (world : ByteWorld) → other ≢ terminal
    → slot_at other (with_slot terminal slot world) ≡ slot_at other world
slot_other terminal other slot world differs = get_or-set_other world.slots terminal other slot no_slot differs

pub connection_same : (number : ℕ) (connection : Connection) (host : Host) → number < length host.connections → connection_at number (with_connection number connection host) ≡ connection
connection_same number connection host below = get_or-set_same host.connections number connection unused below

pub connection_other : (number other : ℕ) (connection : Connection) (host : Host) → other ≢ number → connection_at other (with_connection number connection host) ≡ connection_at other host
connection_other number other connection host differs = get_or-set_other host.connections number other connection unused differs

-- ---- a connection

-- it is made of these parts
abbrev pub of_parts : Bool → List ℕ → List ℕ → Bool → Session → Rest → Option ℕ → TrackedTerminal → ByteLink
of_parts lost down up there conn rest here tracked =
    record { lost = lost; down = down; up = up; host_here = there; host = conn; host_rest = rest; term_here = here; tracked = tracked }

-- and of these parts of the world
abbrev pub with_parts : Option ℕ → Connection → Transits → List ℕ → TrackedTerminal → ByteLink
with_parts here connection transits out tracked =
    of_parts (not (is_live transits.down)) (under_way transits.down connection.out) (under_way transits.up out) (is_there connection.service) (conn_of connection.service) (rest_of connection.service) here tracked

-- ---- who is at a connection

attached_slot : (number : ℕ) (at : Option ℕ) → is_attached_to number at ≡ true → at ≡ Some number
attached_slot number None e = absurd (cc)
attached_slot number (Some at) e = ap (λ (n : ℕ). Some n) (eqb-true at number e)

pub found_sits : (number terminal : ℕ) (world : ByteWorld) → terminal_at number world.slots ≡ Some terminal → (slot_at terminal world).at ≡ Some number
found_sits number terminal world found =
    attached_slot number (slot_at terminal world).at (position-Some (λ slot. is_attached_to number slot.at) world.slots terminal no_slot found).1

-- and it is one of those that there are
pub found_within : (number terminal : ℕ) (world : ByteWorld) → terminal_at number world.slots ≡ Some terminal → terminal < length world.slots
found_within number terminal world found = (position-Some (λ slot. is_attached_to number slot.at) world.slots terminal no_slot found).0

-- where no place is found no element passes
none_passes : {X : Type 0} (test : X → Bool) (xs : List X) (start : ℕ) (beyond : X) → position_from test start xs ≡ None → test beyond ≡ false
    → (place : ℕ) → test (slice_index_or xs place beyond) ≡ false
none_passes test [] start beyond none fails place = fails
none_passes test (x ∷ xs) start beyond none fails place = by_test (test x) refl none place (none_passes test xs (start + 1) beyond)
  where
    by_test : (b : Bool) → test x ≡ b → cond b (Some start) (position_from test (start + 1) xs) ≡ None → (place : ℕ)
        → (position_from test (start + 1) xs ≡ None → test beyond ≡ false → (at : ℕ) → test (slice_index_or xs at beyond) ≡ false)
        → test (slice_index_or (x ∷ xs) place beyond) ≡ false
    by_test true e found place others = absurd (cc)
    by_test false e found zero others = e
    by_test false e found (suc place) others = others found fails place

none_sits : (number terminal : ℕ) (world : ByteWorld) → terminal_at number world.slots ≡ None → (slot_at terminal world).at ≡ Some number → ⊥
none_sits number terminal world none at =
    let test : TerminalSlot → Bool = λ slot. is_attached_to number slot.at in
    let fails = none_passes test world.slots 0 no_slot (sym (position_from-zero test world.slots) ∙ none) refl terminal in
    let passes : is_attached_to number (slot_at terminal world).at ≡ true = ap (is_attached_to number) at ∙ same_number number in
    absurd (cc)

pub at_place : (slot : TerminalSlot) (place : Place) (number : ℕ) → IsAt slot place → slot.at ≡ Some number → place ≡ Place.At number
at_place slot (Place.At at) number is e = let same : Some at ≡ Some number = sym is ∙ e in cc
at_place slot (Place.Alone display) number is e = let alone = is.0 in absurd (cc)

place_at : (slot : TerminalSlot) (place : Place) (number : ℕ) → IsAt slot place → place ≡ Place.At number → slot.at ≡ Some number
place_at slot place number is e = subst (λ (p : Place). IsAt slot p) e is

-- Who is at a connection is told by the places of terminals, since both ends agree.
pub who_is_there : (bytes : ByteWorld) (world : World) (number : ℕ) → EndsAgree world → ((terminal : ℕ) → IsAt (slot_at terminal bytes) (world.place terminal))
    → terminal_at number bytes.slots ≡ (world.link number).term_here
who_is_there bytes world number agree places = by_found (terminal_at number bytes.slots) refl (world.link number).term_here refl
  where
    by_found : (found : Option ℕ) → terminal_at number bytes.slots ≡ found → (here : Option ℕ) → (world.link number).term_here ≡ here → found ≡ here
    by_found None is None held = refl
    by_found None is (Some terminal) held =
        absurd (none_sits number terminal bytes is
        (place_at (slot_at terminal bytes) (world.place terminal) number (places terminal) ((agree terminal number).1 held)))
    by_found (Some terminal) is here held =
        let sat = found_sits number terminal bytes is in
        sym ((agree terminal number).0 (at_place (slot_at terminal bytes) (world.place terminal) number (places terminal) sat)) ∙ held

-- where the terminals are as they were, so is what each has to send, and what each is
pub sits_same : (here : Option ℕ) (old new : ByteWorld) → new.slots ≡ old.slots → (out_of here new ≡ out_of here old) × (tracked_of here new ≡ tracked_of here old)
sits_same None old new same = (refl, refl)
sits_same (Some terminal) old new same = (
  ap (λ (s : List TerminalSlot). (slice_index_or s terminal no_slot).tracked.terminal.out) same,
  ap (λ (s : List TerminalSlot). with_out [] (slice_index_or s terminal no_slot).tracked) same,
)

-- a terminal is at this connection, or alone
abbrev pub IsHere : ℕ → Place → Type 0
IsHere number (Place.At at) = at ≡ number
IsHere number (Place.Alone display) = ⊤

pub alone_there : (slot : TerminalSlot) (place : Place) (number : ℕ) → slot.at ≡ None → IsAt slot place → IsHere number place
alone_there slot (Place.At at) number none is = absurd (cc)
alone_there slot (Place.Alone display) number none is = tt

-- a number beyond all is no terminal's: nobody is there
pub beyond_is_alone : (number : ℕ) (old : ByteWorld) (was : World) → WorldRepresents old was → IsHere number (was.place (length old.slots))
beyond_is_alone number old was stands =
    let beyond : ℕ = length old.slots in
    alone_there (slot_at beyond old) (was.place beyond) number
    (ap (λ (s : TerminalSlot). s.at) (get_or_past old.slots beyond no_slot (le_refl beyond))) (stands.places beyond)

-- ---- what stands on a connection

-- it is one of those that there are
pub way_within : (number : ℕ) (old : ByteWorld) (was : World) → WorldRepresents old was → number < most_connections → number < length old.links
way_within number old was stands below = subst (λ (n : ℕ). number < n) (sym stands.transits) below

pub connection_within : (number : ℕ) (old : ByteWorld) (was : World) → WorldRepresents old was → number < most_connections → number < length old.host.connections
connection_within number old was stands below = subst (λ (n : ℕ). number < n) (sym stands.connections) below

-- where the host is nothing is said of what it has to send
pub there_settled : (connection : Connection) → is_there connection.service ≡ true → IsSettled connection
there_settled connection there free = absurd (cc)

module _ (number : ℕ) (old : ByteWorld) (was : World) (agree : EndsAgree was) (stands : WorldRepresents old was) where
  abbrev here : Option ℕ
  here = (was.link number).term_here

  pub who_was_there : terminal_at number old.slots ≡ here
  who_was_there = who_is_there old was number agree stands.places

  pub flow_there : AreTransits here number old
  flow_there = subst (λ (h : Option ℕ). AreTransits h number old) who_was_there (stands.flows number)

  pub link_there : LinkRepresents (link_with here number old) (was.link number)
  link_there = subst (λ (h : Option ℕ). LinkRepresents (link_with h number old) (was.link number)) who_was_there (stands.links number)

  -- who holds an end is at one of the connections that there are
  pub is_within : (terminal : ℕ) → here ≡ Some terminal → number < length old.links
  is_within terminal held = by_order (cases_lt number (length old.links))
    where
      by_order : (number < length old.links) ⊎ (length old.links ≤ number) → number < length old.links
      by_order (inl below) = below
      by_order (inr past) =
          let none : is_some here ≡ false = subst (λ (w : Transits). IsFlow (is_some here) (out_of here old) w.up) (get_or_past old.links number unused_transits past) flow_there.up in
          let some : is_some here ≡ true = ap (λ (h : Option ℕ). is_some h) held in
          absurd (cc)

  pub none_beyond : length old.links ≤ number → here ≡ None
  none_beyond past = by_here here refl
    where
      by_here : (h : Option ℕ) → here ≡ h → h ≡ None
      by_here None holds = refl
      by_here (Some terminal) holds = let below = is_within terminal holds in absurd (omega arith)

-- ---- one connection and one terminal change

-- What stands on the connection and at the terminal is given; all others are as they were, over bytes and over messages.
pub record Changed (number terminal : ℕ) (old new : ByteWorld) (was now : World) : Type 0 where
  pub connections : (other : ℕ) → other ≢ number → connection_at other new.host ≡ connection_at other old.host
  pub transits : (other : ℕ) → other ≢ number → transits_at other new ≡ transits_at other old
  pub slots : (other : ℕ) → other ≢ terminal → slot_at other new ≡ slot_at other old
  pub links : (other : ℕ) → other ≢ number → now.link other ≡ was.link other
  pub places : (other : ℕ) → other ≢ terminal → now.place other ≡ was.place other
  pub connection_count : length new.host.connections ≡ length old.host.connections
  pub serves : new.host.terminals ≡ old.host.terminals
  pub way_count : length new.links ≡ length old.links
  pub slot_count : length new.slots ≡ length old.slots
  pub terminals : now.terminals ≡ was.terminals
  pub world_serves : now.serves ≡ was.serves
  pub pool : new.host.pool ≡ now.pool
  pub before : IsHere number (was.place terminal)
  pub behind : IsHere number (now.place terminal)
  pub none_closed : IsNotClosed (state_at number new.host)
  pub settled : IsSettled (connection_at number new.host)
  pub flow : AreTransits (now.link number).term_here number new
  pub link : LinkRepresents (link_with (now.link number).term_here number new) (now.link number)
  pub place : IsAt (slot_at terminal new) (now.place terminal)

-- who is at another connection isn't the terminal that changes
other_there : (number other : ℕ) (place : Place) → other ≢ number → IsHere number place → place ≡ Place.At other → ⊥
other_there number other (Place.At at) differs here e = let same : at ≡ other = cc in differs (sym same ∙ here)
other_there number other (Place.Alone display) differs here e = absurd (cc)

module _ (number terminal : ℕ) (old new : ByteWorld) (was now : World) (c : Changed number terminal old new was now) (agree : EndsAgree was) (stands : WorldRepresents old was) where
  place_stands : (other : ℕ) → IsAt (slot_at other new) (now.place other)
  place_stands = one_or_another (λ (other : ℕ). IsAt (slot_at other new) (now.place other)) terminal c.place
      (λ other differs. subst (λ (p : Place). IsAt (slot_at other new) p) (sym (c.places other differs))
      (subst (λ (s : TerminalSlot). IsAt s (was.place other)) (sym (c.slots other differs)) (stands.places other)))

  -- what the terminal at another connection is, and has to send
  tracked_stays : (other : ℕ) → other ≢ number → (here : Option ℕ) → (was.link other).term_here ≡ here
      → (out_of here new ≡ out_of here old) × (tracked_of here new ≡ tracked_of here old)
  tracked_stays other differs None held = (refl, refl)
  tracked_stays other differs (Some there) held =
      let another : there ≢ terminal = λ (e : there ≡ terminal). other_there number other (was.place terminal) differs c.before
      ((agree terminal other).1 (held ∙ ap (λ (t : ℕ). Some t) e)) in
      let same = c.slots there another in
      (ap (λ (s : TerminalSlot). s.tracked.terminal.out) same, ap (λ (s : TerminalSlot). with_out [] s.tracked) same)

  -- another connection is as it was
  link_stays : (other : ℕ) → other ≢ number → (here : Option ℕ) → (was.link other).term_here ≡ here → link_with here other new ≡ link_with here other old
  link_stays other differs here held =
      let connection = c.connections other differs in
      let way = c.transits other differs in
      let tracked = tracked_stays other differs here held in
      ap (λ (l : Connection). with_parts here l (transits_at other new) (out_of here new) (tracked_of here new)) connection
      ∙ ap (λ (w : Transits). with_parts here (connection_at other old.host) w (out_of here new) (tracked_of here new)) way
      ∙ ap (λ (o : List ℕ). with_parts here (connection_at other old.host) (transits_at other old) o (tracked_of here new)) tracked.0
      ∙ ap (λ (s : TrackedTerminal). with_parts here (connection_at other old.host) (transits_at other old) (out_of here old) s) tracked.1

  flow_stays : (other : ℕ) → other ≢ number → (here : Option ℕ) → (was.link other).term_here ≡ here → AreTransits here other old → AreTransits here other new
  flow_stays other differs here held are =
      let way = c.transits other differs in
      let connection = c.connections other differs in
      record {
        together = subst (λ (w : Transits). is_live w.up ≡ is_live w.down) (sym way) are.together;
        down = subst (λ (w : Transits). IsFlow (host_there other new) (host_out other new) w.down) (sym way)
            (subst (λ (l : Connection). IsFlow (is_there l.service) l.out (transits_at other old).down) (sym connection) are.down);
        up = subst (λ (w : Transits). IsFlow (is_some here) (out_of here new) w.up) (sym way)
            (subst (λ (o : List ℕ). IsFlow (is_some here) o (transits_at other old).up) (sym (tracked_stays other differs here held).0) are.up);
      }

  now_there : EndsAgree now → (other : ℕ) → terminal_at other new.slots ≡ (now.link other).term_here
  now_there agrees other = who_is_there new now other agrees place_stands

  link_stands : (other : ℕ) → LinkRepresents (link_with (now.link other).term_here other new) (now.link other)
  link_stands = one_or_another (λ (other : ℕ). LinkRepresents (link_with (now.link other).term_here other new) (now.link other)) number c.link
      (λ other differs. subst (λ (l : Link). LinkRepresents (link_with l.term_here other new) l) (sym (c.links other differs))
      (subst (λ (b : ByteLink). LinkRepresents b (was.link other)) (sym (link_stays other differs (was.link other).term_here refl))
      (link_there other old was agree stands)))

  flow_stands : (other : ℕ) → AreTransits (now.link other).term_here other new
  flow_stands = one_or_another (λ (other : ℕ). AreTransits (now.link other).term_here other new) number c.flow
      (λ other differs. subst (λ (l : Link). AreTransits l.term_here other new) (sym (c.links other differs))
      (flow_stays other differs (was.link other).term_here refl (flow_there other old was agree stands)))

  closed_stands : (other : ℕ) → IsNotClosed (state_at other new.host)
  closed_stands = one_or_another (λ (other : ℕ). IsNotClosed (state_at other new.host)) number c.none_closed
      (λ other differs. subst (λ (l : Connection). IsNotClosed l.service) (sym (c.connections other differs)) (stands.none_closed other))

  settled_stands : (other : ℕ) → IsSettled (connection_at other new.host)
  settled_stands = one_or_another (λ (other : ℕ). IsSettled (connection_at other new.host)) number c.settled
      (λ other differs. subst (λ (l : Connection). IsSettled l) (sym (c.connections other differs)) (stands.settled other))

  -- So the world stands for the one after the change.
  pub changed_stands : EndsAgree now → WorldRepresents new now
  changed_stands agrees = record {
    connections = c.connection_count ∙ stands.connections;
    transits = c.way_count ∙ stands.transits;
    terminals = c.slot_count ∙ stands.terminals ∙ sym c.terminals;
    pool = c.pool;
    serves = c.serves ∙ stands.serves ∙ sym c.world_serves;
    none_closed = closed_stands;
    settled = settled_stands;
    flows = λ other. subst (λ (h : Option ℕ). AreTransits h other new) (sym (now_there agrees other)) (flow_stands other);
    links = λ other. subst (λ (h : Option ℕ). LinkRepresents (link_with h other new) (now.link other)) (sym (now_there agrees other)) (link_stands other);
    places = place_stands;
  }
