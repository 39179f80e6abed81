-- Where a terminal connects the world over bytes stands for the one over messages in which it does; and so at the begin.
use Rattle.std.proofs.Common.{◌≡◌, ◌⊎◌, inl, inr, ◌<◌, ◌≤◌, ◌+◌, not, ℕ, zero, suc, Bool, true, false, Option, None, Some, List, [], length, replicate, slice_index_or, refl, ap, sym, subst, ◌∙◌, arith, if◌then◌else◌, map, ◌∷◌}
use Rattle.std.specs.List.{position_from}
use Rattle.std.proofs.lemmas.Bool.{cases_lt}
use Rattle.std.proofs.lemmas.Iterator.Adapters.{position_from-zero}
use Rattle.std.proofs.lemmas.List.{get_or_past, get_or-replicate, length-replicate, length-set, length-map}
use Rattle.codes3270.specs.Size.{model_2}
use Rattle.codes3270.specs.declared.size.Model.{Model}
use Rattle.codes3270.specs.declared.size.Model.TheVariants.{M2}
use Rattle.telnet_wire.specs.Reading.{nothing}
use Rattle.lu_pool.specs.declared.entry.Entry.{Entry}
use Rattle.panels.specs.Panel.{Panels}
use Rattle.host_core.specs.Application.{application_of}
use Rattle.host_core.specs.State.{Connection, unused, opened, connection_at, most_connections, with_opened}
use Rattle.world3270.specs.model.ByteSteps.{is_held, free_from}
use Rattle.world3270.specs.model.ByteWorld.{ByteWorld, Transits, TerminalSlot, under_way, is_live, is_there, unused_transits, begun_transits, model_at, new_slot, attached_slot, is_attached_to, new_byte_world, transits_at, slot_at, with_transits, with_slot, with_host, terminal_at, host_there, host_out, out_of}
use Rattle.world3270.specs.model.Link.{Link, begun, unused as unused_link}
use Rattle.world3270.specs.model.Places.{EndsAgree}
use Rattle.world3270.specs.refinement.Representation.{WorldRepresents, IsFlow, IsAt, IsNotClosed, IsSettled, AreTransits, conn_of, rest_of, with_out, link_with}
use Rattle.host_core.specs.declared.terminals.Terminals.{Terminals}
use Rattle.world3270.specs.refinement.Represents.{RepresentsUp, BytesUp, LinkRepresents, all_items}
use Rattle.world3270.specs.refinement.RepresentsLinks.{NothingRepresents, BeginRepresents, begun_bytes}
use Rattle.world3270.specs.model.Terminal.{new_display}
use Rattle.world3270.specs.model.World.{Place, World, new_world, with_at}
use Rattle.world3270.specs.model.TrackedTerminals.{newly_tracked}
use Rattle.world3270.proofs.Frames.{transits_same, transits_other, slot_same, slot_other, connection_same, connection_other, IsHere, alone_there, changed_stands}
use Rattle.world3270.proofs.OneOfMany.{with_other, with_same}
use Rattle.world3270.proofs.Partings.{like_stands}

-- ---- the least number that is free

pub found_below : (count number found : ℕ) (world : ByteWorld) → free_from count number world ≡ Some found → found < number + count
unfolding free_from
found_below zero number found world is = absurd (cc)
found_below (suc count) number found world is = by_test (is_held number world) is (found_below count (number + 1) found world)
  where
    by_test : (b : Bool) → (if b then free_from count (number + 1) world else Some number) ≡ Some found
        → (free_from count (number + 1) world ≡ Some found → found < number + 1 + count) → found < number + suc count
    by_test true e more = let below = more e in omega arith
    by_test false e more = let same : number ≡ found = cc in omega (arith, same)

-- ---- a terminal connects

module _ (model : Model) (number terminal : ℕ) (wanted : Option (List ℕ)) (old : ByteWorld) where
  abbrev pub connected : ByteWorld
  connected = with_transits number begun_transits (with_slot terminal (attached_slot (model_at terminal old) wanted number) (with_host (with_opened number old.host) old))

  -- the connection that begins
  begun_link : (serves : Terminals) → BeginRepresents → transits_at number connected ≡ begun_transits → connection_at number connected.host ≡ opened serves old.host.panels → slot_at terminal connected ≡ attached_slot (model_at terminal old) wanted number → model_at terminal old ≡ model
      → LinkRepresents (link_with (Some terminal) number connected) (begun (application_of old.host.panels) serves model terminal wanted)
  begun_link serves begins transits connection slot is =
      like_stands (begun_bytes serves old.host.panels model terminal wanted) (link_with (Some terminal) number connected) (begun (application_of old.host.panels) serves model terminal wanted)
      (record {
        lost = ap (λ (w : Transits). not (is_live w.down)) transits;
        host_here = ap (λ (l : Connection). is_there l.service) connection;
        term_here = refl;
        down = ap (λ (w : Transits). under_way w.down (host_out number connected)) transits ∙ ap (λ (l : Connection). l.out) connection;
        up = ap (λ (w : Transits). under_way w.up (out_of (Some terminal) connected)) transits ∙ ap (λ (s : TerminalSlot). s.tracked.terminal.out) slot;
        host = λ e. (ap (λ (l : Connection). conn_of l.service) connection, ap (λ (l : Connection). rest_of l.service) connection);
        tracked = λ who e. ap (λ (s : TerminalSlot). with_out [] s.tracked) slot ∙ ap (λ (m : Model). newly_tracked m wanted) is;
      })
      (begins serves old.host.panels model terminal wanted)

  begun_flow : transits_at number connected ≡ begun_transits → AreTransits (Some terminal) number connected
  begun_flow transits = record {
    together = ap (λ (w : Transits). is_live w.up) transits ∙ sym (ap (λ (w : Transits). is_live w.down) transits);
    down = subst (λ (w : Transits). IsFlow (host_there number connected) (host_out number connected) w.down) (sym transits) tt;
    up = subst (λ (w : Transits). IsFlow true (out_of (Some terminal) connected) w.up) (sym transits) tt;
  }

  pub connected_stands : (was : World) → BeginRepresents → EndsAgree was → WorldRepresents old was → number < length old.links → terminal < length old.slots
      → (slot_at terminal old).at ≡ None → model_at terminal old ≡ model
      → EndsAgree (record was { link = with_at number (begun (application_of old.host.panels) was.serves model terminal wanted) was.link; place = with_at terminal (Place.At number) was.place })
      → WorldRepresents connected (record was { link = with_at number (begun (application_of old.host.panels) was.serves model terminal wanted) was.link; place = with_at terminal (Place.At number) was.place })
  connected_stands was begins agree stands below there_is alone modelled agrees =
      let now : World = record was { link = with_at number (begun (application_of old.host.panels) was.serves model terminal wanted) was.link; place = with_at terminal (Place.At number) was.place } in
      let hosted : ByteWorld = with_host (with_opened number old.host) old in
      let attached : ByteWorld = with_slot terminal (attached_slot (model_at terminal old) wanted number) hosted in
      let within : number < length old.host.connections = subst (λ (n : ℕ). number < n) (stands.transits ∙ sym stands.connections) below in
      let transits : transits_at number connected ≡ begun_transits = transits_same number begun_transits attached below in
      let connection : connection_at number connected.host ≡ opened was.serves old.host.panels =
      connection_same number (opened old.host.terminals old.host.panels) old.host within ∙ ap (λ (t : Terminals). opened t old.host.panels) stands.serves in
      let slot : slot_at terminal connected ≡ attached_slot (model_at terminal old) wanted number = slot_same terminal (attached_slot (model_at terminal old) wanted number) hosted there_is in
      let is : now.link number ≡ begun (application_of old.host.panels) was.serves model terminal wanted = with_same number (begun (application_of old.host.panels) was.serves model terminal wanted) was.link in
      let goes : now.place terminal ≡ Place.At number = with_same terminal (Place.At number) was.place in
      changed_stands number terminal old connected was now
      (record {
        connections = λ other differs. connection_other number other (opened old.host.terminals old.host.panels) old.host differs;
        transits = λ other differs. transits_other number other begun_transits attached differs;
        slots = λ other differs. slot_other terminal other (attached_slot (model_at terminal old) wanted number) hosted differs;
        links = λ other differs. with_other number other (begun (application_of old.host.panels) was.serves model terminal wanted) was.link differs;
        places = λ other differs. with_other terminal other (Place.At number) was.place differs;
        connection_count = length-set old.host.connections number (opened old.host.terminals old.host.panels);
        serves = refl;
        way_count = length-set old.links number begun_transits;
        slot_count = length-set old.slots terminal (attached_slot (model_at terminal old) wanted number);
        terminals = refl;
        world_serves = refl;
        pool = stands.pool;
        before = alone_there (slot_at terminal old) (was.place terminal) number alone (stands.places terminal);
        behind = subst (λ (p : Place). IsHere number p) (sym goes) refl;
        none_closed = subst (λ (l : Connection). IsNotClosed l.service) (sym connection) tt;
        settled = subst (λ (l : Connection). IsSettled l) (sym connection) (λ free. absurd (cc));
        flow = subst (λ (l : Link). AreTransits l.term_here number connected) (sym is) (begun_flow transits);
        link = subst (λ (l : Link). LinkRepresents (link_with l.term_here number connected) l) (sym is) (begun_link was.serves begins transits connection slot modelled);
        place = subst (λ (p : Place). IsAt (slot_at terminal connected) p) (sym goes) (ap (λ (s : TerminalSlot). s.at) slot);
      })
      agree stands agrees

-- ---- a terminal that begins anew

new_is_alone : (model : Model) → IsAt (new_slot model) (Place.Alone (new_display model model_2))
new_is_alone model = (refl, record { detached = refl; silent = refl; screen = refl; keyboard = refl; last_restored = refl; before_restored = refl; erased = refl })

-- with the model that it had
pub begins_alone : (terminal : ℕ) (old : ByteWorld) (model : Model) → model_at terminal old ≡ model → IsAt (new_slot (model_at terminal old)) (Place.Alone (new_display model model_2))
begins_alone terminal old model is = subst (λ (m : Model). IsAt (new_slot m) (Place.Alone (new_display model model_2))) (sym is) (new_is_alone model)

-- ---- one of equal ones

pub get_or_equal : {X : Type 0} (count number : ℕ) (x : X) → slice_index_or (replicate count x) number x ≡ x
get_or_equal {X} count number x = by_order (cases_lt number count)
  where
    by_order : (number < count) ⊎ (count ≤ number) → slice_index_or (replicate count x) number x ≡ x
    by_order (inl below) = get_or-replicate count number x x below
    by_order (inr past) = get_or_past (replicate count x) number x (omega (arith, length-replicate count x))

-- ---- at the begin

none_from : (number : ℕ) (models : List Model) (start : ℕ) → position_from (λ slot. is_attached_to number slot.at) start (map new_slot models) ≡ None
none_from number [] start = refl
none_from number (model ∷ models) start = none_from number models (start + 1)

-- the slot of a terminal is a new one of its model
slot_of_model : (models : List Model) (terminal : ℕ) → slice_index_or (map new_slot models) terminal (new_slot M2) ≡ new_slot (slice_index_or models terminal M2)
slot_of_model [] terminal = refl
slot_of_model (model ∷ models) zero = refl
slot_of_model (model ∷ models) (suc terminal) = slot_of_model models terminal

module _ (empty : NothingRepresents all_items RepresentsUp) (serves : Terminals) (panels : Panels) (pool : List Entry) (models : List Model) where
  abbrev begins : ByteWorld
  begins = new_byte_world serves panels pool models

  nobody : (number : ℕ) → terminal_at number begins.slots ≡ None
  nobody number = position_from-zero (λ slot. is_attached_to number slot.at) (map new_slot models) ∙ none_from number models 0

  connection_begun : (number : ℕ) → connection_at number begins.host ≡ unused
  connection_begun number = get_or_equal most_connections number unused

  transits_begun : (number : ℕ) → transits_at number begins ≡ unused_transits
  transits_begun number = get_or_equal most_connections number unused_transits

  flow_begun : (number : ℕ) → AreTransits None number begins
  flow_begun number = record {
    together = ap (λ (w : Transits). is_live w.up) (transits_begun number) ∙ sym (ap (λ (w : Transits). is_live w.down) (transits_begun number));
    down = subst (λ (w : Transits). IsFlow (host_there number begins) (host_out number begins) w.down) (sym (transits_begun number))
        (ap (λ (l : Connection). is_there l.service) (connection_begun number));
    up = subst (λ (w : Transits). IsFlow false [] w.up) (sym (transits_begun number)) refl;
  }

  link_begun : (number : ℕ) → LinkRepresents (link_with None number begins) (unused_link (application_of panels) serves)
  link_begun number = record {
    lost = ap (λ (w : Transits). not (is_live w.down)) (transits_begun number);
    host_here = ap (λ (l : Connection). is_there l.service) (connection_begun number);
    term_here = refl;
    read = nothing;
    up = subst (λ (w : Transits). BytesUp nothing (under_way w.up []) []) (sym (transits_begun number)) empty;
    host = λ e. absurd (cc);
    term = λ terminal e. absurd (cc);
  }

  pub begin_stands : WorldRepresents begins (new_world (application_of panels) serves pool models)
  begin_stands = record {
    connections = length-replicate most_connections unused;
    transits = length-replicate most_connections unused_transits;
    terminals = length-map models new_slot;
    pool = refl;
    serves = refl;
    none_closed = λ number. subst (λ (l : Connection). IsNotClosed l.service) (sym (connection_begun number)) tt;
    settled = λ number. subst (λ (l : Connection). IsSettled l) (sym (connection_begun number)) (λ free. refl);
    flows = λ number. subst (λ (h : Option ℕ). AreTransits h number begins) (sym (nobody number)) (flow_begun number);
    links = λ number. subst (λ (h : Option ℕ). LinkRepresents (link_with h number begins) (unused_link (application_of panels) serves)) (sym (nobody number)) (link_begun number);
    places = λ terminal. subst (λ (s : TerminalSlot). IsAt s (Place.Alone (new_display (slice_index_or models terminal M2) model_2))) (sym (slot_of_model models terminal))
        (new_is_alone (slice_index_or models terminal M2));
  }
