-- The example's world over bytes represents one over messages in which the terminal has just signed on.
use Rattle.std.proofs.Common.{◌≡◌, ◌≢◌, ℕ, zero, suc, true, false, lit≤, ne_eqb, take, Bool, if◌then◌else◌, Option, None, Some, List, [], ◌∷◌, ◌++◌, refl, ap, sym, subst, ◌∙◌}
use Rattle.std.specs.List.{AllByRecursion}
use Rattle.std.specs.Prelude.{All}
use Rattle.std.proofs.lemmas.List.{length-replicate}
use Rattle.std.proofs.lemmas.List.Elements.{All-cons, All-nil}
use Rattle.codes3270.specs.Size.{model_2}
use Rattle.codes3270.specs.declared.size.Model.TheVariants.{M2}
use Rattle.panels.specs.Panel.{AreSound}
use Rattle.telnet_wire.specs.Reading.{nothing}
use Rattle.tn3270e_msg.specs.Device.{device_of}
use Rattle.tn3270e_msg.specs.declared.functions.FunctionsOffer.TheVariants.{ResponsesAlone}
use Rattle.tn3270e_msg.specs.declared.cause.Cause.{Cause}
use Rattle.lu_pool.specs.Asking.{answer_to}
use Rattle.host_core.specs.Application.{Application, application_of}
use Rattle.host_core.specs.Messages.{ToHost, ToTerminal}
use Rattle.host_core.specs.State.{connection_at, most_connections, unused}
use Rattle.host_core.specs.Takes.{took as host_took}
use Rattle.host_core.specs.declared.terminals.Terminals.TheVariants.{Any}
use Rattle.world3270.specs.examples.ExampleApplication.{example_pool, l1}
use Rattle.world3270.specs.examples.ExampleBytes.{agreed_byte_world, agreed_session, bound_talk, one_panel}
use Rattle.world3270.specs.model.ByteWorld.{ByteWorld, new_byte_world, slot_at, transits_at, unused_transits}
use Rattle.world3270.specs.model.Enabled.{is_enabled}
use Rattle.world3270.specs.model.Link.{Link, begun}
use Rattle.world3270.specs.model.Places.{EndsAgree}
use Rattle.world3270.specs.model.Steps.{came_down, came_up, closed_if, done, place_after, run, stepped_by, went_down}
use Rattle.world3270.specs.model.Terminal.{TermStep, new_display, took}
use Rattle.world3270.specs.model.World.{Event, Place, World, new_world}
use Rattle.world3270.specs.refinement.MessageLaws.{MessageLaws}
use Rattle.world3270.specs.refinement.Refines.{IsReached, IsWorldSetup, WorldSetup, after}
use Rattle.world3270.specs.refinement.Representation.{AreTransits, IsAt, WorldRepresents, link_with}
use Rattle.world3270.specs.refinement.Represents.{LinkRepresents, RepresentsDown, RepresentsUp, all_items, without_nops}
use Rattle.world3270.specs.refinement.Sendable.{IsWellFormed}
use Rattle.world3270.proofs.ExampleGiven.{are_events, is_pool, is_well_formed}
use Rattle.world3270.proofs.Frames.{Changed, IsHere, changed_stands}
use Rattle.world3270.proofs.Joinings.{begin_stands, get_or_equal}
use Rattle.world3270.proofs.Known.{facts}
use Rattle.world3270.proofs.OneOfMany.{with_other}
use Rattle.world3270.proofs.Others.{links_stay}
use Rattle.world3270.proofs.Represents.{nothing_stands}
use Rattle.world3270.proofs.RunsInPieces.{runs_compose}
use Rattle.world3270.proofs.SignedOn.{agreed, agreement_taken, request_taken, requested}

-- ---- the world over messages

abbrev app : Application
app = application_of one_panel

abbrev setup : WorldSetup
setup = record { serves = Any; panels = one_panel; pool = example_pool; models = M2 ∷ [] }

-- the terminal connects, and each end takes what comes, until a request for functions is under way
abbrev requests : List Event
requests = Event.Connect 0 (Some l1) ∷ Event.Down 0 ∷ Event.Up 0 ∷ Event.Down 0 ∷ Event.Up 0 ∷ Event.Down 0 ∷ []

abbrev signs_on : List Event
signs_on = requests ++ Event.Up 0 ∷ Event.Down 0 ∷ []

each_is_typed : (events : List Event) → AllByRecursion IsWellFormed events → All IsWellFormed events
each_is_typed [] are = All-nil IsWellFormed
each_is_typed (event ∷ events) are = All-cons IsWellFormed event events are.0 (each_is_typed events are.1)

all_typed : All IsWellFormed signs_on
all_typed = each_is_typed signs_on (tt, (tt, (tt, (tt, (tt, (tt, (tt, (tt, tt))))))))

unfoldable start : World
start = new_world app Any example_pool (M2 ∷ [])

unfoldable signed : World
signed = agreement_taken ResponsesAlone (request_taken ResponsesAlone (run app requests start))

is_signed : after setup signs_on ≡ signed
unfolding start signed request_taken agreement_taken device_of
is_signed =
    runs_compose app requests (Event.Up 0 ∷ Event.Down 0 ∷ []) start
    ∙ ap (stepped_by app (Event.Down 0)) (requested app (run app requests start) (record { here = refl; up = refl }))
    ∙ agreed app (request_taken ResponsesAlone (run app requests start)) (record { here = refl; down = refl })

-- the connection then
abbrev its_link : Link
its_link = record {
  lost = false;
  down = [];
  up = [];
  host_here = true;
  host = agreed_session;
  term_here = Some 0;
  term = record { waits = true; talk = bound_talk; display = new_display M2 model_2 };
}

link_is : signed.link 0 ≡ its_link
unfolding start signed request_taken agreement_taken device_of
link_is = refl

place_is : signed.place 0 ≡ Place.At 0
unfolding start signed request_taken agreement_taken device_of
place_is = refl

-- ---- what stays

-- all other connections and terminals are as they were
record StaysElsewhere (was now : World) : Type 0 where
  links : (other : ℕ) → other ≢ 0 → now.link other ≡ was.link other
  places : (other : ℕ) → other ≢ 0 → now.place other ≡ was.place other

stays_on : (was mid now : World) → StaysElsewhere was mid → StaysElsewhere mid now → StaysElsewhere was now
stays_on was mid now first second =
    record { links = λ other differs. second.links other differs ∙ first.links other differs; places = λ other differs. second.places other differs ∙ first.places other differs }

closed_place : (cause : Option Cause) (world : World) → (closed_if cause world).place ≡ world.place
closed_place None world = refl
closed_place (Some cause) world = refl

came_up_place : (up : List ToHost) (world : World) → (came_up 0 up world).place ≡ world.place
came_up_place [] world = refl
came_up_place (message ∷ rest) world = closed_place (host_took (answer_to world.pool) (world.link 0).host message).closes _

up_stays : (world : World) → StaysElsewhere world (stepped_by app (Event.Up 0) world)
up_stays world = record {
  links = λ other differs. links_stay app (Event.Up 0) world other (ne_eqb other 0 differs);
  places = λ other differs. by_test other (is_enabled app (Event.Up 0) world);
}
  where
    by_test : (other : ℕ) (b : Bool) → (if b then done app (Event.Up 0) world else world).place other ≡ world.place other
    by_test other true = ap (λ (place : ℕ → Place). place other) (came_up_place (world.link 0).up world)
    by_test other false = refl

came_down_place : (down : List ToTerminal) (world : World) (other : ℕ) → other ≢ 0 → (came_down 0 0 down world).place other ≡ world.place other
came_down_place [] world other differs = refl
came_down_place (message ∷ rest) world other differs =
    let step : TermStep = took (world.link 0).term message in
    ap (λ (place : ℕ → Place). place other) (closed_place step.closes _) ∙ with_other 0 other (place_after step.closes 0 step.end.display) world.place differs

down_stays : (world : World) → (world.link 0).term_here ≡ Some 0 → StaysElsewhere world (stepped_by app (Event.Down 0) world)
down_stays world here = record {
  links = λ other differs. links_stay app (Event.Down 0) world other (ne_eqb other 0 differs);
  places = λ other differs. by_test other differs (is_enabled app (Event.Down 0) world);
}
  where
    by_test : (other : ℕ) → other ≢ 0 → (b : Bool) → (if b then done app (Event.Down 0) world else world).place other ≡ world.place other
    by_test other differs true =
        ap (λ (h : Option ℕ). (went_down 0 h world).place other) here ∙ came_down_place (world.link 0).down world other differs
    by_test other differs false = refl

connect_stays : StaysElsewhere start (run app (Event.Connect 0 (Some l1) ∷ []) start)
unfolding start
connect_stays = record {
  links = λ other differs. with_other 0 other (begun app Any M2 0 (Some l1)) start.link differs;
  places = λ other differs. with_other 0 other (Place.At 0) start.place differs;
}

all_stays : StaysElsewhere start signed
unfolding start signed request_taken agreement_taken device_of
all_stays = subst (StaysElsewhere start) is_signed
    (stays_on _ _ _ connect_stays
    (stays_on _ _ _ (down_stays (run app (take 1 requests) start) refl)
    (stays_on _ _ _ (up_stays (run app (take 2 requests) start))
    (stays_on _ _ _ (down_stays (run app (take 3 requests) start) refl)
    (stays_on _ _ _ (up_stays (run app (take 4 requests) start))
    (stays_on _ _ _ (down_stays (run app (take 5 requests) start) refl)
    (stays_on _ _ _ (up_stays (run app requests start))
    (down_stays (stepped_by app (Event.Up 0) (run app requests start))
    (ap (λ (w : World). (w.link 0).term_here) (requested app (run app requests start) (record { here = refl; up = refl })))))))))))

-- ---- over bytes

abbrev begin_bytes : ByteWorld
begin_bytes = new_byte_world Any one_panel example_pool (M2 ∷ [])

other_connections : (other : ℕ) → other ≢ 0 → connection_at other agreed_byte_world.host ≡ connection_at other begin_bytes.host
other_connections zero differs = absurd (differs refl)
other_connections (suc other) differs = get_or_equal 63 other unused ∙ sym (get_or_equal most_connections (suc other) unused)

other_transits : (other : ℕ) → other ≢ 0 → transits_at other agreed_byte_world ≡ transits_at other begin_bytes
other_transits zero differs = absurd (differs refl)
other_transits (suc other) differs = get_or_equal 63 other unused_transits ∙ sym (get_or_equal most_connections (suc other) unused_transits)

other_slots : (other : ℕ) → other ≢ 0 → slot_at other agreed_byte_world ≡ slot_at other begin_bytes
other_slots zero differs = absurd (differs refl)
other_slots (suc other) differs = refl

stands_there : MessageLaws → LinkRepresents (link_with (Some 0) 0 agreed_byte_world) its_link
stands_there known = record {
  lost = refl;
  host_here = refl;
  term_here = refl;
  read = nothing;
  up = nothing_stands all_items RepresentsUp refl known.links.no_bytes known.links.start;
  host = λ here. record { host = refl; rest_is = refl };
  term = λ terminal is. record {
    rest = nothing;
    holds = record {
      talk = bound_talk;
      attached = refl;
      is_end = record { talk_is = refl; screen_is = refl; keyboard_is = refl; last_restored_is = refl; before_restored_is = refl; erased_is = refl };
    };
    silent = refl;
    down = nothing_stands without_nops RepresentsDown refl known.links.no_bytes known.links.start;
  };
}

changed : MessageLaws → Changed 0 0 begin_bytes agreed_byte_world start signed
unfolding start signed request_taken agreement_taken device_of
changed known = record {
  connections = other_connections;
  transits = other_transits;
  slots = other_slots;
  links = all_stays.links;
  places = all_stays.places;
  connection_count = ap suc (length-replicate 63 unused) ∙ sym (length-replicate most_connections unused);
  serves = refl;
  way_count = ap suc (length-replicate 63 unused_transits) ∙ sym (length-replicate most_connections unused_transits);
  slot_count = refl;
  terminals = refl;
  world_serves = refl;
  pool = refl;
  before = tt;
  behind = subst (IsHere 0) (sym place_is) refl;
  none_closed = tt;
  settled = λ free. absurd (cc);
  flow = subst (λ (l : Link). AreTransits l.term_here 0 agreed_byte_world) (sym link_is) (record { together = refl; down = tt; up = tt });
  link = subst (λ (l : Link). LinkRepresents (link_with l.term_here 0 agreed_byte_world) l) (sym link_is) (stands_there known);
  place = subst (IsAt (slot_at 0 agreed_byte_world)) (sym place_is) refl;
}

-- the bytes represent the world in which the terminal has signed on
pub is_reached : MessageLaws → AreSound one_panel → IsReached agreed_byte_world
unfolding start is_well_formed
is_reached known sound =
    let is : IsWorldSetup setup = record { panels = sound; marked = refl; pool = is_pool; few = lit≤ tt } in
    let agree : EndsAgree start = (facts known.worlds setup is [] tt (All-nil IsWellFormed)).agree in
    let agrees : EndsAgree signed = subst EndsAgree is_signed (facts known.worlds setup is signs_on (are_events signs_on refl) all_typed).agree in
    record {
      begin = setup;
      is_begin = is;
      events = signs_on;
      reached = record {
        are_events = are_events signs_on refl;
        typed = all_typed;
        panels = refl;
        stands = subst (λ (w : World). WorldRepresents agreed_byte_world w) (sym is_signed)
            (changed_stands 0 0 begin_bytes agreed_byte_world start signed (changed known) agree
            (begin_stands (nothing_stands all_items RepresentsUp refl known.links.no_bytes known.links.start) Any one_panel example_pool (M2 ∷ [])) agrees);
      };
    }
