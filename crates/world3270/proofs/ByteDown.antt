-- Bytes come down to a terminal: what that comes to over messages.
use Rattle.std.proofs.Common.{◌≡◌, ◌≢◌, ◌<◌, ◌≤◌, ◌&&◌, ◌++◌, ℕ, zero, suc, Bool, true, false, Option, None, Some, is_some, List, [], ◌∷◌, length, take, drop, replicate, slice_index_or, refl, ap, sym, subst, ◌∙◌, append_assoc, le_of_suc-le-suc, not-suc-le-zero, length-set, if◌then◌else◌}
use Rattle.std.proofs.lemmas.Bool.{and_parts, ltb-true}
use Rattle.std.proofs.lemmas.List.{append-nil}
use Rattle.std.proofs.lemmas.List.Elements.{All-replicate}
use Rattle.std.specs.Prelude.{All}
use Rattle.host_core.specs.Application.{Application, application_of}
use Rattle.host_core.specs.Messages.{ToTerminal}
use Rattle.host_core.specs.State.{Connection, connection_at, most_connections}
use Rattle.shadow.specs.Pairs.{Pairwise}
use Rattle.telnet_wire.specs.Items.{WireItem, sent_bytes}
use Rattle.telnet_wire.specs.Reading.{Rest, Delivers}
use Rattle.term_core.specs.Bytes.{TakesByte, before_byte}
use Rattle.term_core.specs.Feeds.{StopsFor}
use Rattle.term_core.specs.Room.{out_room}
use Rattle.term_core.specs.Says.{response}
use Rattle.term_core.specs.State.{Terminal, Attached, Closed}
use Rattle.tn3270e_msg.specs.Header.{record_limit}
use Rattle.tn3270e_msg.specs.TermTable.{Term}
use Rattle.tn3270e_msg.specs.declared.cause.Cause.{Cause}
use Rattle.tn3270e_msg.specs.declared.cause.Cause.TheVariants.{Wire}
use Rattle.tn3270e_msg.specs.declared.cause.Stop.{Stop}
use Rattle.tn3270e_msg.specs.declared.cause.Stop.TheVariants as stop
use Rattle.world3270.specs.refinement.MessageLaws.{MessageLaws}
use Rattle.world3270.specs.model.ByteSteps.{ComesDown, GoesDown, IsStepIf, down_came, is_enabled, host_told, terminal_gone_if}
use Rattle.world3270.specs.model.ByteWorld.{ByteWorld, Transit, Transits, TerminalSlot, came, terminal_there, down_of, is_senders, is_there, no_slot, slot_at, terminal_at, unused_transits, transits_at, with_slot}
use Rattle.world3270.specs.refinement.Deliveries.{rest_at, rest_of_terminal, taken_by, terminal_rest}
use Rattle.world3270.specs.model.Steps.{closed_if, came_down, done, stepped_by, place_after, run, said, term_took_it, went_down}
use Rattle.world3270.specs.model.Link.{Link, term_left_if, term_stepped}
use Rattle.world3270.specs.model.Enabled.{comes_down, is_link, is_queued}
use Rattle.world3270.specs.refinement.Refines.{WorldSetup, IsWorldSetup, Reached, GoesOn, after}
use Rattle.world3270.specs.model.TrackedTerminals.{TrackedTerminal, TrackedTakes}
use Rattle.world3270.specs.refinement.Sendable.{CanBeSent, IsWellFormed}
use Rattle.world3270.specs.refinement.Representation.{WorldRepresents, with_out}
use Rattle.world3270.specs.refinement.Represents.{BytesDown, ByteLink, LinkRepresents, RepresentsUp, without_nops}
use Rattle.world3270.specs.refinement.RepresentsLinks.{IsReady, NoneCloses, took_down}
use Rattle.world3270.specs.model.Terminal.{TermEnd, TermStep, took as term_took}
use Rattle.world3270.specs.statement.Unbroken.{SaysNoRefusal, TerminalsRefuseNothing}
use Rattle.world3270.specs.model.World.{Place, World, Event as MessageEvent, AreEvents, with_at, display_at}
use Rattle.world3270.specs.declared.event.Event.TheVariants as event
use Rattle.world3270.specs.declared.event.Stepped.{Stepped}
use Rattle.world3270.proofs.ByteTerms.{made_of, AreFlows, BytesWent, GoesOnHere, TermWent, flows_go_on, flows_here, link_goes_on, stands_here, term_went_stands}
use Rattle.world3270.proofs.Completed.{counted, left_down, seat_reads, taken_is, taken_there}
use Rattle.world3270.proofs.Frames.{found_sits, found_within, connection_other, connection_same, connection_within, slot_other, slot_same, who_was_there, way_within, transits_other, transits_same}
use Rattle.world3270.proofs.Known.{Facts, Goes, facts_now, facts_then, reached_more}
use Rattle.world3270.proofs.OneOfMany.{with_other, with_same}
use Rattle.world3270.proofs.RepresentsLinks.{stayed}
use Rattle.world3270.proofs.Unbroken.{among, none_negative}
use Rattle.world3270.proofs.UnderWay.{came_flows, came_live, came_under_way}

-- ---- what a terminal makes of bytes doesn't hang on what it has to send

pub record ByteQuietly (old : Terminal) (byte : ℕ) (new : Terminal) : Type 0 where
  pub said : List ℕ
  pub out_is : new.out ≡ old.out ++ said
  pub takes : (before : List ℕ) → TakesByte (record old { out = before }) byte (record new { out = before ++ said })

-- with a byte to which it says nothing
says_nothing : (before : List ℕ) (new plain : Terminal) → new ≡ plain → record new { out = before ++ [] } ≡ record plain { out = before }
says_nothing before new plain is =
    ap (λ (t : Terminal). record t { out = before ++ [] }) is ∙ ap (λ (o : List ℕ). record plain { out = o }) (append-nil before)

pub quiet_byte : (old : Terminal) (byte : ℕ) (new : Terminal) → TakesByte old byte new → ByteQuietly old byte new
quiet_byte old byte new (TakesByte.goes_on rest to talk at delivers is) = record {
  said = [];
  out_is = ap (λ (t : Terminal). t.out) is ∙ sym (append-nil old.out);
  takes = λ before. TakesByte.goes_on rest to talk at delivers (says_nothing before new (record { link = Attached to talk; station = before_byte old.station; out = old.out }) is);
}
quiet_byte old byte new (TakesByte.completes rest to talk after item says closes station at delivers taken is) = record {
  said = sent_bytes says;
  out_is = ap (λ (t : Terminal). t.out) is;
  takes = λ before. TakesByte.completes rest to talk after item says closes station at delivers taken (ap (λ (t : Terminal). record t { out = before ++ sent_bytes says }) is);
}
quiet_byte old byte new (TakesByte.breaks rest talk fault at wrong is) = record {
  said = [];
  out_is = ap (λ (t : Terminal). t.out) is ∙ sym (append-nil old.out);
  takes = λ before. TakesByte.breaks rest talk fault at wrong (says_nothing before new (record { link = Closed Wire; station = before_byte old.station; out = old.out }) is);
}

-- bytes come, one after another
record TakesQuietly (old : TrackedTerminal) (bytes : List ℕ) (new : TrackedTerminal) : Type 0 where
  said : List ℕ
  out_is : new.terminal.out ≡ old.terminal.out ++ said
  takes : (before : List ℕ) → TrackedTakes (with_out before old) bytes (with_out (before ++ said) new)

-- With other bytes to send before, the same comes of it, and what it says stands behind these.
quiet_takes : (old : TrackedTerminal) (bytes : List ℕ) (new : TrackedTerminal) → TrackedTakes old bytes new → TakesQuietly old bytes new
quiet_takes old [] new taken = record {
  said = [];
  out_is = ap (λ (s : TrackedTerminal). s.terminal.out) taken ∙ sym (append-nil old.terminal.out);
  takes = λ before. ap (λ (s : TrackedTerminal). with_out (before ++ []) s) taken ∙ ap (λ (o : List ℕ). with_out o old) (append-nil before);
}
quiet_takes old (byte ∷ bytes) new taken =
    let mid : TrackedTerminal = taken.0 in
    let one = quiet_byte old.terminal byte mid.terminal taken.1.takes in
    let others = quiet_takes mid bytes new taken.2 in
    record {
      said = one.said ++ others.said;
      out_is = others.out_is ∙ ap (λ (o : List ℕ). o ++ others.said) one.out_is ∙ append_assoc old.terminal.out one.said others.said;
      takes = λ before. (
        with_out (before ++ one.said) mid,
        record { takes = one.takes before; history = taken.1.history },
        subst (λ (o : List ℕ). TrackedTakes (with_out (before ++ one.said) mid) bytes (with_out o new)) (append_assoc before one.said others.said)
            (others.takes (before ++ one.said)),
      );
    }

-- ---- messages come down, over messages

-- what one makes of the world, by the cause by which it closes the connection, if it does
abbrev made_by : Option Cause → ℕ → ℕ → TermStep → List ToTerminal → World → World
made_by closes number terminal step rest world =
    closed_if closes (said step.sends (record world {
      link = with_at number (term_left_if closes (stayed step rest (world.link number))) world.link;
      place = with_at terminal (place_after closes number step.end.display) world.place;
    }))

-- the terminal goes on at its connection
one_went : (number terminal : ℕ) (step : TermStep) (rest : List ToTerminal) (world : World) → step.closes ≡ None → (world.link number).term_here ≡ Some terminal
    → TermWent number terminal (term_stepped step rest (world.link number)) world (term_took_it number terminal step rest world)
one_went number terminal step rest world closes here =
    let next : Link = stayed step rest (world.link number) in
    subst (λ (c : Option Cause). TermWent number terminal (term_left_if c next) world (made_by c number terminal step rest world)) (sym closes)
    (record {
      link_is = with_same number next world.link;
      here = here;
      place_is = with_same terminal (Place.At number) world.place;
      other_links = λ other differs. with_other number other next world.link differs;
      other_places = λ other differs. with_other terminal other (Place.At number) world.place differs;
      terminals = refl;
      world_serves = refl;
      pool = refl;
    })

-- the next message comes
comes_now : (app : Application) (number terminal : ℕ) (message : ToTerminal) (rest : List ToTerminal) (world : World) → is_link number ≡ true
    → (world.link number).term_here ≡ Some terminal → (world.link number).down ≡ message ∷ rest
    → stepped_by app (MessageEvent.Down number) world ≡ term_took_it number terminal (term_took (world.link number).term message) rest world
comes_now app number terminal message rest world linked here down =
    let link : Link = world.link number in
    let place : (is_link number && comes_down link) ≡ true =
    ap (λ (b : Bool). b && comes_down link) linked ∙ ap (λ (h : Option ℕ). is_some h && is_queued link.down) here ∙ ap (λ (d : List ToTerminal). is_queued d) down in
    ap (λ (b : Bool). if b then done app (MessageEvent.Down number) world else world) place
    ∙ ap (λ (h : Option ℕ). went_down number h world) here
    ∙ ap (λ (d : List ToTerminal). came_down number terminal d world) down

-- one after the other
went_on : (number terminal : ℕ) (one other : Link) (was mid now : World) → TermWent number terminal one was mid → TermWent number terminal other mid now
    → TermWent number terminal other was now
went_on number terminal one other was mid now first second = record {
  link_is = second.link_is;
  here = second.here;
  place_is = second.place_is;
  other_links = λ n differs. second.other_links n differs ∙ first.other_links n differs;
  other_places = λ t differs. second.other_places t differs ∙ first.other_places t differs;
  terminals = second.terminals ∙ first.terminals;
  world_serves = second.world_serves ∙ first.world_serves;
  pool = second.pool ∙ first.pool;
}

-- Messages come down, one by one: none of them closes the connection.
all_came : (app : Application) (number terminal : ℕ) → is_link number ≡ true → (taken others : List ToTerminal) (world : World)
    → (world.link number).term_here ≡ Some terminal → world.place terminal ≡ Place.At number → (world.link number).down ≡ taken ++ others
    → NoneCloses (world.link number).term (taken ++ others)
    → TermWent number terminal (took_down taken others (world.link number)) world (run app (replicate (length taken) (MessageEvent.Down number)) world)
all_came app number terminal linked [] others world here place down none = record {
  link_is = refl;
  here = here;
  place_is = place;
  other_links = λ other differs. refl;
  other_places = λ other differs. refl;
  terminals = refl;
  world_serves = refl;
  pool = refl;
}
all_came app number terminal linked (message ∷ taken) others world here place down none =
    let link : Link = world.link number in
    let step : TermStep = term_took link.term message in
    let now : World = stepped_by app (MessageEvent.Down number) world in
    let next : Link = stayed step (taken ++ others) link in
    let stepped : Link = term_stepped step (taken ++ others) link in
    let went : TermWent number terminal stepped world now =
    subst (λ (w : World). TermWent number terminal stepped world w) (sym (comes_now app number terminal message (taken ++ others) world linked here down))
    (one_went number terminal step (taken ++ others) world none.0 here) in
    let goes_on : now.link number ≡ next = went.link_is ∙ ap (λ (c : Option Cause). term_left_if c next) none.0 in
    let more = all_came app number terminal linked taken others now (ap (λ (l : Link). l.term_here) goes_on ∙ here) went.place_is (ap (λ (l : Link). l.down) goes_on)
    (subst (λ (e : TermEnd). NoneCloses e (taken ++ others)) (sym (ap (λ (l : Link). l.term) goes_on)) none.1) in
    went_on number terminal stepped (took_down taken others stepped) world now (run app (replicate (length taken) (MessageEvent.Down number)) now) went
    (subst (λ (l : Link). TermWent number terminal (took_down taken others l) now (run app (replicate (length taken) (MessageEvent.Down number)) now)) went.link_is more)

-- they are events
are_deliveries : (number count : ℕ) → AreEvents (replicate count (MessageEvent.Down number))
are_deliveries number zero = tt
are_deliveries number (suc count) = (tt, are_deliveries number count)

as_many_deliveries : (number count taken : ℕ) → count ≡ taken → replicate taken (MessageEvent.Down number) ≡ replicate count (MessageEvent.Down number)
as_many_deliveries number count taken same = ap (λ (n : ℕ). replicate n (MessageEvent.Down number)) (sym same)

-- ---- bytes come down, over bytes

-- of the first bytes some are taken, and the others stay behind them
taken_off : (taken count : ℕ) (bytes : List ℕ) → taken ≤ length (take count bytes) → bytes ≡ take taken (take count bytes) ++ drop taken bytes
taken_off zero count bytes few = refl
taken_off (suc taken) zero bytes few = absurd (not-suc-le-zero few)
taken_off (suc taken) (suc count) [] few = refl
taken_off (suc taken) (suc count) (byte ∷ bytes) few = ap (λ (b : List ℕ). byte ∷ b) (taken_off taken count bytes (le_of_suc-le-suc few))

-- what the host has to send then
abbrev out_then : Bool → ℕ → List ℕ → List ℕ
out_then senders count out = if senders then drop count out else out

nothing_then : (is_its : Bool) (count : ℕ) (out : List ℕ) → out ≡ [] → out_then is_its count out ≡ []
nothing_then true zero out none = none
nothing_then true (suc count) out none = ap (λ (o : List ℕ). drop (suc count) o) none
nothing_then false count out none = none

-- the host is told
record IsTold (number : ℕ) (connection : Connection) (old new : ByteWorld) : Type 0 where
  connection_is : connection_at number new.host ≡ connection
  other_connections : (other : ℕ) → other ≢ number → connection_at other new.host ≡ connection_at other old.host
  connection_count : length new.host.connections ≡ length old.host.connections
  serves : new.host.terminals ≡ old.host.terminals
  pool : new.host.pool ≡ old.host.pool
  panels : new.host.panels ≡ old.host.panels
  links : new.links ≡ old.links
  slots : new.slots ≡ old.slots

-- where what came was its own, as many bytes fewer are left to send
told : (senders : Bool) (count number : ℕ) (world : ByteWorld) → number < length world.host.connections
    → IsTold number (record (connection_at number world.host) { out = out_then senders count (connection_at number world.host).out }) world (host_told senders count number world)
told true count number world below =
    let connection : Connection = record (connection_at number world.host) { out = drop count (connection_at number world.host).out } in
    record {
      connection_is = connection_same number connection world.host below;
      other_connections = λ other differs. connection_other number other connection world.host differs;
      connection_count = length-set world.host.connections number connection;
      serves = refl;
      pool = refl;
      panels = refl;
      links = refl;
      slots = refl;
    }
told false count number world below = record {
  connection_is = refl;
  other_connections = λ other differs. refl;
  connection_count = refl;
  serves = refl;
  pool = refl;
  panels = refl;
  links = refl;
  slots = refl;
}

-- what the delivery leaves
bytes_went : (number terminal count : ℕ) (tracked : TrackedTerminal) (old : ByteWorld) → number < length old.host.connections → number < length old.links → terminal < length old.slots
    → BytesWent number terminal (record (connection_at number old.host) { out = out_then (is_senders (transits_at number old).down) count (connection_at number old.host).out })
    (record (transits_at number old) { down = came count (transits_at number old).down }) (record (slot_at terminal old) { tracked = tracked })
    old (down_came count number (with_slot terminal (record (slot_at terminal old) { tracked = tracked }) old))
bytes_went number terminal count tracked old connection_below way_below below =
    let slot : TerminalSlot = record (slot_at terminal old) { tracked = tracked } in
    let transits : Transits = record (transits_at number old) { down = came count (transits_at number old).down } in
    let mid : ByteWorld = with_slot terminal slot old in
    let senders : Bool = is_senders (transits_at number old).down in
    let is = told senders count number mid connection_below in
    let next : ByteWorld = host_told senders count number mid in
    record {
      connection_is = is.connection_is;
      transits_are = transits_same number transits next (subst (λ (l : List Transits). number < length l) (sym is.links) way_below);
      slot_is = ap (λ (s : List TerminalSlot). slice_index_or s terminal no_slot) is.slots ∙ slot_same terminal slot old below;
      other_connections = is.other_connections;
      other_transits = λ other differs. transits_other number other transits next differs ∙ ap (λ (l : List Transits). slice_index_or l other unused_transits) is.links;
      other_slots = λ other differs. ap (λ (s : List TerminalSlot). slice_index_or s other no_slot) is.slots ∙ slot_other terminal other slot old differs;
      connection_count = is.connection_count;
      serves = is.serves;
      way_count = length-set next.links number transits ∙ ap (λ (l : List Transits). length l) is.links;
      slot_count = ap (λ (s : List TerminalSlot). length s) is.slots ∙ length-set old.slots terminal slot;
      pool = is.pool;
      panels = is.panels;
    }

-- a terminal that is still attached hasn't closed
not_gone : (why : Stop) (old new : Terminal) (bytes : List ℕ) (taken terminal number : ℕ) (world : ByteWorld) (rest : Rest) (talk : Term)
    → StopsFor out_room why old bytes taken new → new.link ≡ Attached rest talk → terminal_gone_if why terminal number world ≡ world
not_gone stop.Going old new bytes taken terminal number world rest talk stops attached = refl
not_gone stop.Memory old new bytes taken terminal number world rest talk stops attached = refl
not_gone (stop.Closed cause) old new bytes taken terminal number world rest talk stops attached =
    let both : Closed cause ≡ Attached rest talk = sym stops ∙ attached in
    absurd (cc)

-- ---- the delivery

module _ (known : MessageLaws) (begin : WorldSetup) (events : List MessageEvent) (number count terminal : ℕ) (old : ByteWorld) (answer : Stepped) (new : ByteWorld)
    (is : IsWorldSetup begin) (reached : Reached begin events old) (linked : is_link number ≡ true) (found : terminal_at number old.slots ≡ Some terminal)
    (comes : ComesDown terminal number (take count (down_of number old)) old answer new) where
  abbrev world : World
  world = after begin events

  abbrev link : Link
  link = world.link number

  abbrev connection : Connection
  connection = connection_at number old.host

  abbrev transits : Transits
  transits = transits_at number old

  abbrev slot : TerminalSlot
  slot = slot_at terminal old

  abbrev taken_bytes : ℕ
  taken_bytes = comes.fed.taken

  abbrev bytes_brought : List ℕ
  bytes_brought = take count (down_of number old)

  abbrev bytes_behind : List ℕ
  bytes_behind = drop taken_bytes (down_of number old)

  world_facts : Facts world
  world_facts = facts_now known.worlds begin events old is reached

  here : link.term_here ≡ Some terminal
  here = sym (who_was_there number old world world_facts.agree reached.stands) ∙ found

  place : world.place terminal ≡ Place.At number
  place = (world_facts.agree terminal number).1 here

  stood : LinkRepresents (made_of terminal connection transits slot) link
  stood = stands_here number terminal old world world_facts.agree reached.stands here

  flows : AreFlows connection transits slot
  flows = flows_here number terminal old world world_facts.agree reached.stands here

  ready : IsReady (made_of terminal connection transits slot) link
  ready = record {
    stands = stood;
    terminal = terminal;
    here = here;
    may = (world_facts.may number).0;
    none = (world_facts.may number).1;
    sendable = subst (λ (p : Place). let display = display_at world p in CanBeSent display.size display.screen) place (world_facts.sendable terminal);
  }

  abbrev bytes : ByteLink
  bytes = made_of terminal connection transits slot

  abbrev front : List ℕ
  front = take taken_bytes bytes_brought

  quiet : TakesQuietly slot.tracked front comes.tracked
  quiet = quiet_takes slot.tracked front comes.tracked comes.feeds.takes

  in_two : down_of number old ≡ front ++ bytes_behind
  in_two = taken_off taken_bytes count (down_of number old) comes.feeds.few

  -- what the event is over messages, and the terminal after it
  went_down_so : GoesOn begin events (event.Down number count) old answer new × (slot_at terminal new ≡ record slot { tracked = comes.tracked })
  went_down_so =
      let down = known.links.down bytes link front bytes_behind (with_out quiet.said comes.tracked) ready in_two (quiet.takes []) in
      let more : List MessageEvent = replicate (length down.taken) (MessageEvent.Down number) in
      let typed : All IsWellFormed more = All-replicate IsWellFormed (length down.taken) (MessageEvent.Down number) tt in
      let app : Application = application_of begin.panels in
      let now : World = run app more world in
      let next : Link = took_down down.taken down.others link in
      let none : NoneCloses link.term (down.taken ++ down.others) = subst (λ (m : List ToTerminal). NoneCloses link.term m) down.whole (world_facts.may number).1 in
      let went : TermWent number terminal next world now = all_came app number terminal linked down.taken down.others world here place down.whole none in
      let holds = (down.stands.term terminal went.here).holds in
      let term = stood.term terminal here in
      let to : Rest = (down.stands.term terminal went.here).rest in
      let read = seat_reads known front slot.tracked comes.tracked term.rest to term.holds.talk holds.talk term.down.is_rest term.holds.attached holds.attached comes.feeds.takes in
      let as_many : length (without_nops read.0) ≡ length down.taken =
      counted known term.rest to front bytes_behind read.0 link.down down.taken down.others read.1
      (subst (λ (b : List ℕ). BytesDown term.rest b link.down) in_two term.down)
      (subst (λ (m : List ToTerminal). BytesDown to bytes_behind m) (left_down down.taken down.others link down.whole) (down.stands.term terminal went.here).down)
      down.whole in
      let held : terminal_rest number old ≡ term.rest = ap (λ (h : Option ℕ). rest_of_terminal h old) found ∙ ap rest_at term.holds.attached in
      let took_them : taken_by answer bytes_brought ≡ front =
      ap (λ (a : Stepped). taken_by a bytes_brought) comes.answers
      ∙ taken_is comes.fed.stop taken_bytes bytes_brought
      (taken_there comes.fed.stop slot.tracked.terminal comes.tracked.terminal bytes_brought taken_bytes term.rest to term.holds.talk holds.talk comes.feeds.stops
      term.holds.attached holds.attached) in
      let left : Transit = came taken_bytes transits.down in
      let out : List ℕ = out_then (is_senders transits.down) taken_bytes connection.out in
      let goes : GoesOnHere connection out transits left slot comes.tracked quiet.said bytes_behind = record {
        live = came_live taken_bytes transits.down;
        flow = came_flows (is_there connection.service) taken_bytes connection.out transits.down flows.down;
        behind_is = came_under_way taken_bytes transits.down connection.out;
        out_is = quiet.out_is;
      } in
      let below : number < most_connections = ltb-true number most_connections linked in
      let after_it : ByteWorld = down_came taken_bytes number (with_slot terminal (record slot { tracked = comes.tracked }) old) in
      let went_bytes = bytes_went number terminal taken_bytes comes.tracked old (connection_within number old world reached.stands below)
      (way_within number old world reached.stands below) (found_within number terminal old found) in
      let made : new ≡ after_it = comes.leaves
      ∙ not_gone comes.fed.stop slot.tracked.terminal comes.tracked.terminal (take count (down_of number old)) taken_bytes terminal number after_it
      (down.stands.term terminal went.here).rest holds.talk comes.feeds.stops holds.attached in
      let next_facts = facts_then known.worlds begin events more old is reached (are_deliveries number (length down.taken)) typed in
      let stands : WorldRepresents after_it now = term_went_stands number terminal (record connection { out = out }) (record transits { down = left })
      (record slot { tracked = comes.tracked }) old after_it next world now went_bytes went
      (record {
        none_closed = reached.stands.none_closed number;
        settled = λ free. nothing_then (is_senders transits.down) taken_bytes connection.out (reached.stands.settled number free);
        flows = flows_go_on terminal connection out transits left slot comes.tracked quiet.said bytes_behind flows goes;
        at = found_sits number terminal old found;
        stands = subst (λ (b : ByteLink). LinkRepresents b next) (sym (link_goes_on terminal connection out transits left slot comes.tracked quiet.said bytes_behind flows goes)) down.stands;
      })
      reached.stands world_facts.agree next_facts.agree place in (
        record {
          more = more;
          comes_to = record {
            completed = read.0;
            behind = to;
            delivers = subst (λ (r : Rest). Delivers record_limit r (taken_by answer bytes_brought) read.0 to) (sym held)
                (subst (λ (b : List ℕ). Delivers record_limit term.rest b read.0 to) (sym took_them) read.1);
            one_each = as_many_deliveries number (length (without_nops read.0)) (length down.taken) as_many;
          };
          reached = reached_more begin events more old new reached (are_deliveries number (length down.taken)) typed
              (ap (λ (w : ByteWorld). w.host.panels) made ∙ went_bytes.panels) (subst (λ (w : ByteWorld). WorldRepresents w now) (sym made) stands);
        },
        ap (λ (w : ByteWorld). slot_at terminal w) {x = new} {y = after_it} made ∙ went_bytes.slot_is,
      )

  goes_on : GoesOn begin events (event.Down number count) old answer new
  goes_on = went_down_so.0

  refuses_nothing : SaysNoRefusal terminal old new
  refuses_nothing =
      let said = known.links.not_refused bytes link front bytes_behind (with_out quiet.said comes.tracked) ready in_two (quiet.takes []) in
      record {
        says = said.says;
        sent = ap (λ (s : TerminalSlot). s.tracked.terminal.out) went_down_so.1 ∙ quiet.out_is ∙ ap (λ (b : List ℕ). slot.tracked.terminal.out ++ b) said.out;
        fit = said.fit;
        carried_out = λ sequence outcome before behind same.
            among sequence outcome before behind said.sends (subst (λ (items : List WireItem). Pairwise RepresentsUp items said.sends) same said.said) said.none;
        none = none_negative said.says said.sends said.said said.none;
      }

module _ (known : MessageLaws) where
  -- A delivery of bytes down comes to as many single deliveries as messages were completed.
  pub down_goes : (number count : ℕ) → Goes (event.Down number count)
  down_goes number count begin events old answer new is reached real place stepped_by = by_here (terminal_at number old.slots) refl stepped_by
    where
      linked : is_link number ≡ true
      linked = (and_parts (is_link number) (terminal_there number old && is_queued (take count (down_of number old))) place).0

      by_here : (here : Option ℕ) → terminal_at number old.slots ≡ here → GoesDown here number (take count (down_of number old)) old answer new
          → GoesOn begin events (event.Down number count) old answer new
      by_here None found comes = absurd comes
      by_here (Some terminal) found comes = goes_on known begin events number count terminal old answer new is reached linked found comes

  -- nothing is said where nothing comes
  not_any : {X : Type 0} (before behind : List X) (x : X) → [] ≡ before ++ x ∷ behind → ⊥
  not_any [] behind x e = absurd (cc)
  not_any (y ∷ before) behind x e = absurd (cc)

  says_nothing_then : (terminal : ℕ) (old new : ByteWorld) → new ≡ old → SaysNoRefusal terminal old new
  says_nothing_then terminal old new same = record {
    says = [];
    sent = ap (λ (w : ByteWorld). (slot_at terminal w).tracked.terminal.out) same ∙ sym (append-nil (slot_at terminal old).tracked.terminal.out);
    fit = tt;
    carried_out = λ sequence outcome before behind e. absurd (not_any before behind (response sequence outcome) e);
    none = tt;
  }

  -- A terminal refuses nothing that comes to it.
  pub terminals_refuse_nothing : TerminalsRefuseNothing
  terminals_refuse_nothing terminal number count old answer new is found steps = by_place (is_enabled (event.Down number count) old) refl steps
    where
      by_place : (b : Bool) → is_enabled (event.Down number count) old ≡ b → IsStepIf b (event.Down number count) old answer new → SaysNoRefusal terminal old new
      by_place true has stepped_by =
          let linked = (and_parts (is_link number) (terminal_there number old && is_queued (take count (down_of number old))) has).0 in
          refuses_nothing known is.begin is.events number count terminal old answer new is.is_begin is.reached linked found
          (subst (λ (h : Option ℕ). GoesDown h number (take count (down_of number old)) old answer new) found stepped_by)
      by_place false has skipped = says_nothing_then terminal old new skipped.1
