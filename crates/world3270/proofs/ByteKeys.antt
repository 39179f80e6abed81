-- A key is pressed at a terminal: what that comes to over messages.
use Rattle.std.proofs.Common.{◌≡◌, ◌<◌, ◌||◌, ◌++◌, ℕ, Bool, true, false, Option, None, Some, List, [], ◌∷◌, length, refl, ap, sym, subst, ◌∙◌, nat_lt, length-set}
use Rattle.std.proofs.lemmas.Bool.{ltb-true}
use Rattle.std.proofs.lemmas.List.{append-nil}
use Rattle.presentation.specs.Sizes.{SizedScreen}
use Rattle.datastream.specs.Screen.{Screen}
use Rattle.host_core.specs.Application.{application_of}
use Rattle.host_core.specs.State.{Connection, connection_at}
use Rattle.keyboard.specs.Keys.{Outcome, pressed}
use Rattle.keyboard.specs.State.{Keyboard}
use Rattle.keyboard.specs.declared.key.Key.{Key}
use Rattle.keyboard.specs.declared.key.Pressed.{Pressed}
use Rattle.keyboard.specs.declared.key.Pressed.TheVariants as pressed_as
use Rattle.telnet_wire.specs.Items.{sent_bytes}
use Rattle.term_core.specs.Presses.{data_pressed, key_outcome, says_of_key, answer_to_key}
use Rattle.term_core.specs.Records.{data_sent}
use Rattle.term_core.specs.State.{Link as TermLink, Station, phase_of, is_bound}
use Rattle.world3270.specs.refinement.MessageLaws.{MessageLaws}
use Rattle.world3270.specs.model.ByteSteps.{Presses, answer_pressed}
use Rattle.world3270.specs.model.ByteWorld.{ByteWorld, Transits, TerminalSlot, transits_at, slot_at, with_slot}
use Rattle.world3270.specs.model.Steps.{key_went, done}
use Rattle.world3270.specs.model.Link.{Link, term_stepped}
use Rattle.world3270.specs.model.Places.{EndsAgree}
use Rattle.world3270.specs.refinement.Refines.{WorldSetup, IsWorldSetup, Reached, IsValidEvent, GoesOn, SameSkips, after, once}
use Rattle.world3270.specs.model.TrackedTerminals.{TrackedTerminal, tracked_after_key}
use Rattle.world3270.specs.refinement.Sendable.{CanBeSent, ScreensAreSendable}
use Rattle.world3270.specs.refinement.Representation.{WorldRepresents, IsAlone, IsAt, with_out}
use Rattle.world3270.specs.refinement.Represents.{ByteLink, LinkRepresents, sized}
use Rattle.world3270.specs.model.Terminal.{Display, after_key, erases_if, key_came, outcome_of}
use Rattle.world3270.specs.model.World.{Place, World, Event as MessageEvent, display_at}
use Rattle.world3270.specs.declared.event.Event.TheVariants as event
use Rattle.world3270.specs.declared.event.Stepped.{Stepped}
use Rattle.world3270.proofs.ByteTerms.{GoesOnHere, alone_stands, flows_go_on, flows_here, link_goes_on, made_of, stands_here, term_went_stands}
use Rattle.world3270.proofs.Frames.{slot_other, slot_same}
use Rattle.world3270.proofs.Known.{Facts, Goes, facts_now, facts_once, reached_one, reached_still}
use Rattle.world3270.proofs.OneOfMany.{with_other, with_same}

-- ---- what a key makes of a terminal

-- a key does over bytes what it does over messages, where screen and keyboard are the same
outcome_is : (key : Key) (station : Station) (display : Display) → station.keyboard ≡ display.keyboard → station.screen ≡ sized display
    → key_outcome key station ≡ outcome_of key display
outcome_is key station display keyboard screen =
    ap (λ (k : Keyboard). pressed station.screen.size.columns key k station.screen.screen) keyboard
    ∙ ap (λ (s : SizedScreen). pressed s.size.columns key display.keyboard s.screen) screen

-- a terminal that isn't bound sends nothing
nothing_sent : (answer : Pressed) (screen : Screen) → data_pressed false answer screen ≡ None
nothing_sent pressed_as.Done screen = refl
nothing_sent (pressed_as.Refused why) screen = refl
nothing_sent (pressed_as.Send aid) screen = refl

stays_alone : (key : Key) (tracked : TrackedTerminal) (display : Display) → IsAlone tracked display → IsAlone (tracked_after_key key tracked) (after_key key display)
stays_alone key tracked display is =
    let station : Station = tracked.terminal.station in
    let outcome : Outcome = key_outcome key station in
    let same = outcome_is key station display is.keyboard is.screen in
    record {
      detached = is.detached;
      silent = ap (λ (l : TermLink). tracked.terminal.out ++ sent_bytes (says_of_key key (is_bound (phase_of l)) station)) is.detached
          ∙ ap (λ (d : Option (List ℕ)). tracked.terminal.out ++ sent_bytes (data_sent station.number d)) (nothing_sent outcome.answer outcome.screen)
          ∙ append-nil tracked.terminal.out ∙ is.silent;
      screen = ap (λ (s : SizedScreen). record s { screen = outcome.screen }) is.screen ∙ ap (λ (o : Outcome). record (sized display) { screen = o.screen }) same;
      keyboard = ap (λ (o : Outcome). o.keyboard) same;
      last_restored = is.last_restored;
      before_restored = is.before_restored;
      erased = ap (λ (b : Bool). b || erases_if (answer_to_key key tracked.terminal) key) is.erased
          ∙ ap (λ (o : Outcome). display.erased || erases_if o.answer key) same;
    }

-- ---- the key is pressed

-- memory wasn't refused, so it happened once
happens_once : (event : MessageEvent) (answer : Stepped) (pressed : Pressed) → answer ≡ answer_pressed pressed → event ∷ [] ≡ once event answer
happens_once event answer pressed is = by_answer pressed ∙ ap (once event) (sym is)
  where
    by_answer : (p : Pressed) → event ∷ [] ≡ once event (answer_pressed p)
    by_answer pressed_as.Done = refl
    by_answer (pressed_as.Refused why) = refl
    by_answer (pressed_as.Send aid) = refl

module _ (known : MessageLaws) (key : Key) (terminal : ℕ) (old : ByteWorld) (world : World) (now_facts : Facts world) (stands : WorldRepresents old world)
    (below : terminal < length old.slots) where
  abbrev pressed_at : TerminalSlot
  pressed_at = record (slot_at terminal old) { tracked = tracked_after_key key (slot_at terminal old).tracked }

  abbrev went : Place → World
  went place = key_went terminal key place world

  -- Wherever the terminal is, the world stands for that after the key.
  key_stands : (place : Place) → world.place terminal ≡ place → EndsAgree (went place) → ScreensAreSendable (went place)
      → WorldRepresents (with_slot terminal pressed_at old) (went place)
  key_stands (Place.Alone display) is agrees sendable =
      let at = subst (λ (p : Place). IsAt (slot_at terminal old) p) is (stands.places terminal) in
      alone_stands terminal pressed_at (after_key key display) old world now_facts.agree stands below at.0
      (at.0, stays_alone key (slot_at terminal old).tracked display at.1) agrees
  key_stands (Place.At number) is agrees sendable =
      let link : Link = world.link number in
      let here : link.term_here ≡ Some terminal = (now_facts.agree terminal number).0 is in
      let at : (slot_at terminal old).at ≡ Some number = subst (λ (p : Place). IsAt (slot_at terminal old) p) is (stands.places terminal) in
      let connection : Connection = connection_at number old.host in
      let transits : Transits = transits_at number old in
      let slot : TerminalSlot = slot_at terminal old in
      let tracked : TrackedTerminal = tracked_after_key key slot.tracked in
      let stood = stands_here number terminal old world now_facts.agree stands here in
      let flows = flows_here number terminal old world now_facts.agree stands here in
      let next : Link = term_stepped (key_came key link.term) link.down link in
      let is_end = ((stood.term terminal here).holds).is_end in
      let same = outcome_is key slot.tracked.terminal.station link.term.display is_end.keyboard_is is_end.screen_is in
      let screen : CanBeSent link.term.display.size (outcome_of key link.term.display).screen =
      subst (λ (l : Link). CanBeSent l.term.display.size l.term.display.screen) (with_same number next world.link)
      (subst (λ (p : Place). let display = display_at (went (Place.At number)) p in CanBeSent display.size display.screen) is (sendable terminal)) in
      let stays = known.links.press key (made_of terminal connection transits slot) link terminal stood here
      (subst (λ (o : Outcome). CanBeSent link.term.display.size o.screen) (sym same) screen) in
      let said : List ℕ = (tracked_after_key key (with_out [] slot.tracked)).terminal.out in
      let down : List ℕ = (made_of terminal connection transits slot).down in
      let goes : GoesOnHere connection connection.out transits transits.down slot tracked said down = record { live = refl; flow = flows.down; behind_is = refl; out_is = refl } in
      term_went_stands number terminal connection transits pressed_at old (with_slot terminal pressed_at old) next world (went (Place.At number))
      (record {
        connection_is = refl;
        transits_are = refl;
        slot_is = slot_same terminal pressed_at old below;
        other_connections = λ other differs. refl;
        other_transits = λ other differs. refl;
        other_slots = λ other differs. slot_other terminal other pressed_at old differs;
        connection_count = refl;
        serves = refl;
        way_count = refl;
        slot_count = length-set old.slots terminal pressed_at;
        pool = refl;
        panels = refl;
      })
      (record {
        link_is = with_same number next world.link;
        here = here;
        place_is = is;
        other_links = λ other differs. with_other number other next world.link differs;
        other_places = λ other differs. refl;
        terminals = refl;
        world_serves = refl;
        pool = refl;
      })
      (record {
        none_closed = stands.none_closed number;
        settled = stands.settled number;
        flows = flows_go_on terminal connection connection.out transits transits.down slot tracked said down flows goes;
        at = at;
        stands = subst (λ (b : ByteLink). LinkRepresents b next) (sym (link_goes_on terminal connection connection.out transits transits.down slot tracked said down flows goes)) stays;
      })
      stands now_facts.agree agrees is

module _ (known : MessageLaws) (skips : SameSkips) where
  pressed_on : (terminal : ℕ) (key : Key) (begin : WorldSetup) (events : List MessageEvent) (old : ByteWorld) (answer : Stepped) (new : ByteWorld)
      → IsWorldSetup begin → Reached begin events old → IsValidEvent (event.Key terminal key) → nat_lt terminal (length old.slots) ≡ true
      → Presses terminal key old answer new → GoesOn begin events (event.Key terminal key) old answer new
  pressed_on terminal key begin events old answer new is reached real place (Presses.refused lacks memory same) = record {
    more = [];
    comes_to = ap (once (MessageEvent.Press terminal key)) (sym memory);
    reached = reached_still begin events old new reached same;
  }
  pressed_on terminal key begin events old answer new is reached real place (Presses.done answers made) =
      let press : MessageEvent = MessageEvent.Press terminal key in
      let world : World = after begin events in
      let has = sym (skips begin events (event.Key terminal key) old is reached tt) ∙ place in
      let next_facts = facts_once known.worlds begin events press old is reached real.0 real.1 has in
      let stands = key_stands known key terminal old world (facts_now known.worlds begin events old is reached) reached.stands
      (ltb-true terminal (length old.slots) place) (world.place terminal) refl next_facts.agree next_facts.sendable in
      record {
        more = press ∷ [];
        comes_to = happens_once press answer (answer_to_key key (slot_at terminal old).tracked.terminal) answers;
        reached = reached_one begin events press old new reached real.0 real.1 has (ap (λ (w : ByteWorld). w.host.panels) made)
            (subst (λ (w : ByteWorld). WorldRepresents w (done (application_of begin.panels) press world)) (sym made) stands);
      }

  -- A key comes to itself, or to nothing where memory was refused.
  pub key_goes : (terminal : ℕ) (key : Key) → Goes (event.Key terminal key)
  key_goes terminal key begin events old answer new is reached real place stepped_by = pressed_on terminal key begin events old answer new is reached real place stepped_by
