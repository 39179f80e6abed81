-- What connections that are lost, ends that leave, and ends that begin come to, over bytes as over messages.
use Rattle.std.proofs.Common.{◌≡◌, ◌<◌, ◌&&◌, ℕ, Bool, true, Option, None, Some, List, [], ◌∷◌, length, refl, ap, sym, subst, ◌∙◌}
use Rattle.panels.specs.Panel.{Panels}
use Rattle.codes3270.specs.declared.size.Model.{Model}
use Rattle.world3270.proofs.Models.{model_here, model_is}
use Rattle.std.proofs.lemmas.Bool.{and_parts, ltb-true}
use Rattle.std.proofs.lemmas.List.Elements.{All-nil}
use Rattle.codes3270.specs.Size.{model_2}
use Rattle.host_core.specs.Application.{application_of, Application}
use Rattle.host_core.specs.State.{most_connections}
use Rattle.world3270.specs.refinement.MessageLaws.{MessageLaws}
use Rattle.world3270.specs.model.ByteSteps.{Connects, ConnectsIf, is_enabled, is_link, is_terminal, is_lost, is_up, sees_loss, may_connect, free_number, lost_transits, host_gone, saw_loss, terminal_anew, host_anew, host_gone_below}
use Rattle.world3270.specs.model.ByteWorld.{ByteWorld, TerminalSlot, alone, model_at, new_slot, host_there, slot_at, with_transits}
use Rattle.world3270.specs.model.Steps.{done, left_alone, joined, term_saw, term_anew}
use Rattle.world3270.specs.model.Enabled.{free_number as free_over_messages, is_enabled as is_enabled_over_messages}
use Rattle.world3270.specs.model.Places.{EndsAgree, UpIsHeld}
use Rattle.world3270.specs.refinement.Refines.{WorldSetup, IsWorldSetup, Reached, GoesOn, CorrespondsTo, SameSkips, BeginIsReached, once, after}
use Rattle.world3270.specs.refinement.Sendable.{IsWellFormed}
use Rattle.world3270.specs.refinement.Representation.{WorldRepresents, IsAt}
use Rattle.world3270.specs.refinement.Represents.{RepresentsUp, all_items}
use Rattle.world3270.specs.refinement.RepresentsLinks.{TermLeaves}
use Rattle.world3270.specs.model.Terminal.{new_display}
use Rattle.world3270.specs.model.World.{Place, World, Event as MessageEvent, IsEvent, display_at}
use Rattle.world3270.specs.declared.event.Event.{Event}
use Rattle.world3270.specs.declared.event.Event.TheVariants as event
use Rattle.world3270.specs.declared.event.Stepped.{Stepped}
use Rattle.world3270.proofs.BytePlaced.{same_free}
use Rattle.world3270.proofs.ByteTerms.{alone_stands, stands_here}
use Rattle.world3270.proofs.Frames.{way_within}
use Rattle.world3270.proofs.HostAnew.{host_anew_stands, panels_stay}
use Rattle.world3270.proofs.Joinings.{begin_stands, connected, connected_stands, begins_alone, found_below}
use Rattle.world3270.proofs.Known.{Goes, facts_now, facts_once, reached_one, reached_still}
use Rattle.world3270.proofs.Partings.{host_gone_stands, lost_stands, parted_stands}
use Rattle.world3270.proofs.Represents.{nothing_stands}

-- ---- a terminal leaves its connection

at_number : (slot : TerminalSlot) (number other : ℕ) → slot.at ≡ Some number → slot.at ≡ Some other → other ≡ number
at_number slot number other one another = let same : Some number ≡ Some other = sym one ∙ another in cc

-- what was before the operator stays, with a keyboard that waits
left_is_alone : (terminal number : ℕ) (old : ByteWorld) (was : World) → EndsAgree was → WorldRepresents old was → was.place terminal ≡ Place.At number
    → IsAt (alone (slot_at terminal old)) (Place.Alone (left_alone (was.link number).term.display))
left_is_alone terminal number old was agree stands at =
    let holds : (was.link number).term_here ≡ Some terminal = (agree terminal number).0 at in
    let end = ((stands_here number terminal old was agree stands holds).term terminal holds).holds.is_end in (
      refl,
      record {
        detached = refl;
        silent = refl;
        screen = end.screen_is;
        keyboard = refl;
        last_restored = end.last_restored_is;
        before_restored = end.before_restored_is;
        erased = end.erased_is;
      },
    )

module _ (leaves : TermLeaves) (terminal : ℕ) (old : ByteWorld) (was : World) (agree : EndsAgree was) (held : UpIsHeld was) (stands : WorldRepresents old was)
    (there : terminal < length old.slots) where
  at_place : (place : Place) → was.place terminal ≡ place → IsAt (slot_at terminal old) place
  at_place place is = subst (λ (p : Place). IsAt (slot_at terminal old) p) is (stands.places terminal)

  saw_stands : (at : Option ℕ) (place : Place) → (slot_at terminal old).at ≡ at → was.place terminal ≡ place
      → EndsAgree (term_saw terminal place was) → WorldRepresents (saw_loss terminal at old) (term_saw terminal place was)
  saw_stands None (Place.At number) at is agrees = let here = at_place (Place.At number) is in absurd (cc)
  saw_stands None (Place.Alone display) at is agrees = stands
  saw_stands (Some number) (Place.At other) at is agrees =
      let same : other ≡ number = at_number (slot_at terminal old) number other at (at_place (Place.At other) is) in
      subst (λ (n : ℕ). WorldRepresents (saw_loss terminal (Some n) old) (term_saw terminal (Place.At other) was)) same
      (parted_stands other old was agree stands held leaves terminal (alone (slot_at terminal old)) (left_alone (was.link other).term.display) there is
      (left_is_alone terminal other old was agree stands is) agrees)
  saw_stands (Some number) (Place.Alone display) at is agrees = let none = (at_place (Place.Alone display) is).0 in absurd (cc)

  anew_stands : (at : Option ℕ) (place : Place) → (slot_at terminal old).at ≡ at → was.place terminal ≡ place
      → (begin : WorldSetup) → EndsAgree (term_anew (application_of begin.panels) terminal place was)
      → WorldRepresents (terminal_anew terminal at old) (term_anew (application_of begin.panels) terminal place was)
  anew_stands None (Place.At number) at is begin agrees = let here = at_place (Place.At number) is in absurd (cc)
  anew_stands None (Place.Alone display) at is begin agrees = alone_stands terminal (new_slot (model_at terminal old)) (new_display display.model model_2) old was agree stands there at
      (begins_alone terminal old display.model (model_here terminal old was agree stands (Place.Alone display) is)) agrees
  anew_stands (Some number) (Place.At other) at is begin agrees =
      let same : other ≡ number = at_number (slot_at terminal old) number other at (at_place (Place.At other) is) in
      subst (λ (n : ℕ). WorldRepresents (terminal_anew terminal (Some n) old) (term_anew (application_of begin.panels) terminal (Place.At other) was)) same
      (parted_stands other old was agree stands held leaves terminal (new_slot (model_at terminal old)) (new_display (was.link other).term.display.model model_2) there is
      (begins_alone terminal old (was.link other).term.display.model (model_here terminal old was agree stands (Place.At other) is)) agrees)
  anew_stands (Some number) (Place.Alone display) at is begin agrees = let none = (at_place (Place.Alone display) is).0 in absurd (cc)

saw_panels : (terminal : ℕ) (at : Option ℕ) (old : ByteWorld) → (saw_loss terminal at old).host.panels ≡ old.host.panels
saw_panels terminal None old = refl
saw_panels terminal (Some number) old = refl

anew_panels : (terminal : ℕ) (at : Option ℕ) (old : ByteWorld) → (terminal_anew terminal at old).host.panels ≡ old.host.panels
anew_panels terminal None old = refl
anew_panels terminal (Some number) old = refl

is_alone : (at : Option ℕ) (world : ByteWorld) → may_connect at world ≡ true → at ≡ None
is_alone None world may = refl
is_alone (Some number) world may = absurd (cc)

-- ---- the begin

pub begin_is_reached : MessageLaws → BeginIsReached
begin_is_reached known begin is = record {
  are_events = tt;
  typed = All-nil IsWellFormed;
  panels = is.marked;
  stands = begin_stands (nothing_stands all_items RepresentsUp refl known.links.no_bytes known.links.start) begin.serves begin.panels begin.pool begin.models;
}

-- ---- one event

module _ (known : MessageLaws) (skips : SameSkips) where
  -- it happens once, over bytes as over messages
  goes_once : (it : Event) (message : MessageEvent) (begin : WorldSetup) (events : List MessageEvent) (old : ByteWorld) (answer : Stepped) (new : ByteWorld)
      → IsWorldSetup begin → Reached begin events old → IsEvent message × IsWellFormed message
      → is_enabled it old ≡ is_enabled_over_messages (application_of begin.panels) message (after begin events) → is_enabled it old ≡ true
      → CorrespondsTo it old answer (message ∷ []) → new.host.panels ≡ old.host.panels
      → (EndsAgree (done (application_of begin.panels) message (after begin events)) → WorldRepresents new (done (application_of begin.panels) message (after begin events)))
      → GoesOn begin events it old answer new
  goes_once it message begin events old answer new is reached real alike place comes panels stands =
      let there = sym alike ∙ place in
      record {
        more = message ∷ [];
        comes_to = comes;
        reached = reached_one begin events message old new reached real.0 real.1 there panels
            (stands (facts_once known.worlds begin events message old is reached real.0 real.1 there).agree);
      }

  -- ---- a connection is lost

  within : (number : ℕ) (other : Bool) (old : ByteWorld) (was : World) → WorldRepresents old was → (is_link number && other) ≡ true → number < length old.links
  within number other old was stands place =
      way_within number old was stands (ltb-true number most_connections (and_parts (is_link number) other place).0)

  pub lose_goes : (number : ℕ) → Goes (event.Lose number)
  lose_goes number begin events old answer new is reached real place stepped_by =
      let f = facts_now known.worlds begin events old is reached in
      let below = within number (is_up number old) old (after begin events) reached.stands place in
      let made : ByteWorld = with_transits number (lost_transits number old) old in
      subst (λ (w : ByteWorld). GoesOn begin events (event.Lose number) old answer w) (sym stepped_by.1)
      (goes_once (event.Lose number) (MessageEvent.Lose number) begin events old answer made is reached real (skips begin events (event.Lose number) old is reached tt) place
      (ap (λ (a : Stepped). once (MessageEvent.Lose number) a) (sym stepped_by.0)) refl
      (lost_stands number old (after begin events) f.agree reached.stands f.up_held known.links.loss below))

  -- ---- an end sees that

  pub host_sees_goes : (number : ℕ) → Goes (event.HostSees number)
  host_sees_goes number begin events old answer new is reached real place stepped_by =
      let f = facts_now known.worlds begin events old is reached in
      let below = within number (is_lost number old && host_there number old) old (after begin events) reached.stands place in
      subst (λ (w : ByteWorld). GoesOn begin events (event.HostSees number) old answer w) (sym stepped_by.1)
      (goes_once (event.HostSees number) (MessageEvent.HostSees number) begin events old answer (host_gone number old) is reached real (skips begin events (event.HostSees number) old is reached tt) place
      (ap (λ (a : Stepped). once (MessageEvent.HostSees number) a) (sym stepped_by.0)) refl
      (host_gone_stands number old (after begin events) f.agree reached.stands f.up_held known.links.host_leaves below))

  pub term_sees_goes : (terminal : ℕ) → Goes (event.TermSees terminal)
  term_sees_goes terminal begin events old answer new is reached real place stepped_by =
      let f = facts_now known.worlds begin events old is reached in
      let at : Option ℕ = (slot_at terminal old).at in
      let there = ltb-true terminal (length old.slots) (and_parts (is_terminal terminal old) (sees_loss at old) place).0 in
      subst (λ (w : ByteWorld). GoesOn begin events (event.TermSees terminal) old answer w) (sym stepped_by.1)
      (goes_once (event.TermSees terminal) (MessageEvent.TermSees terminal) begin events old answer (saw_loss terminal at old) is reached real (skips begin events (event.TermSees terminal) old is reached tt) place
      (ap (λ (a : Stepped). once (MessageEvent.TermSees terminal) a) (sym stepped_by.0)) (saw_panels terminal at old)
      (saw_stands known.links.term_leaves terminal old (after begin events) f.agree f.up_held reached.stands there at ((after begin events).place terminal) refl refl))

  -- ---- an end begins anew

  pub restart_term_goes : (terminal : ℕ) → Goes (event.RestartTerm terminal)
  restart_term_goes terminal begin events old answer new is reached real place stepped_by =
      let f = facts_now known.worlds begin events old is reached in
      let at : Option ℕ = (slot_at terminal old).at in
      subst (λ (w : ByteWorld). GoesOn begin events (event.RestartTerm terminal) old answer w) (sym stepped_by.1)
      (goes_once (event.RestartTerm terminal) (MessageEvent.RestartTerm terminal) begin events old answer (terminal_anew terminal at old) is reached real (skips begin events (event.RestartTerm terminal) old is reached tt) place
      (ap (λ (a : Stepped). once (MessageEvent.RestartTerm terminal) a) (sym stepped_by.0)) (anew_panels terminal at old)
      (anew_stands known.links.term_leaves terminal old (after begin events) f.agree f.up_held reached.stands (ltb-true terminal (length old.slots) place) at
      ((after begin events).place terminal) refl refl begin))

  pub restart_host_goes : Goes event.RestartHost
  restart_host_goes begin events old answer new is reached real place stepped_by =
      let f = facts_now known.worlds begin events old is reached in
      let made : ByteWorld = host_anew (host_gone_below most_connections old) in
      subst (λ (w : ByteWorld). GoesOn begin events event.RestartHost old answer w) (sym stepped_by.1)
      (goes_once event.RestartHost MessageEvent.RestartHost begin events old answer made is reached real (skips begin events event.RestartHost old is reached tt) place
      (ap (λ (a : Stepped). once MessageEvent.RestartHost a) (sym stepped_by.0))
      (panels_stay known.links.host_leaves old (after begin events) f.agree f.up_held reached.stands)
      (λ agrees. host_anew_stands known.links.host_leaves old (after begin events) f.agree f.up_held reached.stands))

  -- ---- a terminal connects

  pub connect_goes : (terminal : ℕ) (wanted : Option (List ℕ)) → Goes (event.Connect terminal wanted)
  connect_goes terminal wanted begin events old answer new is reached real place stepped_by = by_found (free_number old) refl stepped_by
    where
      by_found : (found : Option ℕ) → free_number old ≡ found → ConnectsIf terminal wanted found old answer new → GoesOn begin events (event.Connect terminal wanted) old answer new
      by_found None free connects = absurd connects
      by_found (Some number) free (Connects.refused memory same) = record {
        more = [];
        comes_to = ap (λ (a : Stepped). once (MessageEvent.Connect terminal wanted) a) (sym memory);
        reached = reached_still begin events old new reached same;
      }
      by_found (Some number) free (Connects.done answers made) =
          let f = facts_now known.worlds begin events old is reached in
          let was : World = after begin events in
          let here : Application = application_of old.host.panels in
          let model : Model = (display_at was (was.place terminal)).model in
          let both = and_parts (is_terminal terminal old) (may_connect (slot_at terminal old).at old) place in
          let there = ltb-true terminal (length old.slots) both.0 in
          let lonely = is_alone (slot_at terminal old).at old both.1 in
          let below = way_within number old (after begin events) reached.stands (found_below most_connections 0 number old free) in
          let same : free_over_messages was.link ≡ Some number = sym (same_free old was reached.stands) ∙ free in
          subst (λ (w : ByteWorld). GoesOn begin events (event.Connect terminal wanted) old answer w) (sym made)
          (goes_once (event.Connect terminal wanted) (MessageEvent.Connect terminal wanted) begin events old answer (connected model number terminal wanted old) is reached real (skips begin events (event.Connect terminal wanted) old is reached tt) place
          (ap (λ (a : Stepped). once (MessageEvent.Connect terminal wanted) a) (sym answers)) refl
          (λ agrees. subst (λ (panels : Panels). WorldRepresents (connected model number terminal wanted old) (joined (application_of panels) terminal model wanted (free_over_messages was.link) was)) reached.panels
          (subst (λ (n : Option ℕ). WorldRepresents (connected model number terminal wanted old) (joined here terminal model wanted n was)) (sym same)
          (connected_stands model number terminal wanted old was known.links.begin f.agree reached.stands below there lonely (model_is terminal old was f.agree reached.stands)
          (subst (λ (n : Option ℕ). EndsAgree (joined here terminal model wanted n was)) same
          (subst (λ (panels : Panels). EndsAgree (joined (application_of panels) terminal model wanted (free_over_messages was.link) was)) (sym reached.panels) agrees))))))
