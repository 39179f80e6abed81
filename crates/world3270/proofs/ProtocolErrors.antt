-- No protocol error: what is known of messages, and of steps over bytes, read off a world in hand.
use Rattle.std.proofs.Common.{◌≡◌, lit≤, ℕ, true, Option, Some, List, [], ◌∷◌, ◌++◌, refl, ap, sym, subst, ◌∙◌}
use Rattle.tn3270e_msg.specs.declared.term_talk.TermState.{TermState}
use Rattle.tn3270e_msg.specs.declared.term_talk.TermState.TheVariants.{Waiting, Willing, TypeAsked, FunctionsAsked, Agreed, Refused, Closed}
use Rattle.telnet_wire.specs.Reading.{Rest, IsRest, Delivers, nothing}
use Rattle.tn3270e_msg.specs.Header.{record_limit, spelling}
use Rattle.term_core.specs.Says.{outcome_code, response_header}
use Rattle.term_core.specs.declared.outcome.Outcome.TheVariants as outcomes
use Rattle.term_core.specs.State.{Link as LinkValue, Attached, phase_of, talk_phase}
use Rattle.host_core.specs.Session.{Session}
use Rattle.world3270.specs.model.ByteSteps.{Steps}
use Rattle.world3270.specs.model.ByteWorld.{ByteWorld, host_there, is_there, slot_at, terminal_at, up_of}
use Rattle.world3270.specs.refinement.Deliveries.{host_rest}
use Rattle.world3270.specs.refinement.MessageLaws.{WorldLaws}
use Rattle.world3270.specs.model.Places.{EndsAgree}
use Rattle.world3270.specs.statement.ProtocolErrors.{HasNotClosed, RefusalsAreNegative, RefusesNothing, WorldsHaveNoProtocolError, EventsMakeNoProtocolErrors}
use Rattle.world3270.specs.refinement.Refines.{IsReached, StepsAreSimulated, after}
use Rattle.world3270.specs.refinement.Representation.{WorldRepresents, IsAt, conn_of, tracked_of}
use Rattle.world3270.specs.statement.Unbroken.{NobodyCloses, TerminalsRefuseNothing}
use Rattle.world3270.specs.model.World.{Place, World}
use Rattle.world3270.specs.declared.event.Event.{Event}
use Rattle.world3270.specs.declared.event.Event.TheVariants as event
use Rattle.world3270.specs.declared.event.Stepped.{Stepped}
use Rattle.world3270.proofs.Known.{facts_now}
use Rattle.world3270.proofs.Unbroken.{none_negative}

-- ---- in a world

-- a terminal that is attached hasn't closed its connection
talk_open : (state : TermState) → HasNotClosed (talk_phase state)
talk_open Waiting = tt
talk_open Willing = tt
talk_open TypeAsked = tt
talk_open (FunctionsAsked lu) = tt
talk_open (Agreed lu) = tt
talk_open (Refused reason) = tt
talk_open (Closed cause) = tt

terminal_open : (bytes : ByteWorld) (world : World) → WorldRepresents bytes world → EndsAgree world → (terminal : ℕ) (place : Place) → world.place terminal ≡ place
    → IsAt (slot_at terminal bytes) place → HasNotClosed (phase_of (slot_at terminal bytes).tracked.terminal.link)
terminal_open bytes world stands agree terminal (Place.Alone display) is at = subst (λ (l : LinkValue). HasNotClosed (phase_of l)) (sym at.1.detached) tt
terminal_open bytes world stands agree terminal (Place.At number) is at =
    let here : (world.link number).term_here ≡ Some terminal = (agree terminal number).0 is in
    let link = stands.links number in
    let term = link.term terminal here in
    let found : terminal_at number bytes.slots ≡ Some terminal = link.term_here ∙ here in
    let attached : (slot_at terminal bytes).tracked.terminal.link ≡ Attached term.rest term.holds.talk =
    sym (ap (λ (h : Option ℕ). (tracked_of h bytes).terminal.link) found) ∙ term.holds.attached in
    subst (λ (l : LinkValue). HasNotClosed (phase_of l)) (sym attached) (talk_open term.holds.talk.talk.state)

pub worlds_have_no_error : WorldLaws → WorldsHaveNoProtocolError
worlds_have_no_error known bytes is =
    let world : World = after is.begin is.events in
    let stands : WorldRepresents bytes world = is.reached.stands in
    let facts = facts_now known is.begin is.events bytes is.is_begin is.reached in
    record {
      hosts = stands.none_closed;
      terminals = λ terminal. terminal_open bytes world stands facts.agree terminal (world.place terminal) refl (stands.places terminal);
      responses = λ number there.
          let link = stands.links number in
          let holds : link.read ≡ host_rest number bytes = sym (link.host (sym link.host_here ∙ there)).rest_is in
          record {
            is_rest = subst (IsRest record_limit) holds link.up.is_rest;
            items = link.up.items;
            delivers = subst (λ (rest : Rest). Delivers record_limit rest (up_of number bytes) link.up.items nothing) holds link.up.delivers;
            none = none_negative link.up.items (world.link number).up link.up.each (facts.nobody_refuses.none_refused number);
          };
      turns = λ number rest conn open_there turn reason.
          let link = stands.links number in
          let there : host_there number bytes ≡ true = ap is_there open_there in
          let same : conn ≡ (world.link number).host = sym (ap conn_of open_there) ∙ (link.host (sym link.host_here ∙ there)).host in
          facts.nobody_refuses.none_heard number (sym (ap (λ (c : Session). c.turn) same) ∙ turn) (sym (ap (λ (c : Session). c.turn_reason) same) ∙ reason);
    }

-- ---- in steps

refuses : TerminalsRefuseNothing → (event : Event) (old : ByteWorld) (answer : Stepped) (new : ByteWorld) → IsReached old → Steps event old answer new → RefusesNothing event old new
refuses none (event.Down number count) old answer new is steps = λ terminal found. none terminal number count old answer new is found steps
refuses none (event.Key terminal key) old answer new is steps = tt
refuses none (event.Up number count) old answer new is steps = tt
refuses none (event.Act number) old answer new is steps = tt
refuses none (event.Answer number ticket said) old answer new is steps = tt
refuses none (event.Note number text) old answer new is steps = tt
refuses none (event.KeepAlive number) old answer new is steps = tt
refuses none (event.Lose number) old answer new is steps = tt
refuses none (event.HostSees number) old answer new is steps = tt
refuses none (event.TermSees terminal) old answer new is steps = tt
refuses none (event.Connect terminal wanted) old answer new is steps = tt
refuses none (event.RestartTerm terminal) old answer new is steps = tt
refuses none event.RestartHost old answer new is steps = tt

pub events_make_no_errors : StepsAreSimulated → NobodyCloses → TerminalsRefuseNothing → EventsMakeNoProtocolErrors
events_make_no_errors goes closes none [] bytes is real = tt
events_make_no_errors goes closes none (event ∷ events) bytes is real = λ answer next steps.
    let one = goes is.begin is.events event bytes answer next is.is_begin is.reached real.0 steps in (
      record {
        ends = closes is.begin is.events event bytes answer next is.is_begin is.reached one;
        responses = refuses none event bytes answer next is steps;
      },
      events_make_no_errors goes closes none events next
          (record { begin = is.begin; is_begin = is.is_begin; events = is.events ++ one.more; reached = one.reached }) real.1,
    )

-- ---- what a refusal is

pub refusals_are_negative : RefusalsAreNegative
refusals_are_negative number sense below =
    let code : List ℕ = outcome_code (outcomes.Refused sense) ∷ [] in
    record {
      bytes = spelling (response_header number (outcomes.Refused sense)) ++ code;
      header = response_header number (outcomes.Refused sense);
      body = code;
      is_record = refl;
      begins = record { is_header = record { kind = tt; flag = lit≤ tt }; number = below; encoded = refl };
      kind = refl;
      flag = refl;
    }
