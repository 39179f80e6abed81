-- The example's terminal signed on. What the two ends say of functions is a set, which doesn't compute: a run is computed up to there,
-- and from there on.
use Rattle.std.proofs.Common.{◌≡◌, ℕ, Bool, true, false, List, [], ◌∷◌, ◌++◌, drop, Option, Some, None, refl, ap, ◌∙◌, if◌then◌else◌, ◌&&◌}
use Rattle.codes3270.specs.declared.size.Model.TheVariants.{M5}
use Rattle.std.specs.Prelude.{option_map, is_some}
use Rattle.codes3270.specs.declared.attention.Aid.{Aid}
use Rattle.lu_pool.specs.Asking.{answer_to}
use Rattle.shadow.specs.Queries.{field_at}
use Rattle.shadow.specs.Belief.{Fact, Belief}
use Rattle.tn3270e_msg.specs.Device.{device_of}
use Rattle.tn3270e_msg.specs.HostTable.{host_transition}
use Rattle.tn3270e_msg.specs.Talk.{RequestsFunctions, IsFunctions, follow, NegotiationMessage}
use Rattle.tn3270e_msg.specs.TermTable.{term_transition}
use Rattle.tn3270e_msg.specs.declared.functions.FunctionsOffer.{FunctionsOffer}
use Rattle.tn3270e_msg.specs.declared.functions.FunctionsOffer.TheVariants.{ResponsesAlone}
use Rattle.tn3270e_msg.specs.declared.host_talk.HostState.TheVariants.{Closed as HostClosed}
use Rattle.tn3270e_msg.specs.declared.reply.OwnedMessage.TheVariants.{FunRequest, FunIs}
use Rattle.tn3270e_msg.specs.declared.term_talk.TermState.TheVariants.{Closed as TermClosed}
use Rattle.host_core.specs.Answering.{number_of}
use Rattle.host_core.specs.Application.{Application}
use Rattle.host_core.specs.Messages.{ToTerminal, ToHost}
use Rattle.host_core.specs.declared.turn.Turn.{Turn}
use Rattle.host_core.specs.declared.turn.Turn.TheVariants as whose
use Rattle.host_core.specs.Takes.{talked_on}
use Rattle.host_core.specs.declared.terminals.Terminals.TheVariants.{Waiting as WaitingTerminals}
use Rattle.world3270.specs.examples.ExampleApplication.{example, l1, example_pool}
use Rattle.world3270.specs.examples.ExampleEnds.{rounds, connects, connected, after, Decides}
use Rattle.world3270.specs.model.Steps.{stepped_by, run, host_took_it, came_up, term_took_it, came_down, went_down}
use Rattle.world3270.specs.statement.Headline.{IsHostsTurn}
use Rattle.world3270.specs.model.Enabled.{is_queued}
use Rattle.world3270.specs.statement.Observation.{conn_seen, end_seen, host_seen, seen_link, terminal_seen}
use Rattle.world3270.specs.model.Terminal.{bound_to, replied}
use Rattle.world3270.specs.model.World.{World, Event, new_world}
use Rattle.tn3270e_msg.proofs.Agreement.{responses_alone}
use Rattle.world3270.proofs.RunsInPieces.{runs_compose}

-- ---- the talk's last steps, over what both ends want

unfoldable pub request_taken : FunctionsOffer → World → World
request_taken wanted world =
    let conn = (world.link 0).host in
    let next = follow HostClosed conn.talk (host_transition conn.talk.state (RequestsFunctions wanted)) in
    host_took_it 0 (talked_on (answer_to world.pool) conn None next.0 next.1) [] world

unfoldable pub agreement_taken : FunctionsOffer → World → World
agreement_taken wanted world =
    let end = (world.link 0).term in
    term_took_it 0 0 (replied end (follow TermClosed end.talk.talk (term_transition end.talk.model end.talk.wanted end.talk.talk.state (IsFunctions wanted))))
    (drop 1 (world.link 0).down) world

-- a request for functions has come to the host, and nothing behind it
pub record IsRequested (world : World) : Type 0 where
  pub here : (world.link 0).host_here ≡ true
  pub up : (world.link 0).up ≡ ToHost.TalksUp (NegotiationMessage.Sub FunRequest) ∷ []

-- the agreement has come to the terminal
pub record IsAgreed (world : World) : Type 0 where
  pub here : (world.link 0).term_here ≡ Some 0
  pub down : (world.link 0).down ≡ ToTerminal.TalksDown (NegotiationMessage.Sub FunIs) ∷ drop 1 (world.link 0).down

pub requested : (app : Application) (world : World) → IsRequested world → stepped_by app (Event.Up 0) world ≡ request_taken ResponsesAlone world
unfolding request_taken
requested app world is =
    ap (λ (here : Bool). if here && is_queued (world.link 0).up then came_up 0 (world.link 0).up world else world) is.here
    ∙ ap (λ (up : List ToHost). if is_queued up then came_up 0 up world else world) is.up
    ∙ ap (λ (wanted : FunctionsOffer). request_taken wanted world) responses_alone

pub agreed : (app : Application) (world : World) → IsAgreed world → stepped_by app (Event.Down 0) world ≡ agreement_taken ResponsesAlone world
unfolding agreement_taken
agreed app world is =
    ap (λ (here : Option ℕ). if is_some here && is_queued (world.link 0).down then went_down 0 here world else world) is.here
    ∙ ap (λ (down : List ToTerminal). if is_queued down then came_down 0 0 down world else world) is.down
    ∙ ap (λ (wanted : FunctionsOffer). agreement_taken wanted world) responses_alone

-- the host has taken the request, and acted
unfoldable pub acted_on : Application → World → World
acted_on app world = stepped_by app (Event.Act 0) (request_taken ResponsesAlone world)

-- the round of a talk in which both ends agree
unfoldable pub agree : Application → World → World
agree app world = agreement_taken ResponsesAlone (acted_on app world)

round : (app : Application) (rest : List Event) (world : World) → IsRequested world → IsAgreed (acted_on app world) → run app (rounds 0 1 ++ rest) world ≡ run app rest (agree app world)
unfolding acted_on agree
round app rest world is after_it =
    ap (λ (taken : World). run app rest (stepped_by app (Event.Down 0) (stepped_by app (Event.Act 0) taken))) (requested app world is)
    ∙ ap (run app rest) (agreed app (acted_on app world) after_it)

-- a run in which the terminal connects and agrees, from some world on
pub agreeing : (app : Application) (before rest : List Event) (world : World) → IsRequested (run app before world)
    → IsAgreed (acted_on app (run app before world)) → run app (before ++ (rounds 0 1 ++ rest)) world ≡ run app rest (agree app (run app before world))
agreeing app before rest world is after_it = runs_compose app before (rounds 0 1 ++ rest) world ∙ round app rest (run app before world) is after_it

-- ---- the first agreement

-- the example from its begin
unfoldable pub start : World
start = new_world example WaitingTerminals example_pool (M5 ∷ [])

unfoldable pub asks : List Event
asks = connects ++ rounds 0 3

unfoldable pub signed : World
signed = agree example (run example asks start)

pub is_signed : (rest : List Event) → after (connected ++ rest) ≡ run example (rounds 0 2 ++ rest) signed
unfolding start asks signed acted_on agree request_taken agreement_taken device_of
is_signed rest =
    let is : IsRequested (run example asks start) = record { here = refl; up = refl } in
    let after_it : IsAgreed (acted_on example (run example asks start)) = record { here = refl; down = refl } in
    agreeing example asks (rounds 0 2 ++ rest) start is after_it

-- what is seen after a run that begins so, once it is computed from there on
pub once_signed : {X : Type 0} (look : World → X) (rest : List Event) (x : X) → look (run example (rounds 0 2 ++ rest) signed) ≡ x → look (after (connected ++ rest)) ≡ x
once_signed look rest x computed = ap look (is_signed rest) ∙ computed

-- ---- the host's turn

pub record Facts : Type 0 where
  pub lost : Bool
  pub host_here : Bool
  pub term_here : Option ℕ
  pub bound : Option (List ℕ)
  pub turn : Turn
  pub pending : Option ℕ
  pub aid : Aid
  pub fact : Option Fact

abbrev pub facts : ℕ → World → Facts
facts place world =
    let link = world.link 0 in
    record {
      lost = link.lost;
      host_here = link.host_here;
      term_here = link.term_here;
      bound = bound_to link.term.talk.talk.state;
      turn = link.host.turn;
      pending = number_of link.host.pending;
      aid = link.term.display.screen.aid;
      fact = option_map (λ (belief : Belief). belief.fact) (field_at place link.host.shadow);
    }

abbrev pub at_turn : Aid → Option Fact → Facts
at_turn key fact = record {
  lost = false;
  host_here = true;
  term_here = Some 0;
  bound = Some l1;
  turn = whose.Host;
  pending = None;
  aid = key;
  fact = fact;
}

pub turned : (world : World) (key : Aid) (place : ℕ) (fact : Option Fact) → facts place world ≡ at_turn key fact → IsHostsTurn (seen_link (world.link 0))
turned world key place fact e = record {
  host = conn_seen (world.link 0).host;
  host_is = ap (λ (all : Facts). host_seen all.host_here (world.link 0).host) e;
  terminal = end_seen 0 (world.link 0).term;
  terminal_is = ap (λ (all : Facts). terminal_seen all.term_here (world.link 0).term) e;
  turn = ap (λ (all : Facts). all.turn) e;
  answered = ap (λ (all : Facts). all.pending) e;
}

pub decided : (world : World) (key : Aid) (place : ℕ) (fact : Fact) → facts place world ≡ at_turn key (Some fact) → Decides world key place fact
decided world key place fact e = record {
  live = record {
    up = ap (λ (all : Facts). all.lost) e;
    host = conn_seen (world.link 0).host;
    host_is = ap (λ (all : Facts). host_seen all.host_here (world.link 0).host) e;
    terminal = end_seen 0 (world.link 0).term;
    terminal_is = ap (λ (all : Facts). terminal_seen all.term_here (world.link 0).term) e;
    bound = ap (λ (all : Facts). all.bound) e;
  };
  turn = turned world key place (Some fact) e;
  pressed = ap (λ (all : Facts). all.aid) e;
  knows = ap (λ (all : Facts). all.fact) e;
}
