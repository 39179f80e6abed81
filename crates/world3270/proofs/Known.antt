-- What is known of one world over messages that a list of events leads to, and what one step makes of it.
use Rattle.std.proofs.Common.{◌≡◌, Bool, true, List, [], ◌∷◌, ◌++◌, ap, sym, subst, ◌∙◌, if◌then◌else◌, refl, ℕ}
use Rattle.panels.specs.Panel.{Panels}
use Rattle.std.proofs.lemmas.List.Elements.{All-append, All-cons, All-nil}
use Rattle.std.specs.Prelude.{All}
use Rattle.host_core.specs.Application.{IsApplication, WantsProperScreens, application_of}
use Rattle.world3270.specs.statement.Always.{HeadlineHolds, NoCommandIsRejected}
use Rattle.world3270.specs.model.ByteSteps.{IsStep, is_enabled}
use Rattle.world3270.specs.model.ByteWorld.{ByteWorld}
use Rattle.world3270.specs.statement.Forms.{FormsAreAwaited}
use Rattle.world3270.specs.model.Steps.{done, stepped_by, run}
use Rattle.world3270.specs.refinement.MessageLaws.{WorldLaws}
use Rattle.world3270.specs.statement.Numbers.{NumbersFit}
use Rattle.world3270.specs.model.Enabled.{is_enabled as is_enabled_over_messages}
use Rattle.world3270.specs.model.Places.{EndsAgree, UpIsHeld}
use Rattle.world3270.specs.refinement.Refines.{WorldSetup, IsWorldSetup, Reached, IsValidEvent, GoesOn, after}
use Rattle.world3270.specs.refinement.Sendable.{IsWellFormed, ScreensAreSendable, PaintsAreScreens, PaintsAreSpelt}
use Rattle.world3270.specs.refinement.Representation.{WorldRepresents}
use Rattle.world3270.specs.refinement.RepresentsLinks.{HasTheSizes, MayComeAll, NoneCloses}
use Rattle.world3270.specs.model.World.{World, Event, IsEvent, AreEvents, new_world}
use Rattle.world3270.specs.declared.event.Event.{Event as ByteEvent}
use Rattle.world3270.specs.declared.event.Stepped.{Stepped}
use Rattle.world3270.proofs.Worlds.{run-append}

-- ---- of one world

pub record Facts (world : World) : Type 0 where
  pub headline : HeadlineHolds world
  pub nobody_refuses : NoCommandIsRejected world
  pub agree : EndsAgree world
  pub up_held : UpIsHeld world
  pub forms : FormsAreAwaited world
  pub numbers : NumbersFit world
  pub may : (number : ℕ) → let link = world.link number in MayComeAll link.term link.down × NoneCloses link.term link.down
  pub sendable : ScreensAreSendable world
  pub paints : PaintsAreScreens world
  pub encoded : PaintsAreSpelt world

pub is_application : WorldLaws → (begin : WorldSetup) → IsWorldSetup begin → IsApplication (application_of begin.panels)
is_application known begin is = known.application begin.panels is.panels.otherwise is.panels.laid_out is.panels.apart

asks_for_screens : WorldLaws → (begin : WorldSetup) → IsWorldSetup begin → WantsProperScreens (application_of begin.panels)
asks_for_screens known begin is = known.screens begin.panels is.panels.laid_out is.panels.characters

-- panels have the sizes of the 3278's models
pub the_sizes : (panels : Panels) → HasTheSizes (application_of panels)
the_sizes panels = record { begins = refl; alternate = λ model. refl }

pub facts : WorldLaws → (begin : WorldSetup) → IsWorldSetup begin → (events : List Event) → AreEvents events → All IsWellFormed events → Facts (after begin events)
facts known begin is events are typed =
    let app = is_application known begin is in
    let asks = asks_for_screens known begin is in
    record {
      headline = known.headline (application_of begin.panels) begin.serves begin.pool begin.models events app is.pool is.few are;
      nobody_refuses = known.nobody_refuses (application_of begin.panels) begin.serves begin.pool begin.models events app is.pool is.few are;
      agree = known.agree (application_of begin.panels) begin.serves begin.pool begin.models events app is.pool is.few are;
      up_held = known.up_held (application_of begin.panels) begin.serves begin.pool begin.models events app is.pool is.few are;
      forms = known.forms (application_of begin.panels) begin.serves begin.pool begin.models events app is.pool is.few are;
      numbers = known.numbers (application_of begin.panels) begin.serves begin.pool begin.models events app is.pool is.few are;
      may = known.may (application_of begin.panels) begin.serves begin.pool begin.models events app is.pool is.few are (the_sizes begin.panels);
      sendable = known.sendable (application_of begin.panels) begin.serves begin.pool begin.models events app asks is.pool is.few are typed;
      paints = known.paints (application_of begin.panels) begin.serves begin.pool begin.models events app asks is.pool is.few are typed;
      encoded = known.encoded (application_of begin.panels) begin.serves begin.pool begin.models events app asks is.pool is.few are typed;
    }

-- ---- one step

-- what an event comes to, where it has something to happen to
abbrev pub Goes : ByteEvent → Type 0
Goes event = (begin : WorldSetup) (events : List Event) (old : ByteWorld) (answer : Stepped) (new : ByteWorld)
    → IsWorldSetup begin → Reached begin events old → IsValidEvent event → is_enabled event old ≡ true → IsStep event old answer new
    → GoesOn begin events event old answer new

pub after_more : (begin : WorldSetup) (events more : List Event) → after begin (events ++ more) ≡ run (application_of begin.panels) more (after begin events)
after_more begin events more = run-append (application_of begin.panels) events more (new_world (application_of begin.panels) begin.serves begin.pool begin.models)

pub are_more : (events more : List Event) → AreEvents events → AreEvents more → AreEvents (events ++ more)
are_more [] more are others = others
are_more (event ∷ events) more are others = (are.0, are_more events more are.1 others)

-- the events went on, and the world over messages with them
pub reached_more : (begin : WorldSetup) (events more : List Event) (old new : ByteWorld) → Reached begin events old → AreEvents more → All IsWellFormed more
    → new.host.panels ≡ old.host.panels → WorldRepresents new (run (application_of begin.panels) more (after begin events)) → Reached begin (events ++ more) new
reached_more begin events more old new reached are typed panels stands = record {
  are_events = are_more events more reached.are_events are;
  typed = All-append IsWellFormed events more reached.typed typed;
  panels = panels ∙ reached.panels;
  stands = subst (λ (w : World). WorldRepresents new w) (sym (after_more begin events more)) stands;
}

-- one event happened
happened : (begin : WorldSetup) (event : Event) (world : World) → is_enabled_over_messages (application_of begin.panels) event world ≡ true
    → stepped_by (application_of begin.panels) event world ≡ done (application_of begin.panels) event world
happened begin event world is = ap (λ (b : Bool). if b then done (application_of begin.panels) event world else world) is

pub reached_one : (begin : WorldSetup) (events : List Event) (event : Event) (old new : ByteWorld) → Reached begin events old → IsEvent event → IsWellFormed event
    → is_enabled_over_messages (application_of begin.panels) event (after begin events) ≡ true
    → new.host.panels ≡ old.host.panels → WorldRepresents new (done (application_of begin.panels) event (after begin events)) → Reached begin (events ++ event ∷ []) new
reached_one begin events event old new reached is typed place panels stands =
    reached_more begin events (event ∷ []) old new reached (is, tt) (All-cons IsWellFormed event [] typed (All-nil IsWellFormed)) panels
    (subst (λ (w : World). WorldRepresents new w) (sym (happened begin event (after begin events) place)) stands)

-- nothing happened
pub reached_still : (begin : WorldSetup) (events : List Event) (old new : ByteWorld) → Reached begin events old → new ≡ old → Reached begin (events ++ []) new
reached_still begin events old new reached same =
    reached_more begin events [] old new reached tt (All-nil IsWellFormed) (ap (λ (w : ByteWorld). w.host.panels) same)
    (subst (λ (w : ByteWorld). WorldRepresents w (after begin events)) (sym same) reached.stands)

-- ---- of the world that was reached, and of what events make of it

pub facts_now : WorldLaws → (begin : WorldSetup) (events : List Event) (bytes : ByteWorld) → IsWorldSetup begin → Reached begin events bytes → Facts (after begin events)
facts_now known begin events bytes is reached = facts known begin is events reached.are_events reached.typed

pub facts_then : WorldLaws → (begin : WorldSetup) (events more : List Event) (bytes : ByteWorld) → IsWorldSetup begin → Reached begin events bytes
    → AreEvents more → All IsWellFormed more → Facts (run (application_of begin.panels) more (after begin events))
facts_then known begin events more bytes is reached are typed =
    subst (λ (w : World). Facts w) (after_more begin events more)
    (facts known begin is (events ++ more) (are_more events more reached.are_events are) (All-append IsWellFormed events more reached.typed typed))

pub facts_once : WorldLaws → (begin : WorldSetup) (events : List Event) (event : Event) (bytes : ByteWorld) → IsWorldSetup begin → Reached begin events bytes
    → IsEvent event → IsWellFormed event → is_enabled_over_messages (application_of begin.panels) event (after begin events) ≡ true
    → Facts (done (application_of begin.panels) event (after begin events))
facts_once known begin events event bytes is reached is_event typed place =
    subst (λ (w : World). Facts w) (happened begin event (after begin events) place)
    (facts_then known begin events (event ∷ []) bytes is reached (is_event, tt) (All-cons IsWellFormed event [] typed (All-nil IsWellFormed)))
