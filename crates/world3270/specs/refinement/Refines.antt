-- The world over bytes refines the world over messages (our profile): after each event the bytes represent a world over
-- messages to which some list of events leads.
use Rattle.std.specs.Prelude.{◌≡◌, ◌<◌, ◌≤◌, ⊤, ℕ, List, [], ◌∷◌, ◌++◌, Option, Some, None, IfSome, drop, take, All, length, true}
use Rattle.codes3270.specs.declared.size.Model.{Model}
use Rattle.lu_pool.specs.Pool.{IsPool}
use Rattle.lu_pool.specs.declared.entry.Entry.{Entry}
use Rattle.panels.specs.Panel.{Panels, AreSound}
use Rattle.host_core.specs.Application.{application_of}
use Rattle.host_core.specs.Questions.{is_ticket, ticket_of}
use Rattle.host_core.specs.State.{Service, served_by, state_at, session_at}
use Rattle.host_core.specs.declared.question.Ticket.{Ticket}
use Rattle.host_core.specs.declared.terminals.Terminals.{Terminals}
use Rattle.world3270.specs.model.ByteRuns.{Runs, refused_at}
use Rattle.world3270.specs.model.ByteSteps.{Steps, is_enabled}
use Rattle.world3270.specs.model.ByteWorld.{ByteWorld, down_of, new_byte_world, up_of}
use Rattle.world3270.specs.refinement.Deliveries.{AreDeliveries, BringAMessage, host_rest, taken_by, terminal_rest}
use Rattle.world3270.specs.model.Steps.{run}
use Rattle.world3270.specs.statement.Headline.{Headline}
use Rattle.world3270.specs.model.Enabled.{is_enabled as is_enabled_over_messages}
use Rattle.world3270.specs.statement.ByteObservation.{seen_bytes}
use Rattle.world3270.specs.refinement.Sendable.{IsWellFormed}
use Rattle.world3270.specs.refinement.Representation.{WorldRepresents}
use Rattle.world3270.specs.refinement.Represents.{all_items, without_nops}
use Rattle.world3270.specs.model.World.{World, Event as MessageEvent, IsEvent, AreEvents, new_world}
use Rattle.world3270.specs.declared.event.Event.{Event}
use Rattle.world3270.specs.declared.event.Event.TheVariants as event
use Rattle.world3270.specs.declared.event.Ran.{Ran}
use Rattle.world3270.specs.declared.event.Stepped.{Stepped}
use Rattle.world3270.specs.declared.event.Stepped.TheVariants as stepped

-- ---- a world that a list of events leads to

-- what a world begins with: the terminals that its host serves, the panels as it shows them to these (`served_by`), the
-- pool of LUs, and the terminals' models
pub record WorldSetup : Type 0 where
  pub serves : Terminals
  pub panels : Panels
  pub pool : List Entry
  pub models : List Model

pub record IsWorldSetup (begin : WorldSetup) : Type 0 where
  pub panels : AreSound begin.panels
  pub marked : served_by begin.serves begin.panels ≡ begin.panels
  pub pool : IsPool begin.pool
  pub few : length begin.models ≤ 16

-- the world over messages after these events
abbrev pub after : WorldSetup → List MessageEvent → World
after begin events = run (application_of begin.panels) events
    (new_world (application_of begin.panels) begin.serves begin.pool begin.models)

-- Holds if the bytes represent the world after these events, each of which can be.
pub record Reached (begin : WorldSetup) (events : List MessageEvent) (bytes : ByteWorld) : Type 0 where
  pub are_events : AreEvents events
  pub typed : All IsWellFormed events
  pub panels : bytes.host.panels ≡ begin.panels
  pub stands : WorldRepresents bytes (after begin events)

-- ---- an event over bytes, as events over messages

-- the event over messages; None for keeping a connection alive
abbrev pub message_event : Event → Option MessageEvent
message_event (event.Key terminal key) = Some (MessageEvent.Press terminal key)
message_event (event.Up number count) = Some (MessageEvent.Up number)
message_event (event.Down number count) = Some (MessageEvent.Down number)
message_event (event.Act number) = Some (MessageEvent.Act number)
message_event (event.Answer number ticket said) = Some (MessageEvent.Answer number said)
message_event (event.Note number text) = Some (MessageEvent.Note number text)
message_event (event.KeepAlive number) = None
message_event (event.Lose number) = Some (MessageEvent.Lose number)
message_event (event.HostSees number) = Some (MessageEvent.HostSees number)
message_event (event.TermSees terminal) = Some (MessageEvent.TermSees terminal)
message_event (event.Connect terminal wanted) = Some (MessageEvent.Connect terminal wanted)
message_event (event.RestartTerm terminal) = Some (MessageEvent.RestartTerm terminal)
message_event event.RestartHost = Some MessageEvent.RestartHost

-- the event once, or not at all if memory was refused
abbrev pub once : MessageEvent → Stepped → List MessageEvent
once event stepped.Done = event ∷ []
once event (stepped.Refused why) = event ∷ []
once event stepped.Skipped = event ∷ []
once event (stepped.Part taken) = event ∷ []
once event stepped.Memory = []

abbrev pub once_if_any : Option MessageEvent → Stepped → List MessageEvent
once_if_any None answer = []
once_if_any (Some event) answer = once event answer

-- an answer of the application once, or not at all if it wasn't taken
abbrev pub once_taken : MessageEvent → Stepped → List MessageEvent
once_taken event stepped.Done = event ∷ []
once_taken event _ = []

-- Holds if an event with this outcome is these events over messages. A delivery of bytes is one delivery for each
-- message whose last byte was taken. An answer of the application is itself, if it was taken (over messages there are
-- no tickets). Any other event is itself once, or no event if memory was refused or there is none over messages.
abbrev pub CorrespondsTo : Event → ByteWorld → Stepped → List MessageEvent → Type 0
CorrespondsTo (event.Up number count) old answer events =
    AreDeliveries all_items (host_rest number old) (taken_by answer (take count (up_of number old)))
    (MessageEvent.Up number) events
CorrespondsTo (event.Down number count) old answer events =
    AreDeliveries without_nops (terminal_rest number old) (taken_by answer (take count (down_of number old)))
    (MessageEvent.Down number) events
CorrespondsTo (event.Answer number ticket said) old answer events =
    events ≡ once_taken (MessageEvent.Answer number said) answer
CorrespondsTo event old answer events = events ≡ once_if_any (message_event event) answer

-- Holds if the event's key, LU name or text is a key, the name of an LU, or a note's text.
abbrev pub IsValidEvent : Event → Type 0
IsValidEvent event = IfSome (message_event event) (λ message. IsEvent message × IsWellFormed message)

-- Holds if the connection isn't open, or the ticket is that of its question.
abbrev pub IsTicketAt : Ticket → ℕ → Service → Type 0
IsTicketAt ticket session Service.Free = ⊤
IsTicketAt ticket session (Service.Open rest conn) = is_ticket ticket (ticket_of session conn) ≡ true
IsTicketAt ticket session (Service.Closed cause) = ⊤

-- Holds unless the event is a delivery of no bytes, which is always skipped, a delivery of NOPs alone, or an answer to
-- another question, which are no events over messages.
abbrev pub IsCounted : Event → ByteWorld → Type 0
IsCounted (event.Up number count) world = 0 < count
IsCounted (event.Down number count) world = (0 < count) × BringAMessage number world
IsCounted (event.Answer number ticket said) world = IsTicketAt ticket (session_at number world.host)
    (state_at number world.host)
IsCounted event world = ⊤

-- ---- the laws

-- A new world over bytes represents a new world over messages.
abbrev pub BeginIsReached : Type 0
BeginIsReached = (begin : WorldSetup) → IsWorldSetup begin
    → Reached begin [] (new_byte_world begin.serves begin.panels begin.pool begin.models)

-- Holds if the new bytes represent the world after the events (`more`) that this event is over messages.
pub record GoesOn (begin : WorldSetup) (events : List MessageEvent) (event : Event) (old : ByteWorld) (answer : Stepped)
    (new : ByteWorld) : Type 0 where
  pub more : List MessageEvent
  pub comes_to : CorrespondsTo event old answer more
  pub reached : Reached begin (events ++ more) new

-- After each step the bytes represent the world after the events that the step is over messages.
abbrev pub StepsAreSimulated : Type 0
StepsAreSimulated =
    (begin : WorldSetup) (events : List MessageEvent) (event : Event) (old : ByteWorld) (answer : Stepped)
    (new : ByteWorld)
    → IsWorldSetup begin → Reached begin events old → IsValidEvent event → Steps event old answer new
    → GoesOn begin events event old answer new

-- These events happen one after another, from the old world to the new one, and memory is refused to none of them: what
-- they are over messages, each by its own answer in the world in which it happens, after `before`.
abbrev pub CorrespondTo : WorldSetup → List MessageEvent → List Event → ByteWorld → ByteWorld → List MessageEvent
    → Type 0
CorrespondTo begin before [] old new more = (new ≡ old) × (more ≡ [])
CorrespondTo begin before (event ∷ events) old new more =
    (answer : Stepped) × (next : ByteWorld) × (others : List MessageEvent) × Steps event old answer next
    × (refused_at answer ≡ None)
    × (one : GoesOn begin before event old answer next) × (more ≡ one.more ++ others)
    × CorrespondTo begin (before ++ one.more) events next new others

-- what the first of these is over messages, if there is one: memory was refused to it after this number of bytes
abbrev pub NextCorrespondsTo : WorldSetup → List MessageEvent → List Event → ℕ → ByteWorld → ByteWorld
    → List MessageEvent → Type 0
NextCorrespondsTo begin before [] part old new more = (part ≡ 0) × (new ≡ old) × (more ≡ [])
NextCorrespondsTo begin before (event ∷ events) part old new more =
    (answer : Stepped) × Steps event old answer new × (refused_at answer ≡ Some part)
    × (one : GoesOn begin before event old answer new) × (more ≡ one.more)

-- A run is over messages what its whole events are, and then the next one, as far as it was taken.
pub record RunIsSimulated (begin : WorldSetup) (before : List MessageEvent) (events : List Event) (old : ByteWorld)
    (ran : Ran) (new : ByteWorld) : Type 0 where
  pub first : List MessageEvent
  pub last : List MessageEvent
  pub mid : ByteWorld
  pub whole : CorrespondTo begin before (take ran.whole events) old mid first
  pub next : NextCorrespondsTo begin (before ++ first) (drop ran.whole events) ran.part mid new last
  pub between : Reached begin (before ++ first) mid
  pub reached : Reached begin (before ++ (first ++ last)) new

abbrev pub AreValidEvents : List Event → Type 0
AreValidEvents [] = ⊤
AreValidEvents (event ∷ events) = IsValidEvent event × AreValidEvents events

-- After each run the bytes represent the world after what its events are over messages.
abbrev pub RunsAreSimulated : Type 0
RunsAreSimulated = (begin : WorldSetup) (before : List MessageEvent) (events : List Event) (old : ByteWorld) (ran : Ran)
    (new : ByteWorld)
    → IsWorldSetup begin → Reached begin before old → AreValidEvents events → Runs events old ran new
    → RunIsSimulated begin before events old ran new

-- An event is skipped exactly if its event over messages is.
abbrev pub SameSkips : Type 0
SameSkips = (begin : WorldSetup) (events : List MessageEvent) (event : Event) (bytes : ByteWorld)
    → IsWorldSetup begin → Reached begin events bytes
    → IsCounted event bytes
    → IfSome (message_event event) (λ message. is_enabled event bytes
    ≡ is_enabled_over_messages (application_of begin.panels) message (after begin events))

-- ---- worlds that can be reached

-- Holds if the bytes represent a world over messages to which some list of events leads.
pub record IsReached (bytes : ByteWorld) : Type 0 where
  pub begin : WorldSetup
  pub is_begin : IsWorldSetup begin
  pub events : List MessageEvent
  pub reached : Reached begin events bytes

-- The headline holds of each such world.
abbrev pub HeadlineIsSeen : Type 0
HeadlineIsSeen = (bytes : ByteWorld) → IsReached bytes → Headline (seen_bytes bytes)

-- ---- what the calls of `World` promise

-- Holds if the old bytes represent a world over messages; and, for each that they represent, the new bytes represent
-- that world after the events that this event is over messages.
pub record StepOverMessages (event : Event) (old : ByteWorld) (answer : Stepped) (new : ByteWorld) : Type 0 where
  pub represents : IsReached old
  pub goes_on : (begin : WorldSetup) (events : List MessageEvent) → IsWorldSetup begin → Reached begin events old
      → GoesOn begin events event old answer new

-- Holds if the old bytes represent a world over messages; and the new ones represent it after the run's events.
pub record RunOverMessages (events : List Event) (old : ByteWorld) (ran : Ran) (new : ByteWorld) : Type 0 where
  pub represents : IsReached old
  pub goes_on : (begin : WorldSetup) (before : List MessageEvent) → IsWorldSetup begin → Reached begin before old
      → RunIsSimulated begin before events old ran new
