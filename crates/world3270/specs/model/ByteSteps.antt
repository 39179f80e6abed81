-- The steps of the world over bytes, one for each event (our profile). host_core and term_core say what the ends do
-- with bytes, keys and acts.
use Rattle.std.specs.Prelude.{◌≡◌, ◌≤◌, ◌+◌, ◌&&◌, ◌||◌, not, nat_lt, ℕ, zero, suc, Bool, true, false, List, Option, Some, None, is_some, if◌then◌else◌, drop, length, take}
use Rattle.keyboard.specs.declared.key.Key.{Key}
use Rattle.keyboard.specs.declared.key.Pressed.{Pressed}
use Rattle.keyboard.specs.declared.key.Pressed.TheVariants as pressed
use Rattle.tn3270e_msg.specs.declared.cause.Fed.{Fed}
use Rattle.tn3270e_msg.specs.declared.cause.Stop.{Stop}
use Rattle.tn3270e_msg.specs.declared.cause.Stop.TheVariants as stop
use Rattle.host_core.specs.Application.{application_of}
use Rattle.host_core.specs.Bytes.{ConnectionAndPool}
use Rattle.host_core.specs.Does.{Does as HostDoes, DoesAnswer, acted_by, noted_by}
use Rattle.host_core.specs.Feeds.{Feeds, connection_and_pool_at, with_connection_and_pool}
use Rattle.host_core.specs.Questions.{answered_by}
use Rattle.host_core.specs.KeepAlive.{kept_alive, may_keep_alive}
use Rattle.host_core.specs.State.{Connection, Host, connection_at, state_at, with_connection, restarted, most_connections, given_up, session_at, with_opened}
use Rattle.host_core.specs.declared.acted.Acted.{Acted}
use Rattle.host_core.specs.declared.acted.Acted.TheVariants as acted
use Rattle.term_core.specs.Feeds.{StopsFor}
use Rattle.term_core.specs.Presses.{LacksKeyRoom, answer_to_key}
use Rattle.term_core.specs.Room.{out_room}
use Rattle.world3270.specs.model.ByteWorld.{ByteWorld, Transits, TerminalSlot, alone, begun_transits, came, cut, sender_gone, is_live, is_senders, model_at, new_slot, attached_slot, transits_at, slot_at, with_transits, with_slot, with_host, host_there, terminal_there, terminal_at, host_out, terminal_out, down_of, up_of}
use Rattle.world3270.specs.model.Enabled.{is_queued}
use Rattle.world3270.specs.model.TrackedTerminals.{TrackedTerminal, TrackedTakes, tracked_after_key}
use Rattle.world3270.specs.declared.event.Event.{Event}
use Rattle.world3270.specs.declared.event.Event.TheVariants as event
use Rattle.world3270.specs.declared.event.Stepped.{Stepped}
use Rattle.world3270.specs.declared.event.Stepped.TheVariants as stepped

-- ---- which events can happen

abbrev pub is_link : ℕ → Bool
is_link number = nat_lt number most_connections

abbrev pub is_terminal : ℕ → ByteWorld → Bool
is_terminal terminal world = nat_lt terminal (length world.slots)

abbrev pub is_lost : ℕ → ByteWorld → Bool
is_lost number world = not (is_live (transits_at number world).down)

-- whether the host or a terminal holds an end of the connection
abbrev pub is_held : ℕ → ByteWorld → Bool
is_held number world = host_there number world || terminal_there number world

-- whether an end is held, and the connection isn't lost
abbrev pub is_up : ℕ → ByteWorld → Bool
is_up number world = is_live (transits_at number world).down && is_held number world

abbrev pub sees_loss : Option ℕ → ByteWorld → Bool
sees_loss None world = false
sees_loss (Some number) world = is_lost number world

-- the least of `count` numbers, from `number` on, at which neither end is held
unfoldable pub free_from : ℕ → ℕ → ByteWorld → Option ℕ
free_from zero number world = None
free_from (suc count) number world = if is_held number world then free_from count (number + 1) world else Some number

abbrev pub free_number : ByteWorld → Option ℕ
free_number world = free_from most_connections 0 world

-- whether a terminal may connect: it is at no connection, and a number is free
abbrev pub may_connect : Option ℕ → ByteWorld → Bool
may_connect None world = is_some (free_number world)
may_connect (Some number) world = false

-- whether an event can happen in a world
abbrev pub is_enabled : Event → ByteWorld → Bool
is_enabled (event.Key terminal key) world = is_terminal terminal world
is_enabled (event.Up number count) world = is_link number
    && (host_there number world && is_queued (take count (up_of number world)))
is_enabled (event.Down number count) world = is_link number
    && (terminal_there number world && is_queued (take count (down_of number world)))
is_enabled (event.Act number) world = is_link number
    && is_some (acted_by (application_of world.host.panels) (state_at number world.host))
is_enabled (event.Answer number ticket said) world =
    is_link number && is_some (answered_by (application_of world.host.panels) (session_at number world.host) ticket said
    (state_at number world.host))
is_enabled (event.Note number text) world = is_link number && is_some (noted_by text (state_at number world.host))
is_enabled (event.KeepAlive number) world = is_link number && may_keep_alive (connection_at number world.host)
is_enabled (event.Lose number) world = is_link number && is_up number world
is_enabled (event.HostSees number) world = is_link number && (is_lost number world && host_there number world)
is_enabled (event.TermSees terminal) world = is_terminal terminal world && sees_loss (slot_at terminal world).at world
is_enabled (event.Connect terminal wanted) world = is_terminal terminal world
    && may_connect (slot_at terminal world).at world
is_enabled (event.RestartTerm terminal) world = is_terminal terminal world
is_enabled event.RestartHost world = true

-- ---- bytes are delivered

-- A terminal is fed bytes: it takes the first `fed.taken` of them, one after another, and its history
-- is updated. While it is at a connection, its output buffer has room for at least `out_room` bytes.
pub record TrackedFeeds (old : TrackedTerminal) (bytes : List ℕ) (fed : Fed) (new : TrackedTerminal) : Type 0 where
  pub few : fed.taken ≤ length bytes
  pub takes : TrackedTakes old (take fed.taken bytes) new
  pub stops : StopsFor out_room fed.stop old.terminal bytes fed.taken new.terminal

-- the outcome of a delivery if memory was refused after this number of bytes
abbrev pub refused_behind : ℕ → Stepped
refused_behind zero = stepped.Memory
refused_behind (suc count) = stepped.Part (suc count)

abbrev pub answer_fed : Stop → ℕ → Stepped
answer_fed stop.Going taken = stepped.Done
answer_fed stop.Memory taken = refused_behind taken
answer_fed (stop.Closed cause) taken = stepped.Done

-- after a terminal's first `count` bytes of output are sent
abbrev pub sent_of : ℕ → TerminalSlot → TerminalSlot
sent_of count old = record old {
  tracked = record old.tracked { terminal = record old.tracked.terminal { out = drop count old.tracked.terminal.out } };
}

abbrev pub terminal_told : Bool → ℕ → Option ℕ → ByteWorld → ByteWorld
terminal_told true count (Some terminal) world = with_slot terminal (sent_of count (slot_at terminal world)) world
terminal_told true count None world = world
terminal_told false count at world = world

abbrev pub host_told : Bool → ℕ → ℕ → ByteWorld → ByteWorld
host_told true count number world =
    with_host (with_connection number (record (connection_at number world.host) {
      out = drop count (connection_at number world.host).out;
    }) world.host) world
host_told false count number world = world

-- after `count` of the bytes under way to the host, or to the terminal, were delivered
abbrev pub up_came : ℕ → ℕ → ByteWorld → ByteWorld
up_came count number world =
    let transits = transits_at number world in
    with_transits number (record transits { up = came count transits.up })
    (terminal_told (is_senders transits.up) count (terminal_at number world.slots) world)

abbrev pub down_came : ℕ → ℕ → ByteWorld → ByteWorld
down_came count number world =
    let transits = transits_at number world in
    with_transits number (record transits { down = came count transits.down })
    (host_told (is_senders transits.down) count number world)

-- ---- an end leaves, and the connection is lost

abbrev pub lost_transits : ℕ → ByteWorld → Transits
lost_transits number world =
    record {
      down = cut (length (host_out number world)) (transits_at number world).down;
      up = cut (length (terminal_out number world)) (transits_at number world).up;
    }

-- after the host leaves a connection, which is lost
abbrev pub host_gone : ℕ → ByteWorld → ByteWorld
host_gone number world =
    with_transits number
    (record (lost_transits number world) { down = sender_gone (host_out number world) (transits_at number world).down })
    (with_host (given_up number world.host) world)

-- after a terminal leaves a connection, which is lost; `slot` is the terminal's then
abbrev pub terminal_gone : TerminalSlot → ℕ → ℕ → ByteWorld → ByteWorld
terminal_gone slot terminal number world =
    with_transits number (record (lost_transits number world) {
      up = sender_gone (slot_at terminal world).tracked.terminal.out (transits_at number world).up;
    })
    (with_slot terminal slot world)

abbrev pub host_gone_if : Stop → ℕ → ByteWorld → ByteWorld
host_gone_if stop.Going number world = world
host_gone_if stop.Memory number world = world
host_gone_if (stop.Closed cause) number world = host_gone number world

abbrev pub terminal_gone_if : Stop → ℕ → ℕ → ByteWorld → ByteWorld
terminal_gone_if stop.Going terminal number world = world
terminal_gone_if stop.Memory terminal number world = world
terminal_gone_if (stop.Closed cause) terminal number world =
    terminal_gone (alone (slot_at terminal world)) terminal number world

-- ---- deliveries

-- These bytes are fed to the host. It leaves the connection if it has closed it.
pub record ComesUp (number : ℕ) (bytes : List ℕ) (old : ByteWorld) (answer : Stepped) (new : ByteWorld) : Type 0 where
  pub fed : Fed
  pub counter : ConnectionAndPool
  pub feeds : Feeds number (connection_and_pool_at number old.host) bytes fed counter
  pub answers : answer ≡ answer_fed fed.stop fed.taken
  pub leaves : new ≡ host_gone_if fed.stop number
      (up_came fed.taken number (with_host (with_connection_and_pool number counter old.host) old))

-- These bytes are fed to a terminal. It leaves the connection if it has closed it.
pub record ComesDown (terminal number : ℕ) (bytes : List ℕ) (old : ByteWorld) (answer : Stepped)
    (new : ByteWorld) : Type 0 where
  pub fed : Fed
  pub tracked : TrackedTerminal
  pub feeds : TrackedFeeds (slot_at terminal old).tracked bytes fed tracked
  pub answers : answer ≡ answer_fed fed.stop fed.taken
  pub leaves : new ≡ terminal_gone_if fed.stop terminal number
      (down_came fed.taken number (with_slot terminal (record (slot_at terminal old) { tracked = tracked }) old))

abbrev pub GoesDown : Option ℕ → ℕ → List ℕ → ByteWorld → Stepped → ByteWorld → Type 0
GoesDown None number bytes old answer new = ⊥
GoesDown (Some terminal) number bytes old answer new = ComesDown terminal number bytes old answer new

-- ---- keys and acts

abbrev pub answer_pressed : Pressed → Stepped
answer_pressed pressed.Done = stepped.Done
answer_pressed (pressed.Refused why) = stepped.Refused why
answer_pressed (pressed.Send aid) = stepped.Done

-- A key is pressed; or memory for the data of a key that sends is refused, and nothing changes.
pub data Presses (terminal : ℕ) (key : Key) (old : ByteWorld) (answer : Stepped) (new : ByteWorld) : Type 0 where
  refused : LacksKeyRoom out_room key (slot_at terminal old).tracked.terminal → answer ≡ stepped.Memory → new ≡ old
      → Presses terminal key old answer new
  done : answer ≡ answer_pressed (answer_to_key key (slot_at terminal old).tracked.terminal)
      → new ≡ with_slot terminal
      (record (slot_at terminal old) { tracked = tracked_after_key key (slot_at terminal old).tracked }) old
      → Presses terminal key old answer new

abbrev pub answer_acted : Acted → Stepped
answer_acted acted.Sent = stepped.Done
answer_acted acted.Nothing = stepped.Skipped
answer_acted acted.Memory = stepped.Memory

-- A call of the host by which one connection of it changes as `becomes` says; nothing else changes.
pub record OnConnection (becomes : Connection → Acted → Connection → Type 0) (number : ℕ) (old : ByteWorld)
    (answer : Stepped) (new : ByteWorld) : Type 0 where
  pub act : Acted
  pub host : Host
  pub acts : becomes (connection_at number old.host) act (connection_at number host)
  pub others : host ≡ with_connection number (connection_at number host) old.host
  pub answers : answer ≡ answer_acted act
  pub leaves : new ≡ with_host host old

-- after the host sends NOP on a connection; nothing else changes
abbrev pub nop_sent : ℕ → ByteWorld → ByteWorld
nop_sent number world =
    with_host (with_connection number (kept_alive (connection_at number world.host)) world.host) world

-- ---- connecting and restarting

-- The connection begins; or memory is refused, and nothing changes.
pub data Connects (terminal : ℕ) (wanted : Option (List ℕ)) (number : ℕ) (old : ByteWorld) (answer : Stepped)
    (new : ByteWorld) : Type 0 where
  refused : answer ≡ stepped.Memory → new ≡ old → Connects terminal wanted number old answer new
  done : answer ≡ stepped.Done
      → new ≡ with_transits number begun_transits (with_slot terminal
      (attached_slot (model_at terminal old) wanted number) (with_host (with_opened number old.host) old))
      → Connects terminal wanted number old answer new

abbrev pub ConnectsIf : ℕ → Option (List ℕ) → Option ℕ → ByteWorld → Stepped → ByteWorld → Type 0
ConnectsIf terminal wanted None old answer new = ⊥
ConnectsIf terminal wanted (Some number) old answer new = Connects terminal wanted number old answer new

abbrev pub saw_loss : ℕ → Option ℕ → ByteWorld → ByteWorld
saw_loss terminal None world = world
saw_loss terminal (Some number) world = terminal_gone (alone (slot_at terminal world)) terminal number world

abbrev pub terminal_anew : ℕ → Option ℕ → ByteWorld → ByteWorld
terminal_anew terminal None world = with_slot terminal (new_slot (model_at terminal world)) world
terminal_anew terminal (Some number) world = terminal_gone (new_slot (model_at terminal world)) terminal number world

abbrev pub host_gone_if_there : ℕ → ByteWorld → ByteWorld
host_gone_if_there number world = if host_there number world then host_gone number world else world

-- after the host leaves each connection with a number below this
unfoldable pub host_gone_below : ℕ → ByteWorld → ByteWorld
host_gone_below zero world = world
host_gone_below (suc number) world = host_gone_if_there number (host_gone_below number world)

abbrev pub host_anew : ByteWorld → ByteWorld
host_anew world = with_host (restarted world.host) world

-- ---- events

abbrev pub Is : ByteWorld → Stepped → ByteWorld → Type 0
Is made answer new = (answer ≡ stepped.Done) × (new ≡ made)

-- An event that can happen leads from `old` to `new`, with this outcome.
abbrev pub IsStep : Event → ByteWorld → Stepped → ByteWorld → Type 0
IsStep (event.Key terminal key) old answer new = Presses terminal key old answer new
IsStep (event.Up number count) old answer new = ComesUp number (take count (up_of number old)) old answer new
IsStep (event.Down number count) old answer new = GoesDown (terminal_at number old.slots) number
    (take count (down_of number old)) old answer new
IsStep (event.Act number) old answer new = OnConnection
    (HostDoes (acted_by (application_of old.host.panels) (state_at number old.host))) number old answer new
IsStep (event.Answer number ticket said) old answer new =
    OnConnection (DoesAnswer (application_of old.host.panels) said (answered_by (application_of old.host.panels)
    (session_at number old.host) ticket said (state_at number old.host))) number old answer new
IsStep (event.Note number text) old answer new =
    OnConnection (HostDoes (noted_by text (state_at number old.host))) number old answer new
IsStep (event.KeepAlive number) old answer new = Is (nop_sent number old) answer new
IsStep (event.Lose number) old answer new = Is (with_transits number (lost_transits number old) old) answer new
IsStep (event.HostSees number) old answer new = Is (host_gone number old) answer new
IsStep (event.TermSees terminal) old answer new = Is (saw_loss terminal (slot_at terminal old).at old) answer new
IsStep (event.Connect terminal wanted) old answer new = ConnectsIf terminal wanted (free_number old) old answer new
IsStep (event.RestartTerm terminal) old answer new =
    Is (terminal_anew terminal (slot_at terminal old).at old) answer new
IsStep event.RestartHost old answer new = Is (host_anew (host_gone_below most_connections old)) answer new

-- An event that can't happen is skipped, and changes nothing.
abbrev pub IsStepIf : Bool → Event → ByteWorld → Stepped → ByteWorld → Type 0
IsStepIf true event old answer new = IsStep event old answer new
IsStepIf false event old answer new = (answer ≡ stepped.Skipped) × (new ≡ old)

-- An event happens, or is skipped, and leads from `old` to `new`, with this outcome.
abbrev pub Steps : Event → ByteWorld → Stepped → ByteWorld → Type 0
Steps event old answer new = IsStepIf (is_enabled event old) event old answer new
