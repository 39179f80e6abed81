-- The steps of the example's runs, and records of the states that they reach. Readers and proofs need them, and nothing
-- rests on them (our profile).
use Rattle.std.specs.Prelude.{◌≡◌, ◌∷◌, ◌++◌, ℕ, suc, zero, Bool, List, [], map, filter_map, replicate, Option, None, Some, option_map}
use Rattle.codes3270.specs.Size.{ScreenSize}
use Rattle.codes3270.specs.declared.size.Model.TheVariants.{M5}
use Rattle.codes3270.specs.declared.attention.Aid.{Aid}
use Rattle.codes3270.specs.declared.attention.Aid.TheVariants.{NoAid}
use Rattle.codes3270.specs.declared.attribute.Cell.TheVariants.{Char}
use Rattle.datastream.specs.Screen.{Screen}
use Rattle.datastream.specs.Wanted.{WantedScreen}
use Rattle.keyboard.specs.declared.key.Key.{Key}
use Rattle.keyboard.specs.declared.key.Lock.{Lock}
use Rattle.keyboard.specs.declared.key.Lock.TheVariants.{Free, Wait}
use Rattle.lu_pool.specs.Asking.{device_in_use}
use Rattle.lu_pool.specs.Pool.{entry}
use Rattle.lu_pool.specs.declared.entry.Entry.{Entry}
use Rattle.shadow.specs.Queries.{field_at}
use Rattle.shadow.specs.Belief.{Fact, Belief}
use Rattle.tn3270e_msg.specs.declared.term_talk.TermState.{TermState}
use Rattle.tn3270e_msg.specs.declared.term_talk.TermState.TheVariants.{Agreed, Refused}
use Rattle.host_core.specs.Messages.{ToTerminal, ToHost}
use Rattle.host_core.specs.declared.terminals.Terminals.TheVariants.{Waiting as WaitingTerminals}
use Rattle.world3270.specs.examples.ExampleApplication.{example, example_pool, l1, l2, small}
use Rattle.world3270.specs.model.Steps.{run}
use Rattle.world3270.specs.statement.Headline.{IsLive, IsHostsTurn}
use Rattle.world3270.specs.statement.Observation.{seen_link}
use Rattle.world3270.specs.model.World.{Place, World, Event, new_world}

-- ---- what happens, with one terminal, a model 5

-- rounds on connection `number`: a message is delivered to the host, the host acts, one is delivered to the terminal
abbrev pub rounds : ℕ → ℕ → List Event
rounds number zero = []
rounds number (suc more) = Event.Up number ∷ Event.Act number ∷ Event.Down number ∷ rounds number more

-- six rounds: enough until nothing is under way
abbrev pub settle : ℕ → List Event
settle number = rounds number 6

-- the terminal connects, and requests L1
abbrev pub connects : List Event
connects = Event.Connect 0 (Some l1) ∷ []

abbrev pub presses : List Key → List Event
presses keys = map (Event.Press 0) keys

-- the terminal connects, and is shown the first panel
abbrev pub connected : List Event
connected = connects ++ settle 0

abbrev pub after : List Event → World
after events = run example events (new_world example WaitingTerminals example_pool (M5 ∷ []))

-- ---- where it ends

-- a state of the world: the terminal's place; the size of its screen, the screen, and whether the keyboard is unlocked;
-- the state of its negotiation, with the LU that it is bound to or the reason of a rejection; what is under way on its
-- connection; and the pool
pub record End : Type 0 where
  pub place : Place
  pub size : ScreenSize
  pub screen : Screen
  pub lock : Lock
  pub talk : TermState
  pub down : List ToTerminal
  pub up : List ToHost
  pub pool : List Entry

-- the state of a world in which the terminal is at this connection
abbrev pub end_on : ℕ → World → End
end_on number world =
    let link = world.link number in
    record {
      place = world.place 0;
      size = link.term.display.size;
      screen = link.term.display.screen;
      lock = link.term.display.keyboard.lock;
      talk = link.term.talk.talk.state;
      down = link.down;
      up = link.up;
      pool = world.pool;
    }

-- connection 0 holds L1
abbrev pub l1_held : List Entry
l1_held = entry l1 (Some 0) ∷ entry l2 None ∷ []

-- the terminal is at connection 0, bound to L1, with this screen and an unlocked keyboard; nothing is under way
abbrev pub bound_and_shows : ScreenSize → Screen → End
bound_and_shows size screen = record {
  place = Place.At 0;
  size = size;
  screen = screen;
  lock = Free;
  talk = Agreed l1;
  down = [];
  up = [];
  pool = l1_held;
}

-- the terminal is at connection 1, and its request for L1 was rejected, since connection 0 holds L1; the screen is
-- blank, and the keyboard locked
abbrev pub refused_l1 : End
refused_l1 = record {
  place = Place.At 1;
  size = small;
  screen = record { cells = replicate 32 (Char 0); cursor = 0; aid = NoAid };
  lock = Wait;
  talk = Refused device_in_use;
  down = [];
  up = [];
  pool = l1_held;
}

-- ---- on the way

-- what the terminal at connection 0 shows
abbrev pub shown_by : World → Screen
shown_by world = (world.link 0).term.display.screen

-- where the terminal is, whether the host holds connection 0, and the pool
pub record Apart : Type 0 where
  pub place : Place
  pub host_here : Bool
  pub pool : List Entry

abbrev pub apart : World → Apart
apart world = record { place = world.place 0; host_here = (world.link 0).host_here; pool = world.pool }

-- Holds if the host reads the screen at connection 0: its second command there is under way.
abbrev pub Reads : World → Type 0
Reads world = (world.link 0).down ≡ ToTerminal.ReadBuffer 1 ∷ []

-- the screen that a paint under way on connection 0 wants
abbrev pub wanted_in : ToTerminal → Option WantedScreen
wanted_in (ToTerminal.Paint number wanted over) = Some wanted
wanted_in _ = None

abbrev pub wanted_of : World → List WantedScreen
wanted_of world = filter_map wanted_in (world.link 0).down

-- the addresses of the fields' attributes
abbrev pub name_place : ℕ
name_place = 5

abbrev pub letter_place : ℕ
letter_place = 10

-- Holds if on connection 0, a live session with L1, the host has the turn after this key with its last command
-- answered, and `fact` is what it knows of the field whose attribute is at this address. So, if the key is Enter, the
-- premises of the headline's parts are met.
pub record Decides (world : World) (key : Aid) (place : ℕ) (fact : Fact) : Type 0 where
  pub live : IsLive (seen_link (world.link 0)) l1
  pub turn : IsHostsTurn (seen_link (world.link 0))
  pub pressed : (world.link 0).term.display.screen.aid ≡ key
  pub knows : option_map (λ (belief : Belief). belief.fact) (field_at place (world.link 0).host.shadow) ≡ Some fact
