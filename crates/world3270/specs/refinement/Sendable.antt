-- All that is sent can be encoded as bytes: each terminal's screen can always be sent, and each paint is a command of
-- the data stream (our profile).
use Rattle.std.specs.Prelude.{◌≡◌, ◌≤◌, ◌<◌, ⊤, ℕ, List, length, All, ◌⊎◌}
use Rattle.datastream.specs.declared.command_code.CommandCode.TheVariants.{Write}
use Rattle.codes3270.specs.declared.size.Model.{Model}
use Rattle.codes3270.specs.Size.{ScreenSize, cells_in, model_2}
use Rattle.datastream.specs.Grammar.{IsCommand, IsSpelt as IsSpeltCommand, CommandParts}
use Rattle.datastream.specs.InboundFields.{IsSendable}
use Rattle.datastream.specs.InboundText.{IsInbound}
use Rattle.datastream.specs.Screen.{Screen}
use Rattle.datastream.specs.Wanted.{IsScreen, WantedScreen}
use Rattle.keyboard.specs.Sendable.{IsKey}
use Rattle.lu_pool.specs.Pool.{IsPool}
use Rattle.lu_pool.specs.declared.entry.Entry.{Entry}
use Rattle.host_core.specs.Application.{Application, IsApplication, WantsProperScreens, AreTexts, IsSizeOf}
use Rattle.host_core.specs.Messages.{ToTerminal, ToHost}
use Rattle.host_core.specs.declared.terminals.Terminals.{Terminals}
use Rattle.shadow.specs.Paint.{paint, paint_bytes}
use Rattle.world3270.specs.model.Terminal.{Display}
use Rattle.world3270.specs.model.Steps.{run}
use Rattle.world3270.specs.model.World.{World, Event, AreEvents, new_world, display_at}

-- Holds if the screen has one of the two sizes of the terminal's model, and the cursor is on it.
pub record HasASize (app : Application) (display : Display) : Type 0 where
  pub size : IsSizeOf app display.model display.size
  pub whole : length display.screen.cells ≡ cells_in display.size
  pub cursor : display.screen.cursor < cells_in display.size

-- Each terminal's screen has such a size.
abbrev pub ScreensHaveASize : Application → World → Type 0
ScreensHaveASize app world = (terminal : ℕ) → HasASize app (display_at world (world.place terminal))

-- Holds if an event's key is one that a terminal has.
abbrev pub IsWellFormed : Event → Type 0
IsWellFormed (Event.Press terminal key) = IsKey key
IsWellFormed _ = ⊤

-- `Holds` is true after any list of events with such keys, for any application that asks for screens of our profile.
abbrev pub AlwaysTyped : (World → Type 0) → Type 0
AlwaysTyped Holds = (app : Application) (serves : Terminals) (pool : List Entry) (models : List Model)
    (events : List Event)
    → IsApplication app → WantsProperScreens app → IsPool pool → length models ≤ 16 → AreEvents events
    → All IsWellFormed events
    → Holds (run app events (new_world app serves pool models))

-- Holds if the screen can be sent, and has as many cells as its size.
pub record CanBeSent (size : ScreenSize) (screen : Screen) : Type 0 where
  pub sendable : IsSendable screen
  pub whole : length screen.cells ≡ cells_in size

-- Each terminal's screen can be sent.
abbrev pub ScreensAreSendable : World → Type 0
ScreensAreSendable world = (terminal : ℕ) → let display = display_at world (world.place terminal) in
    CanBeSent display.size display.screen

-- Holds if some bytes spell the data of the message.
abbrev pub CanBeSpelt : ToHost → Type 0
CanBeSpelt (ToHost.TalksUp saying) = ⊤
CanBeSpelt (ToHost.Data parts) = (body : List ℕ) × IsInbound parts body
CanBeSpelt (ToHost.Response number verdict) = ⊤

-- All data under way to the host can be encoded.
abbrev pub DataCanBeSpelt : World → Type 0
DataCanBeSpelt world = (number : ℕ) → All CanBeSpelt (world.link number).up

-- Holds if the message is no paint, or paints a screen of our profile.
abbrev pub PaintsAScreen : ToTerminal → Type 0
PaintsAScreen (ToTerminal.TalksDown saying) = ⊤
PaintsAScreen (ToTerminal.Paint number wanted over) = IsScreen wanted
PaintsAScreen (ToTerminal.ReadBuffer number) = ⊤
PaintsAScreen (ToTerminal.Note number command) = ⊤

-- All paints under way paint such screens.
abbrev pub PaintsAreScreens : World → Type 0
PaintsAreScreens world = (number : ℕ) → All PaintsAScreen (world.link number).down

-- Holds if the bytes spell the command for each screen that may have the wanted size, and has it already if the command
-- is a Write.
abbrev pub IsSpeltFor : WantedScreen → CommandParts → List ℕ → Type 0
IsSpeltFor wanted command bytes = (now alternate : ScreenSize) → (wanted.size ≡ model_2) ⊎ (wanted.size ≡ alternate)
    → (command.code ≡ Write → wanted.size ≡ now) → IsCommand now alternate command bytes

-- Holds if the bytes that are sent for a paint or a note spell it.
abbrev pub IsSpelt : ToTerminal → Type 0
IsSpelt (ToTerminal.TalksDown saying) = ⊤
IsSpelt (ToTerminal.Paint number wanted over) = IsSpeltFor wanted (paint (cells_in wanted.size) over wanted)
    (paint_bytes (cells_in wanted.size) over wanted)
IsSpelt (ToTerminal.ReadBuffer number) = ⊤
IsSpelt (ToTerminal.Note number command) = IsSpeltCommand command

-- All paints and notes under way are commands of the data stream.
abbrev pub PaintsAreSpelt : World → Type 0
PaintsAreSpelt world = (number : ℕ) → All IsSpelt (world.link number).down

-- The values that the host has are characters, and no nulls.
abbrev pub ValuesAreTexts : World → Type 0
ValuesAreTexts world = (number : ℕ) → AreTexts (world.link number).host.values
