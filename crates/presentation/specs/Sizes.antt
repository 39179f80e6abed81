-- A screen with its model and its size (GA23-0059-07 on screen sizes).
use Rattle.std.specs.Prelude.{◌≡◌, ◌⊎◌, length}
use Rattle.codes3270.specs.Size.{ScreenSize, alternate_of, cells_in, model_2}
use Rattle.codes3270.specs.declared.size.Model.{Model}
use Rattle.datastream.specs.Grammar.{CommandParts, size_after}
use Rattle.datastream.specs.InboundFields.{IsSendable}
use Rattle.datastream.specs.Meaning.{after_command}
use Rattle.datastream.specs.Screen.{Screen, blank_screen}

-- the screen of a terminal of a model, with its current size
pub record SizedScreen : Type 0 where
  pub model : Model
  pub size : ScreenSize
  pub screen : Screen

-- holds if the size is one of the model's two: 24 by 80, or the alternate size
abbrev pub HasSize : Model → ScreenSize → Type 0
HasSize model size = (size ≡ model_2) ⊎ (size ≡ alternate_of model)

-- holds if there is a cell for each address of the size, the size is one of the model's, and the screen can be sent
pub record IsSized (sized : SizedScreen) : Type 0 where
  pub cells : length sized.screen.cells ≡ cells_in sized.size
  pub size : HasSize sized.model sized.size
  pub sendable : IsSendable sized.screen

-- the screen at the beginning of each connection: all cells null, in the size that all models have
abbrev pub blank_of : Model → SizedScreen
blank_of model = record { model = model; size = model_2; screen = blank_screen (cells_in model_2) }

-- holds if the command was read for this screen's current size and its model's alternate size
abbrev pub IsReadFor : SizedScreen → CommandParts → Type 0
IsReadFor old command = command.size ≡ size_after command.code old.size (alternate_of old.model)

-- the screen after a command; it then has the command's size
abbrev pub applied : CommandParts → SizedScreen → SizedScreen
applied command old = record old { size = command.size; screen = after_command command old.screen }
