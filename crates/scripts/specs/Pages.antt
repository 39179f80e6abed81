-- The page that `show` prints for commands in lines of hexadecimal (our profile).
use Rattle.std.specs.Prelude.{◌≡◌, ℕ, ◌+◌, List, [], ◌∷◌, ◌++◌, codes, Option, Some, None}
use Rattle.codes3270.specs.Size.{alternate_of}
use Rattle.codes3270.specs.declared.size.Model.{Model}
use Rattle.datastream.specs.Grammar.{CommandParts, IsCommand, IsNoCommand}
use Rattle.datastream.specs.declared.fault.CommandFault.{CommandFault}
use Rattle.datastream.specs.declared.fault.Sense.{Sense}
use Rattle.datastream.specs.declared.fault.Sense.TheVariants.{CommandReject, OperationCheck}
use Rattle.datastream.specs.Senses.{sense_of}
use Rattle.presentation.specs.Sizes.{SizedScreen, applied, blank_of}
use Rattle.jobs.specs.HexLines.{lines_of, bytes_of_line}
use Rattle.term_core.specs.ScreenText.{newline}
use Rattle.scripts.specs.ScreenText.{screen_text}

-- the screen of a model before the first command
unfoldable pub first_screen : Model → SizedScreen
first_screen model = blank_of model

-- the name of a negative response's sense code (RFC 1647, section 10.4)
abbrev pub sense_text : Sense → List ℕ
sense_text CommandReject = codes "COMMAND-REJECT"
sense_text OperationCheck = codes "OPERATION-CHECK"

abbrev pub refusal_line : CommandFault → List ℕ
refusal_line fault = codes "refused " ++ sense_text (sense_of fault) ++ newline ∷ []

-- Holds if the command that these bytes encode is applied and nothing is printed, or if it has a fault, changes nothing
-- and `said` is printed. It is read for two sizes: the screen's current size, and its model's alternate size.
pub data TakesCommand (bytes : List ℕ) (old new : SizedScreen) (said : List ℕ) : Type 0 where
  accepted : (command : CommandParts) → IsCommand old.size (alternate_of old.model) command bytes
      → new ≡ applied command old → said ≡ []
      → TakesCommand bytes old new said
  refused : (fault : CommandFault) → IsNoCommand old.size (alternate_of old.model) fault bytes → new ≡ old
      → said ≡ refusal_line fault
      → TakesCommand bytes old new said

-- Holds if the bytes of a line are taken, and then the other lines. A line that isn't hexadecimal ends the run.
abbrev pub TakesLine : Option (List ℕ) → ℕ → (SizedScreen → List ℕ → Type 0) → SizedScreen → List ℕ → Option ℕ → Type 0
TakesLine None number others screen printed not_hex = (printed ≡ []) × (not_hex ≡ Some number)
TakesLine (Some bytes) number others screen printed not_hex =
    (new : SizedScreen) × (said behind : List ℕ) × TakesCommand bytes screen new said × others new behind
    × (printed ≡ said ++ behind)

-- Holds if these lines print this. `number`: of the first line; `not_hex`: of the line that ends the run, if any.
abbrev pub Prints : ℕ → List (List ℕ) → SizedScreen → List ℕ → Option ℕ → Type 0
Prints number [] screen printed not_hex = (printed ≡ screen_text screen) × (not_hex ≡ None)
Prints number (line ∷ lines) screen printed not_hex =
    TakesLine (bytes_of_line line) number
    (λ new behind. Prints (number + 1) lines new behind not_hex) screen printed not_hex

-- Holds for the page of an input, on a screen of this model. `not_hex` is the number of the first line that isn't
-- hexadecimal, if any. Then the page has the refusals of the lines before it, and no screen.
abbrev pub IsPage : Model → List ℕ → List ℕ → Option ℕ → Type 0
IsPage model input printed not_hex = Prints 1 (lines_of input) (first_screen model) printed not_hex
