-- What a script does to a world (our profile): events one after another, their output, typed text, and rounds until the
-- world is idle. The effect of an event is defined in world3270's specs/ByteSteps.
use Rattle.std.specs.Prelude.{◌≡◌, ◌-◌, ◌^◌, ℕ, zero, suc, Bool, true, false, List, [], ◌∷◌, ◌++◌, None, codes, is_some, map}
use Rattle.std.specs.Fmt.{decimal}
use Rattle.std.specs.List.{flat_map, list_all}
use Rattle.host_core.specs.State.{most_connections}
use Rattle.keyboard.specs.Names.{refusal_number}
use Rattle.keyboard.specs.declared.key.Key.TheVariants as key
use Rattle.term_core.specs.ScreenText.{newline}
use Rattle.world3270.specs.model.ByteRuns.{refused_at}
use Rattle.world3270.specs.model.ByteSteps.{Steps}
use Rattle.world3270.specs.model.ByteWorld.{ByteWorld}
use Rattle.world3270.specs.declared.event.Event.{Event}
use Rattle.world3270.specs.declared.event.Event.TheVariants as event
use Rattle.world3270.specs.declared.event.Stepped.{Stepped}
use Rattle.world3270.specs.declared.event.Stepped.TheVariants as stepped

-- ---- events, one after another

-- an event and its answer
pub record Happening : Type 0 where
  pub event : Event
  pub answer : Stepped

-- Holds if these events take place one after another, and memory isn't refused.
abbrev pub TakePlace : List Happening → ByteWorld → ByteWorld → Type 0
TakePlace [] old new = new ≡ old
TakePlace (first ∷ others) old new =
    (mid : ByteWorld) × Steps first.event old first.answer mid × (refused_at first.answer ≡ None)
    × TakePlace others mid new

-- Holds if memory was refused for an event, wholly or after a part of its bytes, after others that took place.
pub record IsStopped (old new : ByteWorld) : Type 0 where
  pub happenings : List Happening
  pub mid : ByteWorld
  pub take_place : TakePlace happenings old mid
  pub event : Event
  pub answer : Stepped
  pub steps : Steps event mid answer new
  pub refused : is_some (refused_at answer) ≡ true

abbrev pub events_of : List Happening → List Event
events_of happenings = map (λ happening. happening.event) happenings

-- ---- their output

-- the line for a refused key, with the number of the reason, or for a skipped event
abbrev pub answer_text : Stepped → List ℕ
answer_text (stepped.Refused why) = codes "refused " ++ decimal (refusal_number why) ++ newline ∷ []
answer_text stepped.Skipped = codes "skipped" ++ newline ∷ []
answer_text _ = []

abbrev pub answers_text : List Happening → List ℕ
answers_text happenings = flat_map (λ happening. answer_text happening.answer) happenings

-- ---- typed text

abbrev pub is_refused : Stepped → Bool
is_refused (stepped.Refused why) = true
is_refused _ = false

-- holds if the run ends here and there are no others, or if it continues and the others satisfy `Rightly`
abbrev pub OthersIf : Bool → List Happening → Type 0 → Type 0
OthersIf true others Rightly = others ≡ []
OthersIf false others Rightly = Rightly

-- Holds for the keys of a text, one for each character, up to the first that is refused.
abbrev pub AreTyped : ℕ → List ℕ → List Happening → Type 0
AreTyped terminal [] happenings = happenings ≡ []
AreTyped terminal (char ∷ text) [] = ⊥
AreTyped terminal (char ∷ text) (first ∷ others) =
    (first.event ≡ event.Key terminal (key.Char char))
    × OthersIf (is_refused first.answer) others (AreTyped terminal text others)

-- ---- until the world is idle

-- at least as many bytes as can ever be in transit
abbrev pub all_bytes : ℕ
all_bytes = 2 ^ 64 - 1

-- the events of an exchange on a connection: deliver all to the host, let it act, deliver all to the terminal
abbrev pub exchange_events : ℕ → List Event
exchange_events number = event.Up number all_bytes ∷ event.Act number ∷ event.Down number all_bytes ∷ []

-- an exchange on each connection below this number, in order
unfoldable pub round_below : ℕ → List Event
round_below zero = []
round_below (suc number) = round_below number ++ exchange_events number

abbrev pub is_skipped : Stepped → Bool
is_skipped stepped.Skipped = true
is_skipped _ = false

abbrev pub all_skipped : List Happening → Bool
all_skipped happenings = list_all (λ happening. is_skipped happening.answer) happenings

-- Holds for at most this number of rounds over all connections; a round in which every event is skipped is the last.
unfoldable pub AreRounds : ℕ → List Happening → Type 0
AreRounds zero happenings = happenings ≡ []
AreRounds (suc left) happenings =
    (round others : List Happening) × (happenings ≡ round ++ others) × (events_of round ≡ round_below most_connections)
    × OthersIf (all_skipped round) others (AreRounds left others)

-- the most rounds of one run
abbrev pub most_rounds : ℕ
most_rounds = 64

-- Holds if these events took place; `quiet`: all of them were skipped.
pub record RunsEvents (events : List Event) (old : ByteWorld) (quiet : Bool) (new : ByteWorld) : Type 0 where
  pub happenings : List Happening
  pub are : events_of happenings ≡ events
  pub take_place : TakePlace happenings old new
  pub quiet_is : quiet ≡ all_skipped happenings
