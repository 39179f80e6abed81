-- What an operator does at a terminal and sees there, and when a wait for the host is over (our profile).
use Rattle.std.specs.Prelude.{◌≡◌, ℕ, Bool, true, false, List, [], ◌∷◌, ◌++◌, Option, Some, None, is_some, if◌then◌else◌, codes}
use Rattle.std.specs.Option.{option_map_or}
use Rattle.std.specs.Fmt.{decimal}
use Rattle.keyboard.specs.Names.{refusal_number}
use Rattle.keyboard.specs.declared.key.Key.TheVariants.{Char}
use Rattle.keyboard.specs.declared.key.Lock.{Lock}
use Rattle.keyboard.specs.declared.key.Lock.TheVariants as lock
use Rattle.keyboard.specs.declared.key.Pressed.{Pressed}
use Rattle.keyboard.specs.declared.key.Pressed.TheVariants.{Done, Refused, Send}
use Rattle.keyboard.specs.declared.key.Refusal.{Refusal}
use Rattle.term_core.specs.PhaseText.{phase_text}
use Rattle.term_core.specs.Presses.{after_key, answer_to_key}
use Rattle.term_core.specs.ScreenText.{newline}
use Rattle.term_core.specs.State.{Terminal, phase_of}
use Rattle.term_core.specs.declared.phase.TermPhase.{TermPhase}
use Rattle.term_core.specs.declared.phase.TermPhase.TheVariants as phase

-- ---- keys

-- the reason for which a key was refused; None if it wasn't
abbrev pub refusal_in : Pressed → Option Refusal
refusal_in (Refused why) = Some why
refusal_in Done = None
refusal_in (Send aid) = None

-- the line for a refusal, with the number of its reason
abbrev pub refusal_text : Refusal → List ℕ
refusal_text why = codes "refused " ++ decimal (refusal_number why) ++ newline ∷ []

-- the line for a key: none unless it is refused
abbrev pub said_of_key : Pressed → List ℕ
said_of_key pressed = option_map_or refusal_text (refusal_in pressed) []

-- ---- typed text

-- the terminal after the text was typed, up to the first character that is refused
abbrev pub after_text : List ℕ → Terminal → Terminal
after_text [] old = old
after_text (char ∷ text) old =
    if is_some (refusal_in (answer_to_key (Char char) old)) then after_key (Char char) old
    else after_text text (after_key (Char char) old)

-- the output of typing the text
abbrev pub said_of_text : List ℕ → Terminal → List ℕ
said_of_text [] old = []
said_of_text (char ∷ text) old =
    option_map_or refusal_text (refusal_in (answer_to_key (Char char) old))
    (said_of_text text (after_key (Char char) old))

-- ---- the terminal's phase

-- the line of `status`
abbrev pub phase_line : TermPhase → List ℕ
phase_line phase = phase_text phase ++ newline ∷ []

-- ---- a wait for the host

abbrev pub is_waiting : Lock → Bool
is_waiting lock.Wait = true
is_waiting lock.Free = false
is_waiting lock.Error = false

-- Whether a wait is over: the keyboard is not locked to wait for the host, the host refused an LU, or the connection is
-- closed or lost.
abbrev pub is_wait_over : TermPhase → Lock → Bool
is_wait_over (phase.Bound lu) lock.Wait = false
is_wait_over (phase.Bound lu) lock.Free = true
is_wait_over (phase.Bound lu) lock.Error = true
is_wait_over phase.Talking lock = false
is_wait_over (phase.Refused reason) lock = true
is_wait_over (phase.Closed cause) lock = true
is_wait_over phase.Idle lock = true

-- holds if a wait of the terminal's operator is over
abbrev pub IsWaitOver : Terminal → Type 0
IsWaitOver terminal = is_wait_over (phase_of terminal.link) terminal.station.keyboard.lock ≡ true
