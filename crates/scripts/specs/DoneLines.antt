-- What the lines of a terminal's script do and print (our profile).
use Rattle.std.specs.Prelude.{◌≡◌, ℕ, List, [], chars}
use Rattle.term_core.specs.Presses.{after_key, answer_to_key}
use Rattle.term_core.specs.ScreenText.{screen_text}
use Rattle.term_core.specs.State.{Terminal, phase_of}
use Rattle.jobs.specs.Counting.{Output}
use Rattle.scripts.specs.Operating.{after_text, phase_line, said_of_key, said_of_text}
use Rattle.jobs.specs.LineParts.{behind}
use Rattle.scripts.specs.Waits.{HasWaited}
use Rattle.jobs.specs.declared.streams.Answer.{Answer}
use Rattle.scripts.specs.declared.term_line.TerminalCommand.{TerminalCommand}
use Rattle.scripts.specs.declared.term_line.TerminalCommand.TheVariants as command

-- holds if nothing is read or written
abbrev pub IsQuiet : {D : Type 0} → (down_old down_new : D) (up_old up_new : Output) → Type 0
IsQuiet down_old down_new up_old up_new = (down_new ≡ down_old) × (up_new ≡ up_old)

-- Holds if a command is executed at the terminal, and `said` is printed. `down` is the stream from the host, `up` the
-- one to it.
abbrev pub DoesLine : {D : Type 0} → (gave : D → ℕ → List ℕ → Answer → D → Type 0) → TerminalCommand
    → (line : List ℕ) (old new : Terminal)
    (down_old down_new : D) (up_old up_new : Output) (said : List ℕ) → Type 0
DoesLine gave command.Nothing line old new down_old down_new up_old up_new said =
    (new ≡ old) × (said ≡ []) × IsQuiet down_old down_new up_old up_new
DoesLine gave command.TypeText line old new down_old down_new up_old up_new said =
    (new ≡ after_text (chars (behind line)) old) × (said ≡ said_of_text (chars (behind line)) old)
    × IsQuiet down_old down_new up_old up_new
DoesLine gave (command.Press key) line old new down_old down_new up_old up_new said =
    (new ≡ after_key key old) × (said ≡ said_of_key (answer_to_key key old)) × IsQuiet down_old down_new up_old up_new
DoesLine gave command.Wait line old new down_old down_new up_old up_new said =
    HasWaited gave old new down_old down_new up_old up_new × (said ≡ [])
DoesLine gave command.Show line old new down_old down_new up_old up_new said =
    (new ≡ old) × (said ≡ screen_text old.station) × IsQuiet down_old down_new up_old up_new
DoesLine gave command.Status line old new down_old down_new up_old up_new said =
    (new ≡ old) × (said ≡ phase_line (phase_of old.link)) × IsQuiet down_old down_new up_old up_new
