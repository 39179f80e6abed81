-- Which line is which answer (our profile).
use Rattle.std.specs.Prelude.{◌≡◌, ◌==◌, ℕ, List, [], ◌∷◌, ◌++◌, Option, None, Some, bytes_eq, unwrap_or, codes, if◌then◌else◌}
use Rattle.std.specs.List.{before_first}
use Rattle.service_wire.specs.Lines.{first_word, operand_of}
use Rattle.service_wire.specs.declared.answer.Status.{Status}
use Rattle.service_wire.specs.declared.answer.Status.TheVariants as status

-- a status's word
abbrev pub status_word : Status → List ℕ
status_word status.Done = codes "ok"
status_word status.Failed = codes "error"

-- the status of a word
abbrev pub status_of : List ℕ → Option Status
status_of word =
    if bytes_eq word (codes "ok") then Some status.Done else
    if bytes_eq word (codes "error") then Some status.Failed else
    None

-- a text up to its first LF
abbrev pub one_line : List ℕ → List ℕ
one_line text = before_first (λ byte. byte == 0x0A) text

-- an answer's line without LF
abbrev pub answer_line : Status → (text : List ℕ) → List ℕ
answer_line status text = status_word status ++ 0x20 ∷ text

-- holds if the line without LF is this status and, after a blank, this text, which is empty if there is no blank
pub record IsAnswer (line : List ℕ) (status : Status) (text : List ℕ) : Type 0 where
  pub status_is : status_of (first_word line) ≡ Some status
  pub text_is : text ≡ unwrap_or (operand_of line) []
