-- Texts of notes, as code keeps them (our profile).
use Rattle.std.specs.Prelude.{◌≡◌, ◌≤◌, ◌&&◌, not, nat_lt, ℕ, Bool, true, List, length, take, Option, Some, None, if◌then◌else◌}
use Rattle.std.specs.List.{list_all}
use Rattle.host_core.specs.Notes.{is_graphic, longest_note}

-- whether a note may have this text: at most 131 graphic characters of code page 037
abbrev pub is_note_text : List ℕ → Bool
is_note_text text = not (nat_lt longest_note (length text)) && list_all is_graphic text

-- the text, if a note may have it
abbrev pub note_text : List ℕ → Option (List ℕ)
note_text text = if is_note_text text then Some text else None

-- Holds if the first `size` bytes are a note's text.
pub record IsKept (text : List ℕ) (size : ℕ) : Type 0 where
  pub note : is_note_text (take size text) ≡ true
  pub fits : size ≤ length text
