-- Lines of received bytes, and the words of a line (our profile).
use Rattle.std.specs.Prelude.{◌≡◌, ℕ, Bool, ◌==◌, ◌<◌, ◌++◌, List, length, take, position, Option, None, Some, option_map, if◌then◌else◌}
use Rattle.std.specs.List.{position_or_len, before_first, after_first}
use Rattle.std.specs.Str.{IsUtf8}
use Rattle.service_wire.specs.declared.line_fault.LineFault.{LineFault}
use Rattle.service_wire.specs.declared.line_fault.LineFault.TheVariants.{TooLong, NotText}

-- ---- lines

-- what was received of a line: the first bytes, at most `limit`
pub record Received : Type 0 where
  pub limit : ℕ
  pub bytes : List ℕ

-- the same after more bytes
abbrev pub received : Received → List ℕ → Received
received before bytes = record before { bytes = take before.limit (before.bytes ++ bytes) }

-- the bytes before the first LF; None if there is no LF
abbrev pub line_in : List ℕ → Option (List ℕ)
line_in bytes = option_map (λ end. take end bytes) (position (λ byte. byte == 0x0A) bytes)

-- holds if the line isn't complete, and there is room for more of it
pub record IsOpen (so_far : Received) : Type 0 where
  pub no_end : line_in so_far.bytes ≡ None
  pub has_room : length so_far.bytes < so_far.limit

-- holds if a line is no text, for this reason
abbrev pub IsNoText : (line : List ℕ) → LineFault → Type 0
IsNoText line NotText = ¬ (IsUtf8 line)
IsNoText line _ = ⊥

-- holds if there is no line, for this reason
abbrev pub IsNoLine : Received → LineFault → Type 0
IsNoLine so_far TooLong = (line_in so_far.bytes ≡ None) × (length so_far.bytes ≡ so_far.limit)
IsNoLine so_far NotText = (line : List ℕ) × (line_in so_far.bytes ≡ Some line) × IsNoText line NotText
IsNoLine so_far _ = ⊥

-- ---- words

-- whether a byte is a blank
abbrev pub is_blank : ℕ → Bool
is_blank byte = byte == 0x20

-- the text before the first blank: all of it if there is none
abbrev pub first_word : List ℕ → List ℕ
first_word text = before_first is_blank text

-- the text after the first blank; None if there is none
abbrev pub operand_of : List ℕ → Option (List ℕ)
operand_of text = if position_or_len is_blank text == length text then None else Some (after_first is_blank text)
