-- Runs of data: what `push_data` takes at once (IAC: RFC 854, "TELNET Command Structure"; the limit: our profile).
use Rattle.std.specs.Prelude.{ℕ, ◌-◌, ◌==◌, ◌||◌, Bool, true, false, min, if◌then◌else◌, List, [], ◌∷◌, length}
use Rattle.std.specs.List.{position_or_len}
use Rattle.telnet_wire.specs.DecoderValue.{DecoderValue}

-- Whether a token has begun, of which these bytes were read.
abbrev pub has_begun : List ℕ → Bool
has_begun [] = false
has_begun (byte ∷ partial) = true

-- How many bytes of data may follow: as many as the unfinished record has room for. None inside a
-- token, and none after a fault.
abbrev pub data_room : DecoderValue → ℕ
data_room held = if held.failed || has_begun held.rest.partial then 0 else held.limit - length held.rest.unfinished

-- How many of these bytes are taken at once: all before the first IAC, or as many as there is room
-- for, if these are fewer.
abbrev pub run_length : DecoderValue → List ℕ → ℕ
run_length held bytes = min (position_or_len (λ byte. byte == 255) bytes) (data_room held)
