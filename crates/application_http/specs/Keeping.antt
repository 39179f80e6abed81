-- For how many seconds an application keeps its connection without a request: RFC 9112, section 9.3, and the field
-- Keep-Alive of RFC 2068, section 19.7.1.1, of which the first parameter is read, if it is the timeout.
use Rattle.std.specs.Prelude.{ℕ, ◌+◌, ◌-◌, ◌*◌, ◌^◌, min, ◌==◌, nat_lt, Bool, not, ◌&&◌, ◌||◌, List, [], ◌∷◌, take, drop, codes, Result, Ok, if◌then◌else◌}
use Rattle.std.specs.Char.{is_ascii_digit}
use Rattle.httparse.specs.Ascii.{comma, digit_zero}
use Rattle.http1.specs.Fields.{Header, is_named}
use Rattle.http1.specs.Text.{eq_ignore_case}
use Rattle.http1.specs.declared.fields.KnownFields.{KnownFields}
use Rattle.http1.specs.declared.framing.Framing.{Framing}
use Rattle.http1.specs.declared.framing.Framing.TheVariants.{Length}
use Rattle.http1.specs.declared.framing.FramingError.{FramingError}

-- the number with one more decimal digit, at most 2^32 - 1
abbrev pub with_digit : (number digit : ℕ) → ℕ
with_digit number digit = min (min (number * 10) (2 ^ 32 - 1) + (digit - digit_zero)) (2 ^ 32 - 1)

-- the number that the digits up to the first comma, or the end, form after those of another one; 0 if there is another
-- character before it
abbrev pub number_after : ℕ → List ℕ → ℕ
number_after number [] = number
number_after number (byte ∷ bytes) = if byte == comma then number
    else (if is_ascii_digit byte then number_after (with_digit number byte) bytes else 0)

-- the seconds in a value that begins with `timeout=`, such as `timeout=5, max=100`; 0 if it doesn't
abbrev pub seconds_in : List ℕ → ℕ
seconds_in value = if eq_ignore_case (take 8 value) (codes "timeout=") then number_after 0 (drop 8 value) else 0

-- the seconds in the first field Keep-Alive; 0 if there is none
abbrev pub promised : List Header → ℕ
promised [] = 0
promised (field ∷ fields) = if is_named (codes "keep-alive") field then seconds_in field.1 else promised fields

-- whether the connection persists after a response with these fields
abbrev pub persists : (minor : ℕ) → KnownFields → Bool
persists minor known = not known.close && (nat_lt 0 minor || known.keep_alive)

-- the seconds that a head promises
abbrev pub kept_by : (minor : ℕ) → KnownFields → List Header → ℕ
kept_by minor known fields = if persists minor known then promised fields else 0

-- the seconds that are left of a promise, by the number of bytes after the head: all if they are a body of stated length
-- and the connection isn't over, or none
abbrev pub kept_after : (is_over : Bool) → Result Framing FramingError → (received seconds : ℕ) → ℕ
kept_after is_over (Ok (Length len)) received seconds = if not is_over && (len == received) then seconds else 0
kept_after is_over _ received seconds = 0
