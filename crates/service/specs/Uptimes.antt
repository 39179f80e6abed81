-- The time of a server: the milliseconds since the first reading of its clock (our profile).
use Rattle.std.specs.Prelude.{◌≡◌, ℕ, ◌-◌, ◌/◌, ◌^◌, max, min, Option, None, Some}
use Rattle.std.specs.Time.{instant_nanos}
use Rattle.std.specs.declared.time.Instant.{Instant}
use Rattle.service.specs.declared.uptime.Uptime.{Uptime}

-- The milliseconds from one reading of a clock to another: 0 if the clock went back, and at most 2^64 - 1.
abbrev pub millis_between : (start now : ℕ) → ℕ
millis_between start now = min ((now - start) / 1000000) (2 ^ 64 - 1)

-- The time begins with the first reading, and never decreases.
abbrev pub since : Option Instant → Instant → Uptime → Uptime
since None now uptime = record uptime { start = Some now }
since (Some start) now uptime =
    record uptime { millis = max uptime.millis (millis_between (instant_nanos start) (instant_nanos now)) }

-- the time after the clock was read; a clock that can't be read changes nothing
abbrev pub after_reading : Option Instant → Uptime → Uptime
after_reading None uptime = uptime
after_reading (Some now) uptime = since uptime.start now uptime

-- holds if the clock was read once
abbrev pub IsRead : Uptime → Uptime → Type 0
IsRead old new = (reading : Option Instant) × (new ≡ after_reading reading old)
