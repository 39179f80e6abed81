-- What a server of pages decides by times, in milliseconds (our profile).
use Rattle.std.specs.Prelude.{ℕ, ◌+◌, ◌-◌, ◌^◌, min}
use Rattle.web_wire.specs.declared.received.Closing.{Closing}
use Rattle.web_wire.specs.declared.received.Closing.TheVariants.{ByPage}

-- how long a session is kept whose page closed its WebSocket, as at a reload
abbrev pub reload_time : ℕ
reload_time = 5000

-- how long a session is kept whose WebSocket was closed
abbrev pub time_kept : Closing → (keep : ℕ) → ℕ
time_kept ByPage keep = min keep reload_time
time_kept _ keep = keep

-- the most for which a turn counts
abbrev pub longest_turn : ℕ
longest_turn = 1000

-- the server's time after a turn, by the clock before and after it
abbrev pub time_after : (now before after : ℕ) → ℕ
time_after now before after = min (now + min (after - before) longest_turn) (2 ^ 64 - 1)
