-- How a tty reads bytes as control functions, one byte after another, however they are cut (ECMA-48, 5.4; characters in
-- UTF-8 of at most two bytes; our profile says nothing of other bytes).
use Rattle.std.specs.Prelude.{ℕ, ◌+◌, ◌*◌, ◌-◌, ◌==◌, ◌&&◌, ◌||◌, Bool, List, [], ◌∷◌, ◌++◌, if◌then◌else◌, nat_lt, nat_le}
use Rattle.tty.specs.Tty.{Control}

-- what the tty expects next: the first byte of a character or a control function; the last byte of a character with
-- this first one; the byte after ESC; or a byte of a control sequence with these parameters, and this one up to here
pub data Awaits : Type 0 where
  First : Awaits
  Last : ℕ → Awaits
  Escaped : Awaits
  Parameter : List ℕ → ℕ → Awaits

abbrev pub is_digit : ℕ → Bool
is_digit byte = nat_le 0x30 byte && nat_le byte 0x39

abbrev pub escape : ℕ
escape = 0x1B

abbrev pub awaits_next : Awaits → ℕ → Awaits
awaits_next Awaits.First byte = if byte == escape then Awaits.Escaped else if nat_lt byte 0xC0 then Awaits.First
    else Awaits.Last byte
awaits_next (Awaits.Last lead) byte = Awaits.First
awaits_next Awaits.Escaped byte = if byte == 0x5B then Awaits.Parameter [] 0 else Awaits.First
awaits_next (Awaits.Parameter before value) byte =
    if is_digit byte then Awaits.Parameter before (value * 10 + (byte - 0x30))
    else if byte == 0x3B then Awaits.Parameter (before ++ value ∷ []) 0 else Awaits.First

abbrev pub cursor_to : List ℕ → List Control
cursor_to (row ∷ column ∷ []) = Control.CursorTo (record { row = row - 1; column = column - 1 }) ∷ []
cursor_to _ = []

abbrev pub select : List ℕ → List Control
select [] = []
select (first ∷ more) = Control.SelectRendition first more ∷ []

abbrev pub erase : List ℕ → List Control
erase (what ∷ []) = if what == 2 then Control.EraseAll ∷ [] else []
erase _ = []

-- the control function of a sequence with this final byte, `H`, `m` or `J`, and these parameters
abbrev pub sequence : ℕ → List ℕ → List Control
sequence final parameters =
    if final == 0x48 then cursor_to parameters else if final == 0x6D then select parameters
    else if final == 0x4A then erase parameters else []

abbrev pub first_said : ℕ → List Control
first_said byte =
    if byte == 0x07 then Control.Bell ∷ [] else if nat_le 0x20 byte && nat_lt byte 0x7F then Control.Graphic byte ∷ []
    else []

-- the control functions that a byte completes
abbrev pub said_by : Awaits → ℕ → List Control
said_by Awaits.First byte = first_said byte
said_by (Awaits.Last lead) byte = Control.Graphic ((lead - 0xC0) * 64 + (byte - 0x80)) ∷ []
said_by Awaits.Escaped byte = []
said_by (Awaits.Parameter before value) byte = if is_digit byte || byte == 0x3B then []
    else sequence byte (before ++ value ∷ [])

-- the control functions that the bytes encode, if the tty expects this next
abbrev pub read_from : Awaits → List ℕ → List Control
read_from awaits [] = []
read_from awaits (byte ∷ bytes) = said_by awaits byte ++ read_from (awaits_next awaits byte) bytes

abbrev pub read : List ℕ → List Control
read bytes = read_from Awaits.First bytes
