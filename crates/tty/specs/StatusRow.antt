-- The status row (our profile). From column 0 on it has the connection, from 16 the reason, from 29 the seconds of the
-- wait, from 32 the signs of insert mode and of held keys, from 40 the LU, from 55 which key shows the table of keys, and
-- from 72 to 78 row and column of the cursor, each from 1 on.
use Rattle.std.specs.Prelude.{ℕ, ◌==◌, ◌+◌, ◌/◌, ◌%◌, ◌-◌, Bool, true, false, List, [], ◌∷◌, ◌++◌, map, Option, Some, if◌then◌else◌, codes, slice_index_or, nat_lt, ◌&&◌}
use Rattle.std.specs.List.{range_with_len}
use Rattle.keyboard.specs.declared.key.Lock.{Lock}
use Rattle.keyboard.specs.declared.key.Lock.TheVariants.{Free, Wait, Error}
use Rattle.keyboard.specs.declared.key.Refusal.{Refusal}
use Rattle.keyboard.specs.declared.key.Refusal.TheVariants.{Locked, NoCode, Protected, NotNumeric, NoRoom}
use Rattle.keyboard.specs.State.{Keyboard}
use Rattle.tty.specs.declared.place.Place.{Place}
use Rattle.tty.specs.declared.status.Trouble.{Trouble}
use Rattle.tty.specs.declared.status.Trouble.TheVariants.{Refused, PasteCut, NotSaved, HostRefuses, NoAnswer, Unreachable}
use Rattle.tty.specs.declared.picture.PictureCell.{PictureCell}
use Rattle.tty.specs.Pictures.{plain}

abbrev pub connection_word : Bool → List ℕ
connection_word true = codes "connected"
connection_word false = codes "not connected"

-- the reason for a refusal that set the lock
abbrev pub refusal_reason : Refusal → List ℕ
refusal_reason Locked = codes "X"
refusal_reason Protected = codes "X PROTECTED"
refusal_reason NotNumeric = codes "X NUMERIC"
refusal_reason NoRoom = codes "X NO ROOM"
refusal_reason NoCode = codes "X NO CODE"

-- the reason that is shown while the lock is Error
abbrev pub error_reason : Option Trouble → List ℕ
error_reason (Some (Refused refusal)) = refusal_reason refusal
error_reason (Some PasteCut) = codes "X PASTE CUT"
error_reason (Some NotSaved) = codes "X NOT SAVED"
error_reason _ = codes "X"

-- the reason that is shown while the lock is free: of refusals only NoCode leaves it free
abbrev pub free_reason : Option Trouble → List ℕ
free_reason (Some (Refused NoCode)) = codes "X NO CODE"
free_reason (Some PasteCut) = codes "X PASTE CUT"
free_reason (Some NotSaved) = codes "X NOT SAVED"
free_reason _ = []

-- the reason that is shown while the keyboard waits for the host
abbrev pub wait_reason : Option Trouble → List ℕ
wait_reason (Some HostRefuses) = codes "X REFUSED"
wait_reason (Some NoAnswer) = codes "X NO ANSWER"
wait_reason (Some Unreachable) = codes "X UNREACHABLE"
wait_reason _ = codes "X SYSTEM"

abbrev pub reason : Lock → Option Trouble → List ℕ
reason Free trouble = free_reason trouble
reason Wait trouble = wait_reason trouble
reason Error trouble = error_reason trouble

-- the last digit of a number; a blank if the number is 0
abbrev pub digit_or_blank : ℕ → ℕ
digit_or_blank number = if number == 0 then 0x20 else 48 + number % 10

-- how many seconds the keyboard has waited, if there are 2 or more: the last three digits, without zeros in front
abbrev pub seconds_text : ℕ → List ℕ
seconds_text seconds =
    if nat_lt seconds 2 then 0x20 ∷ 0x20 ∷ 0x20 ∷ []
    else digit_or_blank (seconds / 100) ∷ digit_or_blank (seconds / 10) ∷ (48 + seconds % 10) ∷ []

-- the signs of insert mode, and of keys that are held
abbrev pub signs : (inserting held : Bool) → List ℕ
signs true true = codes "^ T"
signs true false = codes "^"
signs false true = codes "  T"
signs false false = []

abbrev pub keys_hint : List ℕ
keys_hint = codes "ESC ? shows keys"

-- a graphic character of ASCII as it is, and a blank for any other byte
abbrev pub graphic_or_blank : ℕ → ℕ
graphic_or_blank byte = if nat_lt 0x20 byte && nat_lt byte 0x7F then byte else 0x20

-- the last three decimal digits of a number
abbrev pub three_digits : ℕ → List ℕ
three_digits number = (48 + number / 100 % 10) ∷ (48 + number / 10 % 10) ∷ (48 + number % 10) ∷ []

-- row and column, from 1 on, with `/` between them
abbrev pub position_text : Place → List ℕ
position_text place = three_digits (place.row + 1) ++ 47 ∷ three_digits (place.column + 1)

-- the character in a column of a text; a blank beyond its end
abbrev pub letter_at : List ℕ → ℕ → ℕ
letter_at text column = graphic_or_blank (slice_index_or text column 0x20)

-- the first `count` columns of a text
abbrev pub in_columns : ℕ → List ℕ → List PictureCell
in_columns count text = map (λ column. plain (letter_at text column)) (range_with_len 0 count)

-- the cells of a status row of 72 columns or more
abbrev pub status_cells : ℕ → Keyboard → Bool → Option Trouble → List ℕ → Bool → ℕ → Place → List PictureCell
status_cells columns keyboard connected trouble lu held seconds cursor =
    in_columns 16 (connection_word connected)
    ++ in_columns 13 (reason keyboard.lock trouble)
    ++ in_columns 3 (seconds_text seconds)
    ++ in_columns 8 (signs keyboard.inserting held)
    ++ in_columns 15 lu
    ++ in_columns 17 keys_hint
    ++ in_columns (columns - 72) (position_text cursor)
