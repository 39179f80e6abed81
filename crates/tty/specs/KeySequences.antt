-- Which keystroke bytes are (our profile: the sequences of xterm, tmux, screen, rxvt and the Linux console). Where
-- terminals send one sequence for different keys, it has xterm's or the Linux console's meaning: `CSI 23~` and `CSI
-- 24~` are F11 and F12, which rxvt also sends for Shift-F1 and Shift-F2, and `CSI 25~` to `CSI 34~` are the Linux
-- console's Shift-F1 to Shift-F8, which rxvt sends for Shift-F3 to Shift-F10.
use Rattle.std.specs.Prelude.{ℕ, ◌+◌, ◌-◌, ◌==◌, ◌&&◌, ◌||◌, not, Bool, List, [], ◌∷◌, drop, length, take, nat_lt, Option, Some, None, if◌then◌else◌, bytes_eq, codes, get_or}
use Rattle.std.specs.Char.{is_ascii_control}
use Rattle.std.specs.Int.{is_in_range}
use Rattle.std.specs.List.{list_any, position}
use Rattle.std.specs.Str.{all_ascii_digits, chars, is_utf8}
use Rattle.std.specs.Str.Parse.{digits_value}
use Rattle.tty.specs.declared.keystroke.Keystroke.{Keystroke}
use Rattle.tty.specs.declared.keystroke.Keystroke.TheVariants.{Char, Control, Alt, Named, Size, PasteBegins, PasteEnds, Unknown}
use Rattle.tty.specs.KeyForms.{opens, opens_string}

-- The sequences of the keys that have some, without their ESC: `O` after it is SS3, `[` is CSI.
abbrev pub named_sequences : List (List (List ℕ))
named_sequences =
    -- F1 to F12: xterm, tmux and screen send SS3 or a number, the Linux console `CSI [` and a letter for the first five
    (codes "OP" ∷ codes "[11~" ∷ codes "[[A" ∷ [])
    ∷ (codes "OQ" ∷ codes "[12~" ∷ codes "[[B" ∷ [])
    ∷ (codes "OR" ∷ codes "[13~" ∷ codes "[[C" ∷ [])
    ∷ (codes "OS" ∷ codes "[14~" ∷ codes "[[D" ∷ [])
    ∷ (codes "[15~" ∷ codes "[[E" ∷ [])
    ∷ (codes "[17~" ∷ [])
    ∷ (codes "[18~" ∷ [])
    ∷ (codes "[19~" ∷ [])
    ∷ (codes "[20~" ∷ [])
    ∷ (codes "[21~" ∷ [])
    ∷ (codes "[23~" ∷ [])
    ∷ (codes "[24~" ∷ [])
    -- Shift-F1 to Shift-F12
    ∷ (codes "[1;2P" ∷ codes "[11;2~" ∷ codes "[25~" ∷ [])
    ∷ (codes "[1;2Q" ∷ codes "[12;2~" ∷ codes "[26~" ∷ [])
    ∷ (codes "[1;2R" ∷ codes "[13;2~" ∷ codes "[28~" ∷ [])
    ∷ (codes "[1;2S" ∷ codes "[14;2~" ∷ codes "[29~" ∷ [])
    ∷ (codes "[15;2~" ∷ codes "[31~" ∷ [])
    ∷ (codes "[17;2~" ∷ codes "[32~" ∷ [])
    ∷ (codes "[18;2~" ∷ codes "[33~" ∷ [])
    ∷ (codes "[19;2~" ∷ codes "[34~" ∷ [])
    ∷ (codes "[20;2~" ∷ [])
    ∷ (codes "[21;2~" ∷ [])
    ∷ (codes "[23;2~" ∷ [])
    ∷ (codes "[24;2~" ∷ [])
    -- Page Up and Page Down
    ∷ (codes "[5~" ∷ [])
    ∷ (codes "[6~" ∷ [])
    -- the cursor keys up, down, right and left
    ∷ (codes "[A" ∷ codes "OA" ∷ [])
    ∷ (codes "[B" ∷ codes "OB" ∷ [])
    ∷ (codes "[C" ∷ codes "OC" ∷ [])
    ∷ (codes "[D" ∷ codes "OD" ∷ [])
    -- Home, Insert, Delete and Shift-Tab
    ∷ (codes "[H" ∷ codes "OH" ∷ codes "[1~" ∷ codes "[7~" ∷ [])
    ∷ (codes "[2~" ∷ [])
    ∷ (codes "[3~" ∷ [])
    ∷ (codes "[Z" ∷ (9 ∷ []) ∷ [])
    -- End, and with Shift and with Ctrl
    ∷ (codes "[F" ∷ codes "OF" ∷ codes "[4~" ∷ codes "[8~" ∷ [])
    ∷ (codes "[1;2F" ∷ [])
    ∷ (codes "[1;5F" ∷ [])
    -- Enter of the keypad
    ∷ (codes "OM" ∷ [])
    ∷ []

-- the index of the key that has this sequence
abbrev pub place_of : List (List (List ℕ)) → List ℕ → Option ℕ
place_of keys sequence = position (λ texts. list_any (λ text. bytes_eq text sequence) texts) keys

-- ---- a tty's report of its size

-- the number of rows or columns that one to three decimal digits spell; None if they don't, or if it is 0
abbrev pub side_of : List ℕ → Option ℕ
side_of digits =
    if nat_lt (length digits) 4 && (all_ascii_digits digits && nat_lt 0 (digits_value 10 digits))
    then Some (digits_value 10 digits) else None

-- whether these are the numbers in the sequence of F3 with a modifier: xterm sends `CSI 1 ; 2 R` to `CSI 1 ; 16 R`
abbrev pub is_f3 : (rows columns : ℕ) → Bool
is_f3 rows columns = rows == 1 && nat_lt columns 17

abbrev pub size : Option ℕ → Option ℕ → Keystroke
size (Some rows) (Some columns) = if is_f3 rows columns then Unknown else Size rows columns
size (Some rows) None = Unknown
size None columns = Unknown

abbrev pub is_semicolon : ℕ → Bool
is_semicolon byte = byte == 0x3B

-- the size in the parameters of a report, which are rows and columns with a semicolon at this index between them
abbrev pub reported_at : List ℕ → Option ℕ → Keystroke
reported_at parameters None = Unknown
reported_at parameters (Some place) = size (side_of (take place parameters)) (side_of (drop (place + 1) parameters))

abbrev pub reported : List ℕ → Keystroke
reported parameters = reported_at parameters (position is_semicolon parameters)

-- whether a sequence is CPR, `CSI .. R` (ECMA-48, 8.3.14), with which a tty reports row and column of its cursor
abbrev pub is_report : List ℕ → Bool
is_report sequence = get_or sequence 0 0 == 0x5B && get_or sequence (length sequence - 1) 0 == 0x52

-- The meaning of CPR: the tty's size, since the report is asked for once the cursor was sent to row 999 and column 999,
-- and so is in the last row and column.
abbrev pub size_report : List ℕ → Keystroke
size_report sequence = if is_report sequence then reported (take (length sequence - 2) (drop 1 sequence)) else Unknown

-- ---- other sequences

-- whether ESC and this byte are Alt and a key: a graphic character of ASCII, or a blank, that opens no sequence
abbrev pub is_alt : ℕ → Bool
is_alt byte = is_in_range 0x20 0x7E byte && not (opens byte || opens_string byte)

-- the marks before and after a pasted text (xterm, "bracketed paste"); or a report
abbrev pub marked : List ℕ → Keystroke
marked sequence =
    if bytes_eq sequence (codes "[200~") then PasteBegins
    else if bytes_eq sequence (codes "[201~") then PasteEnds else size_report sequence

-- the keystroke of a sequence that isn't in the table
abbrev pub other_keystroke : List ℕ → Keystroke
other_keystroke (byte ∷ []) = if is_alt byte then Alt byte else Unknown
other_keystroke sequence = marked sequence

abbrev pub named_or : Keystroke → Option ℕ → Keystroke
named_or other None = other
named_or other (Some place) = Named place

-- the keystroke that the bytes after ESC mean
unfoldable pub escaped : List ℕ → Keystroke
escaped sequence = named_or (other_keystroke sequence) (place_of named_sequences sequence)

-- the keystroke for the first character of a text, and for the character that bytes encode in UTF-8 (RFC 3629)
abbrev pub first_of : List ℕ → Keystroke
first_of [] = Unknown
first_of (letter ∷ letters) = Char letter

abbrev pub character : List ℕ → Keystroke
character bytes = if is_utf8 bytes then first_of (chars bytes) else Unknown

-- the keystroke that the bytes of a complete one mean
abbrev pub meaning : List ℕ → Keystroke
meaning [] = Unknown
meaning (first ∷ rest) =
    if first == 0x1B then escaped rest else if is_ascii_control first then Control first else character (first ∷ rest)
