-- Which byte ends a keystroke: a keystroke is one byte, the bytes of one character in UTF-8 (RFC 3629), or an escape
-- sequence (ECMA-48; `CSI [` and a letter are the Linux console's, `CSI M` and three bytes xterm's report of the
-- mouse). Each is complete at one byte and not before, except a lone ESC, which only a pause distinguishes from the
-- first byte of a sequence, and a control string (OSC or DCS), which a control character ends (our profile).
use Rattle.std.specs.Prelude.{ℕ, ◌+◌, ◌==◌, ◌&&◌, ◌||◌, not, Bool, true, false, List, [], ◌∷◌, length, nat_le, if◌then◌else◌}
use Rattle.std.specs.Char.{is_ascii_control}
use Rattle.std.specs.Int.{is_in_range}

-- the number of bytes of a character, by its first byte; 1 if no character begins with it
abbrev pub utf8_length : ℕ → ℕ
utf8_length first =
    if is_in_range 0xC2 0xDF first then 2 else if is_in_range 0xE0 0xEF first then 3
    else if is_in_range 0xF0 0xF4 first then 4 else 1

-- whether a byte is one after the first of a character
abbrev pub is_continuation : ℕ → Bool
is_continuation byte = is_in_range 0x80 0xBF byte

-- whether a byte after ESC opens a longer sequence: `[` a control sequence (CSI), `O` an SS3
abbrev pub opens : ℕ → Bool
opens byte = byte == 0x5B || byte == 0x4F

-- whether a byte after ESC opens a control string (ECMA-48, 5.6): `]` is OSC, `P` DCS; terminals report so
abbrev pub opens_string : ℕ → Bool
opens_string byte = byte == 0x5D || byte == 0x50

-- whether a byte ends a control sequence
abbrev pub is_final : ℕ → Bool
is_final byte = is_in_range 0x40 0x7E byte

-- whether the first byte after CSI begins a report of the mouse, which has three more bytes
abbrev pub begins_mouse : List ℕ → Bool
begins_mouse [] = false
begins_mouse (first ∷ rest) = first == 0x4D

-- whether these bytes of a keystroke are the front of a report of the mouse
abbrev pub is_mouse : List ℕ → Bool
is_mouse (first ∷ second ∷ rest) = first == 0x1B && (second == 0x5B && begins_mouse rest)
is_mouse _ = false

-- whether a byte may follow CSI and these bytes: in a report of the mouse any that isn't below 32
abbrev pub goes_on_csi : List ℕ → ℕ → Bool
goes_on_csi kept byte = if begins_mouse kept then nat_le 0x20 byte else is_in_range 0x20 0x7E byte

-- whether a byte may follow the first bytes of a keystroke; ESC and TAB are the Linux console's Shift-Tab
abbrev pub goes_on_escaped : List ℕ → ℕ → Bool
goes_on_escaped [] byte = byte == 0x09 || not (is_ascii_control byte)
goes_on_escaped (first ∷ rest) byte =
    if first == 0x5B then goes_on_csi rest byte else if first == 0x4F then is_in_range 0x20 0x7E byte
    else if opens_string first then not (is_ascii_control byte) else is_continuation byte

abbrev pub may_continue : List ℕ → ℕ → Bool
may_continue [] byte = true
may_continue (first ∷ rest) byte = if first == 0x1B then goes_on_escaped rest byte else is_continuation byte

-- whether a byte, after these, is the last of a control sequence, of what follows ESC, or of any keystroke
abbrev pub completes_csi : List ℕ → ℕ → Bool
completes_csi [] byte = not (byte == 0x5B || byte == 0x4D) && is_final byte
completes_csi (first ∷ rest) byte =
    if first == 0x5B then true else if first == 0x4D then length rest == 2 else is_final byte

abbrev pub completes_escaped : List ℕ → ℕ → Bool
completes_escaped [] byte = not (opens byte || opens_string byte) && utf8_length byte == 1
completes_escaped (first ∷ rest) byte =
    if first == 0x4F then true else if first == 0x5B then completes_csi rest byte
    else if opens_string first then false else length rest + 2 == utf8_length first

abbrev pub completes : List ℕ → ℕ → Bool
completes [] byte = not (byte == 0x1B) && utf8_length byte == 1
completes (first ∷ rest) byte = if first == 0x1B then completes_escaped rest byte
    else length rest + 2 == utf8_length first

-- Whether a pause has ended a lone ESC: two are kept then. The next byte begins a keystroke, or, if it is `[`, goes on
-- with the control sequence that came in two pieces.
abbrev pub is_late : List ℕ → Bool
is_late (first ∷ second ∷ []) = first == 0x1B && second == 0x1B
is_late _ = false

abbrev pub late_front : ℕ → List ℕ
late_front byte = if byte == 0x5B then 0x1B ∷ [] else []

-- whether a pause keeps these bytes, of which the rest may come late: those of a control sequence or an SS3
abbrev pub outlasts : List ℕ → Bool
outlasts (first ∷ second ∷ rest) = first == 0x1B && opens second
outlasts _ = false

-- the kept bytes with which a byte goes on, and whether it breaks off a keystroke
abbrev pub front : List ℕ → ℕ → List ℕ
front kept byte = if may_continue kept byte then kept else if is_late kept then late_front byte else []

abbrev pub breaks_off : List ℕ → ℕ → Bool
breaks_off kept byte = not (may_continue kept byte || is_late kept)
