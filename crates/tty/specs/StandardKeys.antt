-- What each key does unless a keymap says otherwise (our profile: c3270's default keymap where it has the key). Page Up
-- and Page Down, with which c3270 scrolls through its old screens, are PF7 and PF8, as in x3270's keymap `rlx`. End, with
-- which c3270 moves the cursor, is Erase EOF, as in x3270's keymap `ncd`, and so are Shift-End and Ctrl-End, as in `rlx`
-- and `ibm-xterm`. Alt and the digits' characters with Shift on a US keyboard are PF13 to PF24, as Shift-F1 to Shift-F12.
use Rattle.std.specs.Prelude.{ℕ, ◌+◌, ◌-◌, ◌==◌, nat_lt, List, Option, Some, None, if◌then◌else◌, codes}
use Rattle.std.specs.Int.{is_in_range}
use Rattle.std.specs.List.{position}
use Rattle.keyboard.specs.declared.key.Key.TheVariants.{Tab, BackTab, NewLine, Home, CursorUp, CursorDown, CursorLeft, CursorRight, Backspace, Insert, Delete, EraseEof, EraseInput, Reset, Enter, Pf, Pa, Clear}
use Rattle.tty.specs.declared.action.Action.{Action}
use Rattle.tty.specs.declared.action.Action.TheVariants.{Key, Erase, Redraw, Save, Status, Help, Quit, Nothing}
use Rattle.tty.specs.declared.keystroke.Keystroke.{Keystroke}
use Rattle.tty.specs.declared.keystroke.Keystroke.TheVariants.{Control, Alt, Named}

abbrev pub pf : ℕ → Action
pf number = if is_in_range 1 24 number then Key (Pf number) else Nothing

abbrev pub pa : ℕ → Action
pa number = if is_in_range 1 3 number then Key (Pa number) else Nothing

-- what a control character does
abbrev pub of_control : ℕ → Action
of_control byte =
    if byte == 0x03 then Key Clear  -- Ctrl-C
    else if byte == 0x05 then Key EraseEof  -- Ctrl-E
    else if byte == 0x08 then Key Backspace  -- BS, Ctrl-H
    else if byte == 0x09 then Key Tab  -- TAB
    else if byte == 0x0A then Key NewLine  -- LF, Ctrl-J
    else if byte == 0x0C then Redraw  -- Ctrl-L
    else if byte == 0x0D then Key Enter  -- CR
    else if byte == 0x10 then Save  -- Ctrl-P
    else if byte == 0x12 then Key Reset  -- Ctrl-R
    else if byte == 0x14 then Status  -- Ctrl-T
    else if byte == 0x15 then Key EraseInput  -- Ctrl-U
    else if byte == 0x1D then Quit  -- Ctrl-]
    else if byte == 0x7F then Erase  -- DEL, Backspace
    else Nothing

-- the characters of Alt and PF13 to PF24, in order
abbrev pub shifted_digits : List ℕ
shifted_digits = codes "!@#$%^&*()_+"

abbrev pub of_shifted : Option ℕ → Action
of_shifted None = Nothing
of_shifted (Some place) = pf (place + 13)

-- what Alt and a character do
abbrev pub of_alt : ℕ → Action
of_alt byte =
    if byte == 0x3F then Help else if is_in_range 0x31 0x33 byte then pa (byte - 0x30)
    else of_shifted (position (λ other. other == byte) shifted_digits)

-- what a key with a sequence does, by its place in the table of sequences
abbrev pub of_named : ℕ → Action
of_named place =
    if nat_lt place 24 then pf (place + 1)  -- F1 to F12, Shift-F1 to Shift-F12
    else if place == 24 then pf 7  -- Page Up
    else if place == 25 then pf 8  -- Page Down
    else if place == 26 then Key CursorUp
    else if place == 27 then Key CursorDown
    else if place == 28 then Key CursorRight
    else if place == 29 then Key CursorLeft
    else if place == 30 then Key Home
    else if place == 31 then Key Insert
    else if place == 32 then Key Delete
    else if place == 33 then Key BackTab  -- Shift-Tab
    else if place == 34 then Key EraseEof  -- End
    else if place == 35 then Key EraseEof  -- Shift-End
    else if place == 36 then Key EraseEof  -- Ctrl-End
    else if place == 37 then Key Enter  -- of the keypad
    else Nothing

-- what a keystroke does that is a key, and no character
abbrev pub standard : Keystroke → Action
standard (Control byte) = of_control byte
standard (Alt byte) = of_alt byte
standard (Named place) = of_named place
standard _ = Nothing
