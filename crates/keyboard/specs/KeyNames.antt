-- The names of keys (our profile), as scripts write them and `{}` prints them.
use Rattle.std.specs.Prelude.{ℕ, List, [], ◌∷◌, ◌++◌, Option, bytes_eq, codes, find, map}
use Rattle.std.specs.Char.{encode_utf8}
use Rattle.std.specs.Fmt.{decimal}
use Rattle.std.specs.List.{range_with_len}
use Rattle.keyboard.specs.declared.key.Key.{Key}
use Rattle.keyboard.specs.declared.key.Key.TheVariants.{Char, Tab, BackTab, NewLine, Home, CursorUp, CursorDown, CursorLeft, CursorRight, Backspace, Insert, Delete, EraseEof, EraseInput, Reset, Enter, Pf, Pa, Clear}

-- the name of each key; a character has none
abbrev pub name_of : Key → List ℕ
name_of (Char letter) = []
name_of Tab = codes "tab"
name_of BackTab = codes "backtab"
name_of NewLine = codes "newline"
name_of Home = codes "home"
name_of CursorUp = codes "up"
name_of CursorDown = codes "down"
name_of CursorLeft = codes "left"
name_of CursorRight = codes "right"
name_of Backspace = codes "backspace"
name_of Insert = codes "insert"
name_of Delete = codes "delete"
name_of EraseEof = codes "eraseeof"
name_of EraseInput = codes "eraseinput"
name_of Reset = codes "reset"
name_of Enter = codes "enter"
name_of Clear = codes "clear"
name_of (Pf number) = codes "pf" ++ decimal number
name_of (Pa number) = codes "pa" ++ decimal number

-- the keys with names and without numbers
abbrev pub plain_keys : List Key
plain_keys =
    Tab ∷ BackTab ∷ NewLine ∷ Home ∷ CursorUp ∷ CursorDown ∷ CursorLeft ∷ CursorRight ∷ Backspace ∷ Insert
    ∷ Delete ∷ EraseEof
    ∷ EraseInput ∷ Reset ∷ Enter ∷ Clear ∷ []

-- PF1 to PF24
abbrev pub pf_keys : List Key
pf_keys = map Pf (range_with_len 1 24)

-- PA1 to PA3
abbrev pub pa_keys : List Key
pa_keys = map Pa (range_with_len 1 3)

-- the first of these keys that has this name
abbrev pub named_among : List Key → List ℕ → Option Key
named_among keys name = find (λ key. bytes_eq (name_of key) name) keys

-- the key with a name
unfoldable pub key_named : List ℕ → Option Key
key_named name = named_among (plain_keys ++ (pf_keys ++ pa_keys)) name

-- what `{}` prints of a key: its name, or the character itself
abbrev pub key_name : Key → List ℕ
key_name (Char letter) = encode_utf8 letter
key_name key = name_of key
