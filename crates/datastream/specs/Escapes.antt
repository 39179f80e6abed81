-- Inbound data with its graphic escapes replaced (GA23-0059-07, "Graphic Escape (GE)"). A terminal sends a character
-- that its code page lacks as two bytes, GE and a code of another character set. That one SUB replaces it is our
-- profile.
use Rattle.std.specs.Prelude.{◌≡◌, ◌≤◌, ◌-◌, ◌==◌, ℕ, zero, suc, List, [], ◌∷◌, ◌++◌, length, Bool, false, not, if◌then◌else◌}
use Rattle.datastream.specs.declared.inbound_part.Form.{Form}
use Rattle.datastream.specs.declared.inbound_part.Part.{Part}
use Rattle.datastream.specs.Grammar.{set_buffer_address, start_field}
use Rattle.datastream.specs.InboundText.{AreParts, InboundParts, IsInbound}

-- the code of Graphic Escape (GE): one byte follows, the character's code
abbrev pub graphic_escape : ℕ
graphic_escape = 0x08

-- the character SUB, which a terminal shows in place of one that it can't show
abbrev pub substitute : ℕ
substitute = 0x3F

-- how many bytes belong to a byte as its address or attribute; each of them can be any byte, also that of GE
abbrev pub operand_count : ℕ → ℕ
operand_count byte = if byte == set_buffer_address then 2 else if byte == start_field then 1 else 0

-- The first `n` bytes are copied; behind them each escape, GE and the byte after it, becomes one SUB. All else is
-- copied: an address or attribute whole, also if it is cut short, and GE if it is the last byte.
unfoldable pub replaced_behind : ℕ → List ℕ → List ℕ
replaced_behind n [] = []
replaced_behind (suc n) (byte ∷ rest) = byte ∷ replaced_behind n rest
replaced_behind zero (byte ∷ []) = byte ∷ []
replaced_behind zero (byte ∷ next ∷ rest) =
    if byte == graphic_escape then substitute ∷ replaced_behind zero rest
    else byte ∷ replaced_behind (operand_count byte) (next ∷ rest)

-- what follows the cursor's address, with its escapes replaced
abbrev pub text_without_escapes : List ℕ → List ℕ
text_without_escapes text = replaced_behind 0 text

-- inbound data with its escapes replaced; the AID and the two bytes of the cursor's address are copied
abbrev pub without_escapes : List ℕ → List ℕ
without_escapes bytes = replaced_behind 3 bytes

-- how many escapes are replaced: each makes the data one byte shorter
abbrev pub escapes_in : List ℕ → ℕ
escapes_in bytes = length bytes - length (without_escapes bytes)

-- whether an escape is replaced
abbrev pub has_escapes : List ℕ → Bool
has_escapes bytes = not (escapes_in bytes == 0)

-- ---- laws

-- Inbound data that can be read has no escape. So a host that replaces escapes reads all other data as it is.
abbrev pub ReadAsItIs : Type 0
ReadAsItIs = (parts : InboundParts) (bytes : List ℕ) → IsInbound parts bytes → without_escapes bytes ≡ bytes

-- An escape behind parts is one character, and the parts are as they were.
abbrev pub EscapeIsOneCharacter : Type 0
EscapeIsOneCharacter = (size : ℕ) (form : Form) (parts : List Part) (front : List ℕ) (code : ℕ) (back : List ℕ)
    → AreParts size form parts front
    → text_without_escapes (front ++ graphic_escape ∷ code ∷ back) ≡ front ++ substitute ∷ text_without_escapes back

-- The data gets no longer.
abbrev pub NoLonger : Type 0
NoLonger = (bytes : List ℕ) → length (without_escapes bytes) ≤ length bytes

-- Data without escapes is unchanged.
abbrev pub UnchangedWithout : Type 0
UnchangedWithout = (bytes : List ℕ) → has_escapes bytes ≡ false → without_escapes bytes ≡ bytes
