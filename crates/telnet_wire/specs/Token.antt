-- Telnet tokens, the bytes that spell them, and the bytes of a token that isn't complete.
use Rattle.std.specs.Prelude.{◌≡◌, ◌≢◌, ℕ, ◌<◌, ◌≤◌, ◌==◌, if◌then◌else◌, List, [], ◌∷◌, ◌++◌, length}
use Rattle.std.specs.List.{flat_map}
use Rattle.telnet_wire.specs.declared.wire.Verb.{Verb}
use Rattle.telnet_wire.specs.declared.wire.Verb.TheVariants.{Will, Wont, Do, Dont}

-- What a stream is made of (RFC 854, "TELNET Command Structure"): a byte of data, the end of a record (RFC 885), the
-- negotiation of an option, a subnegotiation with its bytes (both RFC 855), or any other command by its code.
pub data Token : Type 0 where
  Data : ℕ → Token
  End : Token
  Opt : Verb → ℕ → Token
  Sub : List ℕ → Token
  Other : ℕ → Token

-- A byte of data is sent as itself, but IAC (255) is doubled (RFC 854, "TELNET Command Structure";
-- inside a subnegotiation RFC 855).
abbrev pub escaped : ℕ → List ℕ
escaped byte = if byte == 255 then 255 ∷ 255 ∷ [] else byte ∷ []

-- The codes of WILL, WONT, DO and DONT (RFC 854, "TELNET Command Structure"; RFC 855 on options).
abbrev pub code_of : Verb → ℕ
code_of Will = 251
code_of Wont = 252
code_of Do = 253
code_of Dont = 254

-- A subnegotiation without its end: IAC SB and the escaped bytes, the option's code first (RFC 855 on subnegotiation).
abbrev pub opened : List ℕ → List ℕ
opened bytes = 255 ∷ 250 ∷ flat_map escaped bytes

-- The bytes of a token. IAC EOR ends a record (RFC 885), IAC SE a subnegotiation (RFC 855). An option's
-- negotiation is IAC, its verb and its code; any other command is IAC and its code (RFC 854).
abbrev pub spelling : Token → List ℕ
spelling (Data byte) = escaped byte
spelling End = 255 ∷ 239 ∷ []
spelling (Opt verb code) = 255 ∷ code_of verb ∷ code ∷ []
spelling (Sub bytes) = opened bytes ++ 255 ∷ 240 ∷ []
spelling (Other code) = 255 ∷ code ∷ []

-- The bytes that spell these tokens: their spellings, one after another.
abbrev pub text : List Token → List ℕ
text tokens = flat_map spelling tokens

-- Holds if a byte is a command by itself: any but EOR (239), SB (250), the four verbs and IAC (RFC 854, "TELNET Command
-- Structure"). Our profile also accepts the codes that RFC 854 doesn't list, and SE (240) if no subnegotiation is open.
abbrev pub IsOtherCode : ℕ → Type 0
IsOtherCode code = (code ≢ 239) × (code < 250)

-- Holds if this is a token: `Other` must have one of these codes, so that no bytes spell two tokens.
abbrev pub IsToken : Token → Type 0
IsToken (Other code) = IsOtherCode code
IsToken _ = Unit {0}

-- Holds if a subnegotiation has at most 256 bytes, each counted once even if it is doubled (our profile).
abbrev pub IsShort : Token → Type 0
IsShort (Sub bytes) = length bytes ≤ 256
IsShort _ = Unit {0}

-- Holds if these are the bytes of a token that isn't complete: a proper prefix of a token within its limit, or nothing.
pub record IsPartial (bytes : List ℕ) : Type 0 where
  pub token : Token
  pub missing : List ℕ
  pub proper : missing ≢ []
  pub is_token : IsToken token
  pub is_short : IsShort token
  pub encoded : spelling token ≡ bytes ++ missing
