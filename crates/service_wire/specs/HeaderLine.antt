-- The PROXY protocol, version 1: a header is a line of text (The PROXY protocol, Versions 1 & 2, section 2.1).
use Rattle.std.specs.Prelude.{◌≡◌, ℕ, Bool, false, ◌^◌, ◌<◌, ◌≤◌, ◌&&◌, ◌==◌, List, [], ◌∷◌, ◌++◌, length, take, slice_index, codes, decimal, Option, Some, None, option_map, if◌then◌else◌}
use Rattle.std.specs.List.{slice_split}
use Rattle.std.specs.declared.net.socket_addr.SocketAddr.{SocketAddr}
use Rattle.std.specs.declared.net.socket_addr.SocketAddr.TheVariants.{V4, V6}
use Rattle.std.specs.Net.Grammar.{IsIpv4Text, IsIpv6Text}
use Rattle.std.specs.Net.Socket.{v4_ip, v4_port, v6_ip, v6_port, v6_flowinfo, v6_scope_id}
use Rattle.service_wire.specs.declared.header_fault.HeaderFault.{HeaderFault}
use Rattle.service_wire.specs.declared.header_line.Words.{Words}
use Rattle.service_wire.specs.declared.header_fault.HeaderFault.TheVariants as fault

-- what each header of version 1 begins with
abbrev pub line_mark : List ℕ
line_mark = codes "PROXY "

-- how many bytes of the line, with CRLF, can follow these six: 107 is the longest line
abbrev pub longest_line : ℕ
longest_line = 101

-- CR and LF
abbrev pub crlf : List ℕ
crlf = 13 ∷ 10 ∷ []

-- whether the bytes begin with CRLF
abbrev pub begins_with_crlf : List ℕ → Bool
begins_with_crlf [] = false
begins_with_crlf (byte ∷ rest) = byte == 13 && slice_index rest 0 == 10

-- what is before the first CRLF; None if there is none
unfoldable pub line_in : List ℕ → Option (List ℕ)
line_in [] = None
line_in (byte ∷ rest) =
    if begins_with_crlf (byte ∷ rest) then Some []
    else option_map (λ line. byte ∷ line) (line_in rest)

-- the words of a line: exactly one space is between two words
unfoldable pub words : List ℕ → List (List ℕ)
words line = slice_split (λ byte. byte == 0x20) line

-- holds if the text is this port: a decimal integer in 0..65535, without heading zeroes
pub record IsPort (text : List ℕ) (port : ℕ) : Type 0 where
  pub fits : port < 2 ^ 16
  pub spelled : text ≡ decimal port

-- holds if the first text spells the value, and the second spells another of its kind
pub record IsPair {A : Type 0} (Spells : List ℕ → A → Type 0) (first second : List ℕ) (value : A) : Type 0 where
  pub other : A
  pub first_is : Spells first value
  pub second_is : Spells second other

-- holds if no value is the first of such a pair
abbrev pub IsNoPair : {A : Type 0} (Spells : List ℕ → A → Type 0) → List ℕ → List ℕ → Type 0
IsNoPair {A} Spells first second = (value : A) → ¬ (IsPair Spells first second value)

-- holds if the words are the family, two addresses of it, and two ports; the first of each is the client's
pub record IsTcp {A : Type 0} (family : List ℕ) (Spells : List ℕ → A
    → Type 0) (words : List (List ℕ)) (address : A) (port : ℕ) : Type 0 where
  pub source : List ℕ
  pub target : List ℕ
  pub source_port : List ℕ
  pub target_port : List ℕ
  pub all : words ≡ family ∷ source ∷ target ∷ source_port ∷ target_port ∷ []
  pub addresses : IsPair Spells source target address
  pub ports : IsPair IsPort source_port target_port port

-- holds if the words name this client: an address of TCP over IPv4 or IPv6, and a port
abbrev pub IsClient : (words : List (List ℕ)) → SocketAddr → Type 0
IsClient words (V4 client) = IsTcp (codes "TCP4") IsIpv4Text words (v4_ip client) (v4_port client)
IsClient words (V6 client) = IsTcp (codes "TCP6") IsIpv6Text words (v6_ip client) (v6_port client)
    × (v6_flowinfo client ≡ 0) × (v6_scope_id client ≡ 0)

-- holds if the words name no client
abbrev pub IsNoClient : (words : List (List ℕ)) → Type 0
IsNoClient words = (client : SocketAddr) → ¬ (IsClient words client)

-- holds if the line begins so
abbrev pub IsUnknown : List ℕ → Type 0
IsUnknown line = (ignored : List ℕ) × (line ≡ codes "UNKNOWN" ++ ignored)

-- holds if the line names this client, or None: UNKNOWN, after which the receiver must ignore what is before CRLF
abbrev pub IsLine : (line : List ℕ) → Option SocketAddr → Type 0
IsLine line None = IsUnknown line
IsLine line (Some client) = IsClient (words line) client

-- ---- what follows the mark

-- holds if a line and CRLF are these bytes, in which no other CRLF is, and name this client
pub record IsWholeLine (bytes : List ℕ) (client : Option SocketAddr) : Type 0 where
  pub line : List ℕ
  pub spelled : bytes ≡ line ++ crlf
  pub first : line_in bytes ≡ Some line
  pub short : length bytes ≤ longest_line
  pub says : IsLine line client

-- holds if CRLF is awaited. The receiver must wait for it before it decodes the addresses.
pub record IsOpenLine (bytes : List ℕ) : Type 0 where
  pub open_line : line_in bytes ≡ None
  pub short : length bytes < longest_line

-- holds if the first CRLF ends a line that names no client, or if there is none in the longest line
abbrev pub IsBadLine : (bytes : List ℕ) → HeaderFault → Type 0
IsBadLine bytes fault.BadLine = (line : List ℕ) × (line_in (take longest_line bytes) ≡ Some line)
    × ((client : Option SocketAddr) → ¬ (IsLine line client))
IsBadLine bytes fault.LongLine = (line_in (take longest_line bytes) ≡ None) × (longest_line ≤ length bytes)
IsBadLine bytes _ = ⊥

-- ---- the words of a line as the code has them

abbrev pub list_of : Words → List (List ℕ)
list_of w = w.family.now ∷ w.source.now ∷ w.target.now ∷ w.source_port.now ∷ w.target_port.now ∷ []
