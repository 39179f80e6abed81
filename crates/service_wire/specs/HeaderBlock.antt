-- The PROXY protocol, version 2: a header is 16 bytes and a block (The PROXY protocol, Versions 1 & 2, section 2.2).
use Rattle.std.specs.Prelude.{◌≡◌, ℕ, ◌+◌, ◌*◌, ◌/◌, ◌%◌, ◌<◌, ◌≤◌, ◌&&◌, ◌==◌, nat_lt, List, [], ◌∷◌, length, take, slice_index, Option, Some, None, Result, Ok, Err, IsOk, ◌⊎◌, ⊤, if◌then◌else◌}
use Rattle.std.specs.declared.net.socket_addr.SocketAddr.{SocketAddr}
use Rattle.std.specs.declared.net.socket_addr.SocketAddr.TheVariants.{V4, V6}
use Rattle.std.specs.Net.Addr.{ipv4_octets, ipv6_segments, segments_of}
use Rattle.std.specs.Net.Socket.{v4_ip, v4_port, v6_ip, v6_port, v6_flowinfo, v6_scope_id}
use Rattle.service_wire.specs.Fronts.{Lacks}
use Rattle.service_wire.specs.declared.header_block.HeaderCommand.{HeaderCommand}
use Rattle.service_wire.specs.declared.header_block.HeaderCommand.TheVariants.{Local, Proxy}
use Rattle.service_wire.specs.declared.header_block.Contents.{Contents}
use Rattle.service_wire.specs.declared.header_block.Contents.TheVariants.{Ignored, Inet, Inet6}
use Rattle.service_wire.specs.declared.header.Header.{Header}
use Rattle.service_wire.specs.declared.header_fault.HeaderFault.{HeaderFault}
use Rattle.service_wire.specs.declared.header_fault.HeaderFault.TheVariants as fault

-- the 12 bytes with which each header of version 2 begins
abbrev pub signature : List ℕ
signature = 0x0d ∷ 0x0a ∷ 0x0d ∷ 0x0a ∷ 0x00 ∷ 0x0d ∷ 0x0a ∷ 0x51 ∷ 0x55 ∷ 0x49 ∷ 0x54 ∷ 0x0a ∷ []

-- the 13th byte: the version, which must be 2, and the command
abbrev pub command_of : ℕ → Result HeaderCommand HeaderFault
command_of byte =
    if byte == 0x20 then Ok Local
    else (if byte == 0x21 then Ok Proxy
    else (if byte / 16 == 2 then Err fault.Command else Err fault.Version))

-- The 14th byte: the address family and the transport protocol. LOCAL ignores it. Values that the standard doesn't
-- assign must be rejected; a receiver treats those that it doesn't support as UNSPEC.
abbrev pub contents_of : HeaderCommand → ℕ → Result Contents HeaderFault
contents_of Local byte = Ok Ignored
contents_of Proxy byte =
    if byte == 0x11 then Ok Inet
    else (if byte == 0x21 then Ok Inet6
    else (if nat_lt byte 0x40 && nat_lt (byte % 16) 3 then Ok Ignored else Err fault.Family))

-- what both bytes say of the block
abbrev pub contents_at : ℕ → ℕ → Result Contents HeaderFault
contents_at version family = elim (command_of version) [ Ok command ↦ contents_of command family | Err why ↦ Err why ]

-- how many bytes the addresses and ports have
abbrev pub least_block : Contents → ℕ
least_block Ignored = 0
least_block Inet = 12
least_block Inet6 = 36

-- the longest block: a header of 536 bytes fits in the smallest segment of TCP (our profile)
abbrev pub longest_block : ℕ
longest_block = 520

-- a number of 16 bits in network byte order
abbrev pub number_at : List ℕ → ℕ → ℕ
number_at bytes place = slice_index bytes place * 256 + slice_index bytes (place + 1)

-- holds if the block names this client by its source address and port, or None if its contents are ignored. What
-- follows the addresses and ports (TLVs) is ignored.
abbrev pub IsBlock : Contents → (block : List ℕ) → Option SocketAddr → Type 0
IsBlock Ignored block None = ⊤
IsBlock Inet block (Some (V4 client)) = (ipv4_octets (v4_ip client) ≡ take 4 block)
    × (v4_port client ≡ number_at block 8)
IsBlock Inet6 block (Some (V6 client)) = (ipv6_segments (v6_ip client) ≡ segments_of (take 16 block))
    × (v6_port client ≡ number_at block 32) × (v6_flowinfo client ≡ 0) × (v6_scope_id client ≡ 0)
IsBlock contents block _ = ⊥

-- ---- what follows the signature

-- holds if a block of these contents can have this length
pub record CanHaveLength (contents : Contents) (size : ℕ) : Type 0 where
  pub whole : least_block contents ≤ size
  pub short : size ≤ longest_block

-- holds if these bytes are the other four, the last two of which count the block's, and the block
pub record IsWholeBlock (bytes : List ℕ) (client : Option SocketAddr) : Type 0 where
  pub version : ℕ
  pub family : ℕ
  pub high : ℕ
  pub low : ℕ
  pub block : List ℕ
  pub contents : Contents
  pub spelled : bytes ≡ version ∷ family ∷ high ∷ low ∷ block
  pub contents_are : contents_at version family ≡ Ok contents
  pub counted : length block ≡ high * 256 + low
  pub fits : CanHaveLength contents (high * 256 + low)
  pub says : IsBlock contents block client

-- holds if these bytes are the front of such bytes, and more are awaited
abbrev pub IsOpenBlock : (bytes : List ℕ) → Type 0
IsOpenBlock [] = ⊤
IsOpenBlock (version ∷ []) = IsOk (command_of version)
IsOpenBlock (version ∷ family ∷ []) = IsOk (contents_at version family)
IsOpenBlock (version ∷ family ∷ high ∷ []) = IsOk (contents_at version family)
IsOpenBlock (version ∷ family ∷ high ∷ low ∷ block) = (contents : Contents)
    × (contents_at version family ≡ Ok contents) × CanHaveLength contents (high * 256 + low)
    × (length block < high * 256 + low)

-- holds if any such bytes that begin with these have this many more, at least
pub record IsMissingInBlock (bytes : List ℕ) (count : ℕ) : Type 0 where
  pub some : 0 < count
  pub within : length bytes + count ≤ 4 + longest_block
  pub lacks : Lacks IsWholeBlock bytes count

-- holds if a block of these contents can't have this length, for this reason
abbrev pub IsBadLength : Contents → (size : ℕ) → HeaderFault → Type 0
IsBadLength contents size fault.ShortBlock = size < least_block contents
IsBadLength contents size fault.LongBlock = longest_block < size
IsBadLength contents size _ = ⊥

-- holds if no such bytes begin with these, for this reason
abbrev pub IsBadBlock : (bytes : List ℕ) → HeaderFault → Type 0
IsBadBlock [] why = ⊥
IsBadBlock (version ∷ []) why = command_of version ≡ Err why
IsBadBlock (version ∷ family ∷ []) why = contents_at version family ≡ Err why
IsBadBlock (version ∷ family ∷ high ∷ []) why = contents_at version family ≡ Err why
IsBadBlock (version ∷ family ∷ high ∷ low ∷ block) why = (contents_at version family ≡ Err why)
    ⊎ ((contents : Contents) × (contents_at version family ≡ Ok contents)
    × IsBadLength contents (high * 256 + low) why)

-- ---- a complete block as the code finds it

-- holds if the bytes begin with a whole block, and the header is that of the signature and this block
abbrev pub Completes : (bytes : List ℕ) → Header → Type 0
Completes [] header = ⊥
Completes (version ∷ []) header = ⊥
Completes (version ∷ family ∷ []) header = ⊥
Completes (version ∷ family ∷ high ∷ []) header = ⊥
Completes (version ∷ family ∷ high ∷ low ∷ block) header = (contents : Contents)
    × (contents_at version family ≡ Ok contents) × CanHaveLength contents (high * 256 + low)
    × (high * 256 + low ≤ length block) × IsBlock contents (take (high * 256 + low) block) header.client
    × (header.size ≡ 16 + (high * 256 + low))
