-- The header at the front of a connection (The PROXY protocol, Versions 1 & 2, section 2).
use Rattle.std.specs.Prelude.{◌≡◌, ℕ, ◌⊎◌, List, ◌++◌, length, Option}
use Rattle.std.specs.declared.net.socket_addr.SocketAddr.{SocketAddr}
use Rattle.service_wire.specs.declared.header.Header.{Header}
use Rattle.service_wire.specs.Fronts.{HasFront, IsPartOf}
use Rattle.service_wire.specs.HeaderLine.{line_mark, IsWholeLine, IsOpenLine, IsBadLine}
use Rattle.service_wire.specs.HeaderBlock.{signature, IsWholeBlock, IsOpenBlock, IsBadBlock}
use Rattle.service_wire.specs.declared.header_fault.HeaderFault.{HeaderFault}
use Rattle.service_wire.specs.declared.header_fault.HeaderFault.TheVariants as fault

-- holds if the bytes are the mark and then bytes of which the fact holds
abbrev pub Follows : (mark : List ℕ) → (List ℕ → Type 0) → (bytes : List ℕ) → Type 0
Follows mark Fact bytes = (rest : List ℕ) × (bytes ≡ mark ++ rest) × Fact rest

-- holds if these bytes are a header that names this client, or None: the connection's own peer is the client
abbrev pub IsHeader : (header : List ℕ) → (client : Option SocketAddr) → Type 0
IsHeader header client = Follows line_mark (λ rest. IsWholeLine rest client) header
    ⊎ Follows signature (λ rest. IsWholeBlock rest client) header

-- holds if the first bytes of a connection, this many, are a header that names this client
abbrev pub HasHeader : (bytes : List ℕ) → Header → Type 0
HasHeader bytes header = HasFront IsHeader bytes header

-- holds if the bytes are this header, and nothing follows it
pub record IsWholly (bytes : List ℕ) (header : Header) : Type 0 where
  pub is_header : IsHeader bytes header.client
  pub counted : length bytes ≡ header.size

-- holds if a connection that begins with these bytes may have a header, and more bytes are awaited
abbrev pub IsAwaited : (bytes : List ℕ) → Type 0
IsAwaited bytes = (IsPartOf bytes line_mark ⊎ IsPartOf bytes signature)
    ⊎ (Follows line_mark IsOpenLine bytes ⊎ Follows signature IsOpenBlock bytes)

-- holds if the bytes differ from the mark
abbrev pub Differs : (bytes mark : List ℕ) → Type 0
Differs bytes mark = ¬ (IsPartOf bytes mark) × ((rest : List ℕ) → ¬ (bytes ≡ mark ++ rest))

-- holds if a connection that begins with these bytes has no header, for this reason
abbrev pub IsRefused : (bytes : List ℕ) → HeaderFault → Type 0
IsRefused bytes fault.NoHeader = Differs bytes line_mark × Differs bytes signature
IsRefused bytes why = Follows line_mark (λ rest. IsBadLine rest why) bytes
    ⊎ Follows signature (λ rest. IsBadBlock rest why) bytes
