-- Bytes at the front of others (our profile).
use Rattle.std.specs.Prelude.{◌≡◌, ℕ, List, ◌∷◌, ◌++◌, ◌+◌, ◌≤◌, length, Option}
use Rattle.std.specs.declared.net.socket_addr.SocketAddr.{SocketAddr}
use Rattle.service_wire.specs.declared.header.Header.{Header}

-- holds if the first bytes, as many as the header says, are whole, and name its client
pub record HasFront (IsWhole : List ℕ → Option SocketAddr → Type 0) (bytes : List ℕ) (header : Header) : Type 0 where
  pub front : List ℕ
  pub rest : List ℕ
  pub split : bytes ≡ front ++ rest
  pub counted : length front ≡ header.size
  pub is_whole : IsWhole front header.client

-- holds if all whole bytes that begin with these, whatever follows, have this many more, at least
abbrev pub Lacks : (IsWhole : List ℕ → Option SocketAddr → Type 0) → (bytes : List ℕ) → (count : ℕ) → Type 0
Lacks IsWhole bytes count = (more : List ℕ) (header : Header) → HasFront IsWhole (bytes ++ more) header
    → length bytes + count ≤ header.size

-- holds if the bytes are a front of the mark, and not all of it
pub record IsPartOf (bytes mark : List ℕ) : Type 0 where
  pub next : ℕ
  pub rest : List ℕ
  pub spelled : mark ≡ bytes ++ next ∷ rest
