-- A host's state and output depend only on what they were and on the connection's bytes, however these are cut into
-- pieces (our profile: RFC 854 knows no pieces).
use Rattle.std.specs.Prelude.{◌≡◌, ℕ, List, ◌++◌}
use Rattle.host_core.specs.Bytes.{ConnectionAndPool, TakesBytes}

-- holds if the same bytes always lead to the same state
abbrev pub OneOutcome : Type 0
OneOutcome = (number : ℕ) (old new other : ConnectionAndPool) (bytes : List ℕ) → TakesBytes number old bytes new
    → TakesBytes number old bytes other → new ≡ other

-- holds if two pieces, one after the other, are taken as both in one
abbrev pub PiecesCompose : Type 0
PiecesCompose = (number : ℕ) (old mid new : ConnectionAndPool) (first second : List ℕ)
    → TakesBytes number old first mid → TakesBytes number mid second new → TakesBytes number old (first ++ second) new

-- holds if bytes that are taken in one piece are taken in any two pieces
abbrev pub PiecesPart : Type 0
PiecesPart = (number : ℕ) (old new : ConnectionAndPool) (first second : List ℕ)
    → TakesBytes number old (first ++ second) new → (mid : ConnectionAndPool) × TakesBytes number old first mid
    × TakesBytes number mid second new
