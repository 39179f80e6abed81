-- Bytes at the front of others.
use Rattle.std.proofs.Common.{◌≡◌, ℕ, ◌<◌, List, [], ◌∷◌, ◌++◌, length, drop, ap, arith, length-append, append-nil}
use Rattle.service_wire.specs.Fronts.{IsPartOf}

some_rest : (bytes mark rest : List ℕ) → length bytes < length mark → mark ≡ bytes ++ rest → IsPartOf bytes mark
some_rest bytes mark [] short split = absurd (omega (arith, ap length split, ap length (append-nil bytes)))
some_rest bytes mark (next ∷ rest) short split = record { next = next; rest = rest; spelled = split }

pub part_of : (bytes mark : List ℕ) → length bytes < length mark → mark ≡ bytes ++ drop (length bytes) mark → IsPartOf bytes mark
part_of bytes mark short split = some_rest bytes mark (drop (length bytes) mark) short split

pub shorter : (bytes mark : List ℕ) → IsPartOf bytes mark → length bytes < length mark
shorter bytes mark h = omega (arith, ap length h.spelled, length-append bytes (h.next ∷ h.rest))
