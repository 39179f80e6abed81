-- What a turn of serving a connection does.
use Rattle.std.proofs.Common.{◌≡◌, ◌==◌, ℕ, true, false, List, [], length, ap, sym, ◌∙◌}
use Rattle.std.proofs.lemmas.Bool.{eqb-true}
use Rattle.std.proofs.lemmas.List.{nil_from_length, set-get_or}
use Rattle.host_core.specs.Serves.{sent_from}
use Rattle.host_core.specs.State.{Host, Connection, unused}

-- where a write took nothing the host stays
pub none_sent : (conn : ℕ) (host : Host) → host ≡ sent_from conn 0 host
none_sent conn host = sym (ap (λ (connections : List Connection). record host { connections = connections }) (set-get_or host.connections conn unused))

-- what isn't of length 0 isn't nothing
pub is_some_out : (bytes out : List ℕ) → bytes ≡ out → (length bytes == 0) ≡ false → out ≡ [] → ⊥
is_some_out bytes out same some none =
    let no_bytes : (length bytes == 0) ≡ true = ap (λ (b : List ℕ). length b == 0) (same ∙ none) in
    absurd (cc)

pub is_no_out : (bytes out : List ℕ) → bytes ≡ out → (length bytes == 0) ≡ true → out ≡ []
is_no_out bytes out same none = sym same ∙ nil_from_length bytes (eqb-true (length bytes) 0 none)
