-- The places of earlier hosts.
use Rattle.std.proofs.Common.{◌≡◌, ◌≢◌, ◌∙◌, ◌<◌, ◌≤◌, ◌+◌, ◌==◌, ◌||◌, ℕ, zero, suc, Bool, true, false, List, [], ◌∷◌, ◌++◌, Option, Some, None, length, refl, sym, ap, subst, set, get_or, arith}
use Rattle.std.proofs.lemmas.Bool.{eqb-true, eqb-false, eq-eqb}
use Rattle.std.proofs.lemmas.List.{get_or-set_same, get_or-set_other, length-set}
use Rattle.host_core.specs.State.{Host, phase_of, state_at}
use Rattle.server.proofs.Apart.{any_default}
use Rattle.server.specs.Hosts.{AreOwned, handed_below, is_owned, is_place, owner_after, put_at}

-- ---- owners

either_true : (b : Bool) → (b || true) ≡ true
either_true true = refl
either_true false = refl

pub owned_by : (place : ℕ) (owners : List (Option ℕ)) (conn : ℕ) → get_or owners conn None ≡ Some place → is_owned place owners ≡ true
owned_by place [] conn is = absurd (cc)
owned_by place (owner ∷ rest) zero is = ap (λ (o : Option ℕ). is_place place o || is_owned place rest) is ∙ ap (λ (b : Bool). b || is_owned place rest) (eq-eqb place place refl)
owned_by place (owner ∷ rest) (suc conn) is = ap (λ (b : Bool). is_place place owner || b) (owned_by place rest conn is) ∙ either_true (is_place place owner)

placed : (place : ℕ) (owner : Option ℕ) → is_place place owner ≡ true → owner ≡ Some place
placed place None is = absurd (cc)
placed place (Some it) is = ap Some (eqb-true it place is)

pub owner_of : (place : ℕ) (owners : List (Option ℕ)) → is_owned place owners ≡ true → (conn : ℕ) × (get_or owners conn None ≡ Some place)
owner_of place [] is = absurd (cc)
owner_of place (owner ∷ rest) is = by_test (is_place place owner) refl is (owner_of place rest)
  where
    by_test : (b : Bool) → is_place place owner ≡ b → (b || is_owned place rest) ≡ true → (is_owned place rest ≡ true → (conn : ℕ) × (get_or rest conn None ≡ Some place))
        → (conn : ℕ) × (get_or (owner ∷ rest) conn None ≡ Some place)
    by_test true here is later = (zero, placed place owner here)
    by_test false other is later = let found = later is in (suc found.0, found.1)

-- a number with an owner is one
pub has_number : (owners : List (Option ℕ)) (conn place : ℕ) → get_or owners conn None ≡ Some place → conn < length owners
has_number [] conn place is = absurd (cc)
has_number (owner ∷ rest) zero place is = omega arith
has_number (owner ∷ rest) (suc conn) place is = let after = has_number rest conn place is in omega arith

-- one more place is owned
pub one_owned : (place : ℕ) (owners : List (Option ℕ)) → AreOwned place owners → is_owned place owners ≡ true → AreOwned (place + 1) owners
one_owned place owners before here other below = by_test (other == place) refl
  where
    by_test : (b : Bool) → (other == place) ≡ b → is_owned other owners ≡ true
    by_test true e = subst (λ (n : ℕ). is_owned n owners ≡ true) (sym (eqb-true other place e)) here
    by_test false e = let ne = eqb-false other place e in before other (omega (arith, below, ne))

-- ---- putting a host at a place

pub put_set : (place : ℕ) (host : Host) (hosts : List Host) → place < length hosts → set hosts place host ≡ put_at place host hosts
put_set place host [] below = absurd (omega arith)
put_set zero host (first ∷ rest) below = refl
put_set (suc place) host (first ∷ rest) below = ap (λ (hs : List Host). first ∷ hs) (put_set place host rest (omega arith))

pub put_behind : (place : ℕ) (host : Host) (hosts : List Host) → length hosts ≤ place → hosts ++ host ∷ [] ≡ put_at place host hosts
put_behind place host [] above = refl
put_behind zero host (first ∷ rest) above = absurd (omega arith)
put_behind (suc place) host (first ∷ rest) above = ap (λ (hs : List Host). first ∷ hs) (put_behind place host rest (omega arith))

pub put_length : (place : ℕ) (host : Host) (hosts : List Host) → place ≤ length hosts → place < length (put_at place host hosts)
put_length zero host [] within = omega arith
put_length (suc place) host [] within = absurd (omega arith)
put_length zero host (first ∷ rest) within = omega arith
put_length (suc place) host (first ∷ rest) within = let more = put_length place host rest (omega arith) in omega arith

pub put_no_less : (place : ℕ) (host : Host) (hosts : List Host) → length hosts ≤ length (put_at place host hosts)
put_no_less place host [] = omega arith
put_no_less zero host (first ∷ rest) = omega arith
put_no_less (suc place) host (first ∷ rest) = let more = put_no_less place host rest in omega arith

pub put_here : (place : ℕ) (host other : Host) (hosts : List Host) → place ≤ length hosts → get_or (put_at place host hosts) place other ≡ host
put_here zero host other [] within = refl
put_here (suc place) host other [] within = absurd (omega arith)
put_here zero host other (first ∷ rest) within = refl
put_here (suc place) host other (first ∷ rest) within = put_here place host other rest (omega arith)

pub put_elsewhere : (place at : ℕ) (host one other : Host) (hosts : List Host) → at < length hosts → at ≢ place → get_or (put_at place host hosts) at one ≡ get_or hosts at other
put_elsewhere place at host one other [] below differs = absurd (omega arith)
put_elsewhere zero zero host one other (first ∷ rest) below differs = absurd (differs refl)
put_elsewhere zero (suc at) host one other (first ∷ rest) below differs = any_default rest at one other (omega arith)
put_elsewhere (suc place) zero host one other (first ∷ rest) below differs = refl
put_elsewhere (suc place) (suc at) host one other (first ∷ rest) below differs = put_elsewhere place at host one other rest (omega arith) (λ e. differs (ap suc e))

pub put_twice : (place : ℕ) (one host : Host) (hosts : List Host) → place ≤ length hosts → set (put_at place one hosts) place host ≡ put_at place host hosts
put_twice zero one host [] within = refl
put_twice (suc place) one host [] within = absurd (omega arith)
put_twice zero one host (first ∷ rest) within = refl
put_twice (suc place) one host (first ∷ rest) within = ap (λ (hs : List Host). first ∷ hs) (put_twice place one host rest (omega arith))

-- ---- handing over

pub none_handed : (place : ℕ) (current : Host) (owners : List (Option ℕ)) → owners ≡ handed_below place current owners 0
unfolding handed_below
none_handed place current owners = refl

pub handed_length : (place : ℕ) (current : Host) (owners : List (Option ℕ)) (count : ℕ) → length (handed_below place current owners count) ≡ length owners
unfolding handed_below
handed_length place current owners zero = refl
handed_length place current owners (suc conn) = length-set (handed_below place current owners conn) conn _ ∙ handed_length place current owners conn

-- a number that isn't handed over yet
pub not_handed : (place : ℕ) (current : Host) (owners : List (Option ℕ)) (count conn : ℕ) → count ≤ conn → get_or (handed_below place current owners count) conn None ≡ get_or owners conn None
unfolding handed_below
not_handed place current owners zero conn above = refl
not_handed place current owners (suc count) conn above =
    get_or-set_other (handed_below place current owners count) count conn _ None (λ e. absurd (omega (arith, above, e))) ∙ not_handed place current owners count conn (omega arith)

pub one_handed : (place : ℕ) (current : Host) (owners now : List (Option ℕ)) (conn : ℕ) (owner : Option ℕ) → conn < length owners → now ≡ handed_below place current owners conn
    → owner ≡ owner_after place (get_or now conn None) (phase_of (state_at conn current)) → set now conn owner ≡ handed_below place current owners (conn + 1)
unfolding handed_below
one_handed place current owners now conn owner below so_far is =
    let next : conn + 1 ≡ suc conn = omega arith in
    rw (next, is, so_far, not_handed place current owners conn conn (omega arith)) refl

pub handed_at : (place : ℕ) (current : Host) (owners : List (Option ℕ)) (count conn : ℕ) → conn < count → conn < length owners
    → get_or (handed_below place current owners count) conn None ≡ owner_after place (get_or owners conn None) (phase_of (state_at conn current))
unfolding handed_below
handed_at place current owners zero conn below inside = absurd (omega arith)
handed_at place current owners (suc count) conn below inside = by_test (conn == count) refl (handed_at place current owners count conn)
  where
    by_test : (b : Bool) → (conn == count) ≡ b
        → (conn < count → conn < length owners → get_or (handed_below place current owners count) conn None ≡ owner_after place (get_or owners conn None) (phase_of (state_at conn current)))
        → get_or (set (handed_below place current owners count) count (owner_after place (get_or owners count None) (phase_of (state_at count current)))) conn None
        ≡ owner_after place (get_or owners conn None) (phase_of (state_at conn current))
    by_test true e before =
        let same : conn ≡ count = eqb-true conn count e in
        rw (same) (get_or-set_same (handed_below place current owners count) count _ None (subst (λ (n : ℕ). count < n) (sym (handed_length place current owners count)) (subst (λ (n : ℕ). n < length owners) same inside)))
    by_test false e before =
        let ne : conn ≢ count = eqb-false conn count e in
        get_or-set_other (handed_below place current owners count) count conn _ None ne ∙ before (omega (arith, below, ne)) inside
