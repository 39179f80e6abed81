-- Lists that agree item by item; texts without nulls.
use Rattle.std.proofs.Common.{◌≡◌, ℕ, zero, suc, ◌+◌, ◌≤◌, Bool, true, false, not, cond, eqb, List, [], ◌∷◌, ◌++◌, length, replicate, Option, Some, None, refl, ap, sym, ◌∙◌, arith, map, take, drop, eq-eqb, eqb-true, ap₂}
use Rattle.std.specs.Prelude.{bytes_eq}
use Rattle.std.proofs.lemmas.Bool.{and_parts, and_from}
use Rattle.datastream.specs.Inbound.{without_nulls}
use Rattle.shadow.specs.Pairs.{Pairwise}
use Rattle.shadow.specs.Belief.{nulls}
use Rattle.shadow.specs.Meets.{KnownIs, IsNull}

pub pairwise_compose : {X Y Z : Type 0} (R : X → Y → Type 0) (S : Y → Z → Type 0) (xs : List X) (ys : List Y) (zs : List Z)
    → Pairwise R xs ys → Pairwise S ys zs → Pairwise (λ x z. (y : Y) × R x y × S y z) xs zs
pairwise_compose R S [] [] [] r s = tt
pairwise_compose R S [] [] (z ∷ zs) r s = s
pairwise_compose R S [] (y ∷ ys) zs r s = absurd r
pairwise_compose R S (x ∷ xs) [] zs r s = absurd r
pairwise_compose R S (x ∷ xs) (y ∷ ys) [] r s = s
pairwise_compose R S (x ∷ xs) (y ∷ ys) (z ∷ zs) r s = ((y, r.0, s.0), pairwise_compose R S xs ys zs r.1 s.1)

pub pairwise_weaken : {X Y : Type 0} (R S : X → Y → Type 0) → ((x : X) (y : Y) → R x y → S x y) → (xs : List X) (ys : List Y) → Pairwise R xs ys → Pairwise S xs ys
pairwise_weaken R S h [] [] r = tt
pairwise_weaken R S h [] (y ∷ ys) r = r
pairwise_weaken R S h (x ∷ xs) [] r = r
pairwise_weaken R S h (x ∷ xs) (y ∷ ys) r = (h x y r.0, pairwise_weaken R S h xs ys r.1)

pub pairwise-length : {X Y : Type 0} (R : X → Y → Type 0) (xs : List X) (ys : List Y) → Pairwise R xs ys → length ys ≡ length xs
pairwise-length R [] [] r = refl
pairwise-length R [] (y ∷ ys) r = absurd r
pairwise-length R (x ∷ xs) [] r = absurd r
pairwise-length R (x ∷ xs) (y ∷ ys) r = ap suc (pairwise-length R xs ys r.1)

-- one character more
without_nulls_more : (c : ℕ) (cs : List ℕ) → without_nulls (c ∷ cs) ≡ cond (eqb c 0) (without_nulls cs) (c ∷ without_nulls cs)
without_nulls_more c cs = cases (eqb c 0)
  where
    cases : (t : Bool) → cond (not t) (c ∷ without_nulls cs) (without_nulls cs) ≡ cond t (without_nulls cs) (c ∷ without_nulls cs)
    cases true = refl
    cases false = refl

pub length-without_nulls : (xs : List ℕ) → length (without_nulls xs) ≤ length xs
length-without_nulls [] = omega arith
length-without_nulls (x ∷ xs) = rw (without_nulls_more x xs) (cases (eqb x 0) (length-without_nulls xs))
  where
    cases : (t : Bool) → length (without_nulls xs) ≤ length xs → length (cond t (without_nulls xs) (x ∷ without_nulls xs)) ≤ suc (length xs)
    cases true h = omega arith
    cases false h = omega arith

pub null_without : (xs : List ℕ) → without_nulls xs ≡ [] → IsNull xs
null_without [] e = refl
null_without (x ∷ xs) e = cases (eqb x 0) refl (sym (without_nulls_more x xs) ∙ e) (null_without xs)
  where
    cases : (t : Bool) → eqb x 0 ≡ t → cond t (without_nulls xs) (x ∷ without_nulls xs) ≡ [] → (without_nulls xs ≡ [] → IsNull xs) → IsNull (x ∷ xs)
    cases true is e ih = ap₂ (λ (c : ℕ) (cs : List ℕ). c ∷ cs) (eqb-true x 0 is) (ih e)
    cases false is e ih = absurd (cc)

pub without_null : (xs : List ℕ) → IsNull xs → without_nulls xs ≡ []
without_null [] e = refl
without_null (x ∷ xs) e = without_nulls_more x xs ∙ ap (λ (t : Bool). cond t (without_nulls xs) (x ∷ without_nulls xs)) (eq-eqb x 0 (cc)) ∙ without_null xs (cc)

pub null_nulls : (n : ℕ) → IsNull (nulls n)
null_nulls zero = refl
null_nulls (suc n) = ap (λ ys. 0 ∷ ys) (null_nulls n)

-- texts are equal just where the test says so
pub bytes_eq-refl : (xs : List ℕ) → bytes_eq xs xs ≡ true
bytes_eq-refl [] = refl
bytes_eq-refl (x ∷ xs) = and_from _ _ (eq-eqb x x refl) (bytes_eq-refl xs)

pub bytes_eq_true : (xs ys : List ℕ) → bytes_eq xs ys ≡ true → xs ≡ ys
bytes_eq_true [] [] e = refl
bytes_eq_true [] (y ∷ ys) e = absurd (cc)
bytes_eq_true (x ∷ xs) [] e = absurd (cc)
bytes_eq_true (x ∷ xs) (y ∷ ys) e = let h = and_parts _ _ e in ap₂ (λ (c : ℕ) cs. c ∷ cs) (eqb-true x y h.0) (bytes_eq_true xs ys h.1)

pub nothing_known : (xs : List ℕ) → Pairwise KnownIs (replicate (length xs) None) xs
nothing_known [] = tt
nothing_known (x ∷ xs) = (tt, nothing_known xs)

pub forgotten : (ks : List (Option ℕ)) (xs ys : List ℕ) → length ys ≡ length xs → Pairwise KnownIs ks xs → Pairwise KnownIs (map (λ _. None) ks) ys
forgotten [] [] [] e h = tt
forgotten [] [] (y ∷ ys) e h = absurd (omega arith)
forgotten [] (x ∷ xs) ys e h = absurd h
forgotten (k ∷ ks) [] ys e h = absurd h
forgotten (k ∷ ks) (x ∷ xs) [] e h = absurd (omega arith)
forgotten (k ∷ ks) (x ∷ xs) (y ∷ ys) e h = (tt, forgotten ks xs ys (omega arith) h.1)

pub all_known : (xs : List ℕ) → Pairwise KnownIs (map Some xs) xs
all_known [] = tt
all_known (x ∷ xs) = (refl, all_known xs)

pub pairwise-append : {X Y : Type 0} (R : X → Y → Type 0) (xs : List X) (ys : List Y) (us : List X) (vs : List Y) → Pairwise R xs ys → Pairwise R us vs → Pairwise R (xs ++ us) (ys ++ vs)
pairwise-append R [] [] us vs h k = k
pairwise-append R [] (y ∷ ys) us vs h k = absurd h
pairwise-append R (x ∷ xs) [] us vs h k = absurd h
pairwise-append R (x ∷ xs) (y ∷ ys) us vs h k = (h.0, pairwise-append R xs ys us vs h.1 k)

pub pairwise-drop : {X Y : Type 0} (R : X → Y → Type 0) (n : ℕ) (xs : List X) (ys : List Y) → Pairwise R xs ys → Pairwise R (drop n xs) (drop n ys)
pairwise-drop R zero xs ys h = h
pairwise-drop R (suc n) [] [] h = tt
pairwise-drop R (suc n) [] (y ∷ ys) h = absurd h
pairwise-drop R (suc n) (x ∷ xs) [] h = absurd h
pairwise-drop R (suc n) (x ∷ xs) (y ∷ ys) h = pairwise-drop R n xs ys h.1

pub pairwise-take : {X Y : Type 0} (R : X → Y → Type 0) (n : ℕ) (xs : List X) (ys : List Y) → Pairwise R xs ys → Pairwise R (take n xs) (take n ys)
pairwise-take R zero xs ys h = tt
pairwise-take R (suc n) [] [] h = tt
pairwise-take R (suc n) [] (y ∷ ys) h = absurd h
pairwise-take R (suc n) (x ∷ xs) [] h = absurd h
pairwise-take R (suc n) (x ∷ xs) (y ∷ ys) h = (h.0, pairwise-take R n xs ys h.1)

drop_past : {X : Type 0} (n : ℕ) (x : X) (rest xs : List X) → x ∷ rest ≡ drop n xs → rest ≡ drop (suc n) xs
drop_past zero x rest [] e = absurd (cc)
drop_past zero x rest (y ∷ xs) e = (cc)
drop_past (suc n) x rest [] e = absurd (cc)
drop_past (suc n) x rest (y ∷ xs) e = drop_past n x rest xs e

pub drop_tail : {X : Type 0} (n : ℕ) (x : X) (rest xs : List X) → x ∷ rest ≡ drop n xs → rest ≡ drop (n + 1) xs
drop_tail n x rest xs e = let same : n + 1 ≡ suc n = omega arith in rw same (drop_past n x rest xs e)

pub empty : {X : Type 0} (xs : List X) → length xs ≡ 0 → xs ≡ []
empty [] e = refl
empty (x ∷ xs) e = absurd (omega arith)
