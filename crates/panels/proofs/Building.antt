-- Lists that are built one for one.
use Rattle.std.proofs.Common.{◌≡◌, ℕ, ◌+◌, ◌<◌, ◌≤◌, map, take, drop, List, [], ◌∷◌, ◌++◌, length, Some, refl, ap, get_or, subst, sym, ◌∙◌, inl, inr, arith, length-append}
use Rattle.std.specs.Prelude.{slice_get, ◌⊎◌}
use Rattle.std.proofs.Math.Seq.{get_or-append_seam}
use Rattle.std.proofs.lemmas.List.{get_or_append_left, at_drop_all, append-nil, append_assoc, drop_more, get_or-take, length-take-le}
use Rattle.std.proofs.lemmas.Option.{slice_get_within, get_or_from_slice_get, slice_get-get_or, slice_get_read, same_Some}
use Rattle.panels.specs.Defines.{IsEachOf}

-- so many things are built, each from its draft
pub record AreBuilt {X Y : Type 0} (IsOf : ℕ → X → Y → Type 0) (drafts : List X) (count : ℕ) (things : List Y) : Type 0 where
  pub size : length things ≡ count
  pub are : (i : ℕ) (draft : X) (thing : Y) → slice_get drafts i ≡ Some draft → slice_get things i ≡ Some thing → IsOf i draft thing

below_or_last : (i n : ℕ) → i < n + 1 → (i < n) ⊎ (i ≡ n)
below_or_last i n below = grind arith

-- an item of a list with one more at the end
pushed_cases : {X : Type 0} (xs : List X) (new : X) (i : ℕ) (x : X) → slice_get (xs ++ new ∷ []) i ≡ Some x
    → (slice_get xs i ≡ Some x) ⊎ ((i ≡ length xs) × (new ≡ x))
pushed_cases xs new i x at_i =
    let within : i < length (xs ++ new ∷ []) = slice_get_within _ i x at_i in
    let read : get_or (xs ++ new ∷ []) i x ≡ x = get_or_from_slice_get _ i x x at_i in
    let below : i < length xs + 1 = simp length-append at within in
    elim (below_or_last i (length xs) below) [
      | inl less ↦ inl (slice_get-get_or xs i x less ∙ ap Some (sym (get_or_append_left xs (new ∷ []) x i less) ∙ read))
      | inr last ↦ inr (last, sym (get_or-append_seam xs new [] x) ∙ subst (λ k. get_or (xs ++ new ∷ []) k x ≡ x) last read)
    ]

last_built : {X Y : Type 0} (IsOf : ℕ → X → Y → Type 0) (drafts : List X) (n i : ℕ) (own draft : X) (new thing : Y) → slice_get drafts n ≡ Some own → IsOf n own new
    → i ≡ n → new ≡ thing → slice_get drafts i ≡ Some draft → IsOf i draft thing
last_built IsOf drafts n i own draft new thing there is same made at_i =
    let here : own ≡ draft = same_Some _ _ (sym there ∙ subst (λ k. slice_get drafts k ≡ Some draft) same at_i) in
    subst (λ k. IsOf k draft thing) (sym same) (subst (λ d. IsOf n d thing) here (subst (IsOf n own) made is))

pub built_more : {X Y : Type 0} (IsOf : ℕ → X → Y → Type 0) (drafts : List X) (n : ℕ) (things : List Y) (own : X) (new : Y) → slice_get drafts n ≡ Some own → IsOf n own new
    → AreBuilt IsOf drafts n things → AreBuilt IsOf drafts (n + 1) (things ++ new ∷ [])
built_more IsOf drafts n things own new there is built = record {
  size = length-append things (new ∷ []) ∙ ap (λ k. k + 1) built.size;
  are = λ i draft thing at_i has.
      elim (pushed_cases things new i thing has) [
        | inl before ↦ built.are i draft thing at_i before
        | inr last ↦ last_built IsOf drafts n i own draft new thing there is (last.0 ∙ built.size) last.1 at_i
      ];
}

pub built_all : {X Y : Type 0} (IsOf : ℕ → X → Y → Type 0) (drafts : List X) (n : ℕ) (things : List Y) → n ≡ length drafts → AreBuilt IsOf drafts n things → IsEachOf IsOf drafts things
built_all IsOf drafts n things whole built = record { size = built.size ∙ whole; are = built.are }

-- what is read of a list at an index, by another name of the list
pub read_at : {X : Type 0} (read xs : List X) (i : ℕ) (x : X) → read ≡ xs → i < length read → x ≡ get_or read i x → slice_get xs i ≡ Some x
read_at read xs i x same below is = slice_get_read xs (length read) i x (ap length same) below (is ∙ ap (λ l. get_or l i x) same)

-- the same of what comes before a place
pub read_before : {X : Type 0} (read xs : List X) (n i : ℕ) (x : X) → read ≡ xs → n < length xs → i < length (take n read) → x ≡ get_or (take n read) i x → slice_get xs i ≡ Some x
read_before read xs n i x same fits below is =
    let size : length read ≡ length xs = ap length same in
    let taken : length (take n read) ≡ n = length-take-le n read (omega arith) in
    let first : i < n = omega arith in
    read_at read xs i x same (omega arith) (is ∙ get_or-take n read i x first)

pub read_below : {X : Type 0} (read xs : List X) (i : ℕ) (x : X) → read ≡ xs → i < length xs → x ≡ get_or read i x → slice_get xs i ≡ Some x
read_below read xs i x same below is = slice_get_read xs (length xs) i x refl below (is ∙ ap (λ l. get_or l i x) same)

-- what is done is the whole, where nothing is left
pub all_done : {X Y : Type 0} (f : X → Y) (whole done : List Y) (xs : List X) (k : ℕ) → length xs ≤ k → whole ≡ done ++ map f (drop k xs) → done ≡ whole
all_done f whole done xs k past is = sym (is ∙ at_drop_all (λ rest. done ++ map f rest) xs k past ∙ append-nil done)

-- so is a list of answers, one for each of the things that are left
pub answered_more : {X Y : Type 0} (f : X → Y) (xs : List X) (ys : List Y) (k : ℕ) (d : X) (y : Y) → k < length xs → y ≡ f (get_or xs k d)
    → ys ++ map f (drop k xs) ≡ (ys ++ y ∷ []) ++ map f (drop (k + 1) xs)
answered_more f xs ys k d y low is =
    ap (λ rest. ys ++ map f rest) (drop_more xs k d low) ∙ ap (λ first. ys ++ first ∷ map f (drop (k + 1) xs)) (sym is) ∙ sym (append_assoc ys (y ∷ []) (map f (drop (k + 1) xs)))
