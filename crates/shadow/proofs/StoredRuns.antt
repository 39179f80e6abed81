-- A write's characters, stored in one step.
use Rattle.std.proofs.Common.{◌≡◌, ℕ, suc, ◌+◌, ◌%◌, ◌<◌, ◌≤◌, true, List, [], ◌∷◌, ◌++◌, length, map, take, drop, set, get_or, refl, ap, sym, subst, arith, ◌∙◌, inl, inr, append_assoc}
use Rattle.std.proofs.Math.Nat.{mod-eq_of_lt}
use Rattle.std.proofs.lemmas.Bool.{cases_eq}
use Rattle.std.proofs.lemmas.List.{ext_get_or, get_or_default, length-set, get_or-set_same, get_or-set_other, take_more_set, drop-set-lt, map-append, take-append-drop}
use Rattle.codes3270.specs.declared.attribute.Cell.TheVariants.{Char}
use Rattle.datastream.specs.Reading.{characters_ahead}
use Rattle.datastream.specs.declared.order.Order.{Order}
use Rattle.datastream.specs.declared.order.Order.TheVariants.{Sf, Sba, Ic, Pt, Ra, Eua, Char as CharData}
use Rattle.shadow.specs.declared.cell_belief.CellBelief.{CellBelief}
use Rattle.shadow.specs.declared.cell_belief.CellBelief.TheVariants.{Known}
use Rattle.shadow.specs.declared.cell_belief.BeforeWrite.{BeforeWrite}
use Rattle.shadow.specs.Runs.{placed}
use Rattle.shadow.specs.Since.{never, stored_since, cells_written, Since}
use Rattle.shadow.specs.Stores.{stores}
use Rattle.shadow.specs.Taken.{known_stored}
use Rattle.shadow.proofs.Changes.{cells_put, since_put}

-- ---- one character, and those behind it

placed_none : (from : ℕ) (ps : List CellBelief) → placed from [] ps ≡ ps
placed_none from ps =
    let same : from + 0 ≡ from = omega arith in
    ap (λ (n : ℕ). take from ps ++ drop n ps) same ∙ take-append-drop from ps

placed_further : (from char : ℕ) (text : List ℕ) (ps : List CellBelief) → from < length ps → placed from (char ∷ text) ps ≡ placed (from + 1) text (set ps from (Known char))
placed_further from char text ps low =
    let further : from + 1 + length text ≡ from + length (char ∷ text) = omega arith in
    let front : take (from + 1) (set ps from (Known char)) ≡ take from ps ++ Known char ∷ [] = take_more_set ps from (Known char) low in
    let behind : drop (from + 1 + length text) (set ps from (Known char)) ≡ drop (from + length (char ∷ text)) ps =
    drop-set-lt (from + 1 + length text) ps from (Known char) (omega arith) ∙ ap (λ (n : ℕ). drop n ps) further in
    sym (ap (λ (qs : List CellBelief). qs ++ (map Known text ++ drop (from + 1 + length text) (set ps from (Known char)))) front
    ∙ ap (λ (qs : List CellBelief). (take from ps ++ Known char ∷ []) ++ (map Known text ++ qs)) behind
    ∙ append_assoc (take from ps) (Known char ∷ []) (map Known text ++ drop (from + length (char ∷ text)) ps))

-- what is kept where a cell is stored
pub marked_here : (now old : List BeforeWrite) (at : ℕ) (past : BeforeWrite) → past ≡ get_or now at past → at < length now → get_or now at never ≡ get_or old at never → record { knowledge = past.knowledge; fresh = true } ≡ stored_since (get_or old at never)
marked_here now old at past is low same = ap stored_since (is ∙ sym (get_or_default now at never past low) ∙ same)

-- ---- the places before and after, and what is kept of them

abbrev pub AreMarked : ℕ → ℕ → List BeforeWrite → List BeforeWrite → Type 0
AreMarked from to qs rs =
    (length rs ≡ length qs)
    × ((at : ℕ) → from ≤ at → at < to → get_or rs at never ≡ stored_since (get_or qs at never))
    × ((at : ℕ) → (from ≤ at → at < to → ⊥) → get_or rs at never ≡ get_or qs at never)

none_marked : (from : ℕ) (qs rs : List BeforeWrite) → AreMarked from (from + 0) qs rs → qs ≡ rs
none_marked from qs rs (size, inside, apart) = ext_get_or never qs rs (sym size) (λ i low. sym (apart i (λ above below. omega arith)))

one_marked : (from to : ℕ) (qs rs : List BeforeWrite) → from < length qs → from < to → AreMarked from to qs rs → AreMarked (from + 1) to (set qs from (stored_since (get_or qs from never))) rs
one_marked from to qs rs low some (size, inside, apart) =
    let q = stored_since (get_or qs from never) in (
      size ∙ sym (length-set qs from q),
      λ at above below. inside at (omega arith) below ∙ ap stored_since (sym (get_or-set_other qs from at q never (λ same. omega arith))),
      λ at away. elim (cases_eq at from) [
        | inl same ↦
            ap (λ (n : ℕ). get_or rs n never) same ∙ inside from (omega arith) some ∙ sym (get_or-set_same qs from q never low) ∙ ap (λ (n : ℕ). get_or (set qs from q) n never) (sym same)
        | inr other ↦ apart at (λ above below. away (omega arith) below) ∙ sym (get_or-set_other qs from at q never other)
      ],
    )

module _ (n : ℕ) where
  abbrev pub AreStored : ℕ → ℕ → List ℕ → List CellBelief → List BeforeWrite → List CellBelief → List BeforeWrite → Type 0
  AreStored from to text ps qs after rs =
      ((more : List Order) → known_stored (stores n from (map CharData text ++ more)) (cells_written ps qs) ≡ known_stored (stores n to more) (cells_written after rs))
      × ((old : List CellBelief) → Since old ps qs → Since old after rs)

  one_stored : (from char : ℕ) (ps : List CellBelief) (qs : List BeforeWrite) → from < length qs → AreStored from ((from + 1) % n) (char ∷ []) ps qs (set ps from (Known char)) (set qs from (stored_since (get_or qs from never)))
  one_stored from char ps qs low =
      let r = get_or qs from never in (
        λ more. ap (known_stored (stores n ((from + 1) % n) more)) (sym (cells_put ps qs from (Char char) (stored_since r) refl)),
        λ old since. since_put old ps qs from (Known char) r (get_or_default qs from never r low) since,
      )

  stored_then : (from mid to char : ℕ) (text : List ℕ) (ps ps_ after : List CellBelief) (qs qs_ rs : List BeforeWrite) → AreStored from mid (char ∷ []) ps qs ps_ qs_ → AreStored mid to text ps_ qs_ after rs
      → AreStored from to (char ∷ text) ps qs after rs
  stored_then from mid to char text ps ps_ after qs qs_ rs one others = (
    λ more. one.0 (map CharData text ++ more) ∙ others.0 more,
    λ old since. others.1 old (one.1 old since),
  )

  pub run_stored : (text : List ℕ) (from : ℕ) (ps : List CellBelief) (qs rs : List BeforeWrite) → 0 < length text → from + length text ≤ n → length ps ≡ n → length qs ≡ n → AreMarked from (from + length text) qs rs
      → AreStored from ((from + length text) % n) text ps qs (placed from text ps) rs
  run_stored [] from ps qs rs some room size even marked = absurd (omega arith)
  run_stored (char ∷ []) from ps qs rs some room size even marked =
      let q = stored_since (get_or qs from never) in
      let places : placed from (char ∷ []) ps ≡ set ps from (Known char) = placed_further from char [] ps (omega arith) ∙ placed_none (from + 1) (set ps from (Known char)) in
      let there : from + 1 + 0 ≡ from + 1 = omega arith in
      let pasts : set qs from q ≡ rs = none_marked (from + 1) (set qs from q) rs (subst (λ (k : ℕ). AreMarked (from + 1) k (set qs from q) rs) (sym there) (one_marked from (from + 1) qs rs (omega arith) (omega arith) marked)) in
      subst (λ (ns : List CellBelief). AreStored from ((from + 1) % n) (char ∷ []) ps qs ns rs) (sym places)
      (subst (λ (bs : List BeforeWrite). AreStored from ((from + 1) % n) (char ∷ []) ps qs (set ps from (Known char)) bs) pasts (one_stored from char ps qs (omega arith)))
  run_stored (char ∷ next ∷ text) from ps qs rs some room size even marked =
      let q = stored_since (get_or qs from never) in
      let behind : List ℕ = next ∷ text in
      let there : from + 1 + length behind ≡ from + length (char ∷ behind) = omega arith in
      let step : AreStored from (from + 1) (char ∷ []) ps qs (set ps from (Known char)) (set qs from q) =
      subst (λ (k : ℕ). AreStored from k (char ∷ []) ps qs (set ps from (Known char)) (set qs from q)) (mod-eq_of_lt (omega arith)) (one_stored from char ps qs (omega arith)) in
      let others : AreStored (from + 1) ((from + 1 + length behind) % n) behind (set ps from (Known char)) (set qs from q) (placed (from + 1) behind (set ps from (Known char))) rs =
      run_stored (next ∷ text) (from + 1) (set ps from (Known char)) (set qs from q) rs (omega arith) (omega arith) (length-set ps from (Known char) ∙ size) (length-set qs from q ∙ even)
      (subst (λ (k : ℕ). AreMarked (from + 1) k (set qs from q) rs) (sym there) (one_marked from (from + length (char ∷ behind)) qs rs (omega arith) (omega arith) marked)) in
      subst (λ (k : ℕ). AreStored from (k % n) (char ∷ behind) ps qs (placed from (char ∷ behind) ps) rs) there
      (subst (λ (ns : List CellBelief). AreStored from ((from + 1 + length behind) % n) (char ∷ behind) ps qs ns rs) (sym (placed_further from char behind ps (omega arith)))
      (stored_then from (from + 1) ((from + 1 + length behind) % n) char behind ps (set ps from (Known char)) (placed (from + 1) behind (set ps from (Known char))) qs (set qs from q) rs step others))

-- ---- the characters ahead of other orders

characters_split : (orders : List Order) → map CharData (characters_ahead orders) ++ drop (length (characters_ahead orders)) orders ≡ orders
characters_split [] = refl
characters_split (CharData code ∷ orders) =
    let more : length (code ∷ characters_ahead orders) ≡ suc (length (characters_ahead orders)) = omega arith in
    ap (λ (n : ℕ). map CharData (code ∷ characters_ahead orders) ++ drop n (CharData code ∷ orders)) more
    ∙ ap (λ (os : List Order). CharData code ∷ os) (characters_split orders)
characters_split (Sf attr ∷ orders) = refl
characters_split (Sba address ∷ orders) = refl
characters_split (Ic ∷ orders) = refl
characters_split (Pt ∷ orders) = refl
characters_split (Ra stop char ∷ orders) = refl
characters_split (Eua stop ∷ orders) = refl

pub orders_split : (text : List ℕ) (orders left : List Order) → text ≡ characters_ahead orders → left ≡ drop (length text) orders → orders ≡ map CharData text ++ left
orders_split text orders left ahead behind =
    sym (ap (λ (os : List Order). map CharData text ++ os) behind ∙ ap (λ (cs : List ℕ). map CharData cs ++ drop (length cs) orders) ahead ∙ characters_split orders)

pub text_split : (text front behind : List ℕ) (more : List Order) → front ++ behind ≡ text → map CharData text ++ more ≡ map CharData front ++ (map CharData behind ++ more)
text_split text front behind more whole =
    ap (λ (cs : List ℕ). map CharData cs ++ more) (sym whole) ∙ ap (λ (os : List Order). os ++ more) (map-append CharData front behind) ∙ append_assoc (map CharData front) (map CharData behind) more
