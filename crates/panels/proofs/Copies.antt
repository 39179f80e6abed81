-- The copies of items, one after another.
use Rattle.std.proofs.Common.{◌≡◌, ◌<◌, ◌≤◌, ◌+◌, ◌-◌, ◌∙◌, ℕ, suc, List, [], ◌∷◌, ◌++◌, length, map, drop, get_or, Option, Some, ap, sym, arith}
use Rattle.std.specs.List.{range_with_len}
use Rattle.std.proofs.lemmas.List.{at_drop_all, append-nil, append_assoc, drop_more}
use Rattle.toml.specs.Data.{Members}
use Rattle.panels.specs.Draft.{DraftItem, items_from}

-- the numbers from one on, up to an end
range_next : (end k : ℕ) → k < end → range_with_len k (end - k) ≡ k ∷ range_with_len (k + 1) (end - (k + 1))
range_next end k below =
    let left : end - k ≡ suc (end - (k + 1)) = omega arith in
    ap (range_with_len k) left

pub copies_more : (draft : Option ℕ → DraftItem) (whole done now : List DraftItem) (item : DraftItem) (end k : ℕ) → k < end → item ≡ draft (Some k) → now ≡ done ++ item ∷ []
    → whole ≡ done ++ map draft (map Some (range_with_len k (end - k))) → whole ≡ now ++ map draft (map Some (range_with_len (k + 1) (end - (k + 1))))
copies_more draft whole done now item end k below made pushed is =
    let rest = map draft (map Some (range_with_len (k + 1) (end - (k + 1)))) in
    is ∙ ap (λ numbers. done ++ map draft (map Some numbers)) (range_next end k below) ∙ ap (λ first. done ++ first ∷ rest) (sym made)
    ∙ sym (append_assoc done (item ∷ []) rest) ∙ ap (λ items. items ++ rest) (sym pushed)

pub copies_all : (draft : Option ℕ → DraftItem) (whole done : List DraftItem) (end k : ℕ) → end ≤ k → whole ≡ done ++ map draft (map Some (range_with_len k (end - k))) → done ≡ whole
copies_all draft whole done end k past is =
    let none : end - k ≡ 0 = omega arith in
    sym (is ∙ ap (λ n. done ++ map draft (map Some (range_with_len k n))) none ∙ append-nil done)

-- the items of one table after those of another
pub tables_more : {X : Type 0} (items : ℕ → Members → List DraftItem) (seen : X → Members) (tables : List X) (whole done now : List DraftItem) (k : ℕ) (d : X) → k < length tables
    → now ≡ done ++ items k (seen (get_or tables k d)) → whole ≡ done ++ items_from items k (map seen (drop k tables)) → whole ≡ now ++ items_from items (k + 1) (map seen (drop (k + 1) tables))
tables_more items seen tables whole done now k d below added is =
    let own = items k (seen (get_or tables k d)) in
    let rest = items_from items (k + 1) (map seen (drop (k + 1) tables)) in
    is ∙ ap (λ left. done ++ items_from items k (map seen left)) (drop_more tables k d below) ∙ sym (append_assoc done own rest) ∙ ap (λ items. items ++ rest) (sym added)

pub tables_all : {X : Type 0} (items : ℕ → Members → List DraftItem) (seen : X → Members) (tables : List X) (whole done : List DraftItem) (k : ℕ) → length tables ≤ k
    → whole ≡ done ++ items_from items k (map seen (drop k tables)) → done ≡ whole
tables_all items seen tables whole done k past is =
    sym (is ∙ at_drop_all (λ left. done ++ items_from items k (map seen left)) tables k past ∙ append-nil done)
