-- A screen that keeps what stands between an attribute and the next, and nothing else, keeps whole fields.
use Rattle.std.proofs.Common.{◌≡◌, ◌⊎◌, inl, inr, ◌<◌, ◌≤◌, ◌+◌, ◌-◌, ℕ, zero, suc, arith, true, false, not, ◌||◌, ◌&&◌, None, Some, List, [], ◌∷◌, ◌++◌, drop, refl, ap, sym, subst, ◌∙◌}
use Rattle.std.specs.Prelude.{slice_get}
use Rattle.std.proofs.lemmas.Bool.{cases_lt, cases_eq}
use Rattle.std.proofs.lemmas.List.{append-nil}
use Rattle.codes3270.specs.declared.attribute.Attr.{Attr as Attribute}
use Rattle.datastream.specs.declared.wanted.Want.{Want}
use Rattle.datastream.specs.declared.wanted.Want.TheVariants.{Char, Attr, Keep}
use Rattle.shadow.specs.TextUnknown.{keeps_alone, keeps_whole}
use Rattle.shadow.specs.Painted.{keeps_ahead}

-- a cell lies between an attribute and the next, and all that does is kept
pub record IsInRun (cells : List Want) (cell : ℕ) : Type 0 where
  pub before : ℕ
  pub behind : ℕ
  pub is_behind : before < cell
  pub is_before : cell < behind
  pub first : Attribute
  pub first_there : slice_get cells before ≡ Some (Attr first)
  pub next : Attribute
  pub next_there : slice_get cells behind ≡ Some (Attr next)
  pub kept : (other : ℕ) → before < other → other < behind → slice_get cells other ≡ Some Keep

abbrev pub KeptInRuns : List Want → Type 0
KeptInRuns cells = (cell : ℕ) → slice_get cells cell ≡ Some Keep → IsInRun cells cell

-- what stands at the head of what is left
head_at : (at : ℕ) (cells : List Want) (want : Want) (rest : List Want) → drop at cells ≡ want ∷ rest → slice_get cells at ≡ Some want
head_at zero [] want rest e = absurd (cc)
head_at zero (first ∷ cells) want rest e = let same : first ≡ want = cc in ap (λ (w : Want). Some w) same
head_at (suc at) [] want rest e = absurd (cc)
head_at (suc at) (first ∷ cells) want rest e = head_at at cells want rest e

rest_at : (at : ℕ) (cells : List Want) (want : Want) (rest : List Want) → drop at cells ≡ want ∷ rest → drop (suc at) cells ≡ rest
rest_at zero [] want rest e = absurd (cc)
rest_at zero (first ∷ cells) want rest e = cc
rest_at (suc at) [] want rest e = absurd (cc)
rest_at (suc at) (first ∷ cells) want rest e = rest_at at cells want rest e

-- the place is the first, or behind a character
data IsBehindNone (cells : List Want) (at : ℕ) : Type 0 where
  at_start : at ≡ 0 → IsBehindNone cells at
  behind_char : (before : ℕ) (byte : ℕ) → at ≡ suc before → slice_get cells before ≡ Some (Char byte) → IsBehindNone cells at

-- there nothing is kept
not_kept : (cells : List Want) (at : ℕ) → KeptInRuns cells → IsBehindNone cells at → slice_get cells at ≡ Some Keep → ⊥
not_kept cells at runs (IsBehindNone.at_start e) keep = let run = runs at keep in let below = run.is_behind in absurd (omega (arith, below, e))
not_kept cells at runs (IsBehindNone.behind_char before byte e char) keep = by_place (cases_eq run.before before)
  where
    run : IsInRun cells at
    run = runs at keep

    below_it : run.before < at → at ≡ suc before → (run.before ≡ before → ⊥) → run.before < before
    below_it below e other = by_order (cases_lt run.before before)
      where
        by_order : (run.before < before) ⊎ (before ≤ run.before) → run.before < before
        by_order (inl less) = less
        by_order (inr more) = absurd (other (omega (arith, below, e, more)))

    above_it : at < run.behind → at ≡ suc before → before < run.behind
    above_it above e = omega (arith, above, e)

    by_place : (run.before ≡ before) ⊎ (run.before ≡ before → ⊥) → ⊥
    by_place (inl same) =
        let both : Some (Attr run.first) ≡ Some (Char byte) = sym run.first_there ∙ ap (slice_get cells) same ∙ char in
        absurd (cc)
    by_place (inr other) =
        let below = run.is_behind in
        let above = run.is_before in
        let both : Some Keep ≡ Some (Char byte) = sym (run.kept before (below_it below e other) (above_it above e)) ∙ char in
        absurd (cc)

-- so nothing is ahead of it that is kept, up to an attribute
none_ahead : (cells : List Want) (at : ℕ) (rest more : List Want) → KeptInRuns cells → IsBehindNone cells at → drop at cells ≡ rest → keeps_ahead more ≡ false → keeps_ahead (rest ++ more) ≡ false
none_ahead cells at [] more runs behind e m = m
none_ahead cells at (Char byte ∷ rest) more runs behind e m =
    none_ahead cells (suc at) rest more runs (IsBehindNone.behind_char at byte refl (head_at at cells (Char byte) rest e)) (rest_at at cells (Char byte) rest e) m
none_ahead cells at (Attr attribute ∷ rest) more runs behind e m = refl
none_ahead cells at (Keep ∷ rest) more runs behind e m = absurd (not_kept cells at runs behind (head_at at cells Keep rest e))

none_at_all : (cells : List Want) → KeptInRuns cells → keeps_ahead cells ≡ false
none_at_all cells runs = ap keeps_ahead (sym (append-nil cells)) ∙ none_ahead cells 0 cells [] runs (IsBehindNone.at_start refl) refl refl

-- nothing stands past the end
past_end : (n : ℕ) (xs : List Want) → drop n xs ≡ [] → slice_get xs n ≡ None
past_end zero [] e = refl
past_end zero (x ∷ xs) e = absurd (cc)
past_end (suc n) [] e = refl
past_end (suc n) (x ∷ xs) e = past_end n xs e

-- where all is kept up to an attribute, nothing else stands there
alone : (cells : List Want) (count at : ℕ) (rest more : List Want) (next : Attribute) → drop at cells ≡ rest → slice_get cells (at + count) ≡ Some (Attr next)
    → ((other : ℕ) → at ≤ other → other < at + count → slice_get cells other ≡ Some Keep) → keeps_alone (rest ++ more) ≡ true
alone cells zero at rest more next e there kept = by_rest rest e
  where
    by_rest : (rest : List Want) → drop at cells ≡ rest → keeps_alone (rest ++ more) ≡ true
    by_rest (Attr attribute ∷ rest) e = refl
    by_rest [] e = let no = past_end at cells e in let both : None ≡ Some (Attr next) = sym no ∙ subst (λ n. slice_get cells n ≡ Some (Attr next)) (omega arith) there in absurd (cc)
    by_rest (Char byte ∷ rest) e = let both : Some (Char byte) ≡ Some (Attr next) = sym (head_at at cells (Char byte) rest e) ∙ subst (λ n. slice_get cells n ≡ Some (Attr next)) (omega arith) there in absurd (cc)
    by_rest (Keep ∷ rest) e = let both : Some Keep ≡ Some (Attr next) = sym (head_at at cells Keep rest e) ∙ subst (λ n. slice_get cells n ≡ Some (Attr next)) (omega arith) there in absurd (cc)
alone cells (suc count) at rest more next e there kept = by_rest rest e (alone cells count (suc at))
  where
    here : slice_get cells at ≡ Some Keep
    here = kept at (omega arith) (omega arith)

    by_rest : (rest : List Want) → drop at cells ≡ rest
        → ((tail more : List Want) (next : Attribute) → drop (suc at) cells ≡ tail → slice_get cells (suc at + count) ≡ Some (Attr next)
        → ((other : ℕ) → suc at ≤ other → other < suc at + count → slice_get cells other ≡ Some Keep) → keeps_alone (tail ++ more) ≡ true)
        → keeps_alone (rest ++ more) ≡ true
    by_rest (Keep ∷ rest) e go =
        go rest more next (rest_at at cells Keep rest e) (subst (λ n. slice_get cells n ≡ Some (Attr next)) (omega arith) there)
        (λ other from to. kept other (omega (arith, from)) (omega (arith, to)))
    by_rest [] e go = let no = past_end at cells e in let both : None ≡ Some Keep = sym no ∙ here in absurd (cc)
    by_rest (Char byte ∷ rest) e go = let both : Some (Char byte) ≡ Some Keep = sym (head_at at cells (Char byte) rest e) ∙ here in absurd (cc)
    by_rest (Attr attribute ∷ rest) e go = let both : Some (Attr attribute) ≡ Some Keep = sym (head_at at cells (Attr attribute) rest e) ∙ here in absurd (cc)

-- behind an attribute all is kept up to the next, or nothing is
behind_attribute : (cells : List Want) (at : ℕ) (attribute : Attribute) (rest : List Want) → KeptInRuns cells → slice_get cells at ≡ Some (Attr attribute) → drop (suc at) cells ≡ rest
    → (not (keeps_ahead (rest ++ cells)) || keeps_alone (rest ++ cells)) ≡ true
behind_attribute cells at attribute [] runs here e = ap (λ b. not b || keeps_alone cells) (none_at_all cells runs)
behind_attribute cells at attribute (Attr next ∷ rest) runs here e = refl
behind_attribute cells at attribute (Char byte ∷ rest) runs here e =
    ap (λ b. not b || false)
    (none_ahead cells (suc (suc at)) rest cells runs (IsBehindNone.behind_char (suc at) byte refl (head_at (suc at) cells (Char byte) rest e)) (rest_at (suc at) cells (Char byte) rest e) (none_at_all cells runs))
behind_attribute cells at attribute (Keep ∷ rest) runs here e = all_alone
  where
    run : IsInRun cells (suc at)
    run = runs (suc at) (head_at (suc at) cells Keep rest e)

    -- it begins behind this very attribute
    begins : run.before ≡ at
    begins = by_order (cases_lt run.before at)
      where
        by_order : (run.before < at) ⊎ (at ≤ run.before) → run.before ≡ at
        by_order (inl less) =
            let above = run.is_before in
            let both : Some Keep ≡ Some (Attr attribute) = sym (run.kept at less (omega (arith, above))) ∙ here in
            absurd (cc)
        by_order (inr more) = let below = run.is_behind in omega (arith, below, more)

    all_alone : keeps_alone (rest ++ cells) ≡ true
    all_alone = by_room (room run.is_before)
      where
        room : suc at < run.behind → (count : ℕ) × (suc at + suc count ≡ run.behind)
        room above = (run.behind - suc (suc at), omega (arith, above))

        by_room : (count : ℕ) × (suc at + suc count ≡ run.behind) → keeps_alone (rest ++ cells) ≡ true
        by_room (count, sum) =
            alone cells (suc count) (suc at) (Keep ∷ rest) cells run.next e (subst (λ n. slice_get cells n ≡ Some (Attr run.next)) (sym sum) run.next_there)
            (λ other from to. run.kept other (let b = begins in omega (arith, b, from)) (omega (arith, to, sum)))

pub kept_whole : (cells : List Want) (at : ℕ) (rest : List Want) → KeptInRuns cells → drop at cells ≡ rest → keeps_whole cells rest ≡ true
kept_whole cells at [] runs e = refl
kept_whole cells at (Char byte ∷ rest) runs e = kept_whole cells (suc at) rest runs (rest_at at cells (Char byte) rest e)
kept_whole cells at (Keep ∷ rest) runs e = kept_whole cells (suc at) rest runs (rest_at at cells Keep rest e)
kept_whole cells at (Attr attribute ∷ rest) runs e =
    let after : drop (suc at) cells ≡ rest = rest_at at cells (Attr attribute) rest e in
    ap (λ b. b && keeps_whole cells rest) (behind_attribute cells at attribute rest runs (head_at at cells (Attr attribute) rest e) after)
    ∙ kept_whole cells (suc at) rest runs after
