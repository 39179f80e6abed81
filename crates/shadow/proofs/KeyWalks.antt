-- What a key that sends no fields makes of places, from attribute to attribute, is what it makes of all.
use Rattle.std.proofs.Common.{◌≡◌, ℕ, suc, ◌+◌, ◌<◌, ◌≤◌, false, List, [], ◌∷◌, ◌++◌, length, take, drop, set, get_or, refl, ap, sym, subst, arith, ◌∙◌, append_assoc, append-nil, length-append}
use Rattle.std.proofs.lemmas.List.{drop_more, take_more_set, drop-set-lt, length-take-le, take-append-drop, take_all, at_drop_all}
use Rattle.codes3270.specs.declared.attribute.Attr.{Attr as Attribute}
use Rattle.shadow.specs.declared.mdt_state.MdtState.{MdtState}
use Rattle.shadow.specs.declared.cell_belief.TextKnowledge.{TextKnowledge}
use Rattle.shadow.specs.declared.cell_belief.CellBelief.{CellBelief}
use Rattle.shadow.specs.declared.cell_belief.CellBelief.TheVariants.{Attr, Known, Unplaced, Unknown}
use Rattle.shadow.specs.Filled.{Fill, Change, filled, fill_next, fill_after, changed, key_change, key_changes, all_changed, last_fill, front_filled}
use Rattle.shadow.specs.InPlace.{chars_known}
use Rattle.shadow.proofs.Passing.{fills}
use Rattle.shadow.proofs.Walks.{fill_here, fill_further, same_fills, none_left, taken, dropped}

-- what is left from a place on, and what it ends with
abbrev pub walk : Fill → List CellBelief → List CellBelief
walk f ps = all_changed f (key_changes ps) ps

abbrev pub walk_fill : Fill → List CellBelief → Fill
walk_fill f ps = last_fill f (key_changes ps) ps

walk_on : (f : Fill) (p : CellBelief) (ps : List CellBelief) → (let k = length (chars_known ps) in walk (fill_next f) ps ≡ fills (fill_next f) ps ++ walk (fill_after k (fill_next f)) (drop k ps))
    → (let k = length (chars_known ps) in filled f p ∷ walk (fill_next f) ps ≡ (filled f p ∷ fills (fill_next f) ps) ++ walk (fill_after (suc k) f) (drop k ps))
walk_on f p ps e =
    let k : ℕ = length (chars_known ps) in
    ap (λ (qs : List CellBelief). filled f p ∷ qs) (e ∙ ap (λ (g : Fill). fills (fill_next f) ps ++ walk g (drop k ps)) (fill_further k f))

walk_passed : (f : Fill) (ps : List CellBelief) → (let k = length (chars_known ps) in walk f ps ≡ fills f ps ++ walk (fill_after k f) (drop k ps))
walk_passed f [] = refl
walk_passed f (Attr a m t ∷ ps) = refl
walk_passed f (Known c ∷ ps) = walk_on f (Known c) ps (walk_passed (fill_next f) ps)
walk_passed f (Unplaced c ∷ ps) = walk_on f (Unplaced c) ps (walk_passed (fill_next f) ps)
walk_passed f (Unknown ∷ ps) = walk_on f Unknown ps (walk_passed (fill_next f) ps)

fill_on : (f : Fill) (ps : List CellBelief) → (let k = length (chars_known ps) in walk_fill (fill_next f) ps ≡ walk_fill (fill_after k (fill_next f)) (drop k ps))
    → (let k = length (chars_known ps) in walk_fill (fill_next f) ps ≡ walk_fill (fill_after (suc k) f) (drop k ps))
fill_on f ps e = let k : ℕ = length (chars_known ps) in e ∙ ap (λ (g : Fill). walk_fill g (drop k ps)) (fill_further k f)

fill_passed : (f : Fill) (ps : List CellBelief) → (let k = length (chars_known ps) in walk_fill f ps ≡ walk_fill (fill_after k f) (drop k ps))
fill_passed f [] = fill_here f
fill_passed f (Attr a m t ∷ ps) = refl
fill_passed f (Known c ∷ ps) = fill_on f ps (fill_passed (fill_next f) ps)
fill_passed f (Unplaced c ∷ ps) = fill_on f ps (fill_passed (fill_next f) ps)
fill_passed f (Unknown ∷ ps) = fill_on f ps (fill_passed (fill_next f) ps)

length-front : (f : Fill) (ps : List CellBelief) → length (front_filled f ps) ≡ length ps
length-front f [] = refl
length-front f (Attr a m t ∷ ps) = refl
length-front f (Known c ∷ ps) = ap suc (length-front (fill_next f) ps)
length-front f (Unplaced c ∷ ps) = ap suc (length-front (fill_next f) ps)
length-front f (Unknown ∷ ps) = ap suc (length-front (fill_next f) ps)

module _ (whole : List CellBelief) where
  -- what holds between two fields
  pub record Between (f : Fill) (at : ℕ) (now : List CellBelief) : Type 0 where
    pub size : length now ≡ length whole
    pub stands : length (chars_known (drop at now)) ≡ 0
    pub walked : walk Fill.Same whole ≡ take at now ++ walk f (drop at now)
    pub ends : walk_fill Fill.Same whole ≡ walk_fill f (drop at now)

  -- at the first attribute
  pub begins : (at : ℕ) → at ≡ 0 + length (chars_known (drop 0 whole)) → Between Fill.Same at whole
  begins at is =
      let k : ℕ = length (chars_known whole) in
      let same : k ≡ at = omega arith in
      record {
        size = refl;
        stands = subst (λ (n : ℕ). length (chars_known (drop n whole)) ≡ 0) same (none_left whole);
        walked = walk_passed Fill.Same whole ∙ ap (λ (qs : List CellBelief). qs ++ walk Fill.Same (drop k whole)) (same_fills whole) ∙ ap (λ (n : ℕ). take n whole ++ walk Fill.Same (drop n whole)) same;
        ends = fill_passed Fill.Same whole ∙ ap (λ (n : ℕ). walk_fill Fill.Same (drop n whole)) same;
      }

  -- behind the last one
  pub finished : (f : Fill) (at : ℕ) (now : List CellBelief) → Between f at now → length whole ≤ at
      → take 0 now ++ front_filled f (drop 0 now) ≡ front_filled (walk_fill Fill.Same whole) (walk Fill.Same whole)
  finished f at now h over =
      let size = h.size in
      let walked : walk Fill.Same whole ≡ now = h.walked ∙ at_drop_all (λ (qs : List CellBelief). take at now ++ walk f qs) now at (omega arith) ∙ append-nil (take at now) ∙ take_all at now (omega arith) in
      let ends : walk_fill Fill.Same whole ≡ f = h.ends ∙ at_drop_all (walk_fill f) now at (omega arith) in
      ap (λ (g : Fill). front_filled g now) (sym ends) ∙ ap (front_filled (walk_fill Fill.Same whole)) (sym walked)

  -- the places after a field's step, by what stands before its attribute, and behind
  module _ (at k : ℕ) (xs rest : List CellBelief) (a : Attribute) (m : MdtState) (t : TextKnowledge) (one : Change) (before : length xs ≡ at) (count : k ≡ length (chars_known rest)) where
    abbrev new : CellBelief
    new = Attr a one.mdt one.knowledge

    stepped : (f : Fill) (now after : List CellBelief) → Between f at now → now ≡ xs ++ Attr a m t ∷ rest → drop at now ≡ Attr a m t ∷ rest
        → one ≡ key_change (Attr a m t) → after ≡ xs ++ new ∷ front_filled one.fill rest → take at now ≡ xs → Between (fill_after k one.fill) (at + 1 + k) after
    stepped f now after h is here is_one is_after is_taken =
        let left : drop (at + 1 + k) after ≡ drop k rest = ap (drop (at + 1 + k)) is_after ∙ dropped false whole at k xs rest a m t one before count in
        record {
          size = omega (arith, h.size, ap length is_after, ap length is, length-append xs (new ∷ front_filled one.fill rest), length-append xs (Attr a m t ∷ rest), length-front one.fill rest);
          stands = ap (λ (qs : List CellBelief). length (chars_known qs)) left ∙ ap (λ (n : ℕ). length (chars_known (drop n rest))) count ∙ none_left rest;
          walked = h.walked
              ∙ ap (λ (qs : List CellBelief). qs ++ walk f (drop at now)) is_taken
              ∙ ap (λ (qs : List CellBelief). xs ++ walk f qs) here
              ∙ ap (λ (c : Change). xs ++ Attr a c.mdt c.knowledge ∷ walk c.fill rest) (sym is_one)
              ∙ ap (λ (qs : List CellBelief). xs ++ new ∷ qs) (walk_passed one.fill rest)
              ∙ ap (λ (n : ℕ). xs ++ new ∷ (fills one.fill rest ++ walk (fill_after n one.fill) (drop n rest))) (sym count)
              ∙ sym (append_assoc xs (new ∷ fills one.fill rest) (walk (fill_after k one.fill) (drop k rest)))
              ∙ ap (λ (qs : List CellBelief). qs ++ walk (fill_after k one.fill) (drop k rest)) (sym (ap (take (at + 1 + k)) is_after ∙ taken false whole at k xs rest a m t one before count))
              ∙ ap (λ (qs : List CellBelief). take (at + 1 + k) after ++ walk (fill_after k one.fill) qs) (sym left);
          ends = h.ends
              ∙ ap (walk_fill f) here
              ∙ ap (λ (c : Change). walk_fill c.fill rest) (sym is_one)
              ∙ fill_passed one.fill rest
              ∙ ap (λ (n : ℕ). walk_fill (fill_after n one.fill) (drop n rest)) (sym count)
              ∙ ap (walk_fill (fill_after k one.fill)) (sym left);
        }

  -- the step of the field whose attribute stands at a place
  pub step : (f : Fill) (at k : ℕ) (now after : List CellBelief) (held : CellBelief) (one : Change) → Between f at now → at < length now → held ≡ get_or now at held
      → one ≡ key_change held → k ≡ length (chars_known (drop (at + 1) now)) → (let put = set now at (changed held f one) in after ≡ take (at + 1) put ++ front_filled one.fill (drop (at + 1) put))
      → Between (fill_after k one.fill) (at + 1 + k) after
  step f at k now after held one h within is is_one count is_after = by_place held here h.stands is_one is_after
    where
      here : drop at now ≡ held ∷ drop (at + 1) now
      here = drop_more now at held within ∙ ap (λ (p : CellBelief). p ∷ drop (at + 1) now) (sym is)

      put_parts : (p : CellBelief) (g : Fill) → take (at + 1) (set now at p) ++ front_filled g (drop (at + 1) (set now at p)) ≡ take at now ++ p ∷ front_filled g (drop (at + 1) now)
      put_parts p g =
          ap (λ (qs : List CellBelief). qs ++ front_filled g (drop (at + 1) (set now at p))) (take_more_set now at p within)
          ∙ ap (λ (qs : List CellBelief). (take at now ++ p ∷ []) ++ front_filled g qs) (drop-set-lt (at + 1) now at p (omega arith))
          ∙ append_assoc (take at now) (p ∷ []) (front_filled g (drop (at + 1) now))

      by_place : (p : CellBelief) → drop at now ≡ p ∷ drop (at + 1) now → length (chars_known (drop at now)) ≡ 0 → one ≡ key_change p
          → (let put = set now at (changed p f one) in after ≡ take (at + 1) put ++ front_filled one.fill (drop (at + 1) put)) → Between (fill_after k one.fill) (at + 1 + k) after
      by_place (Attr a m t) there stands is_one is_after =
          stepped at k (take at now) (drop (at + 1) now) a m t one (length-take-le at now (omega arith)) count f now after h
          (sym (take-append-drop at now) ∙ ap (λ (qs : List CellBelief). take at now ++ qs) there) there is_one (is_after ∙ put_parts (Attr a one.mdt one.knowledge) one.fill) refl
      by_place (Known c) there stands is_one is_after = absurd (let no = ap (λ (qs : List CellBelief). length (chars_known qs)) there in omega arith)
      by_place (Unplaced c) there stands is_one is_after = absurd (let no = ap (λ (qs : List CellBelief). length (chars_known qs)) there in omega arith)
      by_place Unknown there stands is_one is_after = absurd (let no = ap (λ (qs : List CellBelief). length (chars_known qs)) there in omega arith)
